use Rattle.std.proofs.Common.{◌≡◌, ◌+◌, ◌∙◌, refl, sym, subst, arith, length, slice_index}
use Rattle.std.proofs.lemmas.Result.{err_from_is_err_and}
use Rattle.group_items.specs.declared.schedule.Stop.TheVariants.{Events}
use Rattle.group_items.specs.Events.{events_of}
use Rattle.group_items.specs.Playing.{IsTurn, IsTooMuchNext}
use Rattle.group_items.specs.Played.{IsThrough}
use Rattle.group_items.proofs.Plays.{other_error}
use Rattle.group_items.proofs.Turns.{step_through, stop_at, too_much}
use Rattle.group_items.proofs.sequence.play_all.Goals as goal

pub returns-in_err-turn-clause-events : goal.returns-in_err-turn-clause-events
returns-in_err-turn-clause-events g c =
    let p = err_from_is_err_and c.from_residual.result c.from_residual.ensures.1 in
    let runs = g.R.Runner.runs c.args.side.now in
    let items = c.args.items.now in
    let k = c.loop-item.item-index in
    let mid = events_of c.loop-item.play.events.items in
    rw (p.1, p.2) (λ e. too_much g.d runs (events_of c.args.play.now.events.items) items k (slice_index items k) mid mid c.loop-item-test.true (c.requires.1.1.0 k c.loop-item-test.true) refl c.loop-item.waits c.loop-item.invariant.through
    (subst (λ r. IsTooMuchNext g.d r mid (slice_index items k)) c.loop-item.invariant.runs (c.in_err-turn.ensures.events (other_error c.in_err-turn.field-0.0 Events e))))

pub returns-in-Some-clause-played : goal.returns-in-Some-clause-played
returns-in-Some-clause-played g c =
    let runs = g.R.Runner.runs c.args.side.now in
    let items = c.args.items.now in
    let k = c.loop-item.item-index in
    let mid = events_of c.loop-item.play.events.items in
    let new = events_of c.take.new.play.events.items in
    stop_at g.d runs (events_of c.args.play.now.events.items) items k (slice_index items k) mid new c.loop-item-test.true (c.requires.1.1.0 k c.loop-item-test.true) refl c.loop-item.waits c.loop-item.invariant.through
    (g.met.R.Runner.settled c.args.side.now) c.in_ok-turn.turn c.in-Some.end
    (subst (λ r. IsTurn g.d r mid (slice_index items k) new c.in_ok-turn.turn) c.loop-item.invariant.runs c.in_ok-turn.ensures.turn)
    (sym c.end_at.ensures ∙ c.in-Some.is)

pub loop-item-preserved : goal.loop-item-preserved
loop-item-preserved g c =
    let runs = g.R.Runner.runs c.args.side.now in
    let old = events_of c.args.play.now.events.items in
    let items = c.args.items.now in
    let k = c.loop-item.item-index in
    let mid = events_of c.loop-item.play.events.items in
    let new = events_of c.take.new.play.events.items in
    record {
      at = c.in_ok-turn.ensures.at;
      counted = c.in_ok-turn.ensures.counted ∙ c.loop-item.invariant.counted;
      runs = c.in_ok-turn.ensures.runs ∙ c.loop-item.invariant.runs;
      through = subst (IsThrough g.d runs old items (k + 1) new) (sym c.waits_behind-waits.ensures)
          (step_through g.d runs old items k (slice_index items k) mid new c.loop-item-test.true (c.requires.1.1.0 k c.loop-item-test.true) refl c.loop-item.waits c.loop-item.invariant.through c.in_ok-turn.turn
          (subst (λ r. IsTurn g.d r mid (slice_index items k) new c.in_ok-turn.turn) c.loop-item.invariant.runs c.in_ok-turn.ensures.turn)
          (sym c.end_at.ensures ∙ c.in-None.is));
    }

pub returns-clause-played : goal.returns-clause-played
returns-clause-played g c =
    let runs = g.R.Runner.runs c.args.side.now in
    let all : c.loop-item.item-index ≡ length c.args.items.now = omega (arith, c.loop-item.auto.item-index-end, c.loop-item-test.false) in
    subst (λ n. IsThrough g.d runs (events_of c.args.play.now.events.items) c.args.items.now n (events_of c.loop-item.play.events.items) c.loop-item.waits) all c.loop-item.invariant.through
