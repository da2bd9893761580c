use Rattle.std.proofs.Common.{suc, ◌∙◌, ℕ, ◌<◌, ap, sym, subst, length, slice_index}
use Rattle.group_items.specs.Events.{events_of}
use Rattle.group_items.specs.Schedule.{turn}
use Rattle.group_items.specs.Played.{IsThrough, IsPlayed}
use Rattle.group_items.proofs.Naming.{turn_inside}
use Rattle.group_items.proofs.Rounding.{round_more}
use Rattle.group_items.proofs.sequence.rounds.Goals as goal

pub play_all-requires : goal.play_all-requires
play_all-requires g c κs within =
    let is = c.deref.ensures.value ∙ c.in_ok-turn.ensures ∙ ap turn (ap length c.as_slice.ensures.value ∙ c.requires.1.0.all) in
    (within, (c.loop-turn.invariant.at, (subst (λ xs. (k : ℕ) → k < length xs → slice_index xs k < g.d.count) (sym is) (turn_inside g.d.count), (c.loop-turn.invariant.counted, c.requires.1.1.1))))

pub loop-turn-preserved : goal.loop-turn-preserved
loop-turn-preserved g c =
    let runs = g.R.Runner.runs c.args.side.now in
    let mid = events_of c.loop-turn.play.events.items in
    let new = events_of c.play_all.new.play.events.items in
    let waits = c.in-Through.waits in
    let is = c.deref.ensures.value ∙ c.in_ok-turn.ensures ∙ ap turn (ap length c.as_slice.ensures.value ∙ c.requires.1.0.all) in
    let played = subst (λ q. IsPlayed g.d (g.R.Runner.runs c.loop-turn.side) mid c.deref.result.now new q) c.in-Through.is c.in_ok-end.ensures.played in
    let through = subst (λ xs. IsThrough g.d runs mid xs (length xs) new waits) is (subst (λ r. IsThrough g.d r mid c.deref.result.now (length c.deref.result.now) new waits) c.loop-turn.invariant.runs played) in
    record {
      at = c.in_ok-end.ensures.at;
      counted = c.in_ok-end.ensures.counted ∙ c.loop-turn.invariant.counted;
      runs = c.in_ok-end.ensures.runs ∙ c.loop-turn.invariant.runs;
      goes = (suc c.loop-turn.invariant.goes.0, round_more g.d runs (events_of c.args.play.now.events.items) mid new waits c.loop-turn.invariant.goes.0 c.loop-turn.invariant.goes.1 through);
    }
