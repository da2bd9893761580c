use Rattle.std.proofs.Common.{◌∙◌, ℕ, ◌<◌, ap, sym, subst, length, slice_index}
use Rattle.std.proofs.lemmas.Result.{err_from_is_err_and}
use Rattle.group_items.specs.declared.schedule.Stop.TheVariants.{Events}
use Rattle.group_items.specs.Events.{events_of}
use Rattle.group_items.specs.Memory.{stored}
use Rattle.group_items.specs.Schedule.{among, Comes}
use Rattle.group_items.specs.Playing.{IsAt}
use Rattle.group_items.specs.Played.{IsPlayed, HasStopped, IsThrough, TooMuchIn, RoundsEnd, RoundsTooMuch}
use Rattle.group_items.proofs.Plays.{other_error}
use Rattle.list_law.proofs.Results.{if_ok_both}
use Rattle.group_items.proofs.Ending.{first_stops, first_too_much, rounds_end, rounds_too_much}
use Rattle.group_items.proofs.Naming.{among_inside}
use Rattle.group_items.proofs.sequence.play_schedule.Goals as goal

pub returns-in_err-end-clause-events : goal.returns-in_err-end-clause-events
returns-in_err-end-clause-events g c =
    let p = err_from_is_err_and c.from_residual-in_err-end.result c.from_residual-in_err-end.ensures.1 in
    let runs = g.R.Runner.runs c.args.side.now in
    let none = ap events_of c.requires.1.1.0 in
    let items = ap (λ n. among n c.args.first.now) c.requires.1.1.1.0 in
    rw (p.1, p.2) (λ e. first_too_much g.d runs c.args.first.now
    (subst (λ xs. TooMuchIn g.d runs xs (among g.d.count c.args.first.now)) none
    (subst (λ xs. TooMuchIn g.d runs (events_of c.args.play.now.events.items) xs) (c.deref.ensures.value ∙ c.in_ok-items.ensures ∙ items) (c.in_err-end.ensures.events (other_error c.in_err-end.field-0.0 Events e)))))

pub returns-in-Stopped-clause-comes : goal.returns-in-Stopped-clause-comes
returns-in-Stopped-clause-comes g c =
    let runs = g.R.Runner.runs c.args.side.now in
    let none = ap events_of c.requires.1.1.0 in
    let items = ap (λ n. among n c.args.first.now) c.requires.1.1.1.0 in
    let new = events_of c.play_all.new.play.events.items in
    let stopped = subst (λ q. IsPlayed g.d runs (events_of c.args.play.now.events.items) c.deref.result.now new q) c.in-Stopped.is c.in_ok-end.ensures.played in
    subst (λ s. Comes g.d runs c.args.first.now new s c.in-Stopped.end) c.in_ok-end.ensures.at.store
    (first_stops g.d runs c.args.first.now new c.in-Stopped.end
    (subst (λ old. HasStopped g.d runs old (among g.d.count c.args.first.now) new c.in-Stopped.end) none
    (subst (λ xs. HasStopped g.d runs (events_of c.args.play.now.events.items) xs new c.in-Stopped.end) (c.deref.ensures.value ∙ c.in_ok-items.ensures ∙ items) stopped)))

pub play_all-requires : goal.play_all-requires
play_all-requires g c κs within =
    let is = c.deref.ensures.value ∙ c.in_ok-items.ensures ∙ ap (λ n. among n c.args.first.now) c.requires.1.1.1.0 in
    (within, (c.requires.1.0, (subst (λ xs. (k : ℕ) → k < length xs → slice_index xs k < g.d.count) (sym is) (among_inside g.d.count c.args.first.now), (c.requires.1.1.1.1.0, c.requires.1.1.1.1.1))))

pub rounds-requires : goal.rounds-requires
rounds-requires g c κs within =
    (within, (c.in_ok-end.ensures.at, (c.in_ok-end.ensures.counted ∙ c.requires.1.1.1.1.0, c.requires.1.1.1.1.1)))

pub returns-clause-comes : goal.returns-clause-comes
returns-clause-comes g c =
    let runs = g.R.Runner.runs c.args.side.now in
    let first = c.args.first.now in
    let old = events_of c.args.play.now.events.items in
    let mid = events_of c.play_all.new.play.events.items in
    let new = events_of c.rounds.new.play.events.items in
    let waits = c.in-Through.waits in
    let is = c.deref.ensures.value ∙ c.in_ok-items.ensures ∙ ap (λ n. among n first) c.requires.1.1.1.0 in
    let played = subst (λ q. IsPlayed g.d runs old c.deref.result.now mid q) c.in-Through.is c.in_ok-end.ensures.played in
    let through = subst (λ es. IsThrough g.d runs es (among g.d.count first) (length (among g.d.count first)) mid waits) (ap events_of c.requires.1.1.0) (subst (λ xs. IsThrough g.d runs old xs (length xs) mid waits) is played) in
    if_ok_both (RoundsEnd g.d (g.R.Runner.runs c.play_all.new.side) mid new) (λ _. IsAt g.d (g.R.Runner.at c.rounds.new.side) c.rounds.new.play) (Comes g.d runs first new (stored c.rounds.new.play.store.maps.items)) c.rounds.result
    (λ e r a. subst (λ s. Comes g.d runs first new s e) a.store (rounds_end g.d runs first mid new waits e through (subst (λ q. RoundsEnd g.d q mid new e) c.in_ok-end.ensures.runs r)))
    c.rounds.ensures.end c.rounds.ensures.at

pub returns-clause-events : goal.returns-clause-events
returns-clause-events g c =
    let runs = g.R.Runner.runs c.args.side.now in
    let first = c.args.first.now in
    let old = events_of c.args.play.now.events.items in
    let mid = events_of c.play_all.new.play.events.items in
    let waits = c.in-Through.waits in
    let is = c.deref.ensures.value ∙ c.in_ok-items.ensures ∙ ap (λ n. among n first) c.requires.1.1.1.0 in
    let played = subst (λ q. IsPlayed g.d runs old c.deref.result.now mid q) c.in-Through.is c.in_ok-end.ensures.played in
    let through = subst (λ es. IsThrough g.d runs es (among g.d.count first) (length (among g.d.count first)) mid waits) (ap events_of c.requires.1.1.0) (subst (λ xs. IsThrough g.d runs old xs (length xs) mid waits) is played) in
    λ h. rounds_too_much g.d runs first mid waits through (subst (λ q. RoundsTooMuch g.d q mid) c.in_ok-end.ensures.runs (c.rounds.ensures.events h))
