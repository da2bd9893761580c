use Rattle.std.proofs.Common.{ap, ◌∙◌, subst, ◌/◌}
use Rattle.std.proofs.lemmas.Result.{err_from_is_err_and}
use Rattle.group_items.specs.declared.schedule.Stop.TheVariants.{Events}
use Rattle.group_items.specs.Events.{event_of}
use Rattle.group_items.specs.Memory.{stored}
use Rattle.group_items.specs.Sides.{with_at}
use Rattle.group_items.specs.Playing.{MayMoveBy, IsNextOf, behind_next}
use Rattle.group_items.proofs.Plays.{other_error, may_by, move_of, above, noted}
use Rattle.group_items.proofs.play.take.Goals as goal

pub returns-in_err-note-in-Made-clause-events : goal.returns-in_err-note-in-Made-clause-events
returns-in_err-note-in-Made-clause-events g c =
    let p = err_from_is_err_and c.from_residual-in_err-note-in-Made.result c.from_residual-in_err-note-in-Made.ensures.1 in
    let runs = g.R.Runner.runs c.args.side.now in
    let at = g.R.Runner.at c.args.side.now in
    let play = c.args.play.now in
    let may = may_by g.d runs at play c.args.who c.requires.1.0 c.requires.1.1.0 (subst (λ xs. MayMoveBy xs play.group c.args.who) c.deref.ensures.value c.if-not-may_move.ensures) in
    let made = subst (λ n. IsNextOf runs (stored play.store.maps.items) (c.args.who / play.group) (at c.args.who) n) c.in-Made.is c.in_ok-event.ensures.next in
    rw (p.1, p.2) (λ e. record {
      event = event_of c.in-Made.event;
      move = move_of g.d runs at play c.args.who c.requires.1.0 c.requires.1.1.0 (event_of c.in-Made.event) may made;
      above = above g.d runs at play c.args.who c.requires.1.0 c.requires.1.1.0 (event_of c.in-Made.event) (c.in_err-note-in-Made.ensures.events (other_error c.in_err-note-in-Made.field-0.0 Events e));
    })

pub returns-in_ok-note-in-Made-clause-at : goal.returns-in_ok-note-in-Made-clause-at
returns-in_ok-note-in-Made-clause-at g c =
    let at = g.R.Runner.at c.args.side.now in
    noted g.d at (g.R.Runner.at c.go_on.new.side) c.args.play.now c.note.new.play c.args.who (event_of c.in-Made.event) c.requires.1.0 c.requires.1.1.0 c.in_ok-note-in-Made.ensures.noted
    (c.in_ok-event.ensures.moved ∙ ap (λ n. with_at at c.args.who (behind_next (at c.args.who) n)) c.in-Made.is)
