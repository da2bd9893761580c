use Rattle.std.proofs.Common.{◌∙◌, sym, subst, []}
use Rattle.group_items.specs.Events.{event_of}
use Rattle.step_run.specs.Kept.{untold_events, IsTelling}
use Rattle.step_run.proofs.Onward.{made_next, took_none, told_on, cut_here, told_begun}
use Rattle.step_run.proofs.going.one_more.Goals as goal

pub returns-in-Some-clause-next : goal.returns-in-Some-clause-next
returns-in-Some-clause-next g c =
    let here = g.P.Program.goes c.args.program.now c.args.state.now in
    let e = event_of c.in-Some.event in
    let t = subst (IsTelling c.args.row.now c.tell.new.row) c.in-Some.is c.in_ok-event.ensures.told in (
      took_none g.course.start g.course.steps c.args.row.now here c.requires.1.1.0 e (untold_events c.tell.new.row) t.untold,
      made_next g.course.start g.course.steps c.args.row.now here c.requires.1.1.0 e (untold_events c.tell.new.row) t.untold,
    )

pub returns-in-Some-clause-behind : goal.returns-in-Some-clause-behind
returns-in-Some-clause-behind g c =
    let t = subst (IsTelling c.args.row.now c.tell.new.row) c.in-Some.is c.in_ok-event.ensures.told in
    told_begun c.args.row.now c.tell.new.row (event_of c.in-Some.event) t

pub returns-in-Some-clause-going : goal.returns-in-Some-clause-going
returns-in-Some-clause-going g c =
    let t = subst (IsTelling c.args.row.now c.tell.new.row) c.in-Some.is c.in_ok-event.ensures.told in
    told_on g.course.start g.course.steps c.args.row.now (g.P.Program.goes c.args.program.now c.args.state.now) c.requires.1.1.0 c.tell.new.row (event_of c.in-Some.event) t

pub returns-then-row-steps-clause-next : goal.returns-then-row-steps-clause-next
returns-then-row-steps-clause-next g c =
    let t = subst (IsTelling c.args.row.now c.tell.new.row) c.in-None.is c.in_ok-event.ensures.told in
    cut_here g.course.start g.course.steps c.args.row.now (g.P.Program.goes c.args.program.now c.args.state.now) c.requires.1.1.0 t.0 (sym t.1.used ∙ c.if-row-steps.true ∙ sym c.requires.1.1.1.1) (g.met.P.Program.stands c.args.program.now c.args.state.now [])
