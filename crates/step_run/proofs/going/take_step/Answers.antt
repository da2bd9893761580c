use Rattle.std.proofs.Common.{subst}
use Rattle.traces.specs.Runs as run
use Rattle.step_run.specs.Steps.{IsStep}
use Rattle.step_run.proofs.Onward.{over_here, waits_here, asks_here}
use Rattle.step_run.proofs.going.take_step.Goals as goal

pub returns-in-Stops-clause-next : goal.returns-in-Stops-clause-next
returns-in-Stops-clause-next g c =
    let old = g.P.Program.goes c.args.program.now c.args.state.now in
    let s = subst (λ x. IsStep old (g.P.Program.goes c.args.program.now c.step.new.state) (g.P.Program.asks c.args.program.now c.step.new.state) x) c.in-Stops.is c.in_ok-step.ensures.step in
    over_here g.course.start g.course.steps c.args.row.now old c.requires.1.1.0 c.requires.1.1.1.0 c.requires.1.1.1.1.0 run.ended s.1

pub returns-in-Fails-clause-next : goal.returns-in-Fails-clause-next
returns-in-Fails-clause-next g c =
    let old = g.P.Program.goes c.args.program.now c.args.state.now in
    let s = subst (λ x. IsStep old (g.P.Program.goes c.args.program.now c.step.new.state) (g.P.Program.asks c.args.program.now c.step.new.state) x) c.in-Fails.is c.in_ok-step.ensures.step in
    over_here g.course.start g.course.steps c.args.row.now old c.requires.1.1.0 c.requires.1.1.1.0 c.requires.1.1.1.1.0 run.undefined s.1

pub returns-in_ok-ask-in-Asks-clause-next : goal.returns-in_ok-ask-in-Asks-clause-next
returns-in_ok-ask-in-Asks-clause-next g c =
    let old = g.P.Program.goes c.args.program.now c.args.state.now in
    let s = subst (λ x. IsStep old (g.P.Program.goes c.args.program.now c.step.new.state) (g.P.Program.asks c.args.program.now c.step.new.state) x) c.in-Asks.is c.in_ok-step.ensures.step in (
      waits_here g.course.start g.course.steps c.args.row.now old c.requires.1.1.0 c.requires.1.1.1.0 c.requires.1.1.1.1.0 s.1.1.1.1.0,
      (s.0, s.1.0, asks_here g.course.start g.course.steps c.args.row.now old c.requires.1.1.0 c.requires.1.1.1.0 c.requires.1.1.1.1.0 s.0 s.1.1.1.1.1),
    )
