use Rattle.std.proofs.Common.{◌∙◌, ap, subst, string_bytes, IfOk, IsErrOf}
use Rattle.std.specs.BTreeMap.{get}
use Rattle.std.specs.Ordering.{nat_cmp}
use Rattle.group_items.specs.Schedule.{IsTooMuch}
use Rattle.group_items.specs.Sides.{Runs}
use Rattle.group_items.specs.declared.schedule.Stop.TheVariants.{Events}
use Rattle.dispatch_case.specs.Three.{triple_of}
use Rattle.dispatch_case.specs.Cases.{parts_of}
use Rattle.group_sched.specs.Start.{setup_of}
use Rattle.run_lines.specs.Said.{IsSaid, walks}
use Rattle.run_lines.proofs.run.run_program.Goals as goal

pub returns-clause-said : goal.returns-clause-said
returns-clause-said g c =
    let runs = ap (λ p. walks (g.P.Program.walk p) c.new-machine.result.steps) c.new-machine.ensures.program ∙ ap (walks (g.P.Program.walk c.args.program)) c.new-machine.ensures.steps in
    subst (λ (r : Runs). IfOk c.run_side.result (λ text. IsSaid (parts_of c.args.case.now) (triple_of c.args.size) (get nat_cmp c.args.special) r (string_bytes text))) runs c.run_side.ensures.said

pub returns-clause-events : goal.returns-clause-events
returns-clause-events g c =
    let runs = ap (λ p. walks (g.P.Program.walk p) c.new-machine.result.steps) c.new-machine.ensures.program ∙ ap (walks (g.P.Program.walk c.args.program)) c.new-machine.ensures.steps in
    subst (λ (r : Runs). IsErrOf c.run_side.result Events → IsTooMuch (setup_of (parts_of c.args.case.now) (triple_of c.args.size) (get nat_cmp c.args.special)) r c.args.case.now.first.items) runs c.run_side.ensures.events
