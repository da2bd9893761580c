use Rattle.std.proofs.Common.{ap, ◌∙◌}
use Rattle.std.specs.Prelude.{is_ok}
use Rattle.group_items.specs.Sides.{told_of, fresh}
use Rattle.step_run.specs.KeptAll.{IsKept, begun_at}
use Rattle.step_run.proofs.Threads.{all_pushed, push_moved}
use Rattle.step_run.proofs.machine.MachineRunner.begin.Goals as goal

pub invariant_of-self : goal.invariant_of-self
invariant_of-self g c =
    let m = c.args.self.now in
    record {
      small = m.small;
      kept = all_pushed (λ t. IsKept (g.P.Program.walk m.program) m.steps (g.P.Program.goes m.program) (g.P.Program.asks m.program) t.row t.state) (is_ok c.push.result) m.threads.items c.push.new.self.items c.in_ok-thread.thread c.push.ensures.items m.kept (c.in_ok-thread.ensures.kept m.steps);
    }

pub returns-clause-begun : goal.returns-clause-begun
returns-clause-begun g c = ap begun_at c.in_ok-push.ensures.items ∙ push_moved c.args.self.now.threads.items c.in_ok-thread.thread (fresh (told_of c.args.inv.now)) c.in_ok-thread.ensures.fresh
