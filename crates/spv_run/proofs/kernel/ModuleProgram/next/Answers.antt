use Rattle.std.proofs.lemmas.Result.{IfOk-weaker}
use Rattle.group_items.specs.Sides.{told_of}
use Rattle.memory_places.specs.Kernel.{setting_for}
use Rattle.spv_run.proofs.Nexts.{no_next, with_next}
use Rattle.spv_run.proofs.kernel.ModuleProgram.next.Goals as goal

pub returns-in-None-clause-step : goal.returns-in-None-clause-step
returns-in-None-clause-step c = no_next (setting_for c.args.self.now.map (told_of c.args.inv.now)) c.args.conf.now c.args.conf.now c.in-None.ensures

pub returns-in-Some-clause-step : goal.returns-in-Some-clause-step
returns-in-Some-clause-step c =
    let s = setting_for c.args.self.now.map (told_of c.args.inv.now) in
    IfOk-weaker c.step_in.result _ _ (λ step is. with_next s c.args.conf.now c.step_in.new.conf c.in-Some.inst.now c.group.result step c.in-Some.ensures.next c.group.ensures.group is) c.step_in.ensures.step
