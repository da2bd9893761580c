use Rattle.std.proofs.Common.{◌≡◌, ap, rules}
use Rattle.module_semantics.specs.Steps as steps
use Rattle.memory_places.specs.Kernel.{setting_for}
use Rattle.spv_run.proofs.Nexts.{of_kind}
use Rattle.spv_run.proofs.steps.finish_block.Goals as goal

pub returns-in-Branch-clause-step : goal.returns-in-Branch-clause-step
returns-in-Branch-clause-step g c = λ told.
    let same : steps.step_at_end c.args.end ≡ steps.branch c.args.end = search rules in
    of_kind (setting_for c.args.site.now.map.now told) c.args.conf.now c.branch_step.new.conf c.args.site.now.inst.now c.branch_step.result (steps.step_at_end c.args.end) (steps.branch c.args.end) same (c.branch_step.ensures.step told)

pub returns-in-ReturnValue-clause-step : goal.returns-in-ReturnValue-clause-step
returns-in-ReturnValue-clause-step g c = λ told.
    of_kind (setting_for c.args.site.now.map.now told) c.args.conf.now c.return_value_step.new.conf c.args.site.now.inst.now c.return_value_step.result (steps.step_at_end c.args.end) steps.return_value (ap steps.step_at_end c.in-ReturnValue.is) (c.return_value_step.ensures.step told)
