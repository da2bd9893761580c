use Rattle.std.proofs.Common.{◌≡◌, ap, sym, subst}
use Rattle.group_items.specs.Sides.{told_of}
use Rattle.module_semantics.specs.Steps as steps
use Rattle.memory_places.specs.Kernel.{setting_for}
use Rattle.run_acts.specs.Acts.{IsStepOf}
use Rattle.spv_run.proofs.Nexts.{of_kind, others_operate}
use Rattle.spv_run.proofs.kernel.ModuleProgram.step_in.Goals as goal

pub returns-in-Variable-clause-step : goal.returns-in-Variable-clause-step
returns-in-Variable-clause-step c = of_kind (setting_for c.args.self.now.map (told_of c.args.inv.now)) c.args.conf.now c.variable_step.new.conf c.args.inst.now c.variable_step.result (steps.step_in c.args.group) steps.variable (ap steps.step_in c.in-Variable.is) (c.variable_step.ensures.step (setting_for c.args.self.now.map (told_of c.args.inv.now)))

pub returns-in-Chain-clause-step : goal.returns-in-Chain-clause-step
returns-in-Chain-clause-step c = of_kind (setting_for c.args.self.now.map (told_of c.args.inv.now)) c.args.conf.now c.chain.new.conf c.args.inst.now c.chain.result (steps.step_in c.args.group) steps.chain (ap steps.step_in c.in-Chain.is) (c.chain.ensures.step (told_of c.args.inv.now))

pub returns-in-Atomic-clause-step : goal.returns-in-Atomic-clause-step
returns-in-Atomic-clause-step c = of_kind (setting_for c.args.self.now.map (told_of c.args.inv.now)) c.args.conf.now c.args.conf.now c.args.inst.now c.atomic_step.result (steps.step_in c.args.group) (steps.atomic c.in-Atomic.op) (ap steps.step_in c.in-Atomic.is) (c.atomic_step.ensures (told_of c.args.inv.now))

pub returns-in-ControlBarrier-clause-step : goal.returns-in-ControlBarrier-clause-step
returns-in-ControlBarrier-clause-step c = of_kind (setting_for c.args.self.now.map (told_of c.args.inv.now)) c.args.conf.now c.barrier_step.new.conf c.args.inst.now c.barrier_step.result (steps.step_in c.args.group) steps.control_barrier (ap steps.step_in c.in-ControlBarrier.is) (c.barrier_step.ensures.step (told_of c.args.inv.now))

pub returns-in-MemoryBarrier-clause-step : goal.returns-in-MemoryBarrier-clause-step
returns-in-MemoryBarrier-clause-step c = of_kind (setting_for c.args.self.now.map (told_of c.args.inv.now)) c.args.conf.now c.barrier_step-in-MemoryBarrier.new.conf c.args.inst.now c.barrier_step-in-MemoryBarrier.result (steps.step_in c.args.group) steps.memory_barrier (ap steps.step_in c.in-MemoryBarrier.is) (c.barrier_step-in-MemoryBarrier.ensures.step (told_of c.args.inv.now))

pub returns-in-Call-clause-step : goal.returns-in-Call-clause-step
returns-in-Call-clause-step c = of_kind (setting_for c.args.self.now.map (told_of c.args.inv.now)) c.args.conf.now c.call_step.new.conf c.args.inst.now c.call_step.result (steps.step_in c.args.group) steps.call (ap steps.step_in c.in-Call.is) (c.call_step.ensures.step (told_of c.args.inv.now))

pub returns-in-Terminator-clause-step : goal.returns-in-Terminator-clause-step
returns-in-Terminator-clause-step c = of_kind (setting_for c.args.self.now.map (told_of c.args.inv.now)) c.args.conf.now c.finish_block.new.conf c.args.inst.now c.finish_block.result (steps.step_in c.args.group) (steps.step_at_end c.in-Terminator.end) (ap steps.step_in c.in-Terminator.is) (c.finish_block.ensures.step (told_of c.args.inv.now))

pub returns-in_default-clause-step : goal.returns-in_default-clause-step
returns-in_default-clause-step c =
    let same : steps.step_in c.args.group ≡ steps.operation = others_operate c.args.group c.in_default.not-Variable c.in_default.not-Load c.in_default.not-Store c.in_default.not-Chain c.in_default.not-ArrayLength c.in_default.not-Atomic c.in_default.not-ControlBarrier c.in_default.not-MemoryBarrier c.in_default.not-Call c.in_default.not-Merge c.in_default.not-Terminator in
    of_kind (setting_for c.args.self.now.map (told_of c.args.inv.now)) c.args.conf.now c.operation_step.new.conf c.args.inst.now c.operation_step.result (steps.step_in c.args.group) steps.operation same (c.operation_step.ensures.step (told_of c.args.inv.now))

pub returns-in-Merge-clause-step : goal.returns-in-Merge-clause-step
returns-in-Merge-clause-step c =
    let s = setting_for c.args.self.now.map (told_of c.args.inv.now) in
    subst (λ k. IsStepOf (steps.step_by k) s c.args.conf.now c.merge_step.new.conf c.args.inst.now c.merge_step.result) (sym (ap steps.step_in c.in-Merge.is)) (c.merge_step.ensures c.args.self.now.map.of.functions)
