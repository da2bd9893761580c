use Rattle.std.proofs.Common.{take}
use Rattle.profile_check.specs.Data.{variables_among, ArePlans}
use Rattle.profile_check.proofs.blocks.plans.Given as goal

abbrev pub invariant-loop-inst : goal.invariant-loop-inst
invariant-loop-inst l = ArePlans l.«module» (variables_among l.«module».globals (take l.inst-index l.inst-items)) l.plans.items
