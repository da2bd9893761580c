use Rattle.std.proofs.Common.{◌≡◌, min, take}
use Rattle.std.specs.Prelude.{sum_by}
use Rattle.spv_module.specs.declared.inst.Block.{Block}
use Rattle.profile_rules.specs.Leaves.{inst_leaves}
use Rattle.spec_constants.specs.Counted.{cap, known}
use Rattle.spec_constants.proofs.leaves.function_leaves.Given as goal

abbrev pub invariant-loop-block : goal.invariant-loop-block
invariant-loop-block l = l.sum ≡ min cap (sum_by (λ (b : Block). sum_by (inst_leaves l.«module».globals (known l.counts)) b.insts) (take l.block-index l.block-items))
