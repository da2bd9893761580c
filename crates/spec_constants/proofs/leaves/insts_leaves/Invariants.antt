use Rattle.std.proofs.Common.{◌≡◌, min, take}
use Rattle.std.specs.Prelude.{sum_by}
use Rattle.profile_rules.specs.Leaves.{inst_leaves}
use Rattle.spec_constants.specs.Counted.{cap, known}
use Rattle.spec_constants.proofs.leaves.insts_leaves.Given as goal

abbrev pub invariant-loop-inst : goal.invariant-loop-inst
invariant-loop-inst l = l.sum ≡ min cap (sum_by (inst_leaves l.«module».globals (known l.counts)) (take l.inst-index l.insts))
