use Rattle.std.proofs.Common.{◌≡◌, min, take}
use Rattle.std.specs.Prelude.{sum_by}
use Rattle.profile_rules.specs.Leaves.{function_leaves}
use Rattle.spec_constants.specs.Counted.{cap, known}
use Rattle.spec_constants.proofs.leaves.functions_leaves.Given as goal

abbrev pub invariant-loop-function : goal.invariant-loop-function
invariant-loop-function l = l.sum ≡ min cap (sum_by (function_leaves l.«module».globals (known l.counts)) (take l.function-index l.function-items))
