use Rattle.std.proofs.Common.{◌≡◌, ◌++◌, List, drop, map}
use Rattle.std.specs.Prelude.{option_map}
use Rattle.spv_types.specs.Tree.{ValueTree}
use Rattle.spv_types.specs.View.{value_of}
use Rattle.op_semantics.specs.Component.{each_one}
use Rattle.value_ops.specs.Scalars.{one_scalar}
use Rattle.value_ops.proofs.scalars.each_of_one.Given as goal

abbrev pub invariant-loop-value : goal.invariant-loop-value
invariant-loop-value l = option_map (λ (rest : List ValueTree). map value_of l.results.items ++ rest) (each_one (one_scalar l.op) (map value_of (drop l.value-index l.values))) ≡ each_one (one_scalar l.op) (map value_of l.values)
