use Rattle.std.proofs.Common.{◌≡◌, ◌++◌, map, take}
use Rattle.spv_types.specs.View.{value_of}
use Rattle.value_ops.proofs.compose.add_copies.Given as goal

abbrev pub invariant-loop-value : goal.invariant-loop-value
invariant-loop-value l = map value_of l.all.items ≡ map value_of l.initial.all.items ++ map value_of (take l.value-index l.values)
