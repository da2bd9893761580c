use Rattle.std.proofs.Common.{◌≡◌, map, take}
use Rattle.spv_types.specs.View.{value_of}
use Rattle.value_ops.proofs.Values.{value_size, values_size, plain}
use Rattle.value_ops.proofs.copies.+copying.Given as goal

abbrev pub decreases-copied : goal.decreases-copied
decreases-copied l = value_size (value_of l.value.now)

abbrev pub decreases-all_copied : goal.decreases-all_copied
decreases-all_copied l = values_size (plain l.values.now)

abbrev pub invariant-all_copied-loop-value : goal.invariant-all_copied-loop-value
invariant-all_copied-loop-value l = map value_of l.copies.items ≡ map value_of (take l.value-index l.values)
