use Rattle.std.proofs.Common.{◌≡◌, ◌+◌, ◌*◌, drop, length}
use Rattle.spv_types.specs.View.{tree_of, trees_of, value_of}
use Rattle.op_semantics.specs.Fits.{each_fits, fits_parts}
use Rattle.value_ops.proofs.Values.{value_size, values_size, plain}
use Rattle.constant_values.proofs.fitting.+fitting.Given as goal

abbrev pub decreases-fits : goal.decreases-fits
decreases-fits l = 3 * value_size (value_of l.value.now)

abbrev pub decreases-have_shape : goal.decreases-have_shape
decreases-have_shape l = 3 * values_size (plain l.values.now) + 2

abbrev pub decreases-are_parts : goal.decreases-are_parts
decreases-are_parts l = 3 * values_size (plain l.values.now) + 1

abbrev pub decreases-all_fit : goal.decreases-all_fit
decreases-all_fit l = 3 * values_size (plain l.values.now)

abbrev pub decreases-are_members : goal.decreases-are_members
decreases-are_members l = 3 * values_size (plain l.values.now)

abbrev pub invariant-all_fit-loop-value : goal.invariant-all_fit-loop-value
invariant-all_fit-loop-value l = each_fits (tree_of l.part) (plain (drop l.value-index l.values)) ≡ each_fits (tree_of l.part) (plain l.values)

abbrev pub invariant-are_members-loop-i : goal.invariant-are_members-loop-i
invariant-are_members-loop-i l = record {
  whole : length l.members ≡ length l.values;
  rest : fits_parts (trees_of (drop l.i l.members)) (plain (drop l.i l.values)) ≡ fits_parts (trees_of l.members) (plain l.values);
}
