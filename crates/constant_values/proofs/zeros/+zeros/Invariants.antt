use Rattle.std.proofs.Common.{◌≡◌, ◌+◌, ◌*◌, map, drop}
use Rattle.std.specs.Prelude.{Some, option_map}
use Rattle.spv_types.specs.View.{tree_of, trees_of, value_of}
use Rattle.spv_types.proofs.Leaf.{front}
use Rattle.spv_types.proofs.Heads.{tree_size, trees_size}
use Rattle.constant_values.specs.Zeros.{zero_parts, zero_members}
use Rattle.constant_values.proofs.zeros.+zeros.Given as goal

abbrev pub invariant-zero_parts-loop : goal.invariant-zero_parts-loop
invariant-zero_parts-loop l = zero_parts (tree_of l.part) l.counter ≡ Some (map value_of l.values.items)

abbrev pub invariant-zero_members-loop-member : goal.invariant-zero_members-loop-member
invariant-zero_members-loop-member l = option_map (front l.values.items) (zero_members (trees_of (drop l.member-index l.members))) ≡ zero_members (trees_of l.members)

abbrev pub decreases-zero_value : goal.decreases-zero_value
decreases-zero_value l = 3 * tree_size (tree_of l.shape.now)

abbrev pub decreases-zero_array : goal.decreases-zero_array
decreases-zero_array l = 3 * tree_size (tree_of l.part.now) + 2

abbrev pub decreases-zero_parts : goal.decreases-zero_parts
decreases-zero_parts l = 3 * tree_size (tree_of l.part.now) + 1

abbrev pub decreases-zero_members : goal.decreases-zero_members
decreases-zero_members l = 3 * trees_size (trees_of l.members.now)
