use Rattle.std.proofs.Common.{◌+◌, ◌-◌, ◌*◌, drop, flat_map}
use Rattle.std.specs.List.{range_with_len}
use Rattle.spv_types.specs.View.{tree_of, trees_of}
use Rattle.spv_types.proofs.Heads.{tree_size, trees_size}
use Rattle.value_words.specs.Words.{behind, scalar_paths, member_paths}
use Rattle.memory_places.specs.Kernel.{bare}
use Rattle.memory_places.specs.Leaves.{IsGaining}
use Rattle.memory_places.proofs.leaves.+leaves.Given as goal

abbrev pub invariant-add_elements-loop-index : goal.invariant-add_elements-loop-index
invariant-add_elements-loop-index l = (IsGaining (bare l.«module») l.whole l.initial.all l.all (flat_map (λ i. behind i (scalar_paths (tree_of l.element))) (range_with_len l.index (l.length - l.index))) (flat_map (λ i. behind i (scalar_paths (tree_of l.element))) (range_with_len 0 l.length)))

abbrev pub invariant-add_members-loop-k : goal.invariant-add_members-loop-k
invariant-add_members-loop-k l = (IsGaining (bare l.«module») l.whole l.initial.all l.all (member_paths l.k (trees_of (drop l.k l.members))) (member_paths 0 (trees_of l.members)))

abbrev pub decreases-add_leaves : goal.decreases-add_leaves
decreases-add_leaves l = 3 * tree_size (tree_of l.shape.now)

abbrev pub decreases-add_part : goal.decreases-add_part
decreases-add_part l = 3 * tree_size (tree_of l.shape.now) + 1

abbrev pub decreases-add_elements : goal.decreases-add_elements
decreases-add_elements l = 3 * tree_size (tree_of l.element.now) + 2

abbrev pub decreases-add_members : goal.decreases-add_members
decreases-add_members l = 3 * trees_size (trees_of l.members.now)
