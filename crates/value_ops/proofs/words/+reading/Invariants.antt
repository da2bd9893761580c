use Rattle.std.proofs.Common.{◌≡◌, ◌++◌, ◌-◌, ◌+◌, map, drop}
use Rattle.spv_types.specs.View.{tree_of, trees_of, value_of}
use Rattle.spv_types.specs.Leaves.{leaf_count}
use Rattle.spv_types.proofs.Heads.{tree_size, trees_size}
use Rattle.op_semantics.specs.Component.{listed}
use Rattle.value_words.specs.Words.{parts_from, value_from, values_from}
use Rattle.value_ops.proofs.words.+reading.Given as goal

abbrev pub decreases-value_from : goal.decreases-value_from
decreases-value_from l = tree_size (tree_of l.shape.now)

abbrev pub decreases-parts_from : goal.decreases-parts_from
decreases-parts_from l = tree_size (tree_of l.part.now) + 1

abbrev pub decreases-members_from : goal.decreases-members_from
decreases-members_from l = trees_size (trees_of l.members.now)

abbrev pub invariant-parts_from-loop : goal.invariant-parts_from-loop
invariant-parts_from-loop l = map value_of l.values.items ++ parts_from (value_from (tree_of l.part)) (leaf_count (tree_of l.part)) (l.length - l.counter) l.rest ≡ parts_from (value_from (tree_of l.part)) (leaf_count (tree_of l.part)) l.length l.words

abbrev pub invariant-members_from-loop-member : goal.invariant-members_from-loop-member
invariant-members_from-loop-member l = map value_of l.values.items ++ listed (values_from (trees_of (drop l.member-index l.members)) l.rest) ≡ listed (values_from (trees_of l.members) l.words)
