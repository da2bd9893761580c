use Rattle.std.proofs.Common.{◌≡◌, ◌+◌, ◌*◌, map, drop}
use Rattle.glsl_ast.specs.View.{expr_of}
use Rattle.spv_types.specs.View.{tree_of, trees_of}
use Rattle.spv_types.proofs.Heads.{tree_size, trees_size}
use Rattle.vec_lowering.specs.Named.{naming_of}
use Rattle.vec_lowering.specs.Component.{each_below}
use Rattle.vec_lowering.specs.Composite.{copied, copied_parts, element, struct_id, struct_parts}
use Rattle.vec_lowering.proofs.Parts.{front}
use Rattle.vec_lowering.proofs.copies.+copying.Given as goal

abbrev pub invariant-copy_elements-loop-k : goal.invariant-copy_elements-loop-k
invariant-copy_elements-loop-k l = map expr_of l.parts.items ≡ each_below l.k (λ k. copied (naming_of l.names) (tree_of l.part) (tree_of l.from) (element (expr_of l.of) k))

abbrev pub invariant-copy_members-loop-k : goal.invariant-copy_members-loop-k
invariant-copy_members-loop-k l =
    front l.parts.items (copied_parts (naming_of l.names) (trees_of (drop l.k l.members)) (struct_id (tree_of l.from)) (struct_parts (tree_of l.from)) l.k (expr_of l.of))
    ≡ copied_parts (naming_of l.names) (trees_of l.members) (struct_id (tree_of l.from)) (struct_parts (tree_of l.from)) 0 (expr_of l.of)

abbrev pub decreases-copy : goal.decreases-copy
decreases-copy l = 3 * tree_size (tree_of l.shape.now)

abbrev pub decreases-copy_array : goal.decreases-copy_array
decreases-copy_array l = 3 * tree_size (tree_of l.part.now) + 2

abbrev pub decreases-copy_elements : goal.decreases-copy_elements
decreases-copy_elements l = 3 * tree_size (tree_of l.part.now) + 1

abbrev pub decreases-copy_members : goal.decreases-copy_members
decreases-copy_members l = 3 * trees_size (trees_of l.members.now)
