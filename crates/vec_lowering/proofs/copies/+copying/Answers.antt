use Rattle.std.proofs.Common.{◌≡◌, ◌∙◌, ◌+◌, List, ap, subst, sym, arith}
use Rattle.spv_module.specs.declared.tree.Shape.{Shape}
use Rattle.spv_types.specs.Tree.{struct}
use Rattle.spv_types.specs.View.{tree_of, trees_of}
use Rattle.spv_types.proofs.Heads.{tree_size, trees_size}
use Rattle.spv_types.proofs.Views.{shape-Struct}
use Rattle.few_law.specs.Few.{HasFewMembers}
use Rattle.few_law.proofs.Shapes.{members_few}
use Rattle.vec_lowering.proofs.copies.+copying.Goals as goal

pub copy-copy_members-requires : goal.copy-copy_members-requires
copy-copy_members-requires t c =
    let ms = c.deref-in-Struct.result.now in
    let n = c.in-Struct.field-0.0 in
    let is : tree_of c.args.shape.now ≡ struct n (trees_of ms) =
    ap tree_of c.in-Struct.is ∙ (shape-Struct c.in-Struct.field-0 c.in-Struct.members ∙ ap (λ (l : List Shape). struct n (trees_of l)) (sym c.deref-in-Struct.ensures.value)) in
    let few : HasFewMembers (struct n (trees_of ms)) = subst HasFewMembers is c.requires in
    let size : tree_size (tree_of c.args.shape.now) ≡ 1 + trees_size (trees_of ms) = ap tree_size is in
    (omega (arith, size), (members_few ms n few, few.1))
