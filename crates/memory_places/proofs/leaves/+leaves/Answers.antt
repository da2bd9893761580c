use Rattle.std.proofs.Common.{◌≡◌, ◌<◌, ◌∙◌, ◌+◌, List, ap, sym, subst, rules, arith}
use Rattle.spv_types.specs.Tree.{struct}
use Rattle.spv_types.specs.View.{tree_of, trees_of}
use Rattle.spv_types.proofs.Heads.{tree_size, trees_size, member_smaller}
use Rattle.spv_types.proofs.Views.{shape-Bool, shape-Int, shape-Uint, shape-Struct}
use Rattle.spv_module.specs.declared.tree.Shape.{Shape}
use Rattle.few_law.specs.Few.{HasFewMembers}
use Rattle.few_law.proofs.Shapes.{members_few, member_few}
use Rattle.memory_places.specs.Leaves.{HasLeaves}
use Rattle.value_words.specs.Words.{scalar_paths}
use Rattle.memory_places.specs.Kernel.{bare}
use Rattle.memory_places.proofs.Gaining.{part_gain, next_element, on_ok}
use Rattle.memory_places.proofs.leaves.+leaves.Goals as goal

pub add_part-returns : goal.add_part-returns
add_part-returns t c =
    part_gain (bare c.args.module.now) c.args.whole c.part_at-part.result c.args.index (scalar_paths (tree_of c.args.shape.now)) c.args.all.now c.enter.new.all c.add_leaves.new.all c.leave.new.all
    c.part_at-part.ensures c.in_ok-enter.ensures c.in_ok-add_leaves.ensures c.leave.ensures

pub add_elements-loop-index-preserved : goal.add_elements-loop-index-preserved
add_elements-loop-index-preserved t c =
    next_element (bare c.args.module.now) c.args.whole c.args.all.now c.loop-index.all c.add_part.new.all (tree_of c.args.element.now) c.loop-index.index c.args.length _ (search rules) c.loop-index.invariant c.in_ok-add_part.ensures

pub add_leaves-returns-in-Bool : goal.add_leaves-returns-in-Bool
add_leaves-returns-in-Bool t c =
    on_ok c.add_scalar.result _ _
    (λ h. subst (HasLeaves (bare c.args.module.now) c.args.part c.args.all.now c.add_scalar.new.all) (sym (ap (λ (s : Shape). scalar_paths (tree_of s)) c.in-Bool.is ∙ ap scalar_paths shape-Bool)) (h (bare c.args.module.now)))
    c.add_scalar.ensures

pub add_leaves-returns-in-Int : goal.add_leaves-returns-in-Int
add_leaves-returns-in-Int t c =
    on_ok c.add_scalar-in-Int.result _ _
    (λ h. subst (HasLeaves (bare c.args.module.now) c.args.part c.args.all.now c.add_scalar-in-Int.new.all) (sym (ap (λ (s : Shape). scalar_paths (tree_of s)) c.in-Int.is ∙ ap scalar_paths shape-Int)) (h (bare c.args.module.now)))
    c.add_scalar-in-Int.ensures

pub add_leaves-returns-in-Uint : goal.add_leaves-returns-in-Uint
add_leaves-returns-in-Uint t c =
    on_ok c.add_scalar-in-Uint.result _ _
    (λ h. subst (HasLeaves (bare c.args.module.now) c.args.part c.args.all.now c.add_scalar-in-Uint.new.all) (sym (ap (λ (s : Shape). scalar_paths (tree_of s)) c.in-Uint.is ∙ ap scalar_paths shape-Uint)) (h (bare c.args.module.now)))
    c.add_scalar-in-Uint.ensures

pub add_leaves-add_members-requires : goal.add_leaves-add_members-requires
add_leaves-add_members-requires t c =
    let ms = c.deref-in-Struct.result.now in
    let n = c.in-Struct.field-0.0 in
    let is : tree_of c.args.shape.now ≡ struct n (trees_of ms) =
    ap tree_of c.in-Struct.is ∙ (shape-Struct c.in-Struct.field-0 c.in-Struct.members ∙ ap (λ (l : List Shape). struct n (trees_of l)) (sym c.deref-in-Struct.ensures.value)) in
    let few : HasFewMembers (struct n (trees_of ms)) = subst HasFewMembers is c.requires.few in
    let size : tree_size (tree_of c.args.shape.now) ≡ 1 + trees_size (trees_of ms) = ap tree_size is in
    (omega (arith, size), (c.requires.heads, (members_few ms n few, few.1)))

pub add_members-add_part-requires : goal.add_members-add_part-requires
add_members-add_part-requires t c =
    let ms = c.args.members.now in
    let m = c.index-members-k.result in
    let size : tree_size (tree_of m) < trees_size (trees_of ms) =
    subst (λ (s : Shape). tree_size (tree_of s) < trees_size (trees_of ms)) (sym c.index-members-k.is) (member_smaller ms c.loop-k.k m c.loop-k-test.true) in
    let few : HasFewMembers (tree_of m) = subst (λ (s : Shape). HasFewMembers (tree_of s)) (sym c.index-members-k.is) (member_few ms c.loop-k.k m c.requires.each c.loop-k-test.true) in
    (omega (arith, size), (c.requires.heads, few))
