-- The measure of each kind of type, and of one more member.
use Rattle.std.proofs.Common.{◌≡◌, ◌||◌, ℕ, ◌+◌, Bool, is_none, get_or, min, ap, subst, ◌∙◌, arith, drop, refl}
use Rattle.std.proofs.Math.Bool.{or_assoc}
use Rattle.spv_words.specs.declared.rule.Rule.{Rule}
use Rattle.spv_words.specs.declared.rule.Rule.TheVariants.{L1, L2, L3, L6, L7}
use Rattle.spv_types.specs.View.{tree_of, trees_of}
use Rattle.spv_types.proofs.Views.{shape-Bool, shape-Int, shape-Uint, shape-Vector, shape-Struct}
use Rattle.layout_rules.specs.Sizes.{aligned, whole_alignment, size_of}
use Rattle.layout_rules.specs.Parts.{part_id, any_part, any_member}
use Rattle.layout_rules.specs.Rules.{breaks, is_other, lacks_from, others_from}
use Rattle.buffer_layout.specs.Measures.{IsMeasure}
use Rattle.buffer_layout.proofs.Bytes.{capped_aligned, greatest_next, greatest_positive}
use Rattle.buffer_layout.proofs.Steps.{end_before, end_before_next, end_step, lacks_next, others_next, member_next, two_more}
use Rattle.buffer_layout.proofs.Measures.{array_measure, runtime_measure, struct_measure}
use Rattle.buffer_layout.proofs.measure.+measuring.Goals as goal

pub measure-returns-in-Bool : goal.measure-returns-in-Bool
measure-returns-in-Bool t c = rw (ap tree_of c.in-Bool.is ∙ shape-Bool) (c.bool_scalar.ensures c.args.ruler.now.heads c.args.ruler.now.globals c.args.ruler.now.kind c.args.id)

pub measure-returns-in-Int : goal.measure-returns-in-Int
measure-returns-in-Int t c = rw (ap tree_of c.in-Int.is ∙ shape-Int) (c.int_scalar.ensures.int c.args.ruler.now.heads c.args.ruler.now.globals c.args.ruler.now.kind c.args.id)

pub measure-returns-in-Uint : goal.measure-returns-in-Uint
measure-returns-in-Uint t c = rw (ap tree_of c.in-Uint.is ∙ shape-Uint) (c.int_scalar-in-Uint.ensures.uint c.args.ruler.now.heads c.args.ruler.now.globals c.args.ruler.now.kind c.args.id)

pub measure-returns-in-Vector : goal.measure-returns-in-Vector
measure-returns-in-Vector t c = rw (ap tree_of c.in-Vector.is ∙ shape-Vector c.in-Vector.elem c.in-Vector.size) (c.vector.ensures c.args.ruler.now.heads c.args.ruler.now.globals c.args.ruler.now.kind c.args.id)

pub measure-returns-in-Struct : goal.measure-returns-in-Struct
measure-returns-in-Struct t c = rw (ap tree_of c.in-Struct.is ∙ shape-Struct c.in-Struct.field-0 c.in-Struct.members) (rw c.deref-in-Struct.ensures.value at (c.measure_struct.ensures c.in-Struct.field-0.0))

pub measure_members-loop-k-init : goal.measure_members-loop-k-init
measure_members-loop-k-init t c =
    let e = c.leaf-all.ensures in
    record {
      size = e.size;
      greatest = omega (arith, e.alignment, greatest_positive c.args.ruler.now.kind (trees_of c.args.members.now));
      positive = omega (arith, e.alignment);
      small = omega (arith, e.alignment);
      l1 = rw e.l1 refl;
      l2 = rw e.l2 refl;
      l3 = rw e.l3 refl;
      l6 = rw e.l6 refl;
      l7 = rw e.l7 refl;
    }

pub measure_members-loop-k-preserved : goal.measure_members-loop-k-preserved
measure_members-loop-k-preserved t c =
    let heads = c.args.ruler.now.heads in
    let gs = c.args.ruler.now.globals in
    let kind = c.args.ruler.now.kind in
    let id = c.args.id in
    let l = c.args.members.now in
    let i = c.loop-k.k in
    let m = c.index-members-k.result in
    let shape = tree_of (get_or l i m) in
    let all = c.loop-k.all in
    let known = c.loop-k.invariant in
    let found = c.measure-found.result in
    let next = c.with_member-all.result in
    let with = c.with_member-all.ensures in
    let inside = c.loop-k-test.true in
    let end : ℕ = end_before kind l i in
    let is : IsMeasure heads gs kind (part_id gs id i) shape found = subst (λ s. IsMeasure heads gs kind (part_id gs id i) (tree_of s) found) c.index-members-k.is (rw c.part_id.ensures at c.measure-found.ensures) in
    let more = end_before_next kind l i m inside in
    let step : min 4294967296 (aligned all.size found.alignment + min 4294967296 (size_of kind shape)) ≡ min 4294967296 (aligned end found.alignment + size_of kind shape) = end_step (aligned all.size found.alignment) end all.size found.alignment (size_of kind shape) 4294967296 refl known.size in
    let place : min 4294967296 (aligned all.size found.alignment) ≡ min 4294967296 (aligned end found.alignment) = ap (λ n. min 4294967296 (aligned n found.alignment)) known.size ∙ capped_aligned end found.alignment 4294967296 in
    let other = with.l6 (aligned end found.alignment) place in
    let member : (rule : Rule) → any_member (breaks heads kind rule) gs id i (trees_of (drop i l)) ≡ (any_part (breaks heads kind rule) gs (part_id gs id i) shape || any_member (breaks heads kind rule) gs id (i + 1) (trees_of (drop (i + 1) l))) = λ rule. member_next (breaks heads kind rule) gs id i l i m inside in
    let rest : Rule → Bool = λ rule. any_member (breaks heads kind rule) gs id (i + 1) (trees_of (drop (i + 1) l)) in
    let greatest = greatest_next kind l i m inside in
    record {
      size = cc (with.size, is.size, is.alignment, step, more);
      greatest = omega (arith, with.alignment, is.alignment, greatest, known.greatest);
      positive = omega (arith, with.alignment, known.positive);
      small = omega (arith, with.alignment, known.small, is.small);
      l1 = cc (with.l1, is.l1, c.offset_of.ensures, member L1, lacks_next heads id i l i m inside, known.l1, two_more all.lacks_offset (is_none c.offset_of.result) found.lacks_offset (lacks_from heads id (i + 1) (trees_of (drop (i + 1) l))) (rest L1));
      l2 = cc (with.l2, is.l2, member L2, known.l2, or_assoc all.other_stride found.other_stride (rest L2));
      l3 = cc (with.l3, is.l3, member L3, known.l3, or_assoc all.has_bool found.has_bool (rest L3));
      l6 = cc (other, is.l6, is.alignment, c.offset_of.ensures, member L6, others_next heads kind id i end l i m inside, more, known.l6, two_more all.other_offset (is_other c.offset_of.result (aligned end found.alignment)) found.other_offset (others_from heads kind id (i + 1) (end_before kind l (i + 1)) (trees_of (drop (i + 1) l))) (rest L6));
      l7 = cc (with.l7, is.l7, member L7, known.l7, or_assoc all.ends_past found.ends_past (rest L7));
    }

pub measure_array-returns : goal.measure_array-returns
measure_array-returns t c = array_measure c.args.ruler.now.heads c.args.ruler.now.globals c.args.ruler.now.kind c.args.id (tree_of c.args.part.now) c.args.length c.measure_stride-elements.result c.whole.result c.array_size.result c.measure_stride-elements.ensures c.whole.ensures (c.array_size.ensures c.args.ruler.now.kind (tree_of c.args.part.now) c.measure_stride-elements.ensures.size)

pub measure_runtime-returns : goal.measure_runtime-returns
measure_runtime-returns t c = runtime_measure c.args.ruler.now.heads c.args.ruler.now.globals c.args.ruler.now.kind c.args.id (tree_of c.args.part.now) c.measure_stride-elements.result c.whole.result c.measure_stride-elements.ensures c.whole.ensures

pub measure_struct-returns : goal.measure_struct-returns
measure_struct-returns t c =
    let parts = c.measure_members-members.result in
    let size = c.whole_size.ensures ∙ ap (λ kind. min 4294967296 (aligned parts.size (whole_alignment kind parts.alignment))) c.kind.ensures in
    let alignment = c.whole_alignment.ensures.value ∙ ap (λ kind. whole_alignment kind parts.alignment) c.kind-2.ensures in
    λ n. struct_measure c.args.ruler.now.heads c.args.ruler.now.globals c.args.ruler.now.kind c.args.id n (trees_of c.args.members.now) parts c.whole.result c.whole_size.result c.whole_alignment.result c.measure_members-members.ensures c.whole.ensures size alignment c.whole_alignment.ensures.positive c.whole_alignment.ensures.small
