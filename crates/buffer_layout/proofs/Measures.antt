-- The measures of arrays and structs from those of their parts.
use Rattle.std.proofs.Common.{◌≡◌, ◌≤◌, ◌<◌, ◌||◌, ℕ, Bool, true, false, List, refl, ap, sym, ◌∙◌, min, nat_lt}
use Rattle.std.proofs.Math.Bool.{or_assoc}
use Rattle.spv_words.specs.declared.rule.Rule.TheVariants.{L7}
use Rattle.spv_module.specs.declared.inst.Inst.{Inst}
use Rattle.spv_module.specs.declared.tree.Length.{Length}
use Rattle.spv_types.specs.Tree.{Tree, array, runtime, struct, Trees}
use Rattle.layout_rules.specs.declared.Kind.{Kind}
use Rattle.layout_rules.specs.Sizes.{aligned, whole_alignment, greatest_alignment, size_of, stride_over, end_from}
use Rattle.layout_rules.specs.Parts.{part_id, any_part, any_member}
use Rattle.layout_rules.specs.Rules.{breaks, is_past}
use Rattle.buffer_layout.specs.declared.measure.Measured.{Measured}
use Rattle.buffer_layout.specs.Measures.{IsWhole, IsMeasure, IsMeasureOfStride, IsMeasureOfMembers}
use Rattle.buffer_layout.proofs.Bytes.{capped_aligned}
use Rattle.buffer_layout.proofs.Steps.{capped_past}

or_none : (a c : Bool) → (a || c) ≡ ((a || false) || c)
or_none true c = refl
or_none false c = refl

-- the end is past the last byte
past : (size n : ℕ) → size ≡ min 4294967296 n → nat_lt 4294967295 size ≡ is_past n
past size n e = rw e (sym (capped_past n))

pub array_measure : (heads gs : List Inst) (kind : Kind) (id : ℕ) (t : Tree) (l : Length) (e m : Measured) (size : ℕ) → IsMeasureOfStride heads gs kind id t e → IsWhole e size e.alignment m → size ≡ min 4294967296 (size_of kind (array t l)) → IsMeasure heads gs kind id (array t l) m
unfolding breaks
array_measure heads gs kind id t l e m size h w s = record {
  size = w.size ∙ s;
  alignment = w.alignment ∙ h.alignment;
  positive = rw w.alignment h.positive;
  small = rw w.alignment h.small;
  l1 = w.l1 ∙ h.l1;
  l2 = w.l2 ∙ h.l2;
  l3 = w.l3 ∙ h.l3;
  l6 = w.l6 ∙ h.l6;
  l7 = w.l7 ∙ (rw (past size (size_of kind (array t l)) s, h.l7) (sym (or_assoc (is_past (size_of kind (array t l))) (is_past (stride_over kind t)) (any_part (breaks heads kind L7) gs (part_id gs id 0) t))));
}

pub runtime_measure : (heads gs : List Inst) (kind : Kind) (id : ℕ) (t : Tree) (e m : Measured) → IsMeasureOfStride heads gs kind id t e → IsWhole e 0 e.alignment m → IsMeasure heads gs kind id (runtime t) m
unfolding breaks
runtime_measure heads gs kind id t e m h w = record {
  size = w.size;
  alignment = w.alignment ∙ h.alignment;
  positive = rw w.alignment h.positive;
  small = rw w.alignment h.small;
  l1 = w.l1 ∙ h.l1;
  l2 = w.l2 ∙ h.l2;
  l3 = w.l3 ∙ h.l3;
  l6 = w.l6 ∙ h.l6;
  l7 = w.l7 ∙ h.l7;
}

pub struct_measure : (heads gs : List Inst) (kind : Kind) (id n : ℕ) (ts : Trees) (e m : Measured) (size alignment : ℕ) → IsMeasureOfMembers heads gs kind id ts e → IsWhole e size alignment m → size ≡ min 4294967296 (aligned e.size (whole_alignment kind e.alignment)) → alignment ≡ whole_alignment kind e.alignment → 0 < alignment → alignment ≤ 16 → IsMeasure heads gs kind id (struct n ts) m
unfolding breaks
struct_measure heads gs kind id n ts e m size alignment h w s a positive small =
    let cut : size ≡ min 4294967296 (size_of kind (struct n ts)) = s ∙ (rw (h.size, h.alignment) (capped_aligned (end_from kind 0 ts) (whole_alignment kind (greatest_alignment kind ts)) 4294967296)) in
    record {
      size = w.size ∙ cut;
      alignment = w.alignment ∙ (a ∙ ap (whole_alignment kind) h.alignment);
      positive = rw w.alignment positive;
      small = rw w.alignment small;
      l1 = w.l1 ∙ h.l1;
      l2 = w.l2 ∙ h.l2;
      l3 = w.l3 ∙ h.l3;
      l6 = w.l6 ∙ h.l6;
      l7 = w.l7 ∙ (rw (past size (size_of kind (struct n ts)) cut, h.l7) (or_none (is_past (size_of kind (struct n ts))) (any_member (breaks heads kind L7) gs id 0 ts)));
    }

pub ruleset stride_rules = (capped_aligned, capped_past)
