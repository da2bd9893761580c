-- What is measured of a type by a layout. Sizes are counted up to 2 ^ 32.
use Rattle.std.specs.Prelude.{ℕ, ◌≡◌, ◌+◌, ◌<◌, ◌≤◌, ◌||◌, List, Option, is_none, min, max, nat_lt}
use Rattle.spv_words.specs.declared.rule.Rule.TheVariants.{L1, L2, L3, L6, L7}
use Rattle.spv_ops.specs.Enumerants.{decoration_number}
use Rattle.spv_ops.specs.declared.Decoration.TheVariants as decoration
use Rattle.spv_module.specs.declared.inst.Inst.{Inst}
use Rattle.spv_types.specs.Tree.{Tree, Trees}
use Rattle.spv_decor.specs.Rows.{value_of}
use Rattle.layout_rules.specs.declared.Kind.{Kind}
use Rattle.layout_rules.specs.Sizes.{aligned, alignment_of, greatest_alignment, whole_alignment, size_of, end_from, stride_over}
use Rattle.layout_rules.specs.Parts.{part_id, any_part, any_member}
use Rattle.layout_rules.specs.Blocks.{Member, breaks_inside}
use Rattle.layout_rules.specs.Rules.{breaks, is_not, is_other, is_past, lacks_from, others_from}
use Rattle.buffer_layout.specs.declared.measure.Measured.{Measured}

-- of a type from that of its parts, its size and its alignment
pub record IsWhole (parts : Measured) (bytes multiple : ℕ) (m : Measured) : Type 0 where
  pub size : m.size ≡ bytes
  pub alignment : m.alignment ≡ multiple
  pub l1 : m.lacks_offset ≡ parts.lacks_offset
  pub l2 : m.other_stride ≡ parts.other_stride
  pub l3 : m.has_bool ≡ parts.has_bool
  pub l6 : m.other_offset ≡ parts.other_offset
  pub l7 : m.ends_past ≡ (nat_lt 4294967295 bytes || parts.ends_past)

-- of members, the last of which has this Offset
pub record IsWithMember (before member : Measured) (offset : Option ℕ) (m : Measured) : Type 0 where
  pub size : m.size ≡ min 4294967296 (aligned before.size member.alignment + member.size)
  pub alignment : m.alignment ≡ max before.alignment member.alignment
  pub l1 : m.lacks_offset ≡ (before.lacks_offset || (is_none offset || member.lacks_offset))
  pub l2 : m.other_stride ≡ (before.other_stride || member.other_stride)
  pub l3 : m.has_bool ≡ (before.has_bool || member.has_bool)
  pub l6 : (n : ℕ) → min 4294967296 (aligned before.size member.alignment) ≡ min 4294967296 n → m.other_offset ≡ (before.other_offset || (is_other offset n || member.other_offset))
  pub l7 : m.ends_past ≡ (before.ends_past || member.ends_past)

-- of the type with this id and this shape: its size and alignment, and which rules it or a part of it breaks
pub record IsMeasure (heads gs : List Inst) (kind : Kind) (id : ℕ) (t : Tree) (m : Measured) : Type 0 where
  pub size : m.size ≡ min 4294967296 (size_of kind t)
  pub alignment : m.alignment ≡ alignment_of kind t
  pub positive : 0 < m.alignment
  pub small : m.alignment ≤ 16
  pub l1 : m.lacks_offset ≡ any_part (breaks heads kind L1) gs id t
  pub l2 : m.other_stride ≡ any_part (breaks heads kind L2) gs id t
  pub l3 : m.has_bool ≡ any_part (breaks heads kind L3) gs id t
  pub l6 : m.other_offset ≡ any_part (breaks heads kind L6) gs id t
  pub l7 : m.ends_past ≡ any_part (breaks heads kind L7) gs id t

-- of an array with this id, whose elements are of this type, as if one stride were its size
pub record IsMeasureOfStride (heads gs : List Inst) (kind : Kind) (id : ℕ) (t : Tree) (m : Measured) : Type 0 where
  pub size : m.size ≡ min 4294967296 (stride_over kind t)
  pub alignment : m.alignment ≡ whole_alignment kind (alignment_of kind t)
  pub positive : 0 < m.alignment
  pub small : m.alignment ≤ 16
  pub l1 : m.lacks_offset ≡ any_part (breaks heads kind L1) gs (part_id gs id 0) t
  pub l2 : m.other_stride ≡ (is_not (value_of heads id (decoration_number decoration.ArrayStride)) (stride_over kind t) || any_part (breaks heads kind L2) gs (part_id gs id 0) t)
  pub l3 : m.has_bool ≡ any_part (breaks heads kind L3) gs (part_id gs id 0) t
  pub l6 : m.other_offset ≡ any_part (breaks heads kind L6) gs (part_id gs id 0) t
  pub l7 : m.ends_past ≡ (is_past (stride_over kind t) || any_part (breaks heads kind L7) gs (part_id gs id 0) t)

-- of the members of a struct with this id, which are of these types: their end and greatest alignment
pub record IsMeasureOfMembers (heads gs : List Inst) (kind : Kind) (id : ℕ) (ts : Trees) (m : Measured) : Type 0 where
  pub size : m.size ≡ min 4294967296 (end_from kind 0 ts)
  pub alignment : m.alignment ≡ greatest_alignment kind ts
  pub positive : 0 < m.alignment
  pub small : m.alignment ≤ 16
  pub l1 : m.lacks_offset ≡ (lacks_from heads id 0 ts || any_member (breaks heads kind L1) gs id 0 ts)
  pub l2 : m.other_stride ≡ any_member (breaks heads kind L2) gs id 0 ts
  pub l3 : m.has_bool ≡ any_member (breaks heads kind L3) gs id 0 ts
  pub l6 : m.other_offset ≡ (others_from heads kind id 0 0 ts || any_member (breaks heads kind L6) gs id 0 ts)
  pub l7 : m.ends_past ≡ any_member (breaks heads kind L7) gs id 0 ts

-- of a member's type
pub record IsMeasureOfMember (heads gs : List Inst) (kind : Kind) (member : Member) (m : Measured) : Type 0 where
  pub l1 : m.lacks_offset ≡ breaks_inside heads gs kind L1 member
  pub l2 : m.other_stride ≡ breaks_inside heads gs kind L2 member
  pub l3 : m.has_bool ≡ breaks_inside heads gs kind L3 member
  pub l6 : m.other_offset ≡ breaks_inside heads gs kind L6 member
  pub l7 : m.ends_past ≡ breaks_inside heads gs kind L7 member
