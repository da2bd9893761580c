-- Where the parts of a type stand in a buffer, by std430 and std140 (OpenGL 4.6, section 7.6.2.2, "Standard Uniform Block Layout"): numbers of bytes, without a bound.
use Rattle.std.specs.Prelude.{ℕ, ◌+◌, ◌*◌, ◌==◌, List, [], ◌∷◌, Option, Some, None, max, if◌then◌else◌}
use Rattle.std.specs.Int.{next_multiple_of}
use Rattle.std.specs.Option.{option_map_or}
use Rattle.spv_module.specs.declared.tree.Length.TheVariants.{Fixed, Spec}
use Rattle.spv_types.specs.Tree.{Tree, boolean, int, uint, vector, array, runtime, struct, Trees, no_trees, tree}
use Rattle.layout_rules.specs.declared.Kind.{Kind}
use Rattle.layout_rules.specs.declared.Kind.TheVariants.{Std430, Std140}

-- the next multiple of an alignment, from this byte on
unfoldable pub aligned : ℕ → ℕ → ℕ
aligned n alignment = next_multiple_of n alignment

-- the alignment of an array or a struct, from the greatest of its parts: in std140 rounded up to that of a vec4
abbrev pub whole_alignment : Kind → ℕ → ℕ
whole_alignment Std430 n = n
whole_alignment Std140 n = aligned n 16

-- a vector of three is aligned as one of four
abbrev pub vector_alignment : ℕ → ℕ
vector_alignment n = if n == 2 then 8 else 16

abbrev mutual
  pub alignment_of : Kind → Tree → ℕ
  alignment_of kind boolean = 4
  alignment_of kind int = 4
  alignment_of kind uint = 4
  alignment_of kind (vector e n) = vector_alignment n
  alignment_of kind (array t l) = whole_alignment kind (alignment_of kind t)
  alignment_of kind (runtime t) = whole_alignment kind (alignment_of kind t)
  alignment_of kind (struct id ts) = whole_alignment kind (greatest_alignment kind ts)

  -- the greatest alignment of these members, or 1
  pub greatest_alignment : Kind → Trees → ℕ
  greatest_alignment kind no_trees = 1
  greatest_alignment kind (tree t ts) = max (alignment_of kind t) (greatest_alignment kind ts)

-- an array of Fixed length is that many strides; a runtime array, and one whose length is a specialization constant, counts 0; a struct is rounded up to its alignment
abbrev mutual
  pub size_of : Kind → Tree → ℕ
  size_of kind boolean = 4
  size_of kind int = 4
  size_of kind uint = 4
  size_of kind (vector e n) = 4 * n
  size_of kind (array t (Fixed n)) = n * aligned (size_of kind t) (whole_alignment kind (alignment_of kind t))
  size_of kind (array t (Spec id)) = 0
  size_of kind (runtime t) = 0
  size_of kind (struct id ts) = aligned (end_from kind 0 ts) (whole_alignment kind (greatest_alignment kind ts))

  -- where members end that stand behind this byte: each at the next multiple of its alignment
  pub end_from : Kind → ℕ → Trees → ℕ
  end_from kind end no_trees = end
  end_from kind end (tree t ts) = end_from kind (aligned end (alignment_of kind t) + size_of kind t) ts

-- the stride of an array of these elements: their size, rounded up to the array's alignment
abbrev pub stride_over : Kind → Tree → ℕ
stride_over kind t = aligned (size_of kind t) (whole_alignment kind (alignment_of kind t))

-- the stride of an array; another type has none
abbrev pub stride_of : Kind → Tree → Option ℕ
stride_of kind (array t l) = Some (stride_over kind t)
stride_of kind (runtime t) = Some (stride_over kind t)
stride_of kind _ = None

-- the offsets of members that stand behind this byte
abbrev pub offsets_from : Kind → ℕ → Trees → List ℕ
offsets_from kind end no_trees = []
offsets_from kind end (tree t ts) = aligned end (alignment_of kind t) ∷ offsets_from kind (aligned end (alignment_of kind t) + size_of kind t) ts

-- the offsets of a struct's members; another type has none
abbrev pub offsets_of : Kind → Tree → List ℕ
offsets_of kind (struct id ts) = offsets_from kind 0 ts
offsets_of kind _ = []

-- what there is to say of a type's layout: stride 0 of what is no array, no offsets of what is no struct
pub record TypeLayout : Type 0 where
  pub size : ℕ
  pub align : ℕ
  pub stride : ℕ
  pub offsets : List ℕ

abbrev pub layout_of : Kind → Tree → TypeLayout
layout_of kind t = record {
  size = size_of kind t;
  align = alignment_of kind t;
  stride = option_map_or (λ (n : ℕ). n) (stride_of kind t) 0;
  offsets = offsets_of kind t;
}

abbrev pub no_layout : TypeLayout
no_layout = record { size = 0; align = 0; stride = 0; offsets = [] }

-- zeros where there is no shape
abbrev pub layout_or_zeros : Kind → Option Tree → TypeLayout
layout_or_zeros kind None = no_layout
layout_or_zeros kind (Some t) = layout_of kind t
