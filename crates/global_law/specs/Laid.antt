-- When the decorations of a type put its parts where a layout puts them.
use Rattle.std.specs.Prelude.{◌≡◌, ◌+◌, ℕ}
use Rattle.spv_module.specs.declared.tree.Length.TheVariants.{Fixed, Spec}
use Rattle.spv_types.specs.Tree.{Tree, array, runtime, struct, Trees, no_trees, tree}
use Rattle.layout_rules.specs.declared.Kind.{Kind}
use Rattle.layout_rules.specs.Sizes.{aligned, alignment_of, size_of, stride_over}
use Rattle.module_semantics.specs.Setting.{Setting}
use Rattle.module_semantics.specs.Memory.{array_stride, member_offset, part_type}

-- the type with this id and this shape: each array in it has the layout's stride, each member of a struct the layout's offset
abbrev mutual
  pub IsLaidOut : Setting → Kind → ℕ → Tree → Type 0
  IsLaidOut s kind ty (array t l) = (array_stride s ty ≡ stride_over kind t) × ((i : ℕ) → IsLaidOut s kind (part_type s ty i) t)
  IsLaidOut s kind ty (runtime t) = (array_stride s ty ≡ stride_over kind t) × ((i : ℕ) → IsLaidOut s kind (part_type s ty i) t)
  IsLaidOut s kind ty (struct id ts) = AreLaidOut s kind ty 0 0 ts
  IsLaidOut s kind ty _ = Unit {0}

  -- the members from this one on, behind this byte
  pub AreLaidOut : Setting → Kind → ℕ → ℕ → ℕ → Trees → Type 0
  AreLaidOut s kind ty k end no_trees = Unit {0}
  AreLaidOut s kind ty k end (tree t ts) =
      (member_offset s ty k ≡ aligned end (alignment_of kind t)) × IsLaidOut s kind (part_type s ty k) t × AreLaidOut s kind ty (k + 1) (aligned end (alignment_of kind t) + size_of kind t) ts

-- no array in it has a specialization constant as its length
abbrev mutual
  pub HasLengths : Tree → Type 0
  HasLengths (array t (Fixed n)) = HasLengths t
  HasLengths (array t (Spec id)) = ⊥
  HasLengths (runtime t) = HasLengths t
  HasLengths (struct id ts) = HaveLengths ts
  HasLengths _ = Unit {0}

  pub HaveLengths : Trees → Type 0
  HaveLengths no_trees = Unit {0}
  HaveLengths (tree t ts) = HasLengths t × HaveLengths ts
