-- Indexes that stay inside of a type.
use Rattle.std.specs.Prelude.{ℕ, ◌≡◌, ◌<◌, ◌+◌, ◌^◌, List, [], ◌∷◌, Some}
use Rattle.spv_module.specs.declared.tree.Length.TheVariants.{Fixed}
use Rattle.spv_types.specs.Tree.{Tree, vector, array, runtime, struct, Trees, no_trees, tree}
use Rattle.module_semantics.specs.Setting.{Setting}
use Rattle.fits_law.specs.State.{element_shape}
use Rattle.global_law.specs.Parts.{IsInside}
use Rattle.glsl_semantics.specs.Places.{part_tree}

abbrev pub count_of : Trees → ℕ
count_of no_trees = 0
count_of (tree t ts) = 1 + count_of ts

-- the index leads to a part of a type that has a size
abbrev pub IsIn : Tree → ℕ → Type 0
IsIn (vector e n) i = i < n
IsIn (array t (Fixed n)) i = i < n
IsIn (struct id ts) i = i < count_of ts
IsIn _ i = ⊥

abbrev pub Reaches : Tree → List ℕ → Type 0
Reaches t [] = Unit {0}
Reaches t (i ∷ is) = IsIn t i × Reaches (part_tree t i) is

-- the indexes lead along parts that are there, and into a runtime array below 2 ^ 31
abbrev pub IsShort : Tree → ℕ → Type 0
IsShort (runtime t) i = i < 2 ^ 31
IsShort _ i = Unit {0}

abbrev pub Along : Setting → Tree → List ℕ → Type 0
Along s t [] = Unit {0}
Along s t (i ∷ is) = (u : Tree) × (element_shape t i ≡ Some u) × IsInside s t i × IsShort t i × Along s u is

-- each of these ways does
abbrev pub AllAlong : Setting → Tree → List (List ℕ) → Type 0
AllAlong s t [] = Unit {0}
AllAlong s t (w ∷ ws) = Along s t w × AllAlong s t ws
