-- The sizes, alignments, strides and offsets of types.
use Rattle.std.proofs.Common.{◌≡◌, ℕ, List, [], ◌∷◌, refl}
use Rattle.spv_module.specs.declared.tree.Elem.TheVariants.{Uint}
use Rattle.spv_module.specs.declared.tree.Length.TheVariants.{Fixed}
use Rattle.spv_types.specs.Tree.{Tree, int, uint, vector, array, runtime, struct, trees_in}
use Rattle.layout_rules.specs.declared.Kind.TheVariants.{Std430, Std140}
use Rattle.layout_rules.specs.Sizes.{TypeLayout, aligned, layout_of}

abbrev made : ℕ → ℕ → ℕ → List ℕ → TypeLayout
made size align stride offsets = record { size = size; align = align; stride = stride; offsets = offsets }

abbrev uvec2 : Tree
uvec2 = vector Uint 2

abbrev uvec3 : Tree
uvec3 = vector Uint 3

a_scalar : layout_of Std430 int ≡ made 4 4 0 []
unfolding aligned
a_scalar = refl

vectors : (layout_of Std430 uvec2 ≡ made 8 8 0 []) × (layout_of Std430 uvec3 ≡ made 12 16 0 []) × (layout_of Std140 (vector Uint 4) ≡ made 16 16 0 [])
unfolding aligned
vectors = (refl, refl, refl)

-- arrays: of scalars, of vectors of three, of arrays, and a runtime array
uint_array : (layout_of Std430 (array uint (Fixed 3)) ≡ made 12 4 4 []) × (layout_of Std140 (array uint (Fixed 3)) ≡ made 48 16 16 [])
unfolding aligned
uint_array = (refl, refl)

uvec3_array : (layout_of Std430 (array uvec3 (Fixed 5)) ≡ made 80 16 16 []) × (layout_of Std140 (array uvec3 (Fixed 5)) ≡ made 80 16 16 [])
unfolding aligned
uvec3_array = (refl, refl)

array_of_arrays : (layout_of Std430 (array (array uint (Fixed 2)) (Fixed 3)) ≡ made 24 4 8 []) × (layout_of Std140 (array (array uint (Fixed 2)) (Fixed 3)) ≡ made 96 16 32 [])
unfolding aligned
array_of_arrays = (refl, refl)

runtime_array : (layout_of Std430 (runtime uvec2) ≡ made 0 8 8 []) × (layout_of Std140 (runtime uvec2) ≡ made 0 16 16 [])
unfolding aligned
runtime_array = (refl, refl)

-- a struct of a uint and a uvec2, and one that holds a uint, two of these, and a uint
abbrev inner : Tree
inner = struct 5 (trees_in (uint ∷ uvec2 ∷ []))

abbrev outer : Tree
outer = struct 6 (trees_in (uint ∷ array inner (Fixed 2) ∷ uint ∷ []))

structs_430 : (layout_of Std430 inner ≡ made 16 8 0 (0 ∷ 8 ∷ [])) × (layout_of Std430 outer ≡ made 48 8 0 (0 ∷ 8 ∷ 40 ∷ []))
unfolding aligned
structs_430 = (refl, refl)

structs_140 : (layout_of Std140 inner ≡ made 16 16 0 (0 ∷ 8 ∷ [])) × (layout_of Std140 outer ≡ made 64 16 0 (0 ∷ 16 ∷ 48 ∷ []))
unfolding aligned
structs_140 = (refl, refl)

-- a struct is rounded up to its alignment, and what follows a uvec3 may fill its last four bytes
rounded : (layout_of Std430 (struct 7 (trees_in (uvec3 ∷ uint ∷ uint ∷ []))) ≡ made 32 16 0 (0 ∷ 12 ∷ 16 ∷ [])) × (layout_of Std140 (struct 8 (trees_in (uint ∷ []))) ≡ made 16 16 0 (0 ∷ []))
unfolding aligned
rounded = (refl, refl)

-- sizes have no bound
large : layout_of Std140 (array (array uint (Fixed 4294967295)) (Fixed 4294967295)) ≡ made 295147905041913872400 16 68719476720 []
unfolding aligned
large = refl
