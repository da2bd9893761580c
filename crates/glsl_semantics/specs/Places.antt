-- Places in memory: where the parts of a block and of a shared variable lie (GLSL 4.60, section 4.4.5: `offset`, std430 and std140).
use Rattle.std.specs.Prelude.{ℕ, zero, suc, ◌+◌, ◌*◌, List, [], ◌∷◌, ◌++◌, map, slice_index}
use Rattle.spv_module.specs.declared.tree.Elem.TheVariants as elem
use Rattle.spv_types.specs.Tree.{Tree, uint, vector, array, runtime, struct, Trees, no_trees, tree}
use Rattle.layout_rules.specs.declared.Kind.{Kind}
use Rattle.layout_rules.specs.Sizes.{stride_over, offsets_of}
use Rattle.value_words.specs.Words.{scalar_paths}
use Rattle.traces.specs.Events as location
use Rattle.traces.specs.Events.{Location}
use Rattle.op_semantics.specs.Fits.{elem_tree}

-- where something begins: at a byte of a buffer or of the push constants, with the layout of its block; or in a shared variable, by the variable's number and the indexes that lead there
pub data Site : Type 0 where
  in_buffer : (set binding : ℕ) → Kind → (byte : ℕ) → Site
  in_push : Kind → (byte : ℕ) → Site
  in_shared : (variable : ℕ) → List ℕ → Site

-- how many bytes a part lies behind the first byte of the whole
abbrev pub part_bytes : Kind → Tree → ℕ → ℕ
part_bytes kind (vector e n) i = i * 4
part_bytes kind (array t l) i = i * stride_over kind t
part_bytes kind (runtime t) i = i * stride_over kind t
part_bytes kind (struct id ts) i = slice_index (offsets_of kind (struct id ts)) i
part_bytes kind _ i = 0

-- where a part of what begins at the site begins
abbrev pub part_site : Tree → ℕ → Site → Site
part_site t i (in_buffer set binding kind byte) = in_buffer set binding kind (byte + part_bytes kind t i)
part_site t i (in_push kind byte) = in_push kind (byte + part_bytes kind t i)
part_site t i (in_shared k path) = in_shared k (path ++ i ∷ [])

-- the type of a part
abbrev pub nth_tree : Trees → ℕ → Tree
nth_tree no_trees i = uint
nth_tree (tree t ts) zero = t
nth_tree (tree t ts) (suc i) = nth_tree ts i

abbrev pub part_tree : Tree → ℕ → Tree
part_tree (vector e n) i = elem_tree e
part_tree (array t l) i = t
part_tree (runtime t) i = t
part_tree (struct id ts) i = nth_tree ts i
part_tree t i = t

abbrev pub site_along : Tree → List ℕ → Site → Site
site_along t [] at = at
site_along t (i ∷ is) at = site_along (part_tree t i) is (part_site t i at)

-- where the scalar lies that begins here
abbrev pub location_of : Site → Location
location_of (in_buffer set binding kind byte) = location.buffer set binding byte
location_of (in_push kind byte) = location.push byte
location_of (in_shared k path) = location.shared k path

-- where the scalars of something of this type lie, in order
abbrev pub locations : Tree → Site → List Location
locations t at = map (λ path. location_of (site_along t path at)) (scalar_paths t)
