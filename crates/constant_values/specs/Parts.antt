-- Parts of composites.
use Rattle.std.specs.Prelude.{ℕ, zero, suc, ◌&&◌, Bool, false, nat_lt, Option, Some, None}
use Rattle.std.specs.Option.{option_map_or}
use Rattle.spv_module.specs.declared.tree.Length.{Length}
use Rattle.spv_module.specs.declared.tree.Length.TheVariants.{Fixed, Spec}
use Rattle.spv_types.specs.Tree.{Tree, vector, array, struct, Trees, no_trees, tree, ValueTree}
use Rattle.op_semantics.specs.Fits.{fits, elem_tree}

-- member i, where there is one
abbrev pub nth_tree : Trees → ℕ → Option Tree
nth_tree no_trees i = None
nth_tree (tree t ts) zero = Some t
nth_tree (tree t ts) (suc i) = nth_tree ts i

abbrev pub array_part_fits : Tree → Length → ℕ → ValueTree → Bool
array_part_fits t (Fixed n) i v = nat_lt i n && fits t v
array_part_fits t (Spec id) i v = false

abbrev pub member_fits : Trees → ℕ → ValueTree → Bool
member_fits ts i v = option_map_or (λ t. fits t v) (nth_tree ts i) false

-- a value has the shape of part i
abbrev pub part_fits : Tree → ℕ → ValueTree → Bool
part_fits (vector e n) i v = nat_lt i n && fits (elem_tree e) v
part_fits (array t l) i v = array_part_fits t l i v
part_fits (struct id ts) i v = member_fits ts i v
part_fits _ i v = false
