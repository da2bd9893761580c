-- The scalars of a value in order, from outside in and from first to last.
use Rattle.std.specs.Prelude.{ℕ, zero, suc, ◌==◌, ◌+◌, not, List, [], ◌∷◌, ◌++◌, drop, take, map, flat_map, if◌then◌else◌, slice_index}
use Rattle.std.specs.List.{range_with_len}
use Rattle.spv_module.specs.declared.tree.Elem.{Elem}
use Rattle.spv_module.specs.declared.tree.Elem.TheVariants as elem
use Rattle.spv_module.specs.declared.tree.Length.TheVariants.{Fixed, Spec}
use Rattle.spv_types.specs.Tree.{Tree, boolean, int, uint, vector, array, runtime, struct, Trees, no_trees, tree, ValueTree, truth, word, many, ValueTrees, no_values, value, values_in}
use Rattle.spv_types.specs.Leaves.{leaf_count}

-- the words of a value: of a truth value 1 or 0
abbrev mutual
  pub words_of : ValueTree → List ℕ
  words_of (truth b) = (if b then 1 else 0) ∷ []
  words_of (word w) = w ∷ []
  words_of (many vs) = words_of_all vs

  pub words_of_all : ValueTrees → List ℕ
  words_of_all no_values = []
  words_of_all (value v vs) = words_of v ++ words_of_all vs

-- the scalar that a word is read as: a truth value is true where the word is not 0
abbrev pub truth_from : ℕ → ValueTree
truth_from w = truth (not (w == 0))

abbrev pub elem_from : Elem → ℕ → ValueTree
elem_from elem.Bool w = truth_from w
elem_from elem.Int w = word w
elem_from elem.Uint w = word w

-- so many values, each of as many words
abbrev pub parts_from : (List ℕ → ValueTree) → (words count : ℕ) → List ℕ → List ValueTree
parts_from f words zero ws = []
parts_from f words (suc n) ws = f ws ∷ parts_from f words n (drop words ws)

-- the value of this shape whose words these are; a runtime array, and one whose length is a specialization constant, has none
abbrev mutual
  pub value_from : Tree → List ℕ → ValueTree
  value_from boolean ws = truth_from (slice_index ws 0)
  value_from int ws = word (slice_index ws 0)
  value_from uint ws = word (slice_index ws 0)
  value_from (vector e n) ws = many (values_in (map (elem_from e) (take n ws)))
  value_from (array t (Fixed n)) ws = many (values_in (parts_from (value_from t) (leaf_count t) n ws))
  value_from (array t (Spec id)) ws = many no_values
  value_from (runtime t) ws = many no_values
  value_from (struct id ts) ws = many (values_from ts ws)

  pub values_from : Trees → List ℕ → ValueTrees
  values_from no_trees ws = no_values
  values_from (tree t ts) ws = value (value_from t ws) (values_from ts (drop (leaf_count t) ws))

-- these ways, each behind an index
abbrev pub behind : ℕ → List (List ℕ) → List (List ℕ)
behind i paths = map (λ path. i ∷ path) paths

-- the indexes that lead to each scalar of a shape, in the order of the words
abbrev mutual
  pub scalar_paths : Tree → List (List ℕ)
  scalar_paths boolean = [] ∷ []
  scalar_paths int = [] ∷ []
  scalar_paths uint = [] ∷ []
  scalar_paths (vector e n) = map (λ i. i ∷ []) (range_with_len 0 n)
  scalar_paths (array t (Fixed n)) = flat_map (λ i. behind i (scalar_paths t)) (range_with_len 0 n)
  scalar_paths (array t (Spec id)) = []
  scalar_paths (runtime t) = []
  scalar_paths (struct id ts) = member_paths 0 ts

  -- of the members of a struct from this one on
  pub member_paths : ℕ → Trees → List (List ℕ)
  member_paths k no_trees = []
  member_paths k (tree t ts) = behind k (scalar_paths t) ++ member_paths (k + 1) ts
