-- The value of a shape that is read from words has the shape, where there are as many words as the shape has scalars.
use Rattle.std.proofs.Common.{◌≡◌, ◌≤◌, ◌+◌, ◌*◌, ◌-◌, ℕ, zero, suc, List, [], ◌∷◌, length, map, take, drop, refl, sym, ap, ◌∙◌, subst, true, arith}
use Rattle.std.specs.Prelude.{flat_map}
use Rattle.std.specs.List.{range_with_len}
use Rattle.std.proofs.lemmas.List.{length-append, length-map}
use Rattle.std.proofs.lemmas.List.FromFn.{length-range_with_len}
use Rattle.std.proofs.lemmas.Bool.{and_from}
use Rattle.spv_module.specs.declared.tree.Elem.{Elem}
use Rattle.spv_module.specs.declared.tree.Elem.TheVariants as elem
use Rattle.spv_module.specs.declared.tree.Length.TheVariants.{Fixed, Spec}
use Rattle.spv_types.specs.Tree.{Tree, boolean, int, uint, vector, array, runtime, struct, Trees, no_trees, tree, ValueTree}
use Rattle.spv_types.specs.Leaves.{leaf_count, leaf_counts, IsSized, AreSized}
use Rattle.op_semantics.specs.Fits.{elem_tree, fits, fits_parts}
use Rattle.value_words.specs.Words.{elem_from, parts_from, value_from, values_from, behind, scalar_paths, member_paths}
use Rattle.fits_law.proofs.Parts.{EachFits, of_many}

elem_read : (e : Elem) (w : ℕ) → fits (elem_tree e) (elem_from e w) ≡ true
elem_read elem.Bool w = refl
elem_read elem.Int w = refl
elem_read elem.Uint w = refl

elems_read : (e : Elem) (ws : List ℕ) → EachFits (elem_tree e) (map (elem_from e) ws)
elems_read e [] = tt
elems_read e (w ∷ ws) = (elem_read e w, elems_read e ws)

taken : (n : ℕ) (ws : List ℕ) → n ≤ length ws → length (take n ws) ≡ n
taken zero ws le = refl
taken (suc n) [] le = absurd (omega (arith, le))
taken (suc n) (w ∷ ws) le = ap (λ k. suc k) (taken n ws (let less : n ≤ length ws = omega (arith, le) in less))

dropped : (n : ℕ) (ws : List ℕ) → length (drop n ws) ≡ length ws - n
dropped zero ws = omega arith
dropped (suc n) [] = omega arith
dropped (suc n) (w ∷ ws) = dropped n ws ∙ (let same : length ws - n ≡ suc (length ws) - suc n = omega arith in same)

parts_counted : (f : List ℕ → ValueTree) (k n : ℕ) (ws : List ℕ) → length (parts_from f k n ws) ≡ n
parts_counted f k zero ws = refl
parts_counted f k (suc n) ws = ap (λ m. suc m) (parts_counted f k n (drop k ws))

parts_read : (t : Tree) (f : List ℕ → ValueTree) (k n : ℕ) (ws : List ℕ) → ((us : List ℕ) → k ≤ length us → fits t (f us) ≡ true) → n * k ≤ length ws → EachFits t (parts_from f k n ws)
parts_read t f k zero ws one le = tt
parts_read t f k (suc n) ws one le = (
  one ws (let first : k ≤ length ws = omega (arith, le) in first),
  parts_read t f k n (drop k ws) one (subst (λ m. n * k ≤ m) (sym (dropped k ws)) (let rest : n * k ≤ length ws - k = omega (arith, le) in rest)),
)

mutual
  pub read_fits : (t : Tree) (ws : List ℕ) → IsSized t → leaf_count t ≤ length ws → fits t (value_from t ws) ≡ true
  read_fits boolean ws s le = refl
  read_fits int ws s le = refl
  read_fits uint ws s le = refl
  read_fits (vector e n) ws s le = of_many (elem_tree e) n (map (elem_from e) (take n ws)) (length-map (take n ws) (elem_from e) ∙ taken n ws le) (elems_read e (take n ws))
  read_fits (array t (Fixed n)) ws s le = of_many t n (parts_from (value_from t) (leaf_count t) n ws) (parts_counted (value_from t) (leaf_count t) n ws) (parts_read t (value_from t) (leaf_count t) n ws (λ us. read_fits t us s) le)
  read_fits (array t (Spec id)) ws s le = absurd s
  read_fits (runtime t) ws s le = absurd s
  read_fits (struct id ts) ws s le = reads_fit ts ws s le

  pub reads_fit : (ts : Trees) (ws : List ℕ) → AreSized ts → leaf_counts ts ≤ length ws → fits_parts ts (values_from ts ws) ≡ true
  reads_fit no_trees ws s le = refl
  reads_fit (tree t ts) ws s le =
      and_from (fits t (value_from t ws)) (fits_parts ts (values_from ts (drop (leaf_count t) ws))) (read_fits t ws s.0 (let first : leaf_count t ≤ length ws = omega (arith, le) in first))
      (reads_fit ts (drop (leaf_count t) ws) s.1 (subst (λ m. leaf_counts ts ≤ m) (sym (dropped (leaf_count t) ws)) (let rest : leaf_counts ts ≤ length ws - leaf_count t = omega (arith, le) in rest)))

-- as many scalars as indexes that lead to one
all_behind : (paths : List (List ℕ)) (is : List ℕ) → length (flat_map (λ i. behind i paths) is) ≡ length is * length paths
all_behind paths [] = let same : 0 ≡ 0 * length paths = omega arith in same
all_behind paths (i ∷ is) =
    length-append (behind i paths) (flat_map (λ j. behind j paths) is) ∙ ap (λ m. m + length (flat_map (λ j. behind j paths) is)) (length-map paths (λ path. i ∷ path)) ∙ ap (λ m. length paths + m) (all_behind paths is)
    ∙ (let same : length paths + length is * length paths ≡ suc (length is) * length paths = omega arith in same)

mutual
  pub scalars : (t : Tree) → length (scalar_paths t) ≡ leaf_count t
  scalars boolean = refl
  scalars int = refl
  scalars uint = refl
  scalars (vector e n) = length-map (range_with_len 0 n) (λ i. i ∷ []) ∙ length-range_with_len 0 n
  scalars (array t (Fixed n)) = all_behind (scalar_paths t) (range_with_len 0 n) ∙ ap (λ m. m * length (scalar_paths t)) (length-range_with_len 0 n) ∙ ap (λ m. n * m) (scalars t)
  scalars (array t (Spec id)) = refl
  scalars (runtime t) = refl
  scalars (struct id ts) = member_scalars 0 ts

  pub member_scalars : (k : ℕ) (ts : Trees) → length (member_paths k ts) ≡ leaf_counts ts
  member_scalars k no_trees = refl
  member_scalars k (tree t ts) =
      length-append (behind k (scalar_paths t)) (member_paths (k + 1) ts) ∙ ap (λ m. m + length (member_paths (k + 1) ts)) (length-map (scalar_paths t) (λ path. k ∷ path) ∙ scalars t) ∙ ap (λ m. leaf_count t + m) (member_scalars (k + 1) ts)
