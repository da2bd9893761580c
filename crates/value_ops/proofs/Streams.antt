-- Values from words, part by part.
use Rattle.std.proofs.Common.{◌≡◌, ◌<◌, ◌≤◌, ◌+◌, ◌-◌, ◌*◌, ◌^◌, ℕ, zero, suc, List, [], ◌∷◌, ◌++◌, refl, ap, sym, ◌∙◌, arith, add-one, append_assoc, map, length, drop, take, get_or, min, replicate, inl, inr}
use Rattle.std.specs.Prelude.{slice_index}
use Rattle.std.proofs.Math.Seq.{drop-cons}
use Rattle.std.proofs.Math.ListN.{drop_of_length-le}
use Rattle.std.proofs.lemmas.Bool.{cases_lt}
use Rattle.std.proofs.lemmas.List.{map-append}
use Rattle.spv_module.specs.declared.tree.Elem.{Elem}
use Rattle.spv_module.specs.declared.tree.Elem.TheVariants as elem
use Rattle.spv_module.specs.declared.tree.Length.TheVariants.{Fixed, Spec}
use Rattle.spv_module.specs.declared.tree.Shape.{Shape}
use Rattle.spv_module.specs.declared.tree.Value.{Value}
use Rattle.spv_types.specs.Tree.{Tree, boolean, int, uint, vector, array, runtime, struct, Trees, no_trees, tree, ValueTree, many, value, values_in}
use Rattle.spv_types.specs.View.{tree_of, trees_of, value_of}
use Rattle.spv_types.specs.Leaves.{leaf_count, leaf_counts, zero_elem, zero_of, zeros_of}
use Rattle.spv_types.proofs.Heads.{rest_next, rest_end}
use Rattle.op_semantics.specs.Component.{listed}
use Rattle.value_words.specs.Words.{elem_from, parts_from, value_from, values_from, words_of, words_of_all}
use Rattle.value_ops.proofs.Lists.{values_listed}
use Rattle.value_ops.proofs.Values.{plain}

-- of more words than there are none are left
pub drop_capped : (ws : List ℕ) (n : ℕ) → drop (min (length ws) n) ws ≡ drop n ws
drop_capped ws n =
    elim (cases_lt n (length ws)) [
      | inl inside ↦ let same : min (length ws) n ≡ n = omega (arith, inside) in ap (λ k. drop k ws) same
      | inr past ↦
          let same : min (length ws) n ≡ length ws = omega (arith, past) in
          let all : length ws ≤ length ws = omega arith in
          ap (λ k. drop k ws) same ∙ drop_of_length-le ws all ∙ sym (drop_of_length-le ws past)
    ]

pub parts_more : (f : List ℕ → ValueTree) (size n k : ℕ) (ws : List ℕ) → k < n → parts_from f size (n - k) ws ≡ f ws ∷ parts_from f size (n - (k + 1)) (drop size ws)
parts_more f size n k ws inside = ap (λ m. parts_from f size m ws) (let e : n - k ≡ suc (n - (k + 1)) = omega (arith, inside) in e)

pub parts_end : (f : List ℕ → ValueTree) (size n : ℕ) (ws : List ℕ) → parts_from f size (n - n) ws ≡ []
parts_end f size n ws = ap (λ m. parts_from f size m ws) (let e : n - n ≡ 0 = omega arith in e)

pub ruleset part_rules = (parts_more, parts_end)

-- one part more is read
pub parts_step : (f : List ℕ → ValueTree) (size n k : ℕ) (vs : List Value) (v : Value) (ws more : List ℕ) (all : List ValueTree) → k < n → value_of v ≡ f ws → more ≡ drop size ws → map value_of vs ++ parts_from f size (n - k) ws ≡ all → map value_of (vs ++ v ∷ []) ++ parts_from f size (n - (k + 1)) more ≡ all
parts_step f size n k vs v ws more all inside is at whole =
    ap (λ l. l ++ parts_from f size (n - (k + 1)) more) (map-append value_of vs (v ∷ []))
    ∙ append_assoc (map value_of vs) (value_of v ∷ []) (parts_from f size (n - (k + 1)) more)
    ∙ ap (λ x. map value_of vs ++ x ∷ parts_from f size (n - (k + 1)) more) is
    ∙ ap (λ w. map value_of vs ++ f ws ∷ parts_from f size (n - (k + 1)) w) at
    ∙ ap (λ l. map value_of vs ++ l) (sym (parts_more f size n k ws inside))
    ∙ whole

pub members_more : (ms : List Shape) (i : ℕ) (d : Shape) (ws : List ℕ) → i < length ms → listed (values_from (trees_of (drop i ms)) ws) ≡ value_from (tree_of (get_or ms i d)) ws ∷ listed (values_from (trees_of (drop (i + 1) ms)) (drop (leaf_count (tree_of (get_or ms i d))) ws))
members_more ms i d ws inside = ap (λ ts. listed (values_from ts ws)) (rest_next ms i d inside)

pub members_end : (ms : List Shape) (i : ℕ) (ws : List ℕ) → length ms ≤ i → listed (values_from (trees_of (drop i ms)) ws) ≡ []
members_end ms i ws past = ap (λ ts. listed (values_from ts ws)) (rest_end ms i past)

pub ruleset member_rules = (members_more, members_end, values_listed)

pub words_more : (vs : List Value) (i : ℕ) (d : Value) → i < length vs → words_of_all (plain (drop i vs)) ≡ words_of (value_of (get_or vs i d)) ++ words_of_all (plain (drop (i + 1) vs))
words_more vs i d inside = ap (λ l. words_of_all (plain l)) (drop-cons vs i d inside) ∙ ap (λ n. words_of (value_of (get_or vs i d)) ++ words_of_all (plain (drop n vs))) (sym (add-one i))

pub words_end : (vs : List Value) (i : ℕ) → length vs ≤ i → words_of_all (plain (drop i vs)) ≡ []
words_end vs i past = ap (λ l. words_of_all (plain l)) (drop_of_length-le vs past)

pub ruleset word_rules = (words_more, words_end, append_assoc)

-- the value of words that are 0
abbrev zeros : ℕ → List ℕ
zeros m = replicate m 0

first_zero : (m : ℕ) → slice_index (zeros m) 0 ≡ 0
first_zero zero = refl
first_zero (suc m) = refl

drop_zeros : (n m : ℕ) → drop n (zeros m) ≡ zeros (m - n)
drop_zeros zero m = ap (λ k. zeros k) (let e : m ≡ m - 0 = omega arith in e)
drop_zeros (suc n) zero = ap (λ k. zeros k) (let e : 0 ≡ 0 - suc n = omega arith in e)
drop_zeros (suc n) (suc m) = drop_zeros n m ∙ ap (λ k. zeros k) (let e : m - n ≡ suc m - suc n = omega arith in e)

elem_zero : (e : Elem) → elem_from e 0 ≡ zero_elem e
elem_zero elem.Bool = refl
elem_zero elem.Int = refl
elem_zero elem.Uint = refl

elem_zeros : (e : Elem) (n m : ℕ) → n ≤ m → map (elem_from e) (take n (zeros m)) ≡ replicate n (zero_elem e)
elem_zeros e zero m enough = refl
elem_zeros e (suc n) zero enough = absurd (omega arith)
elem_zeros e (suc n) (suc m) enough = ap (λ v. v ∷ map (elem_from e) (take n (zeros m))) (elem_zero e) ∙ ap (λ vs. zero_elem e ∷ vs) (elem_zeros e n m (omega arith))

part_zeros : (f : List ℕ → ValueTree) (size : ℕ) (z : ValueTree) (n m : ℕ) → ((k : ℕ) → size ≤ k → f (zeros k) ≡ z) → n * size ≤ m → parts_from f size n (zeros m) ≡ replicate n z
part_zeros f size z zero m same enough = refl
part_zeros f size z (suc n) m same enough =
    let one : size ≤ m = omega arith in
    let rest : n * size ≤ m - size = omega arith in
    ap (λ v. v ∷ parts_from f size n (drop size (zeros m))) (same m one)
    ∙ ap (λ ws. z ∷ parts_from f size n ws) (drop_zeros size m)
    ∙ ap (λ vs. z ∷ vs) (part_zeros f size z n (m - size) same rest)

mutual
  zero_from : (t : Tree) (m : ℕ) → leaf_count t ≤ m → value_from t (zeros m) ≡ zero_of t
  zero_from boolean m enough = ap (elem_from elem.Bool) (first_zero m)
  zero_from int m enough = ap (elem_from elem.Int) (first_zero m)
  zero_from uint m enough = ap (elem_from elem.Uint) (first_zero m)
  zero_from (vector e n) m enough = ap (λ vs. many (values_in vs)) (elem_zeros e n m enough)
  zero_from (array t (Fixed n)) m enough = ap (λ vs. many (values_in vs)) (part_zeros (value_from t) (leaf_count t) (zero_of t) n m (λ k few. zero_from t k few) enough)
  zero_from (array t (Spec id)) m enough = refl
  zero_from (runtime t) m enough = refl
  zero_from (struct id ts) m enough = ap many (zeros_from ts m enough)

  zeros_from : (ts : Trees) (m : ℕ) → leaf_counts ts ≤ m → values_from ts (zeros m) ≡ zeros_of ts
  zeros_from no_trees m enough = refl
  zeros_from (tree t ts) m enough =
      let one : leaf_count t ≤ m = omega arith in
      let rest : leaf_counts ts ≤ m - leaf_count t = omega arith in
      ap (λ v. value v (values_from ts (drop (leaf_count t) (zeros m)))) (zero_from t m one)
      ∙ ap (λ ws. value (zero_of t) (values_from ts ws)) (drop_zeros (leaf_count t) m)
      ∙ ap (value (zero_of t)) (zeros_from ts (m - leaf_count t) rest)

pub zero_words : (t : Tree) (n : ℕ) → n ≡ min (2 ^ 64 - 1) (leaf_count t) → n < 2 ^ 63 → value_from t (zeros n) ≡ zero_of t
zero_words t n capped few =
    let enough : leaf_count t ≤ n = omega (arith, capped, few) in
    zero_from t n enough

pub ruleset zero_rules = (zero_words)
