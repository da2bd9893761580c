-- Components that are picked from two vectors.
use Rattle.std.proofs.Common.{◌≡◌, ◌<◌, ◌≤◌, ◌-◌, ◌==◌, ℕ, zero, suc, false, List, [], ◌∷◌, ◌++◌, refl, ap, ◌∙◌, arith, map, length}
use Rattle.std.specs.Prelude.{Some, option_map, if◌then◌else◌, slice_get}
use Rattle.std.proofs.lemmas.Bool.Decides.{nat_tests}
use Rattle.std.proofs.lemmas.Option.{slice_get-map}
use Rattle.spv_module.specs.declared.tree.Elem.{Elem}
use Rattle.spv_module.specs.declared.tree.Value.{Value}
use Rattle.spv_types.specs.Tree.{vector, ValueTree, truth, word, many, values_in}
use Rattle.spv_types.specs.View.{value_of}
use Rattle.spv_types.specs.Leaves.{zero_elem}
use Rattle.op_semantics.specs.Component.{listed, composite, each_one}
use Rattle.op_semantics.specs.Composite.{picked, shuffled}
use Rattle.value_ops.specs.Shuffled.{shuffled_by}
use Rattle.value_ops.proofs.Lists.{listed_values}

get_first : (xs : List Value) (ys : List ValueTree) (n : ℕ) → n < length xs → slice_get (map value_of xs ++ ys) n ≡ option_map value_of (slice_get xs n)
get_first [] ys n inside = absurd (omega arith)
get_first (x ∷ xs) ys zero inside = refl
get_first (x ∷ xs) ys (suc n) inside = get_first xs ys n (omega arith)

get_second : (xs : List Value) (ys : List ValueTree) (n : ℕ) → length xs ≤ n → slice_get (map value_of xs ++ ys) n ≡ slice_get ys (n - length xs)
get_second [] ys n past = ap (slice_get ys) (let same : n ≡ n - 0 = omega arith in same)
get_second (x ∷ xs) ys zero past = absurd (omega arith)
get_second (x ∷ xs) ys (suc n) past = get_second xs ys n (omega arith) ∙ ap (slice_get ys) (let same : n - length xs ≡ suc n - suc (length xs) = omega arith in same)

pub picked_zero : (z : ValueTree) (vs : List ValueTree) → picked z vs 4294967295 ≡ Some z
picked_zero z vs = refl

picked_other : (z : ValueTree) (vs : List ValueTree) (n : ℕ) → (n ≡ 4294967295 → ⊥) → picked z vs n ≡ slice_get vs n
picked_other z vs n other = ap (λ b. if b then Some z else slice_get vs n) (let e : (n == 4294967295) ≡ false = grind (arith, nat_tests, other) in e)

pub picked_first : (z : ValueTree) (xs ys : List Value) (n : ℕ) → (n ≡ 4294967295 → ⊥) → n < length xs → picked z (map value_of xs ++ map value_of ys) n ≡ option_map value_of (slice_get xs n)
picked_first z xs ys n other inside = picked_other z (map value_of xs ++ map value_of ys) n other ∙ get_first xs (map value_of ys) n inside

pub picked_second : (z : ValueTree) (xs ys : List Value) (n : ℕ) → (n ≡ 4294967295 → ⊥) → length xs ≤ n → picked z (map value_of xs ++ map value_of ys) n ≡ option_map value_of (slice_get ys (n - length xs))
picked_second z xs ys n other past = picked_other z (map value_of xs ++ map value_of ys) n other ∙ get_second xs (map value_of ys) n past ∙ slice_get-map value_of ys (n - length xs)

pub ruleset picked_rules = (picked_zero, picked_first, picked_second)

pub shuffle_sized : (e : Elem) (picks : List ℕ) (xs ys : List Value) → shuffled_by e picks (many (values_in (map value_of xs))) (many (values_in (map value_of ys))) ≡ option_map composite (each_one (picked (zero_elem e) (map value_of xs ++ map value_of ys)) picks)
shuffle_sized e picks xs ys =
    ap (λ l. option_map composite (each_one (picked (zero_elem e) (l ++ listed (values_in (map value_of ys)))) picks)) (listed_values (map value_of xs))
    ∙ ap (λ l. option_map composite (each_one (picked (zero_elem e) (map value_of xs ++ l)) picks)) (listed_values (map value_of ys))

pub ruleset shuffle_rules = (shuffle_sized)

pub shuffle_is : (e : Elem) (n : ℕ) (picks : List ℕ) (a b : ValueTree) → shuffled (vector e n) picks a b ≡ shuffled_by e picks a b
shuffle_is e n picks (truth a) b = refl
shuffle_is e n picks (word a) b = refl
shuffle_is e n picks (many xs) (truth b) = refl
shuffle_is e n picks (many xs) (word b) = refl
shuffle_is e n picks (many xs) (many ys) = refl
