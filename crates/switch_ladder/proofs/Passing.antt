-- One block more in the order of a function.
use Rattle.std.proofs.Common.{◌≡◌, ◌≢◌, ◌<◌, ◌+◌, ◌==◌, ◌||◌, ℕ, zero, suc, Bool, true, false, List, [], ◌∷◌, ◌++◌, length, get_or, filter, if◌then◌else◌, Result, Ok, Err, is_ok, refl, ap, sym, ◌∙◌, inl, inr, arith}
use Rattle.std.specs.List.{list_any, range_with_len}
use Rattle.std.specs.List.Sorted.{IsSorted, IsBinarySearchResult}
use Rattle.std.specs.Ordering.{nat_cmp}
use Rattle.std.proofs.lemmas.Bool.{cases_lt, or_right}
use Rattle.std.proofs.lemmas.Bool.Decides.{eqb_tells}
use Rattle.std.proofs.lemmas.List.Sorted.{searched, IsNonDecreasingBy-from_sort}
use Rattle.std.proofs.lemmas.List.Elements.{filter-append}
use Rattle.std.proofs.lemmas.List.Folds.{list_any-append}
use Rattle.list_law.proofs.Lists.{range_end}

one_more : (n : ℕ) → range_with_len 0 (n + 1) ≡ range_with_len 0 n ++ n ∷ []
one_more n =
    let e : n + 1 ≡ suc n = omega arith in
    let z : 0 + n ≡ n = omega arith in
    ap (range_with_len 0) e ∙ (range_end 0 n ∙ ap (λ k. range_with_len 0 n ++ k ∷ []) z)

or_false : (b : Bool) → (b || false) ≡ b
or_false true = refl
or_false false = refl

pub any_more : (p : ℕ → Bool) (n : ℕ) → list_any p (range_with_len 0 (n + 1)) ≡ (list_any p (range_with_len 0 n) || p n)
any_more p n =
    ap (list_any p) (one_more n)
    ∙ (list_any-append p (range_with_len 0 n) (n ∷ []) ∙ ap (λ b. list_any p (range_with_len 0 n) || b) (or_false (p n)))

-- what passes of the blocks before n + 1
pub pass_more : (p : ℕ → Bool) (n : ℕ) (old new : List ℕ) (x : Bool) → old ≡ filter p (range_with_len 0 n) → x ≡ p n → new ≡ old ++ (if x then n ∷ [] else []) → new ≡ filter p (range_with_len 0 (n + 1))
pass_more p n old new x before is more =
    more
    ∙ (ap (λ b. old ++ (if b then n ∷ [] else [])) is
    ∙ (ap (λ r. r ++ (if p n then n ∷ [] else [])) before
    ∙ (sym (filter-append p (range_with_len 0 n) (n ∷ [])) ∙ ap (filter p) (sym (one_more n)))))

-- a block that stands among others, and one that does not
any_at : (xs : List ℕ) (k x : ℕ) → k < length xs → get_or xs k 0 ≡ x → list_any (λ b. b == x) xs ≡ true
any_at [] k x less is = absurd (omega (arith, less))
any_at (y ∷ ys) zero x less is = elim (eqb_tells y x) [ inl w ↦ ap (λ b. b || list_any (λ b. b == x) ys) w.0 | inr w ↦ absurd (w.1 is) ]
any_at (y ∷ ys) (suc k) x less is = or_right (y == x) (list_any (λ b. b == x) ys) (any_at ys k x (omega (arith, less)) is)

none_at : (xs : List ℕ) (x : ℕ) → ((k : ℕ) → k < length xs → get_or xs k 0 ≢ x) → list_any (λ b. b == x) xs ≡ false
none_at [] x never = refl
none_at (y ∷ ys) x never = elim (eqb_tells y x) [
  | inl w ↦ absurd (never 0 (omega arith) w.1)
  | inr w ↦ ap (λ b. b || list_any (λ b. b == x) ys) w.0 ∙ none_at ys x (λ k less. never (suc k) (omega (arith, less)))
]

-- a binary search tells whether it does
pub among : (xs : List ℕ) (x : ℕ) (r : Result ℕ ℕ) → IsSorted nat_cmp xs → IsBinarySearchResult (λ y. nat_cmp y x) xs r → is_ok r ≡ list_any (λ b. b == x) xs
among xs x (Ok k) up found = let at = searched xs x (Ok k) found (λ i j le less. IsNonDecreasingBy-from_sort (λ y. y) xs up i j 0 le less) in sym (any_at xs k x at.0 at.1)
among xs x (Err k) up found =
    let parted = searched xs x (Err k) found (λ i j le less. IsNonDecreasingBy-from_sort (λ y. y) xs up i j 0 le less) in
    sym (none_at xs x (λ j less e. elim (cases_lt j k) [
      | inl before ↦ (let low : get_or xs j 0 < x = parted.1 j before in absurd (omega (arith, low, e)))
      | inr past ↦ (let high : x < get_or xs j 0 = parted.2 j past less in absurd (omega (arith, high, e)))
    ]))
