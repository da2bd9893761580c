-- A binary search in words that rise.
use Rattle.std.proofs.Common.{◌≡◌, ◌<◌, ◌+◌, not, ℕ, zero, suc, true, false, List, [], ◌∷◌, length, get_or, Ok, Err, Result, Ordering, bytes_eq, refl, sym, ap, subst, ◌∙◌, inl, inr, arith}
use Rattle.std.specs.Prelude.{is_ok}
use Rattle.std.specs.Borrow.{Bor}
use Rattle.std.specs.Cmp.Lexicographic.{slice_cmp}
use Rattle.std.specs.List.{list_any, HoldsAt}
use Rattle.std.specs.List.Sorted.{IsBinarySearchResult, IsSearchInRange, IsSortedBy}
use Rattle.std.specs.Ordering.{nat_cmp, is_lt, is_eq}
use Rattle.std.specs.declared.cmp.Ordering.TheVariants.{Less, Equal, Greater}
use Rattle.std.proofs.lemmas.Bool.{and_parts, not-true, cases_lt}
use Rattle.std.proofs.lemmas.Cmp.{nat_list_cmp_total, nat_list_eq_equiv}
use Rattle.std.proofs.lemmas.List.Folds.{list_any_at, list_any_none}
use Rattle.std.proofs.lemmas.List.Sorted.{searchable_from_sorted}
use Rattle.std.proofs.lemmas.Map.Text.{is_eq-slice_cmp}
use Rattle.word_search.specs.Words.{Text, is_rising}

rises : (ws : List (Bor Text)) → is_rising ws ≡ true → IsSortedBy (λ (a b : Bor Text). is_lt (slice_cmp nat_cmp a.now b.now)) ws
rises [] h k d low high = absurd (omega (arith, high))
rises (v ∷ []) h k d low high = absurd (omega (arith, high))
rises (v ∷ w ∷ ws) h zero d low high = not-true (is_lt (slice_cmp nat_cmp w.now v.now)) (and_parts (not (is_lt (slice_cmp nat_cmp w.now v.now))) (is_rising (w ∷ ws)) h).0
rises (v ∷ w ∷ ws) h (suc k) d low high =
    let rest = (and_parts (not (is_lt (slice_cmp nat_cmp w.now v.now))) (is_rising (w ∷ ws)) h).1 in
    let e : suc (k + 1) ≡ suc k + 1 = omega arith in
    subst (λ j. is_lt (slice_cmp nat_cmp (get_or (v ∷ w ∷ ws) j d).now (get_or (w ∷ ws) k d).now) ≡ false) e (rises (w ∷ ws) rest k d (omega arith) (omega (arith, high)))

-- what a binary search found
searched_at : (ws : List (Bor Text)) (t : Text) (i : ℕ) (d : Bor Text) → i < length ws → HoldsAt (λ (w : Bor Text). slice_cmp nat_cmp w.now t ≡ Equal) ws i → list_any (λ (w : Bor Text). bytes_eq w.now t) ws ≡ true
searched_at ws t i d inside equal = list_any_at (λ (w : Bor Text). bytes_eq w.now t) ws i d inside (sym (is_eq-slice_cmp (get_or ws i d).now t) ∙ ap is_eq (equal d))

apart : (w t : Text) (o : Ordering) → slice_cmp nat_cmp w t ≡ o → is_eq o ≡ false → bytes_eq w t ≡ false
apart w t o e other = sym (is_eq-slice_cmp w t) ∙ (ap is_eq e ∙ other)

-- and what it did not
searched_none : (ws : List (Bor Text)) (t : Text) (i : ℕ) → is_rising ws ≡ true → IsBinarySearchResult (λ (w : Bor Text). slice_cmp nat_cmp w.now t) ws (Err i) → list_any (λ (w : Bor Text). bytes_eq w.now t) ws ≡ false
searched_none ws t i rising parted =
    let sides = parted (searchable_from_sorted nat_list_cmp_total (λ (w : Bor Text). w.now) ws t (rises ws rising)) in
    list_any_none (λ (w : Bor Text). bytes_eq w.now t) ws (λ k d inside. elim (cases_lt k i) [
      | inl low ↦ apart (get_or ws k d).now t Less (sides.0 k d (omega arith) low) refl
      | inr high ↦ apart (get_or ws k d).now t Greater (sides.1 k d high inside) refl
    ])

found_or_not : (ws : List (Bor Text)) (t : Text) (r : Result ℕ ℕ) → is_rising ws ≡ true → IsSearchInRange r (length ws) → IsBinarySearchResult (λ (w : Bor Text). slice_cmp nat_cmp w.now t) ws r → is_ok r ≡ list_any (λ (w : Bor Text). bytes_eq w.now t) ws
found_or_not [] t (Ok i) rising inside found = absurd (omega (arith, inside))
found_or_not (w ∷ ws) t (Ok i) rising inside found = sym (searched_at (w ∷ ws) t i w inside found)
found_or_not ws t (Err i) rising inside found = sym (searched_none ws t i rising found)

pub searched : (ws : List (Bor Text)) (t : Text) (r : Result ℕ ℕ) → is_rising ws ≡ true → IsSearchInRange r (length ws) → IsBinarySearchResult (λ (w : Bor Text). slice_cmp nat_cmp w.now t) ws r → is_ok r ≡ list_any (λ (w : Bor Text). bytes_eq t w.now) ws
searched ws t r rising inside found = found_or_not ws t r rising inside found ∙ ap (λ f. list_any f ws) (λ i (w : Bor Text). nat_list_eq_equiv.symm w.now t i)
