-- What is said of all of a list, said of one.
use Rattle.std.proofs.Common.{◌≡◌, ◌<◌, ◌+◌, ◌==◌, ℕ, zero, suc, Bool, true, false, List, [], ◌∷◌, length, map, Option, Some, None, inl, inr, refl, sym, ap, subst, ◌∙◌, if◌then◌else◌, arith, ◌≤◌}
use Rattle.std.specs.Prelude.{◌⊎◌, filter, flat_map, nat_lt, Contains, slice_index, slice_index_or}
use Rattle.std.specs.List.{list_any, enumerate_from}
use Rattle.std.proofs.lemmas.Bool.Decides.{nat_tests}
use Rattle.std.proofs.lemmas.Bool.{false_from_ne_true}
use Rattle.std.proofs.lemmas.Option.{same_Some}
use Rattle.spv_module.specs.declared.inst.Inst.{Inst}
use Rattle.spv_module.specs.Held.{global}
use Rattle.spv_types.specs.Types.{if_earlier, earlier}
use Rattle.profile_rules.specs.Places.{places}
use Rattle.list_law.proofs.Lists.{contains_head, contains_tail}
pub use Rattle.list_law.proofs.Lists.{none_left, none_right}
pub use Rattle.list_law.proofs.Numbers.{from_zero}
pub use Rattle.list_law.proofs.Options.{some_by, some_of, some_part}
pub use Rattle.list_law.proofs.Tests.{or_left, or_right, and_left, and_right, and_off, clash}
use Rattle.plan_law.specs.InOrder.{IsAmong}

-- lists that are empty
pub none_by : {A B : Type 0} (f : A → List B) (xs : List A) (x : A) → flat_map f xs ≡ [] → Contains xs x → f x ≡ []
none_by f [] x e there = let less = there.1 in absurd (omega (arith, less))
none_by f (y ∷ xs) x e (zero, less, same) = subst (λ z. f z ≡ []) same (none_left (f y) (flat_map f xs) e)
none_by f (y ∷ xs) x e (suc k, less, same) = none_by f xs x (none_right (f y) (flat_map f xs) e) (k, (let low : k < length xs = omega (arith, less) in low), same)

pub none_among : {B : Type 0} (f : Inst → List B) (xs : List Inst) (x : Inst) → flat_map f xs ≡ [] → IsAmong x xs → f x ≡ []
none_among f [] x e there = absurd there
none_among f (y ∷ xs) x e (inl same) = subst (λ z. f z ≡ []) same (none_left (f y) (flat_map f xs) e)
none_among f (y ∷ xs) x e (inr there) = none_among f xs x (none_right (f y) (flat_map f xs) e) there

-- tests that none passes
pub any_none : {A : Type 0} (test : A → Bool) (xs : List A) (x : A) (k : ℕ) (d : A) → list_any test xs ≡ false → k < length xs → slice_index_or xs k d ≡ x → test x ≡ false
any_none test [] x k d e less same = absurd (omega (arith, less))
any_none test (y ∷ xs) x zero d e less same = subst (λ z. test z ≡ false) same (or_left (test y) (list_any test xs) e)
any_none test (y ∷ xs) x (suc k) d e less same = any_none test xs x k d (or_right (test y) (list_any test xs) e) (let low : k < length xs = omega (arith, less) in low) same

pub any_at : (test : ℕ × ℕ → Bool) (xs : List ℕ) (n k : ℕ) → list_any test (enumerate_from n xs) ≡ false → k < length xs → test (n + k, slice_index xs k) ≡ false
any_at test [] n k e less = absurd (omega (arith, less))
any_at test (x ∷ xs) n zero e less = subst (λ j. test (j, x) ≡ false) (let same : n ≡ n + 0 = omega arith in same) (or_left (test (n, x)) (list_any test (enumerate_from (n + 1) xs)) e)
any_at test (x ∷ xs) n (suc k) e less =
    subst (λ j. test (j, slice_index xs k) ≡ false) (let same : n + 1 + k ≡ n + suc k = omega arith in same)
    (any_at test xs (n + 1) k (or_right (test (n, x)) (list_any test (enumerate_from (n + 1) xs)) e) (let low : k < length xs = omega (arith, less) in low))

-- no instruction of these passes the test, where none of them stands at a place
in_places : (test : Inst → Bool) (xs : List Inst) (x : Inst) → test x ≡ true → IsAmong x xs → Contains (places test xs) x.at
in_places test [] x on there = absurd there
in_places test (y ∷ xs) x on there = by_test (test y) refl there (λ later. in_places test xs x on later)
  where
    by_test : (b : Bool) → test y ≡ b → (y ≡ x) ⊎ IsAmong x xs → (IsAmong x xs → Contains (places test xs) x.at) → Contains (map (λ (i : Inst). i.at) (if b then y ∷ filter test xs else filter test xs)) x.at
    by_test true at (inl same) next = subst (λ (i : Inst). Contains (y.at ∷ places test xs) i.at) same (contains_head y.at (places test xs))
    by_test true at (inr later) next = contains_tail y.at x.at (places test xs) (next later)
    by_test false at (inl same) next = clash (sym on ∙ ap test (sym same) ∙ at)
    by_test false at (inr later) next = next later

pub none_at_fault : (test : Inst → Bool) (xs : List Inst) (x : Inst) → ((at : ℕ) → Contains (places test xs) at → ⊥) → IsAmong x xs → test x ≡ false
none_at_fault test xs x right there = false_from_ne_true (test x) (λ on. right x.at (in_places test xs x on there))

-- what is found
pub found_in : (gs : List Inst) (id : ℕ) (g : Inst) → global gs id ≡ Some g → IsAmong g gs
found_in [] id g e = cc
found_in (h ∷ gs) id g e = by_test (h.result == id) e (λ rest. found_in gs id g rest)
  where
    by_test : (b : Bool) → (if b then Some h else global gs id) ≡ Some g → (global gs id ≡ Some g → IsAmong g gs) → (h ≡ g) ⊎ IsAmong g gs
    by_test true e next = inl (same_Some h g e)
    by_test false e next = inr (next e)

pub earlier_some : (gs : List Inst) (n id : ℕ) (h : Inst) → earlier gs n id ≡ Some h → (global gs id ≡ Some h) × (h.at < n)
earlier_some gs n id h e = by_global (global gs id) refl e
  where
    by_test : (g : Inst) (b : Bool) → nat_lt g.at n ≡ b → (if b then Some g else None) ≡ Some h → (g ≡ h) × (g.at < n)
    by_test g true less e = (same_Some g h e, grind (arith, nat_tests, less))
    by_test g false less e = cc

    by_global : (o : Option Inst) → global gs id ≡ o → if_earlier n o ≡ Some h → (global gs id ≡ Some h) × (h.at < n)
    by_global None is e = cc
    by_global (Some g) is e = let w = by_test g (nat_lt g.at n) refl e in (is ∙ ap (λ (x : Inst). Some x) w.0, subst (λ (x : Inst). x.at < n) w.0 w.1)

-- numbers
pub at_least : (n l : ℕ) → 3 + n ≤ 3 + l → n ≤ l
at_least n l least = omega (arith, least)
