-- What stands in lists that are put together.
use Rattle.std.proofs.Common.{◌≡◌, ◌<◌, ◌+◌, ℕ, zero, suc, Bool, true, List, [], ◌∷◌, ◌++◌, map, Some, inl, inr, sym, ap, ◌∙◌, subst, arith}
use Rattle.std.specs.Prelude.{flat_map, slice_get}
use Rattle.std.specs.List.{enumerate_from, list_any, range_with_len}
use Rattle.std.proofs.lemmas.Bool.{or_left, or_right}
use Rattle.name_alloc.specs.declared.claims.Key.{Key}
use Rattle.text_rules.specs.Claims.{Claim}
use Rattle.claim_law.specs.Claimed.{IsIn, HasKey}

pub key_left : (key : Key) (xs ys : List Claim) → HasKey key xs → HasKey key (xs ++ ys)
key_left key [] ys has = absurd has
key_left key (x ∷ xs) ys (inl same) = inl same
key_left key (x ∷ xs) ys (inr has) = inr (key_left key xs ys has)

pub key_right : (key : Key) (xs ys : List Claim) → HasKey key ys → HasKey key (xs ++ ys)
key_right key [] ys has = has
key_right key (x ∷ xs) ys has = inr (key_right key xs ys has)

pub key_in : {A : Type 0} (key : Key) (f : A → List Claim) (xs : List A) (x : A) → IsIn x xs → HasKey key (f x) → HasKey key (flat_map f xs)
key_in key f [] x among has = absurd among
key_in key f (y ∷ xs) x (inl same) has = key_left key (f y) (flat_map f xs) (subst (λ z. HasKey key (f z)) (sym same) has)
key_in key f (y ∷ xs) x (inr among) has = key_right key (f y) (flat_map f xs) (key_in key f xs x among has)

pub key_mapped : {A : Type 0} (f : A → Claim) (xs : List A) (x : A) → IsIn x xs → HasKey (f x).0 (map f xs)
key_mapped f [] x among = absurd among
key_mapped f (y ∷ xs) x (inl same) = inl (ap (λ z. (f z).0) same)
key_mapped f (y ∷ xs) x (inr among) = inr (key_mapped f xs x among)

pub in_left : {A : Type 0} (x : A) (xs ys : List A) → IsIn x xs → IsIn x (xs ++ ys)
in_left x [] ys among = absurd among
in_left x (y ∷ xs) ys (inl same) = inl same
in_left x (y ∷ xs) ys (inr among) = inr (in_left x xs ys among)

pub in_right : {A : Type 0} (x : A) (xs ys : List A) → IsIn x ys → IsIn x (xs ++ ys)
in_right x [] ys among = among
in_right x (y ∷ xs) ys among = inr (in_right x xs ys among)

pub in_flat : {A B : Type 0} (f : A → List B) (xs : List A) (x : A) (y : B) → IsIn x xs → IsIn y (f x) → IsIn y (flat_map f xs)
in_flat f [] x y among has = absurd among
in_flat f (z ∷ xs) x y (inl same) has = in_left y (f z) (flat_map f xs) (subst (λ q. IsIn y (f q)) (sym same) has)
in_flat f (z ∷ xs) x y (inr among) has = in_right y (f z) (flat_map f xs) (in_flat f xs x y among has)

pub in_mapped : {A B : Type 0} (f : A → B) (xs : List A) (x : A) → IsIn x xs → IsIn (f x) (map f xs)
in_mapped f [] x among = absurd among
in_mapped f (y ∷ xs) x (inl same) = inl (ap f same)
in_mapped f (y ∷ xs) x (inr among) = inr (in_mapped f xs x among)

-- with the numbers of the places
pub at_place : {A : Type 0} (xs : List A) (k : ℕ) (x : A) → slice_get xs k ≡ Some x → IsIn x xs
at_place [] k x at = cc
at_place (y ∷ xs) zero x at = inl (let same : y ≡ x = cc in same)
at_place (y ∷ xs) (suc k) x at = inr (at_place xs k x at)

abbrev paired : {A : Type 0} → ℕ → A → ℕ × A
paired n x = (n, x)

same_pair : {A : Type 0} (m n : ℕ) (x y : A) → m ≡ n → x ≡ y → paired m x ≡ paired n y
same_pair m n x y e f = ap (λ k. paired k x) e ∙ ap (paired n) f

pub numbered : {A : Type 0} (xs : List A) (from k : ℕ) (x : A) → slice_get xs k ≡ Some x → IsIn (from + k, x) (enumerate_from from xs)
numbered [] from k x at = cc
numbered (y ∷ xs) from zero x at = inl (same_pair from (from + 0) y x (omega arith) (let same : y ≡ x = cc in same))
numbered (y ∷ xs) from (suc k) x at = inr (subst (λ (n : ℕ). IsIn (paired n x) (enumerate_from (from + 1) xs)) (let next : from + 1 + k ≡ from + suc k = omega arith in next) (numbered xs (from + 1) k x at))

pub in_range : (from n k : ℕ) → k < n → IsIn (from + k) (range_with_len from n)
in_range from zero k less = absurd (omega (arith, less))
in_range from (suc n) zero less = inl (let here : from ≡ from + 0 = omega arith in here)
in_range from (suc n) (suc k) less = inr (subst (λ m. IsIn m (range_with_len (from + 1) n)) (let next : from + 1 + k ≡ from + suc k = omega arith in next) (in_range (from + 1) n k (let low : k < n = omega (arith, less) in low)))

pub any_in : {A : Type 0} (test : A → Bool) (xs : List A) (x : A) → IsIn x xs → test x ≡ true → list_any test xs ≡ true
any_in test [] x among on = absurd among
any_in test (y ∷ xs) x (inl same) on = or_left (test y) (list_any test xs) (ap test same ∙ on)
any_in test (y ∷ xs) x (inr among) on = or_right (test y) (list_any test xs) (any_in test xs x among on)
