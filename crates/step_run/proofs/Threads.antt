-- All invocations of a runner.
use Rattle.std.proofs.Common.{◌≡◌, ◌≢◌, ℕ, zero, suc, ◌<◌, ◌==◌, Bool, true, false, List, [], ◌∷◌, ◌++◌, length, get_or, slice_set, refl, sym, ap, ◌∙◌, subst, arith}
use Rattle.std.proofs.lemmas.Bool.Decides.{nat_tests}
use Rattle.std.specs.Prelude.{IfSome, slice_get, if◌then◌else◌}
use Rattle.list_law.proofs.Numbers.{number_other, number_same}
use Rattle.group_items.specs.Sides.{Begun, with_at}
use Rattle.step_run.specs.declared.row.Thread.{Thread}
use Rattle.step_run.specs.Kept.{begun_of}
use Rattle.step_run.specs.KeptAll.{begun_at}

-- a fact of all elements, of lists that are changed at one place
module _ {A : Type 0} (P : A → Type 0) where
  abbrev All : List A → Type 0
  All xs = (k : ℕ) → IfSome (slice_get xs k) P

  pub all_none : All []
  all_none k = tt

  pub all_push : (xs : List A) (x : A) → All xs → P x → All (xs ++ x ∷ [])
  all_push [] x h p zero = p
  all_push [] x h p (suc k) = tt
  all_push (y ∷ ys) x h p zero = h zero
  all_push (y ∷ ys) x h p (suc k) = all_push ys x (λ n. h (suc n)) p k

  -- a push that may have failed
  pub all_pushed : (b : Bool) (xs new : List A) (x : A) → new ≡ (if b then xs ++ x ∷ [] else xs) → All xs → P x → All new
  all_pushed true xs new x is h p = subst All (sym is) (all_push xs x h p)
  all_pushed false xs new x is h p = subst All (sym is) h

  pub all_set : (xs : List A) (i : ℕ) (x : A) → All xs → P x → All (slice_set xs i x)
  all_set [] i x h p k = tt
  all_set (y ∷ ys) zero x h p zero = p
  all_set (y ∷ ys) zero x h p (suc k) = h (suc k)
  all_set (y ∷ ys) (suc i) x h p zero = h zero
  all_set (y ∷ ys) (suc i) x h p (suc k) = all_set ys i x (λ n. h (suc n)) p k

  pub all_at : (xs : List A) (i : ℕ) (x d : A) → All xs → i < length xs → x ≡ get_or xs i d → P x
  all_at [] i x d h inside is = absurd (omega (arith, inside))
  all_at (y ∷ ys) zero x d h inside is = subst P (sym is) (h zero)
  all_at (y ∷ ys) (suc i) x d h inside is = all_at ys i x d (λ n. h (suc n)) (omega (arith, inside)) is

-- how far each is, where one is changed or begins
with_same : (f : ℕ → Begun) (i j : ℕ) (b : Begun) → j ≡ i → with_at f i b j ≡ b
with_same f i j b e = ap (λ t. elim t as (λ _. Begun) [ true ↦ b | false ↦ f j ]) (number_same j i e)

with_other : (f : ℕ → Begun) (i j : ℕ) (b : Begun) → (j ≡ i → ⊥) → with_at f i b j ≡ f j
with_other f i j b h = ap (λ t. elim t as (λ _. Begun) [ true ↦ b | false ↦ f j ]) (number_other j i h)

-- with the value that it has
with_back : (f : ℕ → Begun) (i j : ℕ) → with_at f i (f i) j ≡ f j
with_back f i j = by_test (j == i) refl
  where
    by_test : (t : Bool) → (j == i) ≡ t → with_at f i (f i) j ≡ f j
    by_test true t = let e : j ≡ i = grind (arith, nat_tests, t) in with_same f i j (f i) e ∙ ap f (sym e)
    by_test false t = let apart : j ≢ i = grind (arith, nat_tests, t) in with_other f i j (f i) apart

-- with another value one place further
with_next : (f : ℕ → Begun) (i j : ℕ) (b : Begun) → with_at (λ n. f (suc n)) i b j ≡ with_at f (suc i) b (suc j)
with_next f i j b = by_test (j == i) refl
  where
    by_test : (t : Bool) → (j == i) ≡ t → with_at (λ n. f (suc n)) i b j ≡ with_at f (suc i) b (suc j)
    by_test true t = let e : j ≡ i = grind (arith, nat_tests, t) in with_same (λ n. f (suc n)) i j b e ∙ sym (with_same f (suc i) (suc j) b (ap suc e))
    by_test false t = let apart : j ≢ i = grind (arith, nat_tests, t) in with_other (λ n. f (suc n)) i j b apart ∙ sym (with_other f (suc i) (suc j) b (λ e. apart (omega (arith, e))))

module _ {S : Type 0} where
  set_at : (ts : List (Thread S)) (i : ℕ) (t : Thread S) → i < length ts → (j : ℕ) → begun_at (slice_set ts i t) j ≡ with_at (begun_at ts) i (begun_of t.row) j
  set_at [] i t inside j = absurd (omega (arith, inside))
  set_at (x ∷ ts) zero t inside zero = sym (with_same (begun_at (x ∷ ts)) 0 0 (begun_of t.row) refl)
  set_at (x ∷ ts) zero t inside (suc j) = sym (with_other (begun_at (x ∷ ts)) 0 (suc j) (begun_of t.row) (λ e. absurd (omega (arith, e))))
  set_at (x ∷ ts) (suc i) t inside zero = sym (with_other (begun_at (x ∷ ts)) (suc i) 0 (begun_of t.row) (λ e. absurd (omega (arith, e))))
  set_at (x ∷ ts) (suc i) t inside (suc j) = set_at ts i t (omega (arith, inside)) j ∙ with_next (begun_at (x ∷ ts)) i j (begun_of t.row)

  push_at : (ts : List (Thread S)) (t : Thread S) (j : ℕ) → begun_at (ts ++ t ∷ []) j ≡ with_at (begun_at ts) (length ts) (begun_of t.row) j
  push_at [] t zero = sym (with_same (begun_at {S = S} []) 0 0 (begun_of t.row) refl)
  push_at [] t (suc j) = sym (with_other (begun_at {S = S} []) 0 (suc j) (begun_of t.row) (λ e. absurd (omega (arith, e))))
  push_at (x ∷ ts) t zero = sym (with_other (begun_at (x ∷ ts)) (suc (length ts)) 0 (begun_of t.row) (λ e. absurd (omega (arith, e))))
  push_at (x ∷ ts) t (suc j) = push_at ts t j ∙ with_next (begun_at (x ∷ ts)) (length ts) j (begun_of t.row)

  pub set_begun : (ts : List (Thread S)) (i : ℕ) (t : Thread S) → i < length ts → begun_at (slice_set ts i t) ≡ with_at (begun_at ts) i (begun_of t.row)
  set_begun ts i t inside = λ k j. set_at ts i t inside j k

  pub push_begun : (ts : List (Thread S)) (t : Thread S) → begun_at (ts ++ t ∷ []) ≡ with_at (begun_at ts) (length ts) (begun_of t.row)
  push_begun ts t = λ k j. push_at ts t j k

  pub at_begun : (ts : List (Thread S)) (i : ℕ) (t d : Thread S) → i < length ts → t ≡ get_or ts i d → begun_at ts i ≡ begun_of t.row
  at_begun [] i t d inside is = absurd (omega (arith, inside))
  at_begun (x ∷ ts) zero t d inside is = ap (λ (t : Thread S). begun_of t.row) (sym is)
  at_begun (x ∷ ts) (suc i) t d inside is = at_begun ts i t d (omega (arith, inside)) is

  -- one thread is changed
  pub set_moved : (ts : List (Thread S)) (i : ℕ) (t : Thread S) (b : Begun) → i < length ts → begun_of t.row ≡ b → begun_at (slice_set ts i t) ≡ with_at (begun_at ts) i b
  set_moved ts i t b inside is = set_begun ts i t inside ∙ ap (with_at (begun_at ts) i) is

  pub set_same : (ts : List (Thread S)) (i : ℕ) (t : Thread S) → i < length ts → begun_of t.row ≡ begun_at ts i → begun_at (slice_set ts i t) ≡ begun_at ts
  set_same ts i t inside is = set_moved ts i t (begun_at ts i) inside is ∙ (λ k j. with_back (begun_at ts) i j k)

  pub push_moved : (ts : List (Thread S)) (t : Thread S) (b : Begun) → begun_of t.row ≡ b → begun_at (ts ++ t ∷ []) ≡ with_at (begun_at ts) (length ts) b
  push_moved ts t b is = push_begun ts t ∙ ap (with_at (begun_at ts) (length ts)) is
