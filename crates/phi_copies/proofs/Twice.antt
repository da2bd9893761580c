-- Among more numbers than are below a bound, two are one.
use Rattle.std.proofs.Common.{◌≡◌, ◌<◌, ◌==◌, ◌⊎◌, ℕ, zero, suc, true, false, List, [], ◌∷◌, length, refl, ap, sym, inl, inr, arith, subst}
use Rattle.std.specs.List.{list_any, IsDistinct, AllByRecursion}
use Rattle.std.proofs.lemmas.Bool.{false≢true}
use Rattle.std.proofs.lemmas.Bool.Decides.{eqb_tells}
use Rattle.std.proofs.lemmas.Map.Steps.{length-le_from_distinct_below}

module _ (f : ℕ → ℕ) where
  -- the first so many
  abbrev firsts : ℕ → List ℕ
  firsts zero = []
  firsts (suc k) = f k ∷ firsts k

  length_firsts : (k : ℕ) → length (firsts k) ≡ k
  length_firsts zero = refl
  length_firsts (suc k) = ap suc (length_firsts k)

  pub record IsTwice : Type 0 where
    pub early : ℕ
    pub late : ℕ
    pub before : early < late
    pub same : f early ≡ f late

  earlier : (x k : ℕ) → ((m : ℕ) × (m < k) × (f m ≡ x)) ⊎ AllByRecursion (λ y. (x == y) ≡ false) (firsts k)
  earlier x zero = inr tt
  earlier x (suc k) =
      elim (eqb_tells x (f k)) [
        | inl e ↦ inl (k, omega arith, sym e.1)
        | inr e ↦
            elim (earlier x k) [
              | inl w ↦ inl (w.0, omega (arith, w.1), w.2)
              | inr w ↦ inr (e.0, w)
            ]
      ]

  twice_or : (k : ℕ) → IsTwice ⊎ IsDistinct ◌==◌ (firsts k)
  unfolding IsDistinct
  twice_or zero = inr tt
  twice_or (suc k) =
      elim (twice_or k) [
        | inl w ↦ inl w
        | inr w ↦
            elim (earlier (f k) k) [
              | inl z ↦ inl (record { early = z.0; late = k; before = z.1; same = z.2 })
              | inr z ↦ inr (z, w)
            ]
      ]

  small : (bound : ℕ) → ((n : ℕ) → f n < bound) → (k q : ℕ) → list_any (λ y. q == y) (firsts k) ≡ true → q < bound
  small bound below zero q h = absurd (false≢true h)
  small bound below (suc k) q h =
      elim (eqb_tells q (f k)) [
        | inl e ↦ subst (λ n. n < bound) (sym e.1) (below k)
        | inr e ↦ small bound below k q (rw e.0 at h)
      ]

  pub twice : (bound : ℕ) → ((n : ℕ) → f n < bound) → IsTwice
  twice bound below =
      elim (twice_or (suc bound)) [
        | inl w ↦ w
        | inr w ↦ absurd (omega (arith, length-le_from_distinct_below (firsts (suc bound)) bound w (small bound below (suc bound)), length_firsts (suc bound)))
      ]
