-- The first number that is free.
use Rattle.std.proofs.Common.{◌≡◌, ◌<◌, ◌≤◌, ◌+◌, ◌-◌, ℕ, zero, suc, Bool, true, false, refl, sym, ◌∙◌, inl, inr, arith, subst}
use Rattle.std.proofs.lemmas.Bool.{cases_Bool, false≢true}
use Rattle.std.proofs.lemmas.Bool.Decides.{eqb_tells}
use Rattle.name_alloc.specs.Naming.{first_free}

-- a number that is taken is passed over
pub passes_taken : (taken : ℕ → Bool) (last n : ℕ) → n < last → taken n ≡ true → first_free taken (last - n) n ≡ first_free taken (last - (n + 1)) (n + 1)
passes_taken taken last n h t =
    let e : last - n ≡ suc (last - (n + 1)) = omega (arith, h) in
    rw (e, t) refl

-- the search ends at a number that is free, and at the last
pub stops_free : (taken : ℕ → Bool) (more n : ℕ) → taken n ≡ false → first_free taken more n ≡ n
stops_free taken zero n h = refl
stops_free taken (suc more) n h = rw h refl

pub stops_last : (taken : ℕ → Bool) (last n : ℕ) → n ≡ last → first_free taken (last - n) n ≡ n
stops_last taken last n h =
    let e : last - n ≡ zero = omega (arith, h) in
    rw e refl

-- numbers that are taken are skipped
skips_so_many : (taken : ℕ → Bool) (last many n m : ℕ) → m ≡ n + many → m ≤ last → ((k : ℕ) → n ≤ k → k < m → taken k ≡ true) → first_free taken (last - n) n ≡ first_free taken (last - m) m
skips_so_many taken last zero n m e h all =
    let same : n ≡ m = omega (arith, e) in
    rw same refl
skips_so_many taken last (suc many) n m e h all =
    passes_taken taken last n (omega (arith, e, h)) (all n (omega arith) (omega (arith, e)))
    ∙ skips_so_many taken last many (n + 1) m (omega (arith, e)) h (λ k low high. all k (omega (arith, low)) high)

pub skips_taken : (taken : ℕ → Bool) (last n m : ℕ) → n ≤ m → m ≤ last → ((k : ℕ) → n ≤ k → k < m → taken k ≡ true) → first_free taken (last - n) n ≡ first_free taken (last - m) m
skips_taken taken last n m low h all = skips_so_many taken last (m - n) n m (omega (arith, low)) h all

-- it lies in the numbers searched
pub first_bounds : (taken : ℕ → Bool) (more n : ℕ) → (n ≤ first_free taken more n) × (first_free taken more n ≤ n + more)
first_bounds taken zero n = (omega arith, omega arith)
first_bounds taken (suc more) n =
    elim (cases_Bool (taken n)) [
      | inl t ↦ let next = first_bounds taken more (n + 1) in rw t (omega (arith, next.0), omega (arith, next.1))
      | inr t ↦ rw t (omega arith, omega arith)
    ]

-- the numbers below it are taken
pub below_taken : (taken : ℕ → Bool) (more n k : ℕ) → n ≤ k → k < first_free taken more n → taken k ≡ true
below_taken taken zero n k low high = absurd (omega (arith, low, high))
below_taken taken (suc more) n k low high =
    elim (cases_Bool (taken n)) [
      | inl t ↦
          elim (eqb_tells n k) [
            | inl w ↦ subst (λ m. taken m ≡ true) w.1 t
            | inr w ↦ below_taken taken more (n + 1) k (omega (arith, low, w.1)) (rw t at high)
          ]
      | inr t ↦ absurd (let early : k < n = rw t at high in omega (arith, low, early))
    ]

-- where it is taken itself, all that were searched are
pub all_taken : (taken : ℕ → Bool) (more n k : ℕ) → taken (first_free taken more n) ≡ true → n ≤ k → k ≤ n + more → taken k ≡ true
all_taken taken zero n k h low high = let e : n ≡ k = omega (arith, low, high) in subst (λ m. taken m ≡ true) e h
all_taken taken (suc more) n k h low high =
    elim (cases_Bool (taken n)) [
      | inl t ↦
          elim (eqb_tells n k) [
            | inl w ↦ subst (λ m. taken m ≡ true) w.1 t
            | inr w ↦ all_taken taken more (n + 1) k (rw t at h) (omega (arith, low, w.1)) (omega (arith, high))
          ]
      | inr t ↦ absurd (let itself : taken n ≡ true = rw t at h in false≢true (sym t ∙ itself))
    ]
