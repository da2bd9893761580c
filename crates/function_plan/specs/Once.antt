-- Each key once.
use Rattle.std.specs.Prelude.{ℕ, ◌==◌, Bool, true, false, List, [], ◌∷◌}

-- a set of numbers with one more
abbrev pub with_id : ℕ → (ℕ → Bool) → ℕ → Bool
with_id n seen m = elim (m == n) [ true ↦ true | false ↦ seen m ]

-- of those with one key the first, where none was seen before
abbrev pub once_by : {A : Type 0} → (A → ℕ) → (ℕ → Bool) → List A → List A
once_by key seen [] = []
once_by key seen (x ∷ xs) = elim (seen (key x)) [ true ↦ once_by key seen xs | false ↦ x ∷ once_by key (with_id (key x) seen) xs ]

abbrev pub no_id : ℕ → Bool
no_id n = false

abbrev pub once : {A : Type 0} → (A → ℕ) → List A → List A
once key xs = once_by key no_id xs

abbrev pub itself : ℕ → ℕ
itself n = n
