-- What is known of the functions that a listed one releases.
use Rattle.std.specs.Prelude.{ℕ, ◌≡◌, ◌<◌, ◌+◌, ◌==◌, ◌⊎◌, List, Bool, true, length, count_by, slice_index}

-- how often p stands among these
abbrev pub times : ℕ → List ℕ → ℕ
times p xs = count_by (λ x. x == p) xs

-- each caller was counted down by its calls, and is ready where none is left
pub record IsReleased (callers before after : List ℕ) (was is : ℕ → Bool) : Type 0 where
  pub size : length after ≡ length before
  pub left : (p : ℕ) → slice_index after p + times p callers ≡ slice_index before p
  pub sound : (p : ℕ) → is p ≡ true → (was p ≡ true) ⊎ ((0 < times p callers) × (slice_index after p ≡ 0))
  pub kept : (p : ℕ) → was p ≡ true → is p ≡ true
  pub freed : (p : ℕ) → 0 < times p callers → slice_index after p ≡ 0 → is p ≡ true
