-- How many functions are not listed.
use Rattle.std.proofs.Common.{◌≡◌, ◌≢◌, ◌<◌, ◌≤◌, ◌+◌, ◌++◌, ℕ, suc, zero, Bool, false, cond, List, [], ◌∷◌, refl, ap, sym, ◌∙◌, inl, inr, arith}
use Rattle.std.proofs.lemmas.Bool.Decides.{eqb_tells}
use Rattle.call_order.specs.Graph.{is_in}
use Rattle.call_order.proofs.Counts.{in_push_same, in_push_other}

-- how many numbers below n are not in the list
pub unlisted : ℕ → List ℕ → ℕ
unlisted zero order = 0
unlisted (suc n) order = unlisted n order + cond (is_in order n) 0 1

abbrev as_number : Bool → ℕ
as_number b = cond b 0 1

same_past : (n : ℕ) (order : List ℕ) (q : ℕ) → n ≤ q → unlisted n (order ++ q ∷ []) ≡ unlisted n order
unfolding unlisted
same_past zero order q past = refl
same_past (suc n) order q past =
    let later = same_past n order q (omega arith) in
    let apart : q ≢ n = omega arith in
    let one = ap as_number (in_push_other order q n apart) in
    omega (arith, later, one)

-- one more that is listed is one fewer
pub unlisted_push : (n : ℕ) (order : List ℕ) (q : ℕ) → q < n → is_in order q ≡ false → unlisted n (order ++ q ∷ []) + 1 ≡ unlisted n order
unfolding unlisted
unlisted_push zero order q inside new = absurd (omega arith)
unlisted_push (suc n) order q inside new =
    elim (eqb_tells q n) [
      | inl w ↦
          let later = same_past n order q (omega (arith, w.1)) in
          let is = ap as_number (in_push_same order q n w.1) in
          let was : as_number (is_in order n) ≡ 1 = ap (λ k. as_number (is_in order k)) (sym w.1) ∙ ap as_number new in
          omega (arith, later, is, was)
      | inr w ↦
          let later = unlisted_push n order q (omega (arith, w.1)) new in
          let one = ap as_number (in_push_other order q n w.1) in
          omega (arith, later, one)
    ]
