-- The items of a schedule.
use Rattle.std.proofs.Common.{◌≡◌, ℕ, zero, suc, ◌+◌, ◌<◌, Bool, true, false, List, [], ◌∷◌, ◌++◌, cond, length, slice_index, nat_lt, refl, ap, ◌∙◌, subst, arith}
use Rattle.std.proofs.lemmas.Bool.Decides.{nat_tests}
use Rattle.std.proofs.lemmas.List.FromFn.{length-range_with_len, get_or-range_with_len}
use Rattle.list_law.proofs.Lists.{range_end}
use Rattle.group_items.specs.Schedule.{among, turn}

pub turn_more : (n : ℕ) → turn (n + 1) ≡ turn n ++ n ∷ []
turn_more n =
    let e : n + 1 ≡ suc n = omega arith in
    let z : 0 + n ≡ n = omega arith in
    ap turn e ∙ range_end 0 n ∙ ap (λ k. turn n ++ k ∷ []) z

pub turn_inside : (n k : ℕ) → k < length (turn n) → slice_index (turn n) k < n
turn_inside n k lt =
    let inside : k < n = subst (λ m. k < m) (length-range_with_len 0 n) lt in
    let is : slice_index (turn n) k ≡ 0 + k = get_or-range_with_len 0 n k 0 inside in
    omega (arith, is, inside)

inside_by : (count x : ℕ) (ys : List ℕ) (b : Bool) → nat_lt x count ≡ b → ((k : ℕ) → k < length ys → slice_index ys k < count) → (k : ℕ) → k < length (cond b (x ∷ ys) ys) → slice_index (cond b (x ∷ ys) ys) k < count
inside_by count x ys true h rest zero lt = grind (arith, nat_tests, h)
inside_by count x ys true h rest (suc k) lt = rest k (omega (arith, lt))
inside_by count x ys false h rest k lt = rest k lt

pub among_inside : (count : ℕ) (xs : List ℕ) (k : ℕ) → k < length (among count xs) → slice_index (among count xs) k < count
among_inside count [] k lt = absurd (omega (arith, lt))
among_inside count (x ∷ xs) k lt = inside_by count x (among count xs) (nat_lt x count) refl (among_inside count xs) k lt
