-- A sum that is counted down.
use Rattle.std.proofs.Common.{◌≡◌, ◌==◌, ◌<◌, ◌≤◌, ◌+◌, ℕ, false, List, length, take, get_or, ap, ◌∙◌, arith}
use Rattle.std.specs.List.{sum_by}
use Rattle.std.proofs.lemmas.List.{take_more, take_all}
use Rattle.std.proofs.lemmas.List.Sums.{sum_by_push, sum_by-take-le}
use Rattle.std.proofs.lemmas.Bool.Decides.{nat_tests}

pub taken : (f : ℕ → ℕ) (xs : List ℕ) (i d : ℕ) → i < length xs → sum_by f (take (i + 1) xs) ≡ sum_by f (take i xs) + f (get_or xs i d)
taken f xs i d inside = ap (sum_by f) (take_more xs i d inside) ∙ sum_by_push f (take i xs) (get_or xs i d)

pub too_much : (f : ℕ → ℕ) (xs : List ℕ) (i d left n : ℕ) → i < length xs → left + sum_by f (take i xs) ≡ n → left < f (get_or xs i d) → (sum_by f xs == n) ≡ false
too_much f xs i d left n inside counted more =
    let next = taken f xs i d inside in
    let most : sum_by f (take (i + 1) xs) ≤ sum_by f xs = sum_by-take-le f xs (i + 1) in
    grind (arith, nat_tests, next, most, counted, more)

pub at_end : (f : ℕ → ℕ) (xs : List ℕ) (i left n : ℕ) → length xs ≤ i → left + sum_by f (take i xs) ≡ n → (sum_by f xs == n) ≡ (left == 0)
at_end f xs i left n past counted =
    let whole : sum_by f (take i xs) ≡ sum_by f xs = ap (sum_by f) (take_all i xs past) in
    grind (arith, nat_tests, whole, counted)

pub ruleset total_rules = (taken, too_much, at_end)
