-- Numbers and their digits.
use Rattle.std.proofs.Math.Seq.{drop-cons}
use Rattle.std.proofs.Common.{suc, sym, ap, ◌∙◌, drop, get_or, ◌≡◌, ◌<◌, ◌≤◌, ◌+◌, ◌*◌, ℕ, Bool, true, false, List, [], ◌∷◌, refl, arith}
use Rattle.std.specs.Prelude.{Option, None, option_and_then, if◌then◌else◌}
use Rattle.std.specs.Prelude.{length, not}
use Rattle.std.specs.List.{position_or_len}
use Rattle.std.proofs.lemmas.List.Sums.{prefix_len-le-length}
use Rattle.std.specs.Char.{digit_value, is_digit}
use Rattle.std.proofs.lemmas.Bool.Decides.{nat_tests}
use Rattle.std.proofs.Math.Nat.{mul-le-mul_left}
use Rattle.spv_decor.proofs.Texts.{first_or_all}
use Rattle.profile_rules.specs.Overrides.{number_from, number_up_to, at_most}

grows : (n base d most : ℕ) → 1 ≤ base → most < n → most < n * base + d
grows n base d most h k = let more : n * 1 ≤ n * base = mul-le-mul_left n h in omega arith

-- a number that is past a limit stays so
pub past : (base n most : ℕ) (cs : List ℕ) → 1 ≤ base → most < n → option_and_then (at_most most) (number_from base n cs) ≡ None
past base n most [] h k = grind (arith, nat_tests)
past base n most (c ∷ cs) h k =
    elim (is_digit c base) as (λ b. option_and_then (at_most most) (if b then number_from base (n * base + digit_value c) cs else None) ≡ None) [
      | true ↦ past base (n * base + digit_value c) most cs h (grows n base (digit_value c) most h k)
      | false ↦ refl
    ]

if_true : (b : Bool) (x y : Option ℕ) → b ≡ true → (if b then x else y) ≡ x
if_true b x y e = ap (λ c. if c then x else y) e

-- there is no number up to this one where the digits so far are past it with the next one
pub overflow : (base n most i : ℕ) (cs : List ℕ) → i < length cs → 2 ≤ base → digit_value (get_or cs i 0) < base → most < n * base + digit_value (get_or cs i 0) → number_from base n (drop i cs) ≡ number_from base 0 cs → number_up_to most base cs ≡ None
overflow base n most i cs inside two digit over same =
    let c : ℕ = get_or cs i 0 in
    let is : is_digit (get_or cs i 0) base ≡ true = grind (arith, nat_tests, digit) in
    let step : number_from base n (drop i cs) ≡ number_from base (n * base + digit_value (get_or cs i 0)) (drop (suc i) cs) =
    ap (number_from base n) (drop-cons cs i 0 inside) ∙ if_true _ _ None is in
    ap (option_and_then (at_most most)) (sym same ∙ step) ∙ past base (n * base + digit_value (get_or cs i 0)) most (drop (suc i) cs) (omega arith) over

pub position_within : {X : Type 0} (p : X → Bool) (xs : List X) → position_or_len p xs ≤ length xs
position_within p xs = prefix_len-le-length (λ x. not (p x)) xs

pub ruleset place_rules = (first_or_all, position_within)
