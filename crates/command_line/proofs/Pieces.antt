-- The number of pieces that a word writes, as it is parsed.
use Rattle.std.proofs.Common.{◌≡◌, ◌+◌, ◌*◌, ◌^◌, ◌==◌, ◌<◌, ◌≤◌, ◌&&◌, ◌||◌, not, ℕ, Bool, true, false, List, [], ◌∷◌, length, Option, None, Some, Result, Ok, Err, cond, subst, refl, ap, sym, ◌∙◌, arith}
use Rattle.std.specs.Prelude.{nat_le, slice_index, option_and_then, drop}
use Rattle.std.specs.Char.{digit_value, is_digit}
use Rattle.std.specs.Str.Parse.{AllDigits, IsNumeral, ParsesUnsigned, digits_value, digits_value_after, without_leading_plus}
use Rattle.std.proofs.lemmas.Bool.{ltb-true, lt-ltb}
use Rattle.std.proofs.lemmas.Bool.Decides.{nat_tests}
use Rattle.profile_rules.specs.Overrides.{number_from, number_up_to, decimal_up_to, at_most, above_zero}
use Rattle.command_line.specs.Commands.{pieces_of}

-- digits are read as the number that they write
read_digits : (n : ℕ) (cs : List ℕ) → AllDigits 10 cs → number_from 10 n cs ≡ Some (digits_value_after 10 n cs)
read_digits n [] h = refl
read_digits n (c ∷ cs) h =
    ap (λ b. cond b (number_from 10 (n * 10 + digit_value c) cs) None) (lt-ltb (digit_value c) 10 h.0) ∙ read_digits (n * 10 + digit_value c) cs h.1

-- and what is read is digits
digits_of_read : (n v : ℕ) (cs : List ℕ) → number_from 10 n cs ≡ Some v → AllDigits 10 cs × (v ≡ digits_value_after 10 n cs)
digits_of_read n v [] e = (tt, cc)
digits_of_read n v (c ∷ cs) e =
    let more : number_from 10 (n * 10 + digit_value c) cs ≡ Some v → AllDigits 10 cs × (v ≡ digits_value_after 10 (n * 10 + digit_value c) cs) = digits_of_read (n * 10 + digit_value c) v cs in
    let step : (b : Bool) → is_digit c 10 ≡ b → cond b (number_from 10 (n * 10 + digit_value c) cs) None ≡ Some v → AllDigits 10 (c ∷ cs) × (v ≡ digits_value_after 10 n (c ∷ cs)) =
    λ b. elim b as (λ b. is_digit c 10 ≡ b → cond b (number_from 10 (n * 10 + digit_value c) cs) None ≡ Some v → AllDigits 10 (c ∷ cs) × (v ≡ digits_value_after 10 n (c ∷ cs))) [
      | true ↦ λ t h. let rest = more h in ((ltb-true (digit_value c) 10 t, rest.0), rest.1)
      | false ↦ λ t h. absurd (let none : None ≡ Some v = h in cc)
    ] in
    step (is_digit c 10) refl e

-- a word that begins with another digit than 0
module _ (c : ℕ) (cs : List ℕ) (above : 49 ≤ c) (digit : c ≤ 57) where
  no_plus : without_leading_plus (c ∷ cs) ≡ c ∷ cs
  no_plus = let test : (c == 43) ≡ false = grind (arith, nat_tests) in ap (λ b. drop (cond b 1 0) (c ∷ cs)) test

  no_zero : decimal_up_to 1000 (c ∷ cs) ≡ number_up_to 1000 10 (c ∷ cs)
  no_zero =
      let empty : (length (c ∷ cs) == 0) ≡ false = grind (arith, nat_tests) in
      let other : (c == 48) ≡ false = grind (arith, nat_tests) in
      let test : ((length (c ∷ cs) == 0) || ((c == 48) && not (length (c ∷ cs) == 1))) ≡ false =
      ap (λ a. a || ((c == 48) && not (length (c ∷ cs) == 1))) empty ∙ ap (λ b. b && not (length (c ∷ cs) == 1)) other in
      ap (λ b. cond b None (number_up_to 1000 10 (c ∷ cs))) test

  numeral : AllDigits 10 (c ∷ cs) → pieces_of (c ∷ cs) ≡ option_and_then above_zero (at_most 1000 (digits_value 10 (c ∷ cs)))
  numeral h = ap (option_and_then above_zero) (no_zero ∙ ap (option_and_then (at_most 1000)) (read_digits 0 (c ∷ cs) h))

  is_parsed : (n : ℕ) → (IsNumeral 10 (without_leading_plus (c ∷ cs)) × (digits_value 10 (without_leading_plus (c ∷ cs)) < 2 ^ 32)) × (n ≡ digits_value 10 (without_leading_plus (c ∷ cs))) → option_and_then above_zero (at_most 1000 n) ≡ pieces_of (c ∷ cs)
  is_parsed n h =
      let k = rw no_plus at h in
      ap (λ v. option_and_then above_zero (at_most 1000 v)) k.1 ∙ sym (numeral k.0.0.1)

  too_large : (v : ℕ) → (v < 2 ^ 32 → ⊥) → at_most 1000 v ≡ None
  too_large v h = let large : (nat_le v 1000) ≡ false = grind (arith, nat_tests, h) in ap (λ b. cond b (Some v) None) large

  is_unparsed : ((IsNumeral 10 (without_leading_plus (c ∷ cs)) × (digits_value 10 (without_leading_plus (c ∷ cs)) < 2 ^ 32)) → ⊥) → pieces_of (c ∷ cs) ≡ None
  is_unparsed h =
      let k : (IsNumeral 10 (c ∷ cs) × (digits_value 10 (c ∷ cs) < 2 ^ 32)) → ⊥ = rw no_plus at h in
      let by : (o : Option ℕ) → number_from 10 0 (c ∷ cs) ≡ o → option_and_then (at_most 1000) o ≡ None =
      λ o. elim o as (λ o. number_from 10 0 (c ∷ cs) ≡ o → option_and_then (at_most 1000) o ≡ None) [
        | None ↦ λ e. refl
        | Some v ↦ λ e.
            let read = digits_of_read 0 v (c ∷ cs) e in
            too_large v (λ small. k ((omega arith, read.0), rw (sym read.1) small))
      ] in
      ap (option_and_then above_zero) (no_zero ∙ by (number_from 10 0 (c ∷ cs)) refl)

-- a word that is parsed as a number, or as none
pub parsed : {E : Type 0} (w : List ℕ) (n : ℕ) (r : Result ℕ E) → r ≡ Ok n → (nat_le 49 (slice_index w 0) && nat_le (slice_index w 0) 57) ≡ true → ParsesUnsigned 32 10 w r → option_and_then above_zero (at_most 1000 n) ≡ pieces_of w
parsed [] n r is test h = cc
parsed (c ∷ cs) n r is test h =
    let above : 49 ≤ c = grind (arith, nat_tests, test) in
    let digit : c ≤ 57 = grind (arith, nat_tests, test) in
    is_parsed c cs above digit n (subst (λ q. ParsesUnsigned 32 10 (c ∷ cs) q) is h)

pub unparsed : {E : Type 0} (w : List ℕ) (e : E) (r : Result ℕ E) → r ≡ Err e → (nat_le 49 (slice_index w 0) && nat_le (slice_index w 0) 57) ≡ true → ParsesUnsigned 32 10 w r → pieces_of w ≡ None
unparsed [] e r is test h = refl
unparsed (c ∷ cs) e r is test h =
    let above : 49 ≤ c = grind (arith, nat_tests, test) in
    let digit : c ≤ 57 = grind (arith, nat_tests, test) in
    is_unparsed c cs above digit (subst (λ q. ParsesUnsigned 32 10 (c ∷ cs) q) is h)
