-- Division with a sign as it is written: its expressions say the quotient and the remainders.
use Rattle.std.proofs.Common.{◌≡◌, ℕ, suc, ◌-◌, ◌/◌, ◌%◌, ◌^◌, ◌<◌, Bool, true, false, List, Option, Some, refl, sym, subst, arith}
use Rattle.std.specs.Prelude.{◌==◌, nat_lt, int_div, int_rem}
use Rattle.std.specs.Int.{is_negative as is_below_zero}
use Rattle.std.proofs.lemmas.Bool.Decides.{nat_tests}
use Rattle.spv_types.specs.Tree.{truth, word}
use Rattle.op_semantics.specs.Word.{signed, word_of, int_modulo}
use Rattle.glsl_ast.specs.Tree.{Text, Expr, binary, choose}
use Rattle.glsl_ast.specs.declared.expressions.BinOp.TheVariants.{Less, Sub, Div, Rem, Equal, NotEqual}
use Rattle.int_lowering.specs.Operand.{Operand, as_uint, as_int}
use Rattle.int_lowering.specs.Term.{unsigned_literal, signed_zero}
use Rattle.int_lowering.specs.Division as written
use Rattle.traces.specs.Outcomes.{Result}
use Rattle.glsl_semantics.specs.Shapes.{boolean, int, uint, Typed, typed}
use Rattle.glsl_semantics.specs.States.{State}
use Rattle.glsl_semantics.specs.Operators.{operated}
use Rattle.glsl_semantics.specs.Expressions.{Program, Argument}
use Rattle.lowering_law.specs.Magnitudes.{negated, negated_where, magnitude, differ}
use Rattle.lowering_law.specs.Says.{Says}
use Rattle.lowering_law.proofs.Division.{negated_is, no_zero, missing, modulo_by, signed_quotient, signed_remainder, signed_modulo, none_below}
use Rattle.lowering_law.proofs.Saying.{says_binary, says_choose_first, says_choose_second}

abbrev u : ℕ → Typed
u a = typed uint (word a)

abbrev b : Bool → Typed
b t = typed boolean (truth t)

-- a magnitude is 0 of 0 alone
magnitude_some : (a : ℕ) → a < 2 ^ 32 → 0 < a → (magnitude a == 0) ≡ false
magnitude_some a h some = by_sign (nat_lt a (2 ^ 31)) refl
  where
    not_zero : (n : ℕ) → 0 < n → (n == 0) ≡ false
    not_zero n h = grind (arith, nat_tests, h)

    by_sign : (x : Bool) → nat_lt a (2 ^ 31) ≡ x → (magnitude a == 0) ≡ false
    by_sign true e = rw (e, none_below a) (not_zero a some)
    by_sign false e = rw (e, negated_is a some h) (no_zero (2 ^ 32 - suc a))

divides : (m n : ℕ) → (n == 0) ≡ false → operated Div (u m) (u n) ≡ Some (u (m / n))
divides m n e = rw e refl

leaves : (m n : ℕ) → (n == 0) ≡ false → operated Rem (u m) (u n) ≡ Some (u (m % n))
leaves m n e = rw e refl

unlike : (x y : Bool) → operated NotEqual (b x) (b y) ≡ Some (b (differ x y))
unlike true true = refl
unlike true false = refl
unlike false true = refl
unlike false false = refl

abbrev alike_truth : Bool → Bool
alike_truth true = false
alike_truth false = true

alike : (x y : Bool) → operated Equal (b x) (b y) ≡ Some (b (alike_truth (differ x y)))
alike true true = refl
alike true false = refl
alike false true = refl
alike false false = refl

module _ (p : Program) (calls : Text → List Argument → State → Result (Option Typed × State)) (s : State) where
  abbrev S : Expr → Typed → Type 0
  S = Says p calls s

  -- an operand that is a number: as int and as uint it says this word
  pub record IsNumber (x : Operand) (a : ℕ) : Type 0 where
    pub as_an_int : S (as_int x) (typed int (word a))
    pub as_a_uint : S (as_uint x) (u a)

  zero_says : S (unsigned_literal 0) (u 0)
  zero_says = refl

  by_truth : (c x y : Expr) (t : Bool) (v : Typed) → S c (b t) → (t ≡ true → S x v) → (t ≡ false → S y v) → S (choose c x y) v
  by_truth c x y true v hc hx hy = says_choose_first p calls s c x y v hc (hx refl)
  by_truth c x y false v hc hx hy = says_choose_second p calls s c x y v hc (hy refl)

  sign_says : (x : Operand) (a : ℕ) → IsNumber x a → S (written.is_negative x) (b (is_below_zero (signed a)))
  sign_says x a h = says_binary p calls s Less (as_int x) signed_zero (typed int (word a)) (typed int (word 0)) (b (is_below_zero (signed a))) refl h.as_an_int refl refl

  negated_says : (e : Expr) (a : ℕ) → S e (u a) → S (written.negated e) (u (negated a))
  negated_says e a h = says_binary p calls s Sub (unsigned_literal 0) e (u 0) (u a) (u (negated a)) refl zero_says h refl

  where_says : (c e : Expr) (t : Bool) (a : ℕ) → S c (b t) → S e (u a) → S (written.negated_where c e) (u (negated_where t a))
  where_says c e true a hc he = says_choose_first p calls s c (written.negated e) e (u (negated a)) hc (negated_says e a he)
  where_says c e false a hc he = says_choose_second p calls s c (written.negated e) e (u a) hc he

  pub magnitude_says : (x : Operand) (a : ℕ) → IsNumber x a → S (written.magnitude x) (u (magnitude a))
  magnitude_says x a h = where_says (written.is_negative x) (as_uint x) (is_below_zero (signed a)) a (sign_says x a h) h.as_a_uint

  module _ (x y : Operand) (m n : ℕ) (hx : IsNumber x m) (hy : IsNumber y n) (lm : m < 2 ^ 32) (ln : n < 2 ^ 32) (some : 0 < n) where
    quotient_says : S (written.quotient x y) (u (magnitude m / magnitude n))
    quotient_says = says_binary p calls s Div (written.magnitude x) (written.magnitude y) (u (magnitude m)) (u (magnitude n)) (u (magnitude m / magnitude n)) refl (magnitude_says x m hx) (magnitude_says y n hy) (divides (magnitude m) (magnitude n) (magnitude_some n ln some))

    remainder_says : S (written.remainder x y) (u (magnitude m % magnitude n))
    remainder_says = says_binary p calls s Rem (written.magnitude x) (written.magnitude y) (u (magnitude m)) (u (magnitude n)) (u (magnitude m % magnitude n)) refl (magnitude_says x m hx) (magnitude_says y n hy) (leaves (magnitude m) (magnitude n) (magnitude_some n ln some))

    abbrev sx : Bool
    sx = is_below_zero (signed m)

    abbrev sy : Bool
    sy = is_below_zero (signed n)

    -- OpSDiv, OpSRem and OpSMod as they are written
    pub signed_quotient_says : S (written.signed_quotient x y) (u (word_of (int_div (signed m) (signed n))))
    signed_quotient_says =
        subst (λ a. S (written.signed_quotient x y) (u a)) (sym (signed_quotient m n lm ln some))
        (where_says (written.signs NotEqual x y) (written.quotient x y) (differ sx sy) (magnitude m / magnitude n)
        (says_binary p calls s NotEqual (written.is_negative x) (written.is_negative y) (b sx) (b sy) (b (differ sx sy)) refl (sign_says x m hx) (sign_says y n hy) (unlike sx sy)) quotient_says)

    pub signed_remainder_says : S (written.signed_remainder x y) (u (word_of (int_rem (signed m) (signed n))))
    signed_remainder_says =
        subst (λ a. S (written.signed_remainder x y) (u a)) (sym (signed_remainder m n lm ln some))
        (where_says (written.is_negative x) (written.remainder x y) sx (magnitude m % magnitude n) (sign_says x m hx) remainder_says)

    abbrev left : ℕ
    left = magnitude m % magnitude n

    like_says : S (written.of_like_signs x y) (u (negated_where sy left))
    like_says = where_says (written.is_negative y) (written.remainder x y) sy left (sign_says y n hy) remainder_says

    unlike_says : S (written.of_unlike_signs x y) (u (elim sy [ true ↦ missing left (magnitude n) | false ↦ missing (magnitude n) left ]))
    unlike_says =
        by_truth (written.is_negative y) (binary Sub (written.remainder x y) (written.magnitude y)) (binary Sub (written.magnitude y) (written.remainder x y)) sy _ (sign_says y n hy)
        (λ e. subst (λ t. S (binary Sub (written.remainder x y) (written.magnitude y)) (u (elim t [ true ↦ missing left (magnitude n) | false ↦ missing (magnitude n) left ]))) (sym e)
        (says_binary p calls s Sub (written.remainder x y) (written.magnitude y) (u left) (u (magnitude n)) (u (missing left (magnitude n))) refl remainder_says (magnitude_says y n hy) refl))
        (λ e. subst (λ t. S (binary Sub (written.magnitude y) (written.remainder x y)) (u (elim t [ true ↦ missing left (magnitude n) | false ↦ missing (magnitude n) left ]))) (sym e)
        (says_binary p calls s Sub (written.magnitude y) (written.remainder x y) (u (magnitude n)) (u left) (u (missing (magnitude n) left)) refl (magnitude_says y n hy) remainder_says refl))

    -- what stands where the remainder is not 0
    abbrev inner : Bool → ℕ
    inner d = elim d [ false ↦ negated_where sy left | true ↦ elim sy [ true ↦ missing left (magnitude n) | false ↦ missing (magnitude n) left ] ]

    inner_says : (d : Bool) → S (written.signs Equal x y) (b (alike_truth d)) → S (choose (written.signs Equal x y) (written.of_like_signs x y) (written.of_unlike_signs x y)) (u (inner d))
    inner_says true h = says_choose_second p calls s (written.signs Equal x y) (written.of_like_signs x y) (written.of_unlike_signs x y) (u (inner true)) h unlike_says
    inner_says false h = says_choose_first p calls s (written.signs Equal x y) (written.of_like_signs x y) (written.of_unlike_signs x y) (u (inner false)) h like_says

    pub signed_modulo_says : S (written.signed_modulo x y) (u (word_of (int_modulo (signed m) (signed n))))
    signed_modulo_says =
        subst (λ a. S (written.signed_modulo x y) (u a)) (sym (signed_modulo m n lm ln some))
        (by_truth (binary Equal (written.remainder x y) (unsigned_literal 0)) (unsigned_literal 0) (choose (written.signs Equal x y) (written.of_like_signs x y) (written.of_unlike_signs x y)) (left == 0) (u (modulo_by sx sy left (magnitude n)))
        (says_binary p calls s Equal (written.remainder x y) (unsigned_literal 0) (u left) (u 0) (b (left == 0)) refl remainder_says zero_says refl)
        (λ e. subst (λ t. S (unsigned_literal 0) (u (elim t [ true ↦ 0 | false ↦ inner (differ sx sy) ]))) (sym e) zero_says)
        (λ e. subst (λ t. S (choose (written.signs Equal x y) (written.of_like_signs x y) (written.of_unlike_signs x y)) (u (elim t [ true ↦ 0 | false ↦ inner (differ sx sy) ]))) (sym e)
        (inner_says (differ sx sy) (says_binary p calls s Equal (written.is_negative x) (written.is_negative y) (b sx) (b sy) (b (alike_truth (differ sx sy))) refl (sign_says x m hx) (sign_says y n hy) (alike sx sy)))))
