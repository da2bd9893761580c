-- Division with a sign, by magnitudes: the quotient is negative where the signs differ, and the remainder where the dividend is; the other remainder has the divisor's sign.
use Rattle.std.proofs.Common.{◌≡◌, ℕ, zero, suc, ◌+◌, ◌-◌, ◌/◌, ◌%◌, ◌^◌, ◌<◌, ◌≤◌, Bool, true, false, refl, sym, ◌∙◌, arith}
use Rattle.std.specs.Prelude.{ℤ, pos, nat_lt, neg_ℤ, int_div, int_rem, ◌==◌}
use Rattle.std.specs.Int.{is_negative}
use Rattle.std.proofs.lemmas.Bool.Decides.{nat_tests}
use Rattle.std.proofs.Math.Nat.{mod-eq_of_lt, div-le_self, mod-le, mod-lt}
use Rattle.op_semantics.specs.Word.{signed, word_of, with_sign_of, int_modulo}
use Rattle.lowering_law.specs.Magnitudes.{negated, negated_where, magnitude, differ}

-- the word of a number below zero
word_negative : (n : ℕ) → n < 2 ^ 32 → word_of (neg_ℤ (pos n)) ≡ negated n
word_negative zero h = refl
word_negative (suc n) h =
    let small : 0 + (2 ^ 32 - suc n) < 2 ^ 32 = omega arith in
    let same : 0 + (2 ^ 32 - suc n) ≡ 2 ^ 32 - suc n = omega arith in
    sym (mod-eq_of_lt small ∙ same)

pub high_side : (a : ℕ) → nat_lt a (2 ^ 31) ≡ false → 2 ^ 31 ≤ a
high_side a e = grind (arith, nat_tests, e)

pub none_below : (n : ℕ) → nat_lt n 0 ≡ false
none_below n = grind (arith, nat_tests)

pub negated_is : (a : ℕ) → 0 < a → a < 2 ^ 32 → negated a ≡ suc (2 ^ 32 - suc a)
negated_is a some h =
    let small : 0 + (2 ^ 32 - a) < 2 ^ 32 = omega (arith, some) in
    let same : 0 + (2 ^ 32 - a) ≡ suc (2 ^ 32 - suc a) = omega (arith, some, h) in
    mod-eq_of_lt small ∙ same

quotient_small : (a b : ℕ) → a < 2 ^ 32 → a / b < 2 ^ 32
quotient_small a b h = omega (arith, div-le_self a b)

remainder_small : (a b : ℕ) → a < 2 ^ 32 → a % b < 2 ^ 32
remainder_small a b h = omega (arith, mod-le a b)

pub signed_quotient : (a b : ℕ) → a < 2 ^ 32 → b < 2 ^ 32 → 0 < b → word_of (int_div (signed a) (signed b)) ≡ negated_where (differ (is_negative (signed a)) (is_negative (signed b))) (magnitude a / magnitude b)
signed_quotient a b ha hb some = by_signs (nat_lt a (2 ^ 31)) (nat_lt b (2 ^ 31)) refl refl
  where
    by_signs : (x y : Bool) → nat_lt a (2 ^ 31) ≡ x → nat_lt b (2 ^ 31) ≡ y → word_of (int_div (signed a) (signed b)) ≡ negated_where (differ (is_negative (signed a)) (is_negative (signed b))) (magnitude a / magnitude b)
    by_signs true true e f = rw (e, f, none_below a, none_below b) refl
    by_signs true false e f =
        let m : negated b ≡ suc (2 ^ 32 - suc b) = negated_is b some hb in
        rw (e, f, m, none_below a) (word_negative (a / suc (2 ^ 32 - suc b)) (quotient_small a (suc (2 ^ 32 - suc b)) ha))
    by_signs false true e f =
        let m : negated a ≡ suc (2 ^ 32 - suc a) = negated_is a (let h = high_side a e in omega (arith, h)) ha in
        rw (e, f, m, none_below b) (word_negative (suc (2 ^ 32 - suc a) / b) (quotient_small (suc (2 ^ 32 - suc a)) b (omega (arith, high_side a e))))
    by_signs false false e f =
        let m : negated a ≡ suc (2 ^ 32 - suc a) = negated_is a (let h = high_side a e in omega (arith, h)) ha in
        let n : negated b ≡ suc (2 ^ 32 - suc b) = negated_is b some hb in
        rw (e, f, m, n) refl

pub signed_remainder : (a b : ℕ) → a < 2 ^ 32 → b < 2 ^ 32 → 0 < b → word_of (int_rem (signed a) (signed b)) ≡ negated_where (is_negative (signed a)) (magnitude a % magnitude b)
signed_remainder a b ha hb some = by_signs (nat_lt a (2 ^ 31)) (nat_lt b (2 ^ 31)) refl refl
  where
    by_signs : (x y : Bool) → nat_lt a (2 ^ 31) ≡ x → nat_lt b (2 ^ 31) ≡ y → word_of (int_rem (signed a) (signed b)) ≡ negated_where (is_negative (signed a)) (magnitude a % magnitude b)
    by_signs true true e f = rw (e, f, none_below a, none_below b) refl
    by_signs true false e f =
        let m : negated b ≡ suc (2 ^ 32 - suc b) = negated_is b some hb in
        rw (e, f, m, none_below a) refl
    by_signs false true e f =
        let m : negated a ≡ suc (2 ^ 32 - suc a) = negated_is a (let h = high_side a e in omega (arith, h)) ha in
        rw (e, f, m, none_below b) (word_negative (suc (2 ^ 32 - suc a) % b) (remainder_small (suc (2 ^ 32 - suc a)) b (omega (arith, high_side a e))))
    by_signs false false e f =
        let m : negated a ≡ suc (2 ^ 32 - suc a) = negated_is a (let h = high_side a e in omega (arith, h)) ha in
        let n : negated b ≡ suc (2 ^ 32 - suc b) = negated_is b some hb in
        rw (e, f, m, n) (word_negative (suc (2 ^ 32 - suc a) % suc (2 ^ 32 - suc b)) (remainder_small (suc (2 ^ 32 - suc a)) (suc (2 ^ 32 - suc b)) (omega (arith, high_side a e))))

-- The remainder that has the sign of the divisor, from the remainder M of the magnitudes, the divisor's magnitude n, and the signs: 0 where M is, M or its negation where the signs are alike, else what is missing to a multiple of the divisor.
abbrev pub missing : ℕ → ℕ → ℕ
missing a b = (a + (2 ^ 32 - b)) % 2 ^ 32

abbrev pub modulo_by : (x y : Bool) → ℕ → ℕ → ℕ
modulo_by x y m n = elim (m == 0) [
  | true ↦ 0
  | false ↦ elim (differ x y) [
    | false ↦ negated_where y m
    | true ↦ elim y [ true ↦ missing m n | false ↦ missing n m ]
  ]
]

pub no_zero : (m : ℕ) → (suc m == 0) ≡ false
no_zero m = grind (arith, nat_tests)

-- of a remainder that is 0
zero_remainder : (m : ℕ) (x y : Bool) (n : ℕ) → m ≡ 0 → modulo_by x y m n ≡ 0
zero_remainder m x y n e = rw e refl

abbrev of_sign : Bool → ℕ → ℤ
of_sign x m = elim x [ true ↦ neg_ℤ (pos m) | false ↦ pos m ]

signed_value : (x y : Bool) (m n : ℕ) → m < n → n < 2 ^ 32 → word_of (with_sign_of (of_sign y n) (of_sign x m)) ≡ modulo_by x y m n
signed_value false false zero n lt le = refl
signed_value false true zero zero lt le = absurd (omega (arith, lt))
signed_value false true zero (suc k) lt le = refl
signed_value true false zero n lt le = refl
signed_value true true zero zero lt le = absurd (omega (arith, lt))
signed_value true true zero (suc k) lt le = refl
signed_value false false (suc m) n lt le = rw (no_zero m, none_below n, none_below (suc m), modulo_by) refl
signed_value false true (suc m) zero lt le = absurd (omega (arith, lt))
signed_value false true (suc m) (suc k) lt le =
    let below : nat_lt (suc m) (suc k) ≡ true = grind (arith, nat_tests, lt) in
    let small : suc m + (2 ^ 32 - suc k) < 2 ^ 32 = omega (arith, lt, le) in
    let same : 2 ^ 32 - suc (suc k - suc (suc m)) ≡ suc m + (2 ^ 32 - suc k) = omega (arith, lt, le) in
    rw (no_zero m, none_below (suc m), below, modulo_by) (same ∙ sym (mod-eq_of_lt small))
signed_value true false (suc m) n lt le =
    let above : nat_lt n (suc m) ≡ false = grind (arith, nat_tests, lt) in
    let wraps : (n + (2 ^ 32 - suc m)) % 2 ^ 32 ≡ n - suc m = wrapped n (suc m) lt le in
    rw (no_zero m, none_below n, above, modulo_by) (sym wraps)
  where
    wrapped : (n m : ℕ) → m < n → n < 2 ^ 32 → (n + (2 ^ 32 - m)) % 2 ^ 32 ≡ n - m
    wrapped n m lt le = omega (arith, lt, le)
signed_value true true (suc m) zero lt le = absurd (omega (arith, lt))
signed_value true true (suc m) (suc k) lt le = rw (no_zero m, modulo_by) (word_negative (suc m) (omega (arith, lt, le)))

pub signed_modulo : (a b : ℕ) → a < 2 ^ 32 → b < 2 ^ 32 → 0 < b → word_of (int_modulo (signed a) (signed b)) ≡ modulo_by (is_negative (signed a)) (is_negative (signed b)) (magnitude a % magnitude b) (magnitude b)
signed_modulo a b ha hb some = by_signs (nat_lt a (2 ^ 31)) (nat_lt b (2 ^ 31)) refl refl
  where
    by_signs : (x y : Bool) → nat_lt a (2 ^ 31) ≡ x → nat_lt b (2 ^ 31) ≡ y → word_of (int_modulo (signed a) (signed b)) ≡ modulo_by (is_negative (signed a)) (is_negative (signed b)) (magnitude a % magnitude b) (magnitude b)
    by_signs true true e f = let v = signed_value false false (a % b) b (mod-lt a some) hb in rw (e, f, none_below a, none_below b) (rw (none_below b) at v)
    by_signs true false e f =
        let n : negated b ≡ suc (2 ^ 32 - suc b) = negated_is b some hb in
        rw (e, f, n, none_below a) (signed_value false true (a % suc (2 ^ 32 - suc b)) (suc (2 ^ 32 - suc b)) (mod-lt a (omega arith)) (omega (arith, high_side b f)))
    by_signs false true e f =
        let m : negated a ≡ suc (2 ^ 32 - suc a) = negated_is a (let h = high_side a e in omega (arith, h)) ha in
        let v = signed_value true false (suc (2 ^ 32 - suc a) % b) b (mod-lt (suc (2 ^ 32 - suc a)) some) hb in
        rw (e, f, m, none_below b) (rw (none_below b) at v)
    by_signs false false e f =
        let m : negated a ≡ suc (2 ^ 32 - suc a) = negated_is a (let h = high_side a e in omega (arith, h)) ha in
        let n : negated b ≡ suc (2 ^ 32 - suc b) = negated_is b some hb in
        rw (e, f, m, n) (signed_value true true (suc (2 ^ 32 - suc a) % suc (2 ^ 32 - suc b)) (suc (2 ^ 32 - suc b)) (mod-lt (suc (2 ^ 32 - suc a)) (omega arith)) (omega (arith, high_side b f)))
