-- What operations make of words are words: numbers below 2 ^ 32.
use Rattle.std.proofs.Common.{◌≡◌, ◌<◌, ◌≤◌, ◌+◌, ◌-◌, ◌*◌, ◌/◌, ◌%◌, ◌^◌, ◌==◌, ◌||◌, ◌&&◌, ℕ, zero, suc, Bool, true, false, Option, Some, None, min, max, inl, inr, refl, sym, subst, ◌∙◌, if◌then◌else◌, pow-add, pow_mono, pow_pos, shr_lt, mul-le-mul_right, suc-mul, mod-lt, arith}
use Rattle.std.proofs.Math.Nat.{div-le_self, mod-le}
use Rattle.std.specs.Prelude.{◌⊎◌, ◌+ℤ◌, ℤ, pos, negsuc, neg_ℤ, unsigned_abs, int_lt, int_div, int_rem, nat_lt, nat_le, bit_and, bit_or, bit_xor}
use Rattle.std.specs.Int.{w32, reverse_bits_onto, trailing_zeros, leading_zeros, bit_not, int_shr, int_min, int_max, int_signum, is_negative}
use Rattle.std.specs.Int.Bits.{and_lt}
use Rattle.std.specs.Int.Count.{ones_in}
use Rattle.std.proofs.lemmas.Nat.{or_of_32, xor_of_32, trailing_le}
use Rattle.std.proofs.lemmas.Int.{rem_below}
use Rattle.std.proofs.lemmas.Bool.Decides.{eqb_tells, nat_tests}
use Rattle.std.proofs.lemmas.Option.{same_Some}
use Rattle.op_semantics.specs.declared.operation.Unary.{Unary}
use Rattle.op_semantics.specs.declared.operation.Unary.TheVariants.{SNegate, Not, BitReverse, BitCount, SAbs, SSign, FindILsb, FindSMsb, FindUMsb}
use Rattle.op_semantics.specs.declared.operation.Binary.{Binary}
use Rattle.op_semantics.specs.declared.operation.Binary.TheVariants.{IAdd, ISub, IMul, UDiv, SDiv, UMod, SRem, SMod, ShiftRightLogical, ShiftRightArithmetic, ShiftLeftLogical, BitwiseOr, BitwiseXor, BitwiseAnd, UMin, SMin, UMax, SMax}
use Rattle.op_semantics.specs.declared.operation.Clamp.{Clamp}
use Rattle.op_semantics.specs.declared.operation.Clamp.TheVariants.{UClamp, SClamp}
use Rattle.op_semantics.specs.Word.{signed, word_of, all_ones, int_modulo, lowest_one, highest_one, highest_unlike_sign, unary_word, divided, divided_signed, shift_size, binary_word, clamp_word, within_word, field, sign_extended, bit_field_unsigned, bit_field_signed, bit_field_insert, truths_equal}

abbrev pub IsWord : ℕ → Type 0
IsWord w = w < 2 ^ 32

-- numbers with a sign
word_low : (z : ℤ) → unsigned_abs z < 2 ^ 32 → word_of z < 2 ^ 32
word_low (pos n) h = h
word_low (negsuc n) h = let low : 2 ^ 32 - suc n < 2 ^ 32 = omega arith in low

abs_signed : (a : ℕ) → a < 2 ^ 32 → unsigned_abs (signed a) ≤ 2 ^ 31
abs_signed a h = by_side (nat_lt a (2 ^ 31)) refl
  where
    by_side : (b : Bool) → nat_lt a (2 ^ 31) ≡ b → unsigned_abs (signed a) ≤ 2 ^ 31
    by_side true e = let low : a ≤ 2 ^ 31 = grind (arith, nat_tests, e) in rw e low
    by_side false e = let high : 2 ^ 31 ≤ a = grind (arith, nat_tests, e) in let low : suc (2 ^ 32 - suc a) ≤ 2 ^ 31 = omega (arith, high, h) in rw e low

abs_negated : (n : ℕ) → unsigned_abs (neg_ℤ (pos n)) ≡ n
abs_negated zero = refl
abs_negated (suc n) = refl

abs_quotient : (x y : ℤ) → unsigned_abs (int_div x y) ≤ unsigned_abs x
abs_quotient (pos a) (pos b) = div-le_self a b
abs_quotient (pos a) (negsuc b) = subst (λ n. n ≤ a) (sym (abs_negated (a / suc b))) (div-le_self a (suc b))
abs_quotient (negsuc a) (pos b) = subst (λ n. n ≤ suc a) (sym (abs_negated (suc a / b))) (div-le_self (suc a) b)
abs_quotient (negsuc a) (negsuc b) = div-le_self (suc a) (suc b)

abs_remainder : (x y : ℤ) → unsigned_abs (int_rem x y) ≤ unsigned_abs x
abs_remainder (pos a) y = mod-le a (unsigned_abs y)
abs_remainder (negsuc a) y = subst (λ n. n ≤ suc a) (sym (abs_negated (suc a % unsigned_abs y))) (mod-le (suc a) (unsigned_abs y))

abs_shifted : (x : ℤ) (m : ℕ) → unsigned_abs (int_shr x m) ≤ unsigned_abs x
abs_shifted (pos a) m = div-le_self a (2 ^ m)
abs_shifted (negsuc a) m = let low = div-le_self a (2 ^ m) in let more : suc (a / 2 ^ m) ≤ suc a = omega (arith, low) in more

abs_sum : (x y : ℤ) → unsigned_abs (x +ℤ y) ≤ unsigned_abs x + unsigned_abs y
abs_sum (pos a) (pos b) = let same : a + b ≤ a + b = omega arith in same
abs_sum (pos a) (negsuc b) = by_less (nat_lt a (suc b)) refl
  where
    by_less : (t : Bool) → nat_lt a (suc b) ≡ t → unsigned_abs (pos a +ℤ negsuc b) ≤ a + suc b
    by_less true e = let low : suc (suc b - suc a) ≤ a + suc b = omega arith in rw e low
    by_less false e = let low : a - suc b ≤ a + suc b = omega arith in rw e low
abs_sum (negsuc a) (pos b) = by_less (nat_lt b (suc a)) refl
  where
    by_less : (t : Bool) → nat_lt b (suc a) ≡ t → unsigned_abs (negsuc a +ℤ pos b) ≤ suc a + b
    by_less true e = let low : suc (suc a - suc b) ≤ suc a + b = omega arith in rw e low
    by_less false e = let low : b - suc a ≤ suc a + b = omega arith in rw e low
abs_sum (negsuc a) (negsuc b) = let same : suc (suc (a + b)) ≤ suc a + suc b = omega arith in same

-- of operands that are words
quotient_low : (a b : ℕ) → IsWord a → IsWord b → IsWord (word_of (int_div (signed a) (signed b)))
quotient_low a b ha hb = let first = abs_signed a ha in let less = abs_quotient (signed a) (signed b) in word_low (int_div (signed a) (signed b)) (let low : unsigned_abs (int_div (signed a) (signed b)) < 2 ^ 32 = omega (arith, first, less) in low)

remainder_low : (a b : ℕ) → IsWord a → IsWord b → IsWord (word_of (int_rem (signed a) (signed b)))
remainder_low a b ha hb = let first = abs_signed a ha in let less = abs_remainder (signed a) (signed b) in word_low (int_rem (signed a) (signed b)) (let low : unsigned_abs (int_rem (signed a) (signed b)) < 2 ^ 32 = omega (arith, first, less) in low)

signed_some : (b : ℕ) → IsWord b → 0 < b → 0 < unsigned_abs (signed b)
signed_some b h some = by_side (nat_lt b (2 ^ 31)) refl
  where
    by_side : (t : Bool) → nat_lt b (2 ^ 31) ≡ t → 0 < unsigned_abs (signed b)
    by_side true e = rw e some
    by_side false e = let low : 0 < suc (2 ^ 32 - suc b) = omega arith in rw e low

modulo_low : (a b : ℕ) → IsWord a → IsWord b → 0 < b → IsWord (word_of (int_modulo (signed a) (signed b)))
modulo_low a b ha hb some = by_sign ((unsigned_abs (int_rem (signed a) (signed b)) == 0) || truths_equal (is_negative (int_rem (signed a) (signed b))) (is_negative (signed b)))
  where
    less : unsigned_abs (int_rem (signed a) (signed b)) < unsigned_abs (signed b)
    less = rem_below (signed a) (signed b) (signed_some b hb some)

    by_sign : (t : Bool) → IsWord (word_of (if t then int_rem (signed a) (signed b) else int_rem (signed a) (signed b) +ℤ signed b))
    by_sign true = remainder_low a b ha hb
    by_sign false =
        let of_b = abs_signed b hb in
        let of_r = less in
        let sum = abs_sum (int_rem (signed a) (signed b)) (signed b) in
        word_low (int_rem (signed a) (signed b) +ℤ signed b) (let low : unsigned_abs (int_rem (signed a) (signed b) +ℤ signed b) < 2 ^ 32 = omega (arith, of_b, of_r, sum) in low)

small_word : (z : ℤ) → unsigned_abs z ≤ 2 ^ 31 → IsWord (word_of z)
small_word z h = word_low z (let low : unsigned_abs z < 2 ^ 32 = omega (arith, h) in low)

abs_min : (x y : ℤ) → unsigned_abs x ≤ 2 ^ 31 → unsigned_abs y ≤ 2 ^ 31 → unsigned_abs (int_min x y) ≤ 2 ^ 31
abs_min x y hx hy = by_less (int_lt y x)
  where
    by_less : (t : Bool) → unsigned_abs (if t then y else x) ≤ 2 ^ 31
    by_less true = hy
    by_less false = hx

abs_max : (x y : ℤ) → unsigned_abs x ≤ 2 ^ 31 → unsigned_abs y ≤ 2 ^ 31 → unsigned_abs (int_max x y) ≤ 2 ^ 31
abs_max x y hx hy = by_less (int_lt y x)
  where
    by_less : (t : Bool) → unsigned_abs (if t then x else y) ≤ 2 ^ 31
    by_less true = hx
    by_less false = hy

sign_low : (z : ℤ) → IsWord (word_of (int_signum z))
sign_low (pos n) = let low : min n 1 < 2 ^ 32 = omega arith in low
sign_low (negsuc n) = let low : 2 ^ 32 - 1 < 2 ^ 32 = omega arith in low

-- bits
reversed_low : (k j n a : ℕ) → a < 2 ^ j → reverse_bits_onto k n a < 2 ^ (j + k)
unfolding reverse_bits_onto
reversed_low zero j n a h = subst (λ m. a < 2 ^ m) (let same : j ≡ j + 0 = omega arith in same) h
reversed_low (suc k) j n a h =
    let double : 2 ^ (j + 1) ≡ 2 ^ j * 2 = pow-add 2 j 1 in
    let bit = mod-lt n (let two : 0 < 2 = omega arith in two) in
    let next : a * 2 + n % 2 < 2 ^ (j + 1) = omega (arith, h, double, bit) in
    subst (λ m. reverse_bits_onto k (n / 2) (a * 2 + n % 2) < 2 ^ m) (let same : j + 1 + k ≡ j + suc k = omega arith in same) (reversed_low k (j + 1) (n / 2) (a * 2 + n % 2) next)

counted_low : (k n : ℕ) → ones_in k n ≤ k
unfolding ones_in
counted_low zero n = let low : 0 ≤ 0 = omega arith in low
counted_low (suc k) n = let rest = counted_low k (n / 2) in let bit = mod-lt n (let two : 0 < 2 = omega arith in two) in let low : n % 2 + ones_in k (n / 2) ≤ suc k = omega (arith, rest, bit) in low

lowest_low : (a : ℕ) → IsWord (lowest_one a)
lowest_low a = by_zero (a == 0)
  where
    by_zero : (t : Bool) → IsWord (if t then all_ones else trailing_zeros w32 a)
    by_zero true = let low : 2 ^ 32 - 1 < 2 ^ 32 = omega arith in low
    by_zero false = let few = trailing_le 32 a in let low : trailing_zeros w32 a < 2 ^ 32 = omega (arith, few) in low

highest_low : (a : ℕ) → IsWord (highest_one a)
highest_low a = by_zero (a == 0)
  where
    by_zero : (t : Bool) → IsWord (if t then all_ones else 31 - leading_zeros w32 a)
    by_zero true = let low : 2 ^ 32 - 1 < 2 ^ 32 = omega arith in low
    by_zero false = let low : 31 - leading_zeros w32 a < 2 ^ 32 = omega arith in low

unlike_low : (a : ℕ) → IsWord (highest_unlike_sign a)
unlike_low a = by_sign (nat_lt a (2 ^ 31))
  where
    by_sign : (t : Bool) → IsWord (if t then highest_one a else highest_one (bit_not w32 a))
    by_sign true = highest_low a
    by_sign false = highest_low (bit_not w32 a)

pub unary_low : (o : Unary) (a : ℕ) → IsWord a → IsWord (unary_word o a)
unary_low SNegate a h = mod-lt (2 ^ 32 - a) (let some : 0 < 2 ^ 32 = omega arith in some)
unary_low Not a h = let low : 2 ^ 32 - 1 - a < 2 ^ 32 = omega arith in low
unary_low BitReverse a h = reversed_low 32 0 a 0 (let low : 0 < 2 ^ 0 = omega arith in low)
unary_low BitCount a h = let few = counted_low 32 a in let low : ones_in 32 a < 2 ^ 32 = omega (arith, few) in low
unary_low SAbs a h = let few = abs_signed a h in let low : unsigned_abs (signed a) < 2 ^ 32 = omega (arith, few) in low
unary_low SSign a h = sign_low (signed a)
unary_low FindILsb a h = lowest_low a
unary_low FindSMsb a h = unlike_low a
unary_low FindUMsb a h = highest_low a

-- what is found, if anything
found_low : (o : Option ℕ) (n r : ℕ) → IsWord n → o ≡ Some n → o ≡ Some r → IsWord r
found_low o n r h is at = subst IsWord (same_Some n r (sym is ∙ at)) h

divided_low : (f : ℕ → ℕ → ℕ) (a b r : ℕ) → (0 < b → IsWord (f a b)) → divided f a b ≡ Some r → IsWord r
divided_low f a b r h e = by_zero (b == 0) (eqb_tells b 0) e
  where
    by_zero : (t : Bool) → ((t ≡ true) × (b ≡ 0)) ⊎ ((t ≡ false) × (b ≡ 0 → ⊥)) → (if t then None else Some (f a b)) ≡ Some r → IsWord r
    by_zero true w e = cc
    by_zero false (inl w) e = cc
    by_zero false (inr w) e = let far = w.1 in subst IsWord (same_Some (f a b) r e) (h (above b far))
      where
        above : (n : ℕ) → (n ≡ 0 → ⊥) → 0 < n
        above zero far = absurd (far refl)
        above (suc n) far = omega arith

signed_low : (f : ℤ → ℤ → ℤ) (a b r : ℕ) → (0 < b → IsWord (word_of (f (signed a) (signed b)))) → divided_signed f a b ≡ Some r → IsWord r
signed_low f a b r h e = by_zero (b == 0) ((a == 2 ^ 31) && (b == all_ones)) (eqb_tells b 0) e
  where
    by_zero : (t u : Bool) → ((t ≡ true) × (b ≡ 0)) ⊎ ((t ≡ false) × (b ≡ 0 → ⊥)) → (if t || u then None else Some (word_of (f (signed a) (signed b)))) ≡ Some r → IsWord r
    by_zero true u w e = cc
    by_zero false true w e = cc
    by_zero false false (inl w) e = cc
    by_zero false false (inr w) e = let far = w.1 in subst IsWord (same_Some (word_of (f (signed a) (signed b))) r e) (h (above b far))
      where
        above : (n : ℕ) → (n ≡ 0 → ⊥) → 0 < n
        above zero far = absurd (far refl)
        above (suc n) far = omega arith

modulo_word : (n : ℕ) → IsWord (n % 2 ^ 32)
modulo_word n = mod-lt n (let some : 0 < 2 ^ 32 = omega arith in some)

pub binary_low : (o : Binary) (a b r : ℕ) → IsWord a → IsWord b → binary_word o a b ≡ Some r → IsWord r
binary_low IAdd a b r ha hb e = found_low _ ((a + b) % 2 ^ 32) r (modulo_word (a + b)) refl e
binary_low ISub a b r ha hb e = found_low _ ((a + (2 ^ 32 - b)) % 2 ^ 32) r (modulo_word (a + (2 ^ 32 - b))) refl e
binary_low IMul a b r ha hb e = found_low _ ((a * b) % 2 ^ 32) r (modulo_word (a * b)) refl e
binary_low UDiv a b r ha hb e = divided_low (λ x y. x / y) a b r (λ some. let low = div-le_self a b in let word_is : a / b < 2 ^ 32 = omega (arith, ha, low) in word_is) e
binary_low SDiv a b r ha hb e = signed_low int_div a b r (λ some. quotient_low a b ha hb) e
binary_low UMod a b r ha hb e = divided_low (λ x y. x % y) a b r (λ some. let low = mod-le a b in let word_is : a % b < 2 ^ 32 = omega (arith, ha, low) in word_is) e
binary_low SRem a b r ha hb e = signed_low int_rem a b r (λ some. remainder_low a b ha hb) e
binary_low SMod a b r ha hb e = signed_low int_modulo a b r (λ some. modulo_low a b ha hb some) e
binary_low ShiftRightLogical a b r ha hb e = found_low _ (a / shift_size b) r (let low = div-le_self a (shift_size b) in let word_is : a / shift_size b < 2 ^ 32 = omega (arith, ha, low) in word_is) refl e
binary_low ShiftRightArithmetic a b r ha hb e =
    found_low _ (word_of (int_shr (signed a) (b % 32))) r (let first = abs_signed a ha in let less = abs_shifted (signed a) (b % 32) in small_word (int_shr (signed a) (b % 32)) (let low : unsigned_abs (int_shr (signed a) (b % 32)) ≤ 2 ^ 31 = omega (arith, first, less) in low)) refl e
binary_low ShiftLeftLogical a b r ha hb e = found_low _ ((a * shift_size b) % 2 ^ 32) r (modulo_word (a * shift_size b)) refl e
binary_low BitwiseOr a b r ha hb e = found_low _ (bit_or a b) r (or_of_32 a b ha hb) refl e
binary_low BitwiseXor a b r ha hb e = found_low _ (bit_xor a b) r (xor_of_32 a b ha hb) refl e
binary_low BitwiseAnd a b r ha hb e = found_low _ (bit_and a b) r (and_lt 32 a b ha hb) refl e
binary_low UMin a b r ha hb e = found_low _ (min a b) r (let low : min a b < 2 ^ 32 = omega (arith, ha, hb) in low) refl e
binary_low SMin a b r ha hb e = found_low _ (word_of (int_min (signed a) (signed b))) r (small_word (int_min (signed a) (signed b)) (abs_min (signed a) (signed b) (abs_signed a ha) (abs_signed b hb))) refl e
binary_low UMax a b r ha hb e = found_low _ (max a b) r (let low : max a b < 2 ^ 32 = omega (arith, ha, hb) in low) refl e
binary_low SMax a b r ha hb e = found_low _ (word_of (int_max (signed a) (signed b))) r (small_word (int_max (signed a) (signed b)) (abs_max (signed a) (signed b) (abs_signed a ha) (abs_signed b hb))) refl e

pub clamp_low : (o : Clamp) (a b c : ℕ) → IsWord a → IsWord b → IsWord c → IsWord (clamp_word o a b c)
clamp_low UClamp a b c ha hb hc = let low : min (max a b) c < 2 ^ 32 = omega (arith, ha, hb, hc) in low
clamp_low SClamp a b c ha hb hc = small_word (int_min (int_max (signed a) (signed b)) (signed c)) (abs_min (int_max (signed a) (signed b)) (signed c) (abs_max (signed a) (signed b) (abs_signed a ha) (abs_signed b hb)) (abs_signed c hc))

-- fields
low_digit : (j k hi lo : ℕ) → hi < 2 ^ j → lo < 2 ^ k → lo + hi * 2 ^ k < 2 ^ (j + k)
low_digit j k hi lo h l =
    let product : suc hi * 2 ^ k ≤ 2 ^ j * 2 ^ k = mul-le-mul_right (2 ^ k) (let le : suc hi ≤ 2 ^ j = omega (arith, h) in le) in
    let whole : 2 ^ (j + k) ≡ 2 ^ j * 2 ^ k = pow-add 2 j k in
    let one : suc hi * 2 ^ k ≡ hi * 2 ^ k + 2 ^ k = suc-mul hi (2 ^ k) in
    omega (arith, product, whole, one, l)

field_below : (base offset count : ℕ) → IsWord base → field base offset count < 2 ^ 32
field_below base offset count h =
    let first = div-le_self base (2 ^ offset) in
    let second = mod-le (base / 2 ^ offset) (2 ^ count) in
    let low : base / 2 ^ offset % 2 ^ count < 2 ^ 32 = omega (arith, h, first, second) in low

within_low : (offset count n r : ℕ) → (offset + count ≤ 32 → IsWord n) → within_word offset count n ≡ Some r → IsWord r
within_low offset count n r h e = by_test (nat_le (offset + count) 32) refl e
  where
    by_test : (t : Bool) → nat_le (offset + count) 32 ≡ t → (if t then Some n else None) ≡ Some r → IsWord r
    by_test true at e = subst IsWord (same_Some n r e) (h (let le : offset + count ≤ 32 = grind (arith, nat_tests, at) in le))
    by_test false at e = cc

pub unsigned_field_low : (offset count base r : ℕ) → IsWord base → bit_field_unsigned offset count base ≡ Some r → IsWord r
unsigned_field_low offset count base r h e = within_low offset count (field base offset count) r (λ le. field_below base offset count h) e

pub signed_field_low : (offset count base r : ℕ) → IsWord base → bit_field_signed offset count base ≡ Some r → IsWord r
signed_field_low offset count base r h e = within_low offset count (sign_extended count (field base offset count)) r (λ le. by_sign le (nat_lt (field base offset count) (2 ^ (count - 1)))) e
  where
    below : field base offset count < 2 ^ count
    below = mod-lt (base / 2 ^ offset) (pow_pos count)

    by_sign : offset + count ≤ 32 → (t : Bool) → IsWord (if t then field base offset count else field base offset count + (2 ^ 32 - 2 ^ count))
    by_sign le true = field_below base offset count h
    by_sign le false =
        let less = below in
        let most : 2 ^ count ≤ 2 ^ 32 = pow_mono (let few : count ≤ 32 = omega (arith, le) in few) in
        let low : field base offset count + (2 ^ 32 - 2 ^ count) < 2 ^ 32 = omega (arith, less, most) in low

pub insert_low : (offset count base part r : ℕ) → IsWord base → bit_field_insert offset count base part ≡ Some r → IsWord r
insert_low offset count base part r h e = within_low offset count (base % 2 ^ offset + part % 2 ^ count * 2 ^ offset + base / 2 ^ (offset + count) * 2 ^ (offset + count)) r all_low e
  where
    all_low : offset + count ≤ 32 → IsWord (base % 2 ^ offset + part % 2 ^ count * 2 ^ offset + base / 2 ^ (offset + count) * 2 ^ (offset + count))
    all_low le =
        let first : base % 2 ^ offset + part % 2 ^ count * 2 ^ offset < 2 ^ (count + offset) = low_digit count offset (part % 2 ^ count) (base % 2 ^ offset) (mod-lt part (pow_pos count)) (mod-lt base (pow_pos offset)) in
        let lower : base % 2 ^ offset + part % 2 ^ count * 2 ^ offset < 2 ^ (offset + count) = subst (λ n. base % 2 ^ offset + part % 2 ^ count * 2 ^ offset < 2 ^ n) (let same : count + offset ≡ offset + count = omega arith in same) first in
        let whole : 32 - (offset + count) + (offset + count) ≡ 32 = omega (arith, le) in
        let upper : base / 2 ^ (offset + count) < 2 ^ (32 - (offset + count)) = shr_lt (32 - (offset + count)) (offset + count) (subst (λ n. base < 2 ^ n) (sym whole) h) in
        subst (λ n. base % 2 ^ offset + part % 2 ^ count * 2 ^ offset + base / 2 ^ (offset + count) * 2 ^ (offset + count) < 2 ^ n) whole
        (low_digit (32 - (offset + count)) (offset + count) (base / 2 ^ (offset + count)) (base % 2 ^ offset + part % 2 ^ count * 2 ^ offset) upper lower)
