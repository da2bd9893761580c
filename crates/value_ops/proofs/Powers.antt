-- Fields of bits below 2 ^ 32.
use Rattle.std.proofs.Common.{◌≡◌, ◌<◌, ◌≤◌, ◌+◌, ◌-◌, ◌*◌, ◌/◌, ◌%◌, ◌^◌, ℕ, ap, sym, subst, ◌∙◌, arith}
use Rattle.std.proofs.lemmas.Nat.{pow_pos, pow-add, mod_below, shr_below, shl_whole, mul-add-lt}
use Rattle.op_semantics.specs.Word.{field}
use Rattle.value_ops.specs.Fields.{with_field}

pub field_below : (base offset count : ℕ) → field base offset count < 2 ^ count
field_below base offset count = mod_below (base / 2 ^ offset) (2 ^ count) (pow_pos count)

-- the lowest bits are below the field's end with the field behind them, and all three below 2 ^ 32
below_end : (offset count base insert : ℕ) → insert % 2 ^ count * 2 ^ offset + base % 2 ^ offset < 2 ^ (offset + count)
below_end offset count base insert =
    let P : ℕ → Type 0 = λ n. insert % 2 ^ count * 2 ^ offset + base % 2 ^ offset < n in
    subst P (sym (pow-add 2 offset count)) (mul-add-lt (insert % 2 ^ count) (2 ^ offset) (base % 2 ^ offset) (2 ^ count) (mod_below insert (2 ^ count) (pow_pos count)) (mod_below base (2 ^ offset) (pow_pos offset)))

pub with_field_below : (offset count base insert : ℕ) → base < 2 ^ 32 → offset + count ≤ 32 → with_field offset count base insert < 2 ^ 32
with_field_below offset count base insert small within =
    let rest : 32 - (offset + count) + (offset + count) ≡ 32 = omega (arith, within) in
    let P : ℕ → Type 0 = λ n. base < 2 ^ n in
    let high : base / 2 ^ (offset + count) < 2 ^ (32 - (offset + count)) = shr_below base (32 - (offset + count)) (offset + count) (subst P (sym rest) small) in
    let whole : base / 2 ^ (offset + count) * 2 ^ (offset + count) + (insert % 2 ^ count * 2 ^ offset + base % 2 ^ offset) < 2 ^ (offset + count) * 2 ^ (32 - (offset + count)) =
    mul-add-lt (base / 2 ^ (offset + count)) (2 ^ (offset + count)) (insert % 2 ^ count * 2 ^ offset + base % 2 ^ offset) (2 ^ (32 - (offset + count))) high (below_end offset count base insert) in
    let turned : offset + count + (32 - (offset + count)) ≡ 32 = omega (arith, within) in
    let all : 2 ^ (offset + count) * 2 ^ (32 - (offset + count)) ≡ 2 ^ 32 = sym (pow-add 2 (offset + count) (32 - (offset + count))) ∙ ap (λ n. 2 ^ n) turned in
    omega (arith, whole, all)

-- the three parts, each moved to its place in 64 bits
pub sum_is : (offset count base insert low field high : ℕ) → base < 2 ^ 32 → offset + count ≤ 32 → low ≡ base % 2 ^ offset → field ≡ insert % 2 ^ count → high ≡ base / 2 ^ (offset + count) → low + field * 2 ^ offset % 2 ^ 64 + high * 2 ^ (offset + count) % 2 ^ 64 ≡ with_field offset count base insert
sum_is offset count base insert low field high small within l f h =
    let rest : 32 - (offset + count) + (offset + count) ≡ 32 = omega (arith, within) in
    let P : ℕ → Type 0 = λ n. base < 2 ^ n in
    let top : base / 2 ^ (offset + count) < 2 ^ (32 - (offset + count)) = shr_below base (32 - (offset + count)) (offset + count) (subst P (sym rest) small) in
    let middle : insert % 2 ^ count * 2 ^ offset % 2 ^ 64 ≡ insert % 2 ^ count * 2 ^ offset = shl_whole (insert % 2 ^ count) count offset 64 (mod_below insert (2 ^ count) (pow_pos count)) (omega (arith, within)) in
    let upper : base / 2 ^ (offset + count) * 2 ^ (offset + count) % 2 ^ 64 ≡ base / 2 ^ (offset + count) * 2 ^ (offset + count) = shl_whole (base / 2 ^ (offset + count)) (32 - (offset + count)) (offset + count) 64 top (omega (arith, within)) in
    ap (λ n. n + field * 2 ^ offset % 2 ^ 64 + high * 2 ^ (offset + count) % 2 ^ 64) l
    ∙ ap (λ n. base % 2 ^ offset + n * 2 ^ offset % 2 ^ 64 + high * 2 ^ (offset + count) % 2 ^ 64) f
    ∙ ap (λ n. base % 2 ^ offset + insert % 2 ^ count * 2 ^ offset % 2 ^ 64 + n * 2 ^ (offset + count) % 2 ^ 64) h
    ∙ ap (λ n. base % 2 ^ offset + n + base / 2 ^ (offset + count) * 2 ^ (offset + count) % 2 ^ 64) middle
    ∙ ap (λ n. base % 2 ^ offset + insert % 2 ^ count * 2 ^ offset + n) upper

pub sum_below : (offset count base insert low field high : ℕ) → base < 2 ^ 32 → offset + count ≤ 32 → low ≡ base % 2 ^ offset → field ≡ insert % 2 ^ count → high ≡ base / 2 ^ (offset + count) → low + field * 2 ^ offset % 2 ^ 64 + high * 2 ^ (offset + count) % 2 ^ 64 < 2 ^ 32
sum_below offset count base insert low field high small within l f h =
    let P : ℕ → Type 0 = λ n. n < 2 ^ 32 in
    subst P (sym (sum_is offset count base insert low field high small within l f h)) (with_field_below offset count base insert small within)
