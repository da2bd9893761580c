use Rattle.std.proofs.Common.{◌<◌, ◌≤◌, ◌^◌, ◌+◌, ◌*◌, ◌∙◌, sym, arith, slice_index}
use Rattle.std.specs.Char.{digit_value}
use Rattle.spec_constants.proofs.Digits.{overflow}
use Rattle.spec_constants.proofs.numerals.number.Goals as goal

pub returns-in_err-checked_mul : goal.returns-in_err-checked_mul
returns-in_err-checked_mul c =
    let digit : digit_value (slice_index c.args.digits.now c.loop-byte.byte-index) < c.args.base = grind (arith, c.in_ok-digit.ensures.value) in
    let past_32_bits : 2 ^ 32 ≤ c.loop-byte.n * c.args.base = grind (arith, c.in_err-checked_mul.ensures) in
    let most : c.args.most < 2 ^ 32 = c.ranges.most.fits in
    let over : c.args.most < c.loop-byte.n * c.args.base + digit_value (slice_index c.args.digits.now c.loop-byte.byte-index) = omega arith in
    c.from_residual-in_err-checked_mul.ensures ∙ sym (overflow c.args.base c.loop-byte.n c.args.most c.loop-byte.byte-index c.args.digits.now (omega arith) (omega arith) digit over c.loop-byte.invariant)

pub returns-in_err-n : goal.returns-in_err-n
returns-in_err-n c =
    let digit : digit_value (slice_index c.args.digits.now c.loop-byte.byte-index) < c.args.base = grind (arith, c.in_ok-digit.ensures.value) in
    let past_32_bits : 2 ^ 32 ≤ c.loop-byte.n * c.args.base + digit_value (slice_index c.args.digits.now c.loop-byte.byte-index) = grind (arith, c.in_err-n.ensures, c.in_ok-digit.ensures.value, c.in_ok-checked_mul.ensures) in
    let most : c.args.most < 2 ^ 32 = c.ranges.most.fits in
    let over : c.args.most < c.loop-byte.n * c.args.base + digit_value (slice_index c.args.digits.now c.loop-byte.byte-index) = omega arith in
    c.from_residual-in_err-n.ensures ∙ sym (overflow c.args.base c.loop-byte.n c.args.most c.loop-byte.byte-index c.args.digits.now (omega arith) (omega arith) digit over c.loop-byte.invariant)
