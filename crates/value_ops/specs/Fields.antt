-- Fields of bits, by how they are read, and the base with a field from another word.
use Rattle.std.specs.Prelude.{ℕ, ◌+◌, ◌*◌, ◌/◌, ◌%◌, ◌^◌, Option}
use Rattle.op_semantics.specs.Word.{bit_field_signed, bit_field_unsigned}
use Rattle.value_ops.specs.declared.bits.Sign.{Sign}
use Rattle.value_ops.specs.declared.bits.Sign.TheVariants as sign

abbrev pub bit_field : Sign → ℕ → ℕ → ℕ → Option ℕ
bit_field sign.Signed = bit_field_signed
bit_field sign.Unsigned = bit_field_unsigned

abbrev pub with_field : ℕ → ℕ → ℕ → ℕ → ℕ
with_field offset count base insert = base % 2 ^ offset + insert % 2 ^ count * 2 ^ offset + base / 2 ^ (offset + count) * 2 ^ (offset + count)
