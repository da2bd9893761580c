-- Numbers with a sign by their magnitudes, on words: what `/` and `%` of uints are applied to.
use Rattle.std.specs.Prelude.{ℕ, ◌+◌, ◌-◌, ◌%◌, ◌^◌, Bool, true, false}
use Rattle.std.specs.Int.{is_negative}
use Rattle.op_semantics.specs.Word.{signed}

-- `0u - e`
abbrev pub negated : ℕ → ℕ
negated e = (0 + (2 ^ 32 - e)) % 2 ^ 32

abbrev pub negated_where : Bool → ℕ → ℕ
negated_where c e = elim c [ true ↦ negated e | false ↦ e ]

abbrev pub magnitude : ℕ → ℕ
magnitude a = negated_where (is_negative (signed a)) a

-- one is below zero, and the other is not
abbrev pub differ : Bool → Bool → Bool
differ true true = false
differ true false = true
differ false true = true
differ false false = false
