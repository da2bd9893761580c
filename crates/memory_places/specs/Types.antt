-- Integers of 32 bits with a sign.
use Rattle.std.specs.Prelude.{ℕ, ◌^◌, nat_lt, if◌then◌else◌, Bool, true, false, Option, Some, None}
use Rattle.spv_types.specs.Tree.{Tree, int}

abbrev pub is_signed_tree : Option Tree → Bool
is_signed_tree (Some int) = true
is_signed_tree _ = false

-- the word, unless it is below zero as a number with a sign
abbrev pub length_if : Bool → ℕ → Option ℕ
length_if true w = if nat_lt w (2 ^ 31) then Some w else None
length_if false w = Some w
