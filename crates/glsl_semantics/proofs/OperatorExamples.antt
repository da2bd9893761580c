-- Operators, constructors and built-in functions, computed.
use Rattle.std.proofs.Common.{◌≡◌, ℕ, ◌-◌, ◌^◌, List, [], ◌∷◌, refl}
use Rattle.std.specs.Prelude.{Bool, true, false, codes, Some, None, length, map}
use Rattle.std.specs.Int.{reverse_bits_onto}
use lib.Count.{ones_in, count_leading_zeros, count_trailing_zeros}
use Rattle.spv_module.specs.declared.tree.Elem.TheVariants as elem
use Rattle.spv_types.specs.Tree.{ValueTree, truth, word, many, values_in}
use Rattle.glsl_ast.specs.declared.expressions.BinOp.TheVariants as op
use Rattle.glsl_semantics.specs.Shapes.{Shape, boolean, int, uint, vector, array, struct, no_fields, field, Typed, typed}
use Rattle.glsl_semantics.specs.Operators.{operated, negated, flipped}
use Rattle.glsl_semantics.specs.Functions.{built, pure_value, minimum, maximum, sign, any, all, bit_count, bitfield_reverse, find_lsb, find_msb, bitfield_extract, bitfield_insert}

opened : Unit {0}
unfolding ones_in count_leading_zeros count_trailing_zeros reverse_bits_onto
opened = tt

abbrev minus : ℕ → ℕ
minus n = 2 ^ 32 - n

abbrev u : ℕ → Typed
u n = typed uint (word n)

abbrev i : ℕ → Typed
i n = typed int (word n)

abbrev b : Bool → Typed
b t = typed boolean (truth t)

abbrev words : List ℕ → ValueTree
words ns = many (values_in (map word ns))

abbrev uv : List ℕ → Typed
uv ns = typed (vector elem.Uint (length ns)) (words ns)

abbrev iv : List ℕ → Typed
iv ns = typed (vector elem.Int (length ns)) (words ns)

abbrev bv : List Bool → Typed
bv ns = typed (vector elem.Bool (length ns)) (many (values_in (map truth ns)))

-- sums wrap; an int and a uint do not fit; a scalar stands beside each component
sums :
    operated op.Add (u 4294967295) (u 1) ∷ operated op.Sub (i 0) (i 1) ∷ operated op.Mul (i (minus 3)) (i 5) ∷ operated op.Add (i 1) (u 1) ∷ operated op.Add (b true) (b true) ∷
    operated op.Add (uv (1 ∷ 2 ∷ [])) (u 10) ∷ operated op.Sub (u 0) (uv (1 ∷ 2 ∷ [])) ∷ operated op.Add (uv (1 ∷ 2 ∷ [])) (uv (1 ∷ 2 ∷ 3 ∷ [])) ∷ []
    ≡ Some (u 0) ∷ Some (i (minus 1)) ∷ Some (i (minus 15)) ∷ None ∷ None ∷ Some (uv (11 ∷ 12 ∷ [])) ∷ Some (uv (minus 1 ∷ minus 2 ∷ [])) ∷ None ∷ []
sums = refl

-- a division by zero, or of or by an int below zero, has no value
divisions :
    operated op.Div (u 7) (u 2) ∷ operated op.Rem (u 7) (u 2) ∷ operated op.Div (u (minus 1)) (u 2) ∷ operated op.Div (i 7) (i 2) ∷ operated op.Div (i (minus 7)) (i 2) ∷ operated op.Rem (i 7) (i (minus 2)) ∷ operated op.Div (u 7) (u 0) ∷ operated op.Rem (i 7) (i 0) ∷ []
    ≡ Some (u 3) ∷ Some (u 1) ∷ Some (u 2147483647) ∷ Some (i 3) ∷ None ∷ None ∷ None ∷ None ∷ []
divisions = refl

-- a shift by 32 or by an amount below zero has no value; `>>` of an int keeps the sign
shifts :
    operated op.Shl (u 3) (u 31) ∷ operated op.Shl (u 3) (u 32) ∷ operated op.Shl (i 1) (u 4) ∷ operated op.Shr (i (minus 8)) (u 1) ∷ operated op.Shr (u (minus 8)) (i 1) ∷ operated op.Shr (u 1) (i (minus 1)) ∷
    operated op.Shl (uv (1 ∷ 2 ∷ [])) (u 1) ∷ operated op.Shl (uv (1 ∷ 2 ∷ [])) (iv (1 ∷ 2 ∷ [])) ∷ operated op.Shl (u 1) (uv (1 ∷ 2 ∷ [])) ∷ []
    ≡ Some (u 2147483648) ∷ None ∷ Some (i 16) ∷ Some (i (minus 4)) ∷ Some (u 2147483644) ∷ None ∷ Some (uv (2 ∷ 4 ∷ [])) ∷ Some (uv (2 ∷ 8 ∷ [])) ∷ None ∷ []
shifts = refl

bits : operated op.And (u 12) (u 10) ∷ operated op.Or (u 12) (u 10) ∷ operated op.Xor (uv (12 ∷ 1 ∷ [])) (u 10) ∷ flipped (u 0) ∷ flipped (iv (0 ∷ 1 ∷ [])) ∷ flipped (b true) ∷ negated (b true) ∷ negated (u 0) ∷ []
    ≡ Some (u 8) ∷ Some (u 14) ∷ Some (uv (6 ∷ 11 ∷ [])) ∷ Some (u (minus 1)) ∷ Some (iv (minus 1 ∷ minus 2 ∷ [])) ∷ None ∷ Some (b false) ∷ None ∷ []
bits = refl

-- comparisons are of scalars, those of ints with the sign; equality is of any one type
comparisons :
    operated op.Less (i (minus 1)) (i 1) ∷ operated op.Less (u (minus 1)) (u 1) ∷ operated op.GreaterEqual (i 1) (i 1) ∷ operated op.Less (u 1) (i 1) ∷ operated op.Less (uv (1 ∷ 2 ∷ [])) (uv (2 ∷ 3 ∷ [])) ∷
    operated op.Equal (b true) (b true) ∷ operated op.NotEqual (u 1) (u 1) ∷ operated op.Equal (uv (1 ∷ 2 ∷ [])) (uv (1 ∷ 3 ∷ [])) ∷ operated op.Equal (u 1) (i 1) ∷ []
    ≡ Some (b true) ∷ Some (b false) ∷ Some (b true) ∷ None ∷ None ∷ Some (b true) ∷ Some (b false) ∷ Some (b false) ∷ None ∷ []
comparisons = refl

abbrev pair : Shape
pair = struct (codes "Pair") (field (codes "a") uint (field (codes "b") boolean no_fields))

constructors :
    built uint (i (minus 1) ∷ []) ∷ built boolean (u 2 ∷ []) ∷ built int (b true ∷ []) ∷ built uint (u 1 ∷ u 2 ∷ []) ∷ built (vector elem.Uint 3) (i 1 ∷ []) ∷ built (vector elem.Int 2) (uv (1 ∷ 2 ∷ []) ∷ []) ∷
    built (vector elem.Uint 4) (u 1 ∷ uv (2 ∷ 3 ∷ []) ∷ u 4 ∷ []) ∷ built (vector elem.Uint 4) (u 1 ∷ uv (2 ∷ 3 ∷ []) ∷ []) ∷ built pair (u 1 ∷ b true ∷ []) ∷ built pair (i 1 ∷ b true ∷ []) ∷ built (array uint (Some 2)) (u 1 ∷ u 2 ∷ []) ∷ built (array uint (Some 2)) (u 1 ∷ []) ∷ built (array uint None) (u 1 ∷ []) ∷ []
    ≡ Some (u (minus 1)) ∷ Some (b true) ∷ Some (i 1) ∷ None ∷ Some (uv (1 ∷ 1 ∷ 1 ∷ [])) ∷ Some (iv (1 ∷ 2 ∷ [])) ∷
    Some (uv (1 ∷ 2 ∷ 3 ∷ 4 ∷ [])) ∷ None ∷ Some (typed pair (many (values_in (word 1 ∷ truth true ∷ [])))) ∷ None ∷ Some (typed (array uint (Some 2)) (words (1 ∷ 2 ∷ []))) ∷ None ∷ None ∷ []
constructors = refl

functions :
    pure_value minimum (i (minus 1) ∷ i 1 ∷ []) ∷ pure_value minimum (u (minus 1) ∷ u 1 ∷ []) ∷ pure_value maximum (uv (1 ∷ 5 ∷ []) ∷ u 3 ∷ []) ∷ pure_value sign (i (minus 7) ∷ []) ∷ pure_value sign (u 7 ∷ []) ∷ pure_value any (bv (false ∷ true ∷ []) ∷ []) ∷ pure_value all (bv (false ∷ true ∷ []) ∷ []) ∷
    pure_value bit_count (u 7 ∷ []) ∷ pure_value bitfield_reverse (u 1 ∷ []) ∷ pure_value find_lsb (u 8 ∷ []) ∷ pure_value find_lsb (u 0 ∷ []) ∷ pure_value find_msb (i (minus 1) ∷ []) ∷ pure_value find_msb (u (minus 1) ∷ []) ∷ []
    ≡ Some (i (minus 1)) ∷ Some (u 1) ∷ Some (uv (3 ∷ 5 ∷ [])) ∷ Some (i (minus 1)) ∷ None ∷ Some (b true) ∷ Some (b false) ∷
    Some (i 3) ∷ Some (u 2147483648) ∷ Some (i 3) ∷ Some (i (minus 1)) ∷ Some (i (minus 1)) ∷ Some (i 31) ∷ []
unfolding opened
functions = refl

-- bit fields by int offsets and counts: within the word, at its edge, past it, below zero
fields :
    pure_value bitfield_extract (i 240 ∷ i 4 ∷ i 4 ∷ []) ∷ pure_value bitfield_extract (u 240 ∷ i 4 ∷ i 4 ∷ []) ∷ pure_value bitfield_extract (u 240 ∷ i 32 ∷ i 0 ∷ []) ∷ pure_value bitfield_extract (u 240 ∷ i 30 ∷ i 4 ∷ []) ∷ pure_value bitfield_extract (u 240 ∷ i (minus 1) ∷ i 1 ∷ []) ∷ pure_value bitfield_extract (u 240 ∷ u 4 ∷ u 4 ∷ []) ∷
    pure_value bitfield_insert (u 0 ∷ u 5 ∷ i 4 ∷ i 4 ∷ []) ∷ pure_value bitfield_insert (u 0 ∷ i 5 ∷ i 4 ∷ i 4 ∷ []) ∷ []
    ≡ Some (i (minus 1)) ∷ Some (u 15) ∷ Some (u 0) ∷ None ∷ None ∷ None ∷ Some (u 80) ∷ None ∷ []
unfolding opened
fields = refl
