-- Division of numbers with a sign, by the magnitudes of its operands: `/` and `%` stand on uint alone.
use Rattle.glsl_ast.specs.Tree.{Expr, binary, choose}
use Rattle.glsl_ast.specs.declared.expressions.BinOp.{BinOp}
use Rattle.glsl_ast.specs.declared.expressions.BinOp.TheVariants.{Less, Sub, Div, Rem, Equal, NotEqual}
use Rattle.int_lowering.specs.Operand.{Operand, as_uint, as_int}
use Rattle.int_lowering.specs.Term.{unsigned_literal, signed_zero}

-- (x < 0)
abbrev pub is_negative : Operand → Expr
is_negative x = binary Less (as_int x) signed_zero

-- (0u - e)
abbrev pub negated : Expr → Expr
negated e = binary Sub (unsigned_literal 0) e

-- an expression, or it negated where a condition holds
abbrev pub negated_where : Expr → Expr → Expr
negated_where condition e = choose condition (negated e) e

-- U(x): the magnitude of a number with a sign
abbrev pub magnitude : Operand → Expr
magnitude x = negated_where (is_negative x) (as_uint x)

-- Q and M: the quotient and the remainder of the magnitudes
abbrev pub quotient : Operand → Operand → Expr
quotient a b = binary Div (magnitude a) (magnitude b)

abbrev pub remainder : Operand → Operand → Expr
remainder a b = binary Rem (magnitude a) (magnitude b)

-- a comparison of the signs
abbrev pub signs : BinOp → Operand → Operand → Expr
signs o a b = binary o (is_negative a) (is_negative b)

-- the quotient is negative where the signs differ
abbrev pub signed_quotient : Operand → Operand → Expr
signed_quotient a b = negated_where (signs NotEqual a b) (quotient a b)

-- the remainder has the sign of the dividend
abbrev pub signed_remainder : Operand → Operand → Expr
signed_remainder a b = negated_where (is_negative a) (remainder a b)

-- the remainder that has the sign of the divisor: where the signs differ, it is what is missing to a multiple of the divisor
abbrev pub of_like_signs : Operand → Operand → Expr
of_like_signs a b = negated_where (is_negative b) (remainder a b)

abbrev pub of_unlike_signs : Operand → Operand → Expr
of_unlike_signs a b = choose (is_negative b) (binary Sub (remainder a b) (magnitude b)) (binary Sub (magnitude b) (remainder a b))

abbrev pub signed_modulo : Operand → Operand → Expr
signed_modulo a b =
    choose (binary Equal (remainder a b) (unsigned_literal 0))
    (unsigned_literal 0)
    (choose (signs Equal a b) (of_like_signs a b) (of_unlike_signs a b))
