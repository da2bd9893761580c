-- Expressions with few parentheses: the text that each is laid out as, and the tree that each text has.
use Rattle.std.proofs.Common.{◌≡◌, ℕ, List, [], ◌∷◌, refl, arith}
use Rattle.std.specs.Prelude.{codes, length, Option, Some, None}
use Rattle.std.specs.Fmt.{decimal}
use Rattle.std.proofs.lemmas.Fmt.{decimal_digit, decimal-digits_of}
use Rattle.glsl_ast.specs.Tree as tree
use Rattle.glsl_ast.specs.Tree.{Text, type_name, Expr, exprs_in}
use Rattle.glsl_ast.specs.declared.expressions.Literal.TheVariants as literal
use Rattle.glsl_ast.specs.declared.expressions.BinOp.TheVariants as op
use Rattle.glsl_grammar.specs.Marks.{mark_text}
use Rattle.glsl_grammar.specs.Lex.{is_white, is_digit, is_word, name_token, sign_token, ended, is_sign, lengthens, begun, lex, number_parts, fitting, hex_token}
use Rattle.glsl_grammar.specs.Token.{Token}
use Rattle.glsl_grammar.specs.Read.{read_expr}
use Rattle.glsl_grammar.specs.Layout.{expr_text}

opened : Unit {0}
unfolding mark_text is_white is_digit is_word name_token sign_token ended is_sign lengthens begun lex number_parts fitting hex_token
opened = tt

-- the tree of a text that is one expression, where no struct is declared
abbrev expr_of_tokens : List Token → Option (Expr × List Token)
expr_of_tokens ts = read_expr [] (length ts) ts

abbrev IsTreeOf : Expr → Text → Type 0
IsTreeOf e w = expr_of_tokens (lex w) ≡ Some (e, [])

-- laid out as this text, which has this tree
abbrev IsLaidOut : Expr → Text → Type 0
IsLaidOut e w = (expr_text e ≡ w) × IsTreeOf e w

abbrev a : Expr
a = tree.Expr.name (codes "a")

abbrev b : Expr
b = tree.Expr.name (codes "b")

abbrev c : Expr
c = tree.Expr.name (codes "c")

abbrev d : Expr
d = tree.Expr.name (codes "d")

abbrev uint : ℕ → Expr
uint n = tree.Expr.literal (literal.Uint n)

abbrev sub : Expr → Expr → Expr
sub = tree.binary op.Sub

-- left to right
difference : IsLaidOut (sub (sub a b) c) (codes "a - b - c")
unfolding opened
difference = (refl, refl)

nested_difference : IsLaidOut (sub a (sub b c)) (codes "a - (b - c)")
unfolding opened
nested_difference = (refl, refl)

sums : IsLaidOut (tree.binary op.Add (tree.binary op.Add (tree.Expr.name (codes "v20")) (uint 1)) (uint 1)) (codes "v20 + 1u + 1u")
unfolding opened
sums = (rw (decimal_digit 1 (omega arith)) refl, refl)

-- each level
all_levels : IsLaidOut
    (tree.choose (tree.binary op.Either a (tree.binary op.Both a (tree.binary op.Or a (tree.binary op.Xor a (tree.binary op.And a (tree.binary op.Equal a (tree.binary op.Less a (tree.binary op.Shl a (tree.binary op.Add a (tree.binary op.Mul a (tree.not b))))))))))) c d)
    (codes "a || a && a | a ^ a & a == a < a << a + a * !b ? c : d")
unfolding opened
all_levels = (refl, refl)

all_levels_turned : IsLaidOut
    (tree.not (tree.binary op.Mul (tree.binary op.Add (tree.binary op.Shl (tree.binary op.Less (tree.binary op.Equal (tree.binary op.And (tree.binary op.Xor (tree.binary op.Or (tree.binary op.Both (tree.binary op.Either (tree.choose a b c) a) a) a) a) a) a) a) a) a) a))
    (codes "!(((((((((((a ? b : c) || a) && a) | a) ^ a) & a) == a) < a) << a) + a) * a)")
unfolding opened
all_levels_turned = (refl, refl)

-- conditions
choice_in_choice : IsLaidOut (tree.choose a (tree.choose a b c) (tree.choose b c d)) (codes "a ? a ? b : c : b ? c : d")
unfolding opened
choice_in_choice = (refl, refl)

choice_in_condition : IsLaidOut (tree.choose (tree.choose a b c) c d) (codes "(a ? b : c) ? c : d")
unfolding opened
choice_in_condition = (refl, refl)

-- unary signs
signs : IsLaidOut (tree.not (tree.flip (tree.not a))) (codes "!~!a")
unfolding opened
signs = (refl, refl)

sign_of_suffix : IsLaidOut (tree.not (tree.index (tree.Expr.member a (codes "x")) (sub b c))) (codes "!a.x[b - c]")
unfolding opened
sign_of_suffix = (refl, refl)

-- suffixes
suffix_of_sign : IsLaidOut (tree.Expr.member (tree.flip a) (codes "x")) (codes "(~a).x")
unfolding opened
suffix_of_sign = (refl, refl)

suffix_of_sum : IsLaidOut (tree.index (tree.binary op.Add a b) c) (codes "(a + b)[c]")
unfolding opened
suffix_of_sum = (refl, refl)

suffix_of_choice : IsLaidOut (tree.length_of (tree.choose a b c)) (codes "(a ? b : c).length()")
unfolding opened
suffix_of_choice = (refl, refl)

suffix_of_call : IsLaidOut (tree.length_of (tree.Expr.member (tree.Expr.call (codes "f") (exprs_in (sub a b ∷ tree.choose a b c ∷ []))) (codes "m"))) (codes "f(a - b, a ? b : c).m.length()")
unfolding opened
suffix_of_call = (refl, refl)

-- texts of operations on words
digits_31 : decimal 31 ≡ codes "31"
digits_31 = decimal-digits_of 31 (omega arith) (omega arith)

digits_32 : decimal 32 ≡ codes "32"
digits_32 = decimal-digits_of 32 (omega arith) (omega arith)

negated : IsLaidOut (tree.Expr.call (codes "atomicAdd") (exprs_in (a ∷ sub (uint 0) b ∷ []))) (codes "atomicAdd(a, 0u - b)")
unfolding opened
negated = (rw (decimal_digit 0 (omega arith)) refl, refl)

masked_shift : IsLaidOut (tree.binary op.Shl a (tree.binary op.And (uint 32) (uint 31))) (codes "a << (32u & 31u)")
unfolding opened
masked_shift = (rw (digits_31, digits_32) refl, refl)

-- the quotient of `int` operands
abbrev zero_int : Expr
zero_int = tree.Expr.literal (literal.Int 0)

abbrev two : Expr
two = tree.Expr.literal (literal.Int 2)

abbrev as_uint : Expr → Expr
as_uint e = tree.build (type_name tree.Base.uint []) (exprs_in (e ∷ []))

abbrev is_negative : Expr → Expr
is_negative e = tree.binary op.Less e zero_int

abbrev quotient : Expr
quotient =
    tree.binary op.Div
    (tree.choose (is_negative a) (sub (uint 0) (as_uint a)) (as_uint a))
    (tree.choose (is_negative two) (sub (uint 0) (uint 2)) (uint 2))

signed_quotient : IsLaidOut
    (tree.build (type_name tree.Base.int []) (exprs_in (tree.choose (tree.binary op.NotEqual (is_negative a) (is_negative two)) (sub (uint 0) quotient) quotient ∷ [])))
    (codes "int(a < 0 != 2 < 0 ? 0u - (a < 0 ? 0u - uint(a) : uint(a)) / (2 < 0 ? 0u - 2u : 2u) : (a < 0 ? 0u - uint(a) : uint(a)) / (2 < 0 ? 0u - 2u : 2u))")
unfolding opened
signed_quotient = (rw (decimal_digit 0 (omega arith), decimal_digit 2 (omega arith)) refl, refl)

-- parentheses leave no node
more_parentheses : IsTreeOf (sub (sub a b) c) (codes "(((a) - (b)) - ((c)))")
unfolding opened
more_parentheses = refl

-- no text of an expression
unclosed : expr_of_tokens (lex (codes "(a - b")) ≡ None
unfolding opened
unclosed = refl

without_operand : expr_of_tokens (lex (codes "a - ")) ≡ None
unfolding opened
without_operand = refl

without_other : expr_of_tokens (lex (codes "a ? b")) ≡ None
unfolding opened
without_other = refl
