-- How tightly expressions bind, and where one stands in parentheses. The levels, from tight to loose, are 0 for a part with its
-- suffixes, 1 for a unary sign, 2 to 11 for the binary operators, and 12 for `?:`.
use Rattle.std.specs.Prelude.{ℕ, suc, Bool, nat_le}
use Rattle.glsl_ast.specs.Tree as tree
use Rattle.glsl_ast.specs.Tree.{Expr}
use Rattle.glsl_ast.specs.declared.expressions.BinOp.{BinOp}
use Rattle.glsl_ast.specs.declared.expressions.BinOp.TheVariants as op

-- the binary operators, from tight to loose: product, sum, shift, comparison, equality, `&`, `^`, `|`, `&&`, `||`
abbrev pub op_rank : BinOp → ℕ
op_rank op.Mul = 0
op_rank op.Div = 0
op_rank op.Rem = 0
op_rank op.Add = 1
op_rank op.Sub = 1
op_rank op.Shl = 2
op_rank op.Shr = 2
op_rank op.Less = 3
op_rank op.LessEqual = 3
op_rank op.Greater = 3
op_rank op.GreaterEqual = 3
op_rank op.Equal = 4
op_rank op.NotEqual = 4
op_rank op.And = 5
op_rank op.Xor = 6
op_rank op.Or = 7
op_rank op.Both = 8
op_rank op.Either = 9

-- the level of an operation, and so the loosest of its left operand
abbrev pub op_level : BinOp → ℕ
op_level o = suc (suc (op_rank o))

-- the loosest level of its right operand: operators of a level group to the left
abbrev pub right_level : BinOp → ℕ
right_level o = suc (op_rank o)

-- the loosest level of an operand of a unary sign
abbrev pub unary_level : ℕ
unary_level = 1

-- the loosest level of a condition of `?:`
abbrev pub condition_level : ℕ
condition_level = 11

-- any expression
abbrev pub any_level : ℕ
any_level = 12

abbrev pub expr_level : Expr → ℕ
expr_level (tree.Expr.literal l) = 0
expr_level (tree.Expr.name w) = 0
expr_level (tree.Expr.build t args) = 0
expr_level (tree.Expr.call w args) = 0
expr_level (tree.Expr.not e) = unary_level
expr_level (tree.Expr.flip e) = unary_level
expr_level (tree.Expr.binary o a b) = op_level o
expr_level (tree.Expr.choose c a b) = any_level
expr_level (tree.Expr.member e w) = 0
expr_level (tree.Expr.index a b) = 0
expr_level (tree.Expr.length_of e) = 0

-- An expression stands bare where expressions of its level may stand, and else in parentheses.
abbrev pub is_bare : ℕ → Expr → Bool
is_bare loosest e = nat_le (expr_level e) loosest
