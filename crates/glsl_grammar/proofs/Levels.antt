-- The levels of expressions are at most that of any expression.
use Rattle.std.proofs.Common.{◌≡◌, ℕ, ◌≤◌, nat_le, true, arith}
use Rattle.std.proofs.lemmas.Bool.Decides.{nat_tests}
use Rattle.glsl_ast.specs.Tree as tree
use Rattle.glsl_ast.specs.Tree.{Expr}
use Rattle.glsl_ast.specs.declared.expressions.BinOp.{BinOp}
use Rattle.glsl_ast.specs.declared.expressions.BinOp.TheVariants as op
use Rattle.glsl_grammar.specs.Levels.{op_rank, any_level, expr_level, is_bare}

pub rank_fits : (o : BinOp) → op_rank o ≤ 9
rank_fits op.Mul = omega arith
rank_fits op.Div = omega arith
rank_fits op.Rem = omega arith
rank_fits op.Add = omega arith
rank_fits op.Sub = omega arith
rank_fits op.Shl = omega arith
rank_fits op.Shr = omega arith
rank_fits op.Less = omega arith
rank_fits op.LessEqual = omega arith
rank_fits op.Greater = omega arith
rank_fits op.GreaterEqual = omega arith
rank_fits op.Equal = omega arith
rank_fits op.NotEqual = omega arith
rank_fits op.And = omega arith
rank_fits op.Xor = omega arith
rank_fits op.Or = omega arith
rank_fits op.Both = omega arith
rank_fits op.Either = omega arith

pub level_fits : (e : Expr) → expr_level e ≤ any_level
level_fits (tree.Expr.literal l) = omega arith
level_fits (tree.Expr.name w) = omega arith
level_fits (tree.Expr.build t args) = omega arith
level_fits (tree.Expr.call w args) = omega arith
level_fits (tree.Expr.not e) = omega arith
level_fits (tree.Expr.flip e) = omega arith
level_fits (tree.Expr.binary o a b) = omega (arith, rank_fits o)
level_fits (tree.Expr.choose c a b) = omega arith
level_fits (tree.Expr.member e w) = omega arith
level_fits (tree.Expr.index a b) = omega arith
level_fits (tree.Expr.length_of e) = omega arith

pub bare_fits : (loosest : ℕ) (e : Expr) → is_bare loosest e ≡ true → expr_level e ≤ loosest
bare_fits loosest e h = below (expr_level e) h
  where
    below : (l : ℕ) → nat_le l loosest ≡ true → l ≤ loosest
    below l g = grind (arith, nat_tests)

-- a level within a bound, as a test
pub within : (l loosest : ℕ) → l ≤ loosest → nat_le l loosest ≡ true
within l loosest h = grind (arith, nat_tests)

pub any_is_bare : (e : Expr) → is_bare any_level e ≡ true
any_is_bare e = within (expr_level e) any_level (level_fits e)
