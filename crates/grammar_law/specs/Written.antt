-- What is written of a function's blocks and edges is low.
use Rattle.std.specs.Prelude.{◌≡◌, ◌≤◌, ℕ, Some}
use Rattle.glsl_ast.specs.Tree.{Expr}
use Rattle.glsl_ast.specs.Height.{highest, height, stmt_height}
use Rattle.control_text.specs.Statements.{Blocks}

-- at most so high
pub record AreLow (w : Blocks) (n : ℕ) : Type 0 where
  pub some : 3 ≤ n
  pub statements : (b : ℕ) → highest stmt_height (w.statements b) ≤ n
  pub condition : (b : ℕ) → height (w.condition b) ≤ n
  pub value : (b : ℕ) (e : Expr) → w.value b ≡ Some e → height e ≤ n
  pub copies : (b t : ℕ) → highest stmt_height (w.copies b t) ≤ n
