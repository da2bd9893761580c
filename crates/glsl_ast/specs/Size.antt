-- How much of a statement is still to be gone through.
use Rattle.std.specs.Prelude.{ℕ, ◌+◌}
use Rattle.glsl_ast.specs.Tree.{Stmt, declare, assign, when, either, loop, switch, leave, again, give, Stmts, no_stmts, stmt, Arms, no_arms, arm}

abbrev mutual
  pub stmt_size : Stmt → ℕ
  stmt_size (declare t w o) = 1
  stmt_size (assign l e) = 1
  stmt_size (Stmt.call w args) = 1
  stmt_size (when e a) = 1 + stmts_size a
  stmt_size (either e a b) = 1 + (stmts_size a + stmts_size b)
  stmt_size (loop a) = 1 + stmts_size a
  stmt_size (switch e as') = 1 + arms_size as'
  stmt_size leave = 1
  stmt_size again = 1
  stmt_size (give o) = 1

  pub stmts_size : Stmts → ℕ
  stmts_size no_stmts = 0
  stmts_size (stmt s ss) = 1 + (stmt_size s + stmts_size ss)

  pub arms_size : Arms → ℕ
  arms_size no_arms = 0
  arms_size (arm ls b as') = 1 + (stmts_size b + arms_size as')
