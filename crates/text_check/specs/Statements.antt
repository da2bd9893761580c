-- Tests of statements: whether each is in the grammar. `declared` tells which names structs have.
use Rattle.std.specs.Prelude.{◌&&◌, ◌==◌, not, Bool, true, List, length}
use Rattle.std.specs.List.{list_all}
use Rattle.glsl_ast.specs.Tree as tree
use Rattle.glsl_ast.specs.Tree.{Text, LStep, LValue, lvalue, Stmt, Stmts, no_stmts, Arms, no_arms}
use Rattle.glsl_ast.specs.declared.statements.Label.{Label}
use Rattle.glsl_ast.specs.declared.statements.Label.TheVariants as label
use Rattle.glsl_grammar.specs.Scopes.{has_arms}
use Rattle.text_check.specs.Words.{is_name, is_free}
use Rattle.text_check.specs.Parts.{is_literal, is_type, is_expr, are_exprs, is_value}

abbrev pub is_step : (Text → Bool) → LStep → Bool
is_step declared (tree.LStep.member w) = is_name w
is_step declared (tree.LStep.index e) = is_expr declared e

abbrev pub is_lvalue : (Text → Bool) → LValue → Bool
is_lvalue declared (lvalue w s) = is_free declared w && list_all (is_step declared) s

abbrev pub is_label : Label → Bool
is_label (label.Case l) = is_literal l
is_label label.Default = true

-- there is one
abbrev pub has_some : {A : Type 0} → List A → Bool
has_some xs = not (length xs == 0)

abbrev mutual
  pub is_stmt : (Text → Bool) → Stmt → Bool
  is_stmt declared (tree.Stmt.declare t w o) = is_type declared t && is_name w && is_value declared o
  is_stmt declared (tree.Stmt.assign l e) = is_lvalue declared l && is_expr declared e
  is_stmt declared (tree.Stmt.call w args) = is_free declared w && are_exprs declared args
  is_stmt declared (tree.Stmt.when e a) = is_expr declared e && are_stmts declared a
  is_stmt declared (tree.Stmt.either e a b) = is_expr declared e && are_stmts declared a && are_stmts declared b
  is_stmt declared (tree.Stmt.loop a) = are_stmts declared a
  is_stmt declared (tree.Stmt.switch e arms) = is_expr declared e && (has_arms arms && are_arms declared arms)
  is_stmt declared tree.Stmt.leave = true
  is_stmt declared tree.Stmt.again = true
  is_stmt declared (tree.Stmt.give o) = is_value declared o

  pub are_stmts : (Text → Bool) → Stmts → Bool
  are_stmts declared no_stmts = true
  are_stmts declared (tree.Stmts.stmt s ss) = is_stmt declared s && are_stmts declared ss

  -- each group has a label
  pub are_arms : (Text → Bool) → Arms → Bool
  are_arms declared no_arms = true
  are_arms declared (tree.Arms.arm ls b r) = has_some ls && list_all is_label ls && are_stmts declared b && are_arms declared r
