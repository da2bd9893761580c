-- What each kind of expression, of statement and of arm stands for.
use Rattle.std.proofs.Common.{◌≡◌, Option, Some, None, rules, Box, Vec, Global, option_map}
use Rattle.glsl_ast.specs.Tree as tree
use Rattle.glsl_ast.specs.View.{name_text, type_of, expr_of, exprs_of, lvalue_of, stmt_of, stmts_of, arm_of, arms_of}
use Rattle.glsl_ast.specs.declared.names.Name.{Name}
use Rattle.glsl_ast.specs.declared.types.TypeName.{TypeName}
use Rattle.glsl_ast.specs.declared.expressions.BinOp.{BinOp}
use Rattle.glsl_ast.specs.declared.expressions.Literal.{Literal}
use Rattle.glsl_ast.specs.declared.expressions.Expr.{Expr, the_lemmas as expr_lemmas}
use Rattle.glsl_ast.specs.declared.expressions.Expr as expr
use Rattle.glsl_ast.specs.declared.statements.LValue.{LValue}
use Rattle.glsl_ast.specs.declared.statements.Stmt.{Stmt, the_lemmas as stmt_lemmas}
use Rattle.glsl_ast.specs.declared.statements.Stmt as stmt
use Rattle.glsl_ast.specs.declared.statements.Arm.{Arm}

pub expr-Literal : (l : Literal) → expr_of (expr.Literal l) ≡ tree.literal l
expr-Literal l = search (rules, expr_lemmas)

pub expr-Name : (w : Name) → expr_of (expr.Name w) ≡ tree.name (name_text w)
expr-Name w = search (rules, expr_lemmas)

pub expr-Build : (parts : Box (TypeName × Vec Expr Global) Global) → expr_of (expr.Build parts) ≡ tree.build (type_of parts.value.0) (exprs_of parts.value.1.items)
expr-Build parts = search (rules, expr_lemmas)

pub expr-Call : (parts : Box (Name × Vec Expr Global) Global) → expr_of (expr.Call parts) ≡ tree.Expr.call (name_text parts.value.0) (exprs_of parts.value.1.items)
expr-Call parts = search (rules, expr_lemmas)

pub expr-Not : (e : Box Expr Global) → expr_of (expr.Not e) ≡ tree.not (expr_of e.value)
expr-Not e = search (rules, expr_lemmas)

pub expr-Flip : (e : Box Expr Global) → expr_of (expr.Flip e) ≡ tree.flip (expr_of e.value)
expr-Flip e = search (rules, expr_lemmas)

pub expr-Binary : (op : BinOp) (parts : Box (Expr × Expr) Global) → expr_of (expr.Binary op parts) ≡ tree.binary op (expr_of parts.value.0) (expr_of parts.value.1)
expr-Binary op parts = search (rules, expr_lemmas)

pub expr-Choose : (c : Box Expr Global) (parts : Box (Expr × Expr) Global) → expr_of (expr.Choose c parts) ≡ tree.choose (expr_of c.value) (expr_of parts.value.0) (expr_of parts.value.1)
expr-Choose c parts = search (rules, expr_lemmas)

pub expr-Member : (parts : Box (Expr × Name) Global) → expr_of (expr.Member parts) ≡ tree.Expr.member (expr_of parts.value.0) (name_text parts.value.1)
expr-Member parts = search (rules, expr_lemmas)

pub expr-Index : (a b : Box Expr Global) → expr_of (expr.Index a b) ≡ tree.Expr.index (expr_of a.value) (expr_of b.value)
expr-Index a b = search (rules, expr_lemmas)

pub expr-Length : (e : Box Expr Global) → expr_of (expr.Length e) ≡ tree.length_of (expr_of e.value)
expr-Length e = search (rules, expr_lemmas)

pub ruleset expr_rows = (expr-Literal, expr-Name, expr-Build, expr-Call, expr-Not, expr-Flip, expr-Binary, expr-Choose, expr-Member, expr-Index, expr-Length)

pub stmt-Declare : (t : TypeName) (w : Name) (value : Option Expr) → stmt_of (stmt.Declare t w value) ≡ tree.declare (type_of t) (name_text w) (option_map expr_of value)
stmt-Declare t w value = search (rules, stmt_lemmas)

pub stmt-Assign : (l : LValue) (e : Expr) → stmt_of (stmt.Assign l e) ≡ tree.assign (lvalue_of l) (expr_of e)
stmt-Assign l e = search (rules, stmt_lemmas)

pub stmt-Call : (w : Name) (args : Vec Expr Global) → stmt_of (stmt.Call w args) ≡ tree.Stmt.call (name_text w) (exprs_of args.items)
stmt-Call w args = search (rules, stmt_lemmas)

pub stmt-When : (e : Expr) (a : Vec Stmt Global) → stmt_of (stmt.If e a None) ≡ tree.when (expr_of e) (stmts_of a.items)
stmt-When e a = search (rules, stmt_lemmas)

pub stmt-Either : (e : Expr) (a b : Vec Stmt Global) → stmt_of (stmt.If e a (Some b)) ≡ tree.either (expr_of e) (stmts_of a.items) (stmts_of b.items)
stmt-Either e a b = search (rules, stmt_lemmas)

pub stmt-For : (a : Vec Stmt Global) → stmt_of (stmt.For a) ≡ tree.loop (stmts_of a.items)
stmt-For a = search (rules, stmt_lemmas)

pub stmt-Switch : (e : Expr) (arms : Vec Arm Global) → stmt_of (stmt.Switch e arms) ≡ tree.switch (expr_of e) (arms_of arms.items)
stmt-Switch e arms = search (rules, stmt_lemmas)

pub stmt-Break : stmt_of stmt.Break ≡ tree.leave
stmt-Break = search (rules, stmt_lemmas)

pub stmt-Continue : stmt_of stmt.Continue ≡ tree.again
stmt-Continue = search (rules, stmt_lemmas)

pub stmt-Return : (value : Option Expr) → stmt_of (stmt.Return value) ≡ tree.give (option_map expr_of value)
stmt-Return value = search (rules, stmt_lemmas)

pub arm-is : (a : Arm) → arm_of a ≡ tree.group a.labels.items (stmts_of a.body.items)
arm-is a = search (rules, stmt_lemmas)

pub ruleset stmt_rows = (stmt-Declare, stmt-Assign, stmt-Call, stmt-When, stmt-Either, stmt-For, stmt-Switch, stmt-Break, stmt-Continue, stmt-Return, arm-is)
