-- What the grammar asks of a tree beside the spelling of its names: lists that are long enough, and names of structs that are
-- declared before. `names` are those of the structs declared before.
use Rattle.std.specs.Prelude.{◌≡◌, ◌≤◌, ◌<◌, Bool, true, false, List, [], ◌∷◌, length, Option, Some, None}
use Rattle.glsl_ast.specs.Tree as tree
use Rattle.glsl_ast.specs.Tree.{Text, TypeName, type_name, Base, Expr, Exprs, no_exprs, LStep, LValue, lvalue, Stmt, Stmts, no_stmts, Arms, no_arms, Field, field, Member, Param, param, Decl, TranslationUnit, translation_unit}
use Rattle.glsl_ast.specs.declared.items.Size.{Size}
use Rattle.glsl_grammar.specs.Read.{is_declared, names_after}

-- a type that is a struct is declared before
abbrev pub IsDeclaredBase : List Text → Base → Type 0
IsDeclaredBase names (tree.Base.struct w) = is_declared names w ≡ true
IsDeclaredBase names _ = Unit {0}

abbrev pub IsDeclaredType : List Text → TypeName → Type 0
IsDeclaredType names (type_name b es) = IsDeclaredBase names b

-- the name is no struct's
abbrev pub IsFree : List Text → Text → Type 0
IsFree names w = is_declared names w ≡ false

abbrev mutual
  pub IsDeclaredExpr : List Text → Expr → Type 0
  IsDeclaredExpr names (tree.Expr.literal l) = Unit {0}
  IsDeclaredExpr names (tree.Expr.name w) = IsFree names w
  IsDeclaredExpr names (tree.Expr.build t args) = IsDeclaredType names t × AreDeclaredExprs names args
  IsDeclaredExpr names (tree.Expr.call w args) = IsFree names w × AreDeclaredExprs names args
  IsDeclaredExpr names (tree.Expr.not e) = IsDeclaredExpr names e
  IsDeclaredExpr names (tree.Expr.flip e) = IsDeclaredExpr names e
  IsDeclaredExpr names (tree.Expr.binary op a b) = IsDeclaredExpr names a × IsDeclaredExpr names b
  IsDeclaredExpr names (tree.Expr.choose c a b) = IsDeclaredExpr names c × IsDeclaredExpr names a × IsDeclaredExpr names b
  IsDeclaredExpr names (tree.Expr.member e w) = IsDeclaredExpr names e
  IsDeclaredExpr names (tree.Expr.index a b) = IsDeclaredExpr names a × IsDeclaredExpr names b
  IsDeclaredExpr names (tree.Expr.length_of e) = IsDeclaredExpr names e

  pub AreDeclaredExprs : List Text → Exprs → Type 0
  AreDeclaredExprs names no_exprs = Unit {0}
  AreDeclaredExprs names (tree.Exprs.expr e es) = IsDeclaredExpr names e × AreDeclaredExprs names es

abbrev pub AreDeclaredSteps : List Text → List LStep → Type 0
AreDeclaredSteps names [] = Unit {0}
AreDeclaredSteps names (tree.LStep.member w ∷ s) = AreDeclaredSteps names s
AreDeclaredSteps names (tree.LStep.index e ∷ s) = IsDeclaredExpr names e × AreDeclaredSteps names s

abbrev pub IsDeclaredLValue : List Text → LValue → Type 0
IsDeclaredLValue names (lvalue w s) = IsFree names w × AreDeclaredSteps names s

abbrev pub IsDeclaredValue : List Text → Option Expr → Type 0
IsDeclaredValue names None = Unit {0}
IsDeclaredValue names (Some e) = IsDeclaredExpr names e

abbrev pub has_arms : Arms → Bool
has_arms no_arms = false
has_arms (tree.Arms.arm ls b r) = true

abbrev mutual
  pub IsDeclaredStmt : List Text → Stmt → Type 0
  IsDeclaredStmt names (tree.Stmt.declare t w value) = IsDeclaredType names t × IsDeclaredValue names value
  IsDeclaredStmt names (tree.Stmt.assign l e) = IsDeclaredLValue names l × IsDeclaredExpr names e
  IsDeclaredStmt names (tree.Stmt.call w args) = IsFree names w × AreDeclaredExprs names args
  IsDeclaredStmt names (tree.Stmt.when e a) = IsDeclaredExpr names e × AreDeclaredStmts names a
  IsDeclaredStmt names (tree.Stmt.either e a b) = IsDeclaredExpr names e × AreDeclaredStmts names a × AreDeclaredStmts names b
  IsDeclaredStmt names (tree.Stmt.loop a) = AreDeclaredStmts names a
  IsDeclaredStmt names (tree.Stmt.switch e as') = IsDeclaredExpr names e × (has_arms as' ≡ true) × AreDeclaredArms names as'
  IsDeclaredStmt names tree.Stmt.leave = Unit {0}
  IsDeclaredStmt names tree.Stmt.again = Unit {0}
  IsDeclaredStmt names (tree.Stmt.give value) = IsDeclaredValue names value

  pub AreDeclaredStmts : List Text → Stmts → Type 0
  AreDeclaredStmts names no_stmts = Unit {0}
  AreDeclaredStmts names (tree.Stmts.stmt s ss) = IsDeclaredStmt names s × AreDeclaredStmts names ss

  -- each group has a label
  pub AreDeclaredArms : List Text → Arms → Type 0
  AreDeclaredArms names no_arms = Unit {0}
  AreDeclaredArms names (tree.Arms.arm ls b r) = (1 ≤ length ls) × AreDeclaredStmts names b × AreDeclaredArms names r

abbrev pub AreDeclaredFields : List Text → List Field → Type 0
AreDeclaredFields names [] = Unit {0}
AreDeclaredFields names (field t w ∷ fs) = IsDeclaredType names t × AreDeclaredFields names fs

abbrev pub AreDeclaredMembers : List Text → List Member → Type 0
AreDeclaredMembers names [] = Unit {0}
AreDeclaredMembers names (tree.Member.member n qs t w ∷ ms) = IsDeclaredType names t × AreDeclaredMembers names ms

abbrev pub AreDeclaredParams : List Text → List Param → Type 0
AreDeclaredParams names [] = Unit {0}
AreDeclaredParams names (param inout t w ∷ ps) = IsDeclaredType names t × AreDeclaredParams names ps

abbrev pub IsDeclaredResult : List Text → Option TypeName → Type 0
IsDeclaredResult names None = Unit {0}
IsDeclaredResult names (Some t) = IsDeclaredType names t

abbrev pub IsDeclaredDecl : List Text → Decl → Type 0
IsDeclaredDecl names (tree.Decl.struct w fs) = (1 ≤ length fs) × AreDeclaredFields names fs
IsDeclaredDecl names (tree.Decl.constant id t w e) = IsDeclaredType names t × IsDeclaredExpr names e
IsDeclaredDecl names (tree.Decl.shared t w) = IsDeclaredType names t
IsDeclaredDecl names (tree.Decl.global t w e) = IsDeclaredType names t × IsDeclaredExpr names e
IsDeclaredDecl names (tree.Decl.block place rules qs buffer w ms instance) = (1 ≤ length ms) × AreDeclaredMembers names ms
IsDeclaredDecl names (tree.Decl.function result w ps body) = IsDeclaredResult names result × AreDeclaredParams names ps × AreDeclaredStmts names body

-- a struct's name counts from the next item on
abbrev pub AreDeclaredDecls : List Text → List Decl → Type 0
AreDeclaredDecls names [] = Unit {0}
AreDeclaredDecls names (d ∷ ds) = IsDeclaredDecl names d × AreDeclaredDecls (names_after names d) ds

-- x, y or z
abbrev pub AreAxes : List Size → Type 0
AreAxes [] = Unit {0}
AreAxes (s ∷ ss) = (s.axis < 3) × AreAxes ss

unfoldable pub IsDeclared : TranslationUnit → Type 0
IsDeclared (translation_unit ss ds) = (1 ≤ length ss) × AreAxes ss × AreDeclaredDecls [] ds
