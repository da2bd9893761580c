-- The height of a tree: the greatest number of items, members, parameters, statements, labels, types, expressions and names that stand each in the one before.
use Rattle.std.specs.Prelude.{ℕ, ◌+◌, max, List, [], ◌∷◌, Option, Some, None}
use Rattle.glsl_ast.specs.Tree.{Text, Base, Extent, named, size, TypeName, type_name, Expr, literal, name, build, not, flip, binary, choose, length_of, Exprs, no_exprs, expr, LStep, LValue, lvalue, Stmt, declare, assign, when, either, loop, switch, leave, again, give, Stmts, no_stmts, stmt, Arms, no_arms, arm, Field, field, Member, Param, param, Decl, constant, shared, global, block, function, TranslationUnit, translation_unit}
use Rattle.glsl_ast.specs.declared.statements.Label.{Label}

-- the greatest of these heights, and 0 of none
abbrev pub highest : {A : Type 0} → (A → ℕ) → List A → ℕ
highest f [] = 0
highest f (x ∷ xs) = max (f x) (highest f xs)

abbrev pub highest_in : {A : Type 0} → (A → ℕ) → Option A → ℕ
highest_in f None = 0
highest_in f (Some x) = f x

-- a name and a label hold nothing
abbrev pub name_height : Text → ℕ
name_height w = 1

abbrev pub label_height : Label → ℕ
label_height l = 1

abbrev pub base_height : Base → ℕ
base_height (Base.struct w) = name_height w
base_height _ = 0

abbrev pub extent_height : Extent → ℕ
extent_height (named w) = name_height w
extent_height (size w) = name_height w
extent_height _ = 0

abbrev pub type_height : TypeName → ℕ
type_height (type_name b es) = 1 + max (base_height b) (highest extent_height es)

abbrev mutual
  pub height : Expr → ℕ
  height (literal l) = 1
  height (name w) = 1 + name_height w
  height (build t args) = 1 + max (type_height t) (heights args)
  height (Expr.call w args) = 1 + max (name_height w) (heights args)
  height (not e) = 1 + height e
  height (flip e) = 1 + height e
  height (binary op a b) = 1 + max (height a) (height b)
  height (choose c a b) = 1 + max (height c) (max (height a) (height b))
  height (Expr.member e w) = 1 + max (height e) (name_height w)
  height (Expr.index a b) = 1 + max (height a) (height b)
  height (length_of e) = 1 + height e

  pub heights : Exprs → ℕ
  heights no_exprs = 0
  heights (expr e es) = max (height e) (heights es)

-- a way to what is assigned is no part of its own, and neither is a step of it
abbrev pub step_height : LStep → ℕ
step_height (LStep.member w) = name_height w
step_height (LStep.index e) = height e

abbrev pub lvalue_height : LValue → ℕ
lvalue_height (lvalue w steps) = max (name_height w) (highest step_height steps)

abbrev mutual
  pub stmt_height : Stmt → ℕ
  stmt_height (declare t w value) = 1 + max (type_height t) (max (name_height w) (highest_in height value))
  stmt_height (assign l e) = 1 + max (lvalue_height l) (height e)
  stmt_height (Stmt.call w args) = 1 + max (name_height w) (heights args)
  stmt_height (when e a) = 1 + max (height e) (stmts_height a)
  stmt_height (either e a b) = 1 + max (height e) (max (stmts_height a) (stmts_height b))
  stmt_height (loop a) = 1 + stmts_height a
  stmt_height (switch e as') = 1 + max (height e) (arms_height as')
  stmt_height leave = 1
  stmt_height again = 1
  stmt_height (give value) = 1 + highest_in height value

  pub stmts_height : Stmts → ℕ
  stmts_height no_stmts = 0
  stmts_height (stmt s ss) = max (stmt_height s) (stmts_height ss)

  pub arms_height : Arms → ℕ
  arms_height no_arms = 0
  arms_height (arm ls b as') = max (highest label_height ls) (max (stmts_height b) (arms_height as'))

abbrev pub field_height : Field → ℕ
field_height (field t w) = 1 + max (type_height t) (name_height w)

abbrev pub member_height : Member → ℕ
member_height (Member.member offset quals t w) = 1 + max (type_height t) (name_height w)

abbrev pub param_height : Param → ℕ
param_height (param inout t w) = 1 + max (type_height t) (name_height w)

abbrev pub decl_height : Decl → ℕ
decl_height (Decl.struct w fields) = 1 + max (name_height w) (highest field_height fields)
decl_height (constant id t w e) = 1 + max (type_height t) (max (name_height w) (height e))
decl_height (shared t w) = 1 + max (type_height t) (name_height w)
decl_height (global t w e) = 1 + max (type_height t) (max (name_height w) (height e))
decl_height (block place rules quals buffer w members instance) = 1 + max (name_height w) (max (highest member_height members) (name_height instance))
decl_height (function result w params body) = 1 + max (highest_in type_height result) (max (name_height w) (max (highest param_height params) (stmts_height body)))

abbrev pub unit_height : TranslationUnit → ℕ
unit_height (translation_unit sizes items) = highest decl_height items
