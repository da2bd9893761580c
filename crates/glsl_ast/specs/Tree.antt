-- The tree of a text, as plain data.
use Rattle.std.specs.Prelude.{ℕ, Bool, List, [], ◌∷◌, Option}
use Rattle.glsl_ast.specs.declared.expressions.Literal.{Literal}
use Rattle.glsl_ast.specs.declared.expressions.BinOp.{BinOp}
use Rattle.glsl_ast.specs.declared.statements.Label.{Label}
use Rattle.glsl_ast.specs.declared.items.Size.{Size}
use Rattle.glsl_ast.specs.declared.items.BlockPlace.{BlockPlace}
use Rattle.glsl_ast.specs.declared.items.BlockRules.{BlockRules}
use Rattle.glsl_ast.specs.declared.items.Qual.{Qual}

-- bytes
abbrev pub Text : Type 0
Text = List ℕ

pub data Base : Type 0 where
  boolean : Base
  int : Base
  uint : Base
  bool_vec : ℕ → Base
  int_vec : ℕ → Base
  uint_vec : ℕ → Base
  struct : Text → Base

pub data Extent : Type 0 where
  open_end : Extent
  number : ℕ → Extent
  named : Text → Extent
  size : Text → Extent

pub data TypeName : Type 0 where
  type_name : Base → List Extent → TypeName

mutual
  pub data Expr : Type 0 where
    literal : Literal → Expr
    name : Text → Expr
    build : TypeName → Exprs → Expr
    call : Text → Exprs → Expr
    not : Expr → Expr
    flip : Expr → Expr
    binary : BinOp → Expr → Expr → Expr
    choose : Expr → Expr → Expr → Expr
    member : Expr → Text → Expr
    index : Expr → Expr → Expr
    length_of : Expr → Expr

  pub data Exprs : Type 0 where
    no_exprs : Exprs
    expr : Expr → Exprs → Exprs

pub data LStep : Type 0 where
  member : Text → LStep
  index : Expr → LStep

pub data LValue : Type 0 where
  lvalue : Text → List LStep → LValue

mutual
  pub data Stmt : Type 0 where
    declare : TypeName → Text → Option Expr → Stmt
    assign : LValue → Expr → Stmt
    call : Text → Exprs → Stmt
    when : Expr → Stmts → Stmt
    either : Expr → Stmts → Stmts → Stmt
    loop : Stmts → Stmt
    switch : Expr → Arms → Stmt
    leave : Stmt
    again : Stmt
    give : Option Expr → Stmt

  pub data Stmts : Type 0 where
    no_stmts : Stmts
    stmt : Stmt → Stmts → Stmts

  pub data Arms : Type 0 where
    no_arms : Arms
    arm : List Label → Stmts → Arms → Arms

pub data Field : Type 0 where
  field : TypeName → Text → Field

pub data Member : Type 0 where
  member : ℕ → List Qual → TypeName → Text → Member

pub data Param : Type 0 where
  param : Bool → TypeName → Text → Param

pub data Decl : Type 0 where
  struct : Text → List Field → Decl
  constant : Option ℕ → TypeName → Text → Expr → Decl
  shared : TypeName → Text → Decl
  global : TypeName → Text → Expr → Decl
  block : BlockPlace → BlockRules → List Qual → Bool → Text → List Member → Text → Decl
  function : Option TypeName → Text → List Param → Stmts → Decl

-- a whole text
pub data TranslationUnit : Type 0 where
  translation_unit : List Size → List Decl → TranslationUnit

-- expressions inside an expression
abbrev pub exprs_in : List Expr → Exprs
exprs_in [] = no_exprs
exprs_in (e ∷ es) = expr e (exprs_in es)

-- statements inside a statement
abbrev pub stmts_in : List Stmt → Stmts
stmts_in [] = no_stmts
stmts_in (s ∷ ss) = stmt s (stmts_in ss)

-- the groups of a switch: the labels and the body of each
pub data Arm : Type 0 where
  group : List Label → Stmts → Arm

abbrev pub arms_in : List Arm → Arms
arms_in [] = no_arms
arms_in (group ls b ∷ as') = arm ls b (arms_in as')
