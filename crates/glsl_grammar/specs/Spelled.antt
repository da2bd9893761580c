-- The trees whose words and numbers a text can spell.
use Rattle.std.specs.Prelude.{◌≡◌, ℕ, ◌<◌, ◌≤◌, ◌^◌, true, List, [], ◌∷◌, Option, Some, None}
use Rattle.glsl_ast.specs.Tree as tree
use Rattle.glsl_ast.specs.Tree.{Text, TypeName, type_name, Extent, Base, Expr, Exprs, no_exprs, LStep, LValue, lvalue, Stmt, Stmts, no_stmts, Arms, no_arms, Field, field, Member, Param, param, Decl, TranslationUnit, translation_unit}
use Rattle.glsl_ast.specs.declared.expressions.Literal.{Literal}
use Rattle.glsl_ast.specs.declared.expressions.Literal.TheVariants as literal
use Rattle.glsl_ast.specs.declared.statements.Label.{Label}
use Rattle.glsl_ast.specs.declared.statements.Label.TheVariants as label
use Rattle.glsl_ast.specs.declared.items.Size.{Size}
use Rattle.glsl_ast.specs.declared.items.BlockPlace.{BlockPlace}
use Rattle.glsl_ast.specs.declared.items.BlockPlace.TheVariants as place
use Rattle.glsl_grammar.specs.Token.{word}
use Rattle.glsl_grammar.specs.Lex.{is_word, classify}

-- each byte is a letter, a digit or `_`
abbrev pub AreWordBytes : Text → Type 0
AreWordBytes [] = Unit {0}
AreWordBytes (c ∷ w) = (is_word c ≡ true) × AreWordBytes w

-- a name: it begins with no digit, and is none of the words that have a token of their own
pub record IsName (w : Text) : Type 0 where
  pub bytes : AreWordBytes w
  pub token : classify w ≡ word w

abbrev pub FitsWord : ℕ → Type 0
FitsWord n = n < 2 ^ 32

abbrev pub IsVectorSize : ℕ → Type 0
IsVectorSize n = (2 ≤ n) × (n ≤ 4)

abbrev pub IsSpelledExtent : Extent → Type 0
IsSpelledExtent tree.open_end = Unit {0}
IsSpelledExtent (tree.Extent.number n) = FitsWord n
IsSpelledExtent (tree.Extent.named w) = IsName w
IsSpelledExtent (tree.Extent.size w) = IsName w

abbrev pub AreSpelledExtents : List Extent → Type 0
AreSpelledExtents [] = Unit {0}
AreSpelledExtents (e ∷ es) = IsSpelledExtent e × AreSpelledExtents es

abbrev pub IsSpelledBase : Base → Type 0
IsSpelledBase tree.Base.boolean = Unit {0}
IsSpelledBase tree.Base.int = Unit {0}
IsSpelledBase tree.Base.uint = Unit {0}
IsSpelledBase (tree.Base.bool_vec n) = IsVectorSize n
IsSpelledBase (tree.Base.int_vec n) = IsVectorSize n
IsSpelledBase (tree.Base.uint_vec n) = IsVectorSize n
IsSpelledBase (tree.Base.struct w) = IsName w

abbrev pub IsSpelledType : TypeName → Type 0
IsSpelledType (type_name b es) = IsSpelledBase b × AreSpelledExtents es

abbrev pub IsSpelledLiteral : Literal → Type 0
IsSpelledLiteral (literal.Int n) = FitsWord n
IsSpelledLiteral (literal.Uint n) = FitsWord n
IsSpelledLiteral (literal.Hex n) = FitsWord n
IsSpelledLiteral (literal.Truth b) = Unit {0}

abbrev mutual
  pub IsSpelledExpr : Expr → Type 0
  IsSpelledExpr (tree.Expr.literal l) = IsSpelledLiteral l
  IsSpelledExpr (tree.Expr.name w) = IsName w
  IsSpelledExpr (tree.Expr.build t args) = IsSpelledType t × AreSpelledExprs args
  IsSpelledExpr (tree.Expr.call w args) = IsName w × AreSpelledExprs args
  IsSpelledExpr (tree.Expr.not e) = IsSpelledExpr e
  IsSpelledExpr (tree.Expr.flip e) = IsSpelledExpr e
  IsSpelledExpr (tree.Expr.binary o a b) = IsSpelledExpr a × IsSpelledExpr b
  IsSpelledExpr (tree.Expr.choose c a b) = IsSpelledExpr c × (IsSpelledExpr a × IsSpelledExpr b)
  IsSpelledExpr (tree.Expr.member e w) = IsSpelledExpr e × IsName w
  IsSpelledExpr (tree.Expr.index a b) = IsSpelledExpr a × IsSpelledExpr b
  IsSpelledExpr (tree.Expr.length_of e) = IsSpelledExpr e

  pub AreSpelledExprs : Exprs → Type 0
  AreSpelledExprs no_exprs = Unit {0}
  AreSpelledExprs (tree.Exprs.expr e es) = IsSpelledExpr e × AreSpelledExprs es

abbrev pub AreSpelledSteps : List LStep → Type 0
AreSpelledSteps [] = Unit {0}
AreSpelledSteps (tree.LStep.member w ∷ s) = IsName w × AreSpelledSteps s
AreSpelledSteps (tree.LStep.index e ∷ s) = IsSpelledExpr e × AreSpelledSteps s

abbrev pub IsSpelledLValue : LValue → Type 0
IsSpelledLValue (lvalue w s) = IsName w × AreSpelledSteps s

abbrev pub IsSpelledIfSome : Option Expr → Type 0
IsSpelledIfSome None = Unit {0}
IsSpelledIfSome (Some e) = IsSpelledExpr e

abbrev pub AreSpelledLabels : List Label → Type 0
AreSpelledLabels [] = Unit {0}
AreSpelledLabels (label.Case l ∷ ls) = IsSpelledLiteral l × AreSpelledLabels ls
AreSpelledLabels (label.Default ∷ ls) = AreSpelledLabels ls

abbrev mutual
  pub IsSpelledStmt : Stmt → Type 0
  IsSpelledStmt (tree.Stmt.declare t w o) = IsSpelledType t × (IsName w × IsSpelledIfSome o)
  IsSpelledStmt (tree.Stmt.assign l e) = IsSpelledLValue l × IsSpelledExpr e
  IsSpelledStmt (tree.Stmt.call w args) = IsName w × AreSpelledExprs args
  IsSpelledStmt (tree.Stmt.when e a) = IsSpelledExpr e × AreSpelledStmts a
  IsSpelledStmt (tree.Stmt.either e a b) = IsSpelledExpr e × (AreSpelledStmts a × AreSpelledStmts b)
  IsSpelledStmt (tree.Stmt.loop a) = AreSpelledStmts a
  IsSpelledStmt (tree.Stmt.switch e arms) = IsSpelledExpr e × AreSpelledArms arms
  IsSpelledStmt tree.Stmt.leave = Unit {0}
  IsSpelledStmt tree.Stmt.again = Unit {0}
  IsSpelledStmt (tree.Stmt.give o) = IsSpelledIfSome o

  pub AreSpelledStmts : Stmts → Type 0
  AreSpelledStmts no_stmts = Unit {0}
  AreSpelledStmts (tree.Stmts.stmt s ss) = IsSpelledStmt s × AreSpelledStmts ss

  pub AreSpelledArms : Arms → Type 0
  AreSpelledArms no_arms = Unit {0}
  AreSpelledArms (tree.Arms.arm ls b r) = AreSpelledLabels ls × (AreSpelledStmts b × AreSpelledArms r)

abbrev pub AreSpelledFields : List Field → Type 0
AreSpelledFields [] = Unit {0}
AreSpelledFields (field t w ∷ fs) = (IsSpelledType t × IsName w) × AreSpelledFields fs

abbrev pub AreSpelledMembers : List Member → Type 0
AreSpelledMembers [] = Unit {0}
AreSpelledMembers (tree.Member.member n qs t w ∷ ms) = (FitsWord n × (IsSpelledType t × IsName w)) × AreSpelledMembers ms

abbrev pub IsSpelledParam : Param → Type 0
IsSpelledParam (param b t w) = IsSpelledType t × IsName w

abbrev pub AreSpelledParams : List Param → Type 0
AreSpelledParams [] = Unit {0}
AreSpelledParams (p ∷ ps) = IsSpelledParam p × AreSpelledParams ps

abbrev pub IsSpelledPlace : BlockPlace → Type 0
IsSpelledPlace (place.Set s b) = FitsWord s × FitsWord b
IsSpelledPlace place.Push = Unit {0}

abbrev pub IsSpelledResult : Option TypeName → Type 0
IsSpelledResult None = Unit {0}
IsSpelledResult (Some t) = IsSpelledType t

abbrev pub IsSpelledId : Option ℕ → Type 0
IsSpelledId None = Unit {0}
IsSpelledId (Some n) = FitsWord n

abbrev pub IsSpelledDecl : Decl → Type 0
IsSpelledDecl (tree.Decl.struct w fs) = IsName w × AreSpelledFields fs
IsSpelledDecl (tree.Decl.constant id t w e) = IsSpelledId id × (IsSpelledType t × (IsName w × IsSpelledExpr e))
IsSpelledDecl (tree.Decl.shared t w) = IsSpelledType t × IsName w
IsSpelledDecl (tree.Decl.global t w e) = IsSpelledType t × (IsName w × IsSpelledExpr e)
IsSpelledDecl (tree.Decl.block p r qs buffer w ms instance) = IsSpelledPlace p × (IsName w × (AreSpelledMembers ms × IsName instance))
IsSpelledDecl (tree.Decl.function result w ps body) = IsSpelledResult result × (IsName w × (AreSpelledParams ps × AreSpelledStmts body))

abbrev pub AreSpelledDecls : List Decl → Type 0
AreSpelledDecls [] = Unit {0}
AreSpelledDecls (d ∷ ds) = IsSpelledDecl d × AreSpelledDecls ds

abbrev pub AreSpelledSizes : List Size → Type 0
AreSpelledSizes [] = Unit {0}
AreSpelledSizes (s ∷ ss) = FitsWord s.number × AreSpelledSizes ss

-- each name of the tree is a name, each number is below 2^32, and each vector type has 2, 3 or 4 parts
abbrev pub IsSpelled : TranslationUnit → Type 0
IsSpelled (translation_unit ss ds) = AreSpelledSizes ss × AreSpelledDecls ds
