-- Which names stand in a tree. Its numbers are words, and its vectors have two, three or four components.
use Rattle.std.specs.Prelude.{◌≡◌, true, false, List, [], ◌∷◌}
use Rattle.glsl_ast.specs.Tree as tree
use Rattle.glsl_ast.specs.Tree.{Text, TypeName, type_name, Extent, Base, Expr, Exprs, no_exprs, LStep, LValue, lvalue}
use Rattle.glsl_grammar.specs.Read.{is_declared}
use Rattle.glsl_grammar.specs.Spelled.{FitsWord, IsVectorSize, IsName, IsSpelledLiteral}

-- what variables and constants are named by, and functions that are called; the lengths of arrays in types; what a path begins with that `length()` is asked of; what members and components are named by, and what structs are
pub record Words : Type 1 where
  pub value : Text → Type 0
  pub called : Text → Type 0
  pub size : Text → Type 0
  pub measured : Text → Type 0
  pub member : Text → Type 0
  pub struct : Text → Type 0

module _ (W : Words) where
  abbrev pub UsesExtent : Extent → Type 0
  UsesExtent tree.open_end = Unit {0}
  UsesExtent (tree.Extent.number n) = FitsWord n
  UsesExtent (tree.Extent.named w) = W.size w
  UsesExtent (tree.Extent.size w) = W.member w

  abbrev pub UseExtents : List Extent → Type 0
  UseExtents [] = Unit {0}
  UseExtents (e ∷ es) = UsesExtent e × UseExtents es

  abbrev pub UsesBase : Base → Type 0
  UsesBase tree.Base.boolean = Unit {0}
  UsesBase tree.Base.int = Unit {0}
  UsesBase tree.Base.uint = Unit {0}
  UsesBase (tree.Base.bool_vec n) = IsVectorSize n
  UsesBase (tree.Base.int_vec n) = IsVectorSize n
  UsesBase (tree.Base.uint_vec n) = IsVectorSize n
  UsesBase (tree.Base.struct w) = W.struct w

  abbrev pub UsesType : TypeName → Type 0
  UsesType (type_name b es) = UsesBase b × UseExtents es

  abbrev mutual
    pub UsesExpr : Expr → Type 0
    UsesExpr (tree.Expr.literal l) = IsSpelledLiteral l
    UsesExpr (tree.Expr.name w) = W.value w
    UsesExpr (tree.Expr.build t args) = UsesType t × UseExprs args
    UsesExpr (tree.Expr.call w args) = W.called w × UseExprs args
    UsesExpr (tree.Expr.not e) = UsesExpr e
    UsesExpr (tree.Expr.flip e) = UsesExpr e
    UsesExpr (tree.Expr.binary o a b) = UsesExpr a × UsesExpr b
    UsesExpr (tree.Expr.choose c a b) = UsesExpr c × UsesExpr a × UsesExpr b
    UsesExpr (tree.Expr.member e w) = UsesExpr e × W.member w
    UsesExpr (tree.Expr.index a b) = UsesExpr a × UsesExpr b
    UsesExpr (tree.Expr.length_of e) = UsesMeasured e

    -- a path, of which the length is asked
    pub UsesMeasured : Expr → Type 0
    UsesMeasured (tree.Expr.name w) = W.measured w
    UsesMeasured (tree.Expr.member e w) = UsesMeasured e × W.member w
    UsesMeasured (tree.Expr.index a b) = UsesMeasured a × UsesExpr b
    UsesMeasured _ = ⊥

    pub UseExprs : Exprs → Type 0
    UseExprs no_exprs = Unit {0}
    UseExprs (tree.Exprs.expr e es) = UsesExpr e × UseExprs es

  abbrev pub UseEach : List Expr → Type 0
  UseEach [] = Unit {0}
  UseEach (e ∷ es) = UsesExpr e × UseEach es

  -- steps to a part, and what is assigned to
  abbrev pub UseSteps : List LStep → Type 0
  UseSteps [] = Unit {0}
  UseSteps (LStep.member w ∷ ss) = W.member w × UseSteps ss
  UseSteps (LStep.index e ∷ ss) = UsesExpr e × UseSteps ss

  abbrev pub UsesLValue : LValue → Type 0
  UsesLValue (lvalue w ss) = W.value w × UseSteps ss

-- each is a name of the grammar
pub record AreSpelledWords (W : Words) : Type 0 where
  pub value : (w : Text) → W.value w → IsName w
  pub called : (w : Text) → W.called w → IsName w
  pub size : (w : Text) → W.size w → IsName w
  pub measured : (w : Text) → W.measured w → IsName w
  pub member : (w : Text) → W.member w → IsName w
  pub struct : (w : Text) → W.struct w → IsName w

-- structs have one of these names, and nothing else has
pub record AreDeclaredWords (W : Words) (names : List Text) : Type 0 where
  pub value : (w : Text) → W.value w → is_declared names w ≡ false
  pub called : (w : Text) → W.called w → is_declared names w ≡ false
  pub measured : (w : Text) → W.measured w → is_declared names w ≡ false
  pub struct : (w : Text) → W.struct w → is_declared names w ≡ true
