-- What is made of names of the grammar is spelled, and what is made of names of structs that are declared, and of others, is declared.
use Rattle.std.proofs.Common.{List, [], ◌∷◌}
use Rattle.glsl_ast.specs.Tree as tree
use Rattle.glsl_ast.specs.Tree.{Text, TypeName, type_name, Extent, Base, Expr, Exprs, no_exprs}
use Rattle.glsl_grammar.specs.Spelled.{IsSpelledExtent, AreSpelledExtents, IsSpelledBase, IsSpelledType, IsSpelledExpr, AreSpelledExprs}
use Rattle.glsl_grammar.specs.Scopes.{IsDeclaredBase, IsDeclaredType, IsDeclaredExpr, AreDeclaredExprs}
use Rattle.claim_law.specs.Uses.{Words, UsesExtent, UseExtents, UsesBase, UsesType, UsesExpr, UsesMeasured, UseExprs, AreSpelledWords, AreDeclaredWords}

module _ (W : Words) (spelled : AreSpelledWords W) where
  extent-spelled : (e : Extent) → UsesExtent W e → IsSpelledExtent e
  extent-spelled tree.open_end has = tt
  extent-spelled (tree.Extent.number n) has = has
  extent-spelled (tree.Extent.named w) has = spelled.size w has
  extent-spelled (tree.Extent.size w) has = spelled.member w has

  extents-spelled : (es : List Extent) → UseExtents W es → AreSpelledExtents es
  extents-spelled [] has = tt
  extents-spelled (e ∷ es) has = (extent-spelled e has.0, extents-spelled es has.1)

  base-spelled : (b : Base) → UsesBase W b → IsSpelledBase b
  base-spelled tree.Base.boolean has = tt
  base-spelled tree.Base.int has = tt
  base-spelled tree.Base.uint has = tt
  base-spelled (tree.Base.bool_vec n) has = has
  base-spelled (tree.Base.int_vec n) has = has
  base-spelled (tree.Base.uint_vec n) has = has
  base-spelled (tree.Base.struct w) has = spelled.struct w has

  pub type-spelled : (t : TypeName) → UsesType W t → IsSpelledType t
  type-spelled (type_name b es) has = (base-spelled b has.0, extents-spelled es has.1)

  mutual
    pub expr-spelled : (e : Expr) → UsesExpr W e → IsSpelledExpr e
    expr-spelled (tree.Expr.literal l) has = has
    expr-spelled (tree.Expr.name w) has = spelled.value w has
    expr-spelled (tree.Expr.build t args) has = (type-spelled t has.0, exprs-spelled args has.1)
    expr-spelled (tree.Expr.call w args) has = (spelled.called w has.0, exprs-spelled args has.1)
    expr-spelled (tree.Expr.not e) has = expr-spelled e has
    expr-spelled (tree.Expr.flip e) has = expr-spelled e has
    expr-spelled (tree.Expr.binary o a b) has = (expr-spelled a has.0, expr-spelled b has.1)
    expr-spelled (tree.Expr.choose c a b) has = (expr-spelled c has.0, (expr-spelled a has.1, expr-spelled b has.2))
    expr-spelled (tree.Expr.member e w) has = (expr-spelled e has.0, spelled.member w has.1)
    expr-spelled (tree.Expr.index a b) has = (expr-spelled a has.0, expr-spelled b has.1)
    expr-spelled (tree.Expr.length_of e) has = measured-spelled e has

    measured-spelled : (e : Expr) → UsesMeasured W e → IsSpelledExpr e
    measured-spelled (tree.Expr.name w) has = spelled.measured w has
    measured-spelled (tree.Expr.member e w) has = (measured-spelled e has.0, spelled.member w has.1)
    measured-spelled (tree.Expr.index a b) has = (measured-spelled a has.0, expr-spelled b has.1)
    measured-spelled e has = absurd has

    pub exprs-spelled : (es : Exprs) → UseExprs W es → AreSpelledExprs es
    exprs-spelled no_exprs has = tt
    exprs-spelled (tree.Exprs.expr e es) has = (expr-spelled e has.0, exprs-spelled es has.1)

-- these structs are declared before
module _ (W : Words) (names : List Text) (apart : AreDeclaredWords W names) where
  base-declared : (b : Base) → UsesBase W b → IsDeclaredBase names b
  base-declared tree.Base.boolean has = tt
  base-declared tree.Base.int has = tt
  base-declared tree.Base.uint has = tt
  base-declared (tree.Base.bool_vec n) has = tt
  base-declared (tree.Base.int_vec n) has = tt
  base-declared (tree.Base.uint_vec n) has = tt
  base-declared (tree.Base.struct w) has = apart.struct w has

  pub type-declared : (t : TypeName) → UsesType W t → IsDeclaredType names t
  type-declared (type_name b es) has = base-declared b has.0

  mutual
    pub expr-declared : (e : Expr) → UsesExpr W e → IsDeclaredExpr names e
    expr-declared (tree.Expr.literal l) has = tt
    expr-declared (tree.Expr.name w) has = apart.value w has
    expr-declared (tree.Expr.build t args) has = (type-declared t has.0, exprs-declared args has.1)
    expr-declared (tree.Expr.call w args) has = (apart.called w has.0, exprs-declared args has.1)
    expr-declared (tree.Expr.not e) has = expr-declared e has
    expr-declared (tree.Expr.flip e) has = expr-declared e has
    expr-declared (tree.Expr.binary o a b) has = (expr-declared a has.0, expr-declared b has.1)
    expr-declared (tree.Expr.choose c a b) has = (expr-declared c has.0, expr-declared a has.1, expr-declared b has.2)
    expr-declared (tree.Expr.member e w) has = expr-declared e has.0
    expr-declared (tree.Expr.index a b) has = (expr-declared a has.0, expr-declared b has.1)
    expr-declared (tree.Expr.length_of e) has = measured-declared e has

    measured-declared : (e : Expr) → UsesMeasured W e → IsDeclaredExpr names e
    measured-declared (tree.Expr.name w) has = apart.measured w has
    measured-declared (tree.Expr.member e w) has = measured-declared e has.0
    measured-declared (tree.Expr.index a b) has = (measured-declared a has.0, expr-declared b has.1)
    measured-declared e has = absurd has

    pub exprs-declared : (es : Exprs) → UseExprs W es → AreDeclaredExprs names es
    exprs-declared no_exprs has = tt
    exprs-declared (tree.Exprs.expr e es) has = (expr-declared e has.0, exprs-declared es has.1)
