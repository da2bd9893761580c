-- Tests of types, literals and expressions: whether each is in the grammar. `declared` tells which names structs have.
use Rattle.std.specs.Prelude.{ℕ, ◌^◌, ◌&&◌, Bool, true, Option, Some, None, nat_lt, nat_le}
use Rattle.std.specs.List.{list_all}
use Rattle.glsl_ast.specs.Tree as tree
use Rattle.glsl_ast.specs.Tree.{Text, TypeName, type_name, Extent, Base, Expr, Exprs, no_exprs}
use Rattle.glsl_ast.specs.declared.expressions.Literal.{Literal}
use Rattle.glsl_ast.specs.declared.expressions.Literal.TheVariants as literal
use Rattle.text_check.specs.Words.{is_name, is_free}

abbrev pub is_spelled : ℕ → Bool
is_spelled n = nat_lt n (2 ^ 32)

abbrev pub is_literal : Literal → Bool
is_literal (literal.Int n) = is_spelled n
is_literal (literal.Uint n) = is_spelled n
is_literal (literal.Hex n) = is_spelled n
is_literal (literal.Truth b) = true

abbrev pub is_extent : Extent → Bool
is_extent tree.open_end = true
is_extent (tree.Extent.number n) = is_spelled n
is_extent (tree.Extent.named w) = is_name w
is_extent (tree.Extent.size w) = is_name w

abbrev pub is_vector_size : ℕ → Bool
is_vector_size n = nat_le 2 n && nat_le n 4

abbrev pub is_base : (Text → Bool) → Base → Bool
is_base declared tree.Base.boolean = true
is_base declared tree.Base.int = true
is_base declared tree.Base.uint = true
is_base declared (tree.Base.bool_vec n) = is_vector_size n
is_base declared (tree.Base.int_vec n) = is_vector_size n
is_base declared (tree.Base.uint_vec n) = is_vector_size n
is_base declared (tree.Base.struct w) = is_name w && declared w

abbrev pub is_type : (Text → Bool) → TypeName → Bool
is_type declared (type_name b es) = is_base declared b && list_all is_extent es

abbrev mutual
  pub is_expr : (Text → Bool) → Expr → Bool
  is_expr declared (tree.Expr.literal l) = is_literal l
  is_expr declared (tree.Expr.name w) = is_free declared w
  is_expr declared (tree.Expr.build t args) = is_type declared t && are_exprs declared args
  is_expr declared (tree.Expr.call w args) = is_free declared w && are_exprs declared args
  is_expr declared (tree.Expr.not e) = is_expr declared e
  is_expr declared (tree.Expr.flip e) = is_expr declared e
  is_expr declared (tree.Expr.binary op a b) = is_expr declared a && is_expr declared b
  is_expr declared (tree.Expr.choose c a b) = is_expr declared c && is_expr declared a && is_expr declared b
  is_expr declared (tree.Expr.member e w) = is_expr declared e && is_name w
  is_expr declared (tree.Expr.index a b) = is_expr declared a && is_expr declared b
  is_expr declared (tree.Expr.length_of e) = is_expr declared e

  pub are_exprs : (Text → Bool) → Exprs → Bool
  are_exprs declared no_exprs = true
  are_exprs declared (tree.Exprs.expr e es) = is_expr declared e && are_exprs declared es

abbrev pub is_value : (Text → Bool) → Option Expr → Bool
is_value declared None = true
is_value declared (Some e) = is_expr declared e
