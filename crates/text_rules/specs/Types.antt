-- How types and zeros are written (GLSL 4.60, sections 4.1 and 5.4).
use Rattle.std.specs.Prelude.{ℕ, false, [], ◌∷◌, replicate}
use Rattle.spv_module.specs.declared.tree.Elem.{Elem}
use Rattle.spv_module.specs.declared.tree.Elem.TheVariants as elem
use Rattle.spv_module.specs.declared.tree.Length.{Length}
use Rattle.spv_module.specs.declared.tree.Length.TheVariants.{Fixed, Spec}
use Rattle.spv_types.specs.Tree as shape
use Rattle.spv_types.specs.Tree.{Tree, Trees, no_trees, tree}
use Rattle.glsl_ast.specs.Tree.{Text, Base, boolean, int, uint, bool_vec, int_vec, uint_vec, struct, Extent, open_end, TypeName, type_name, Expr, literal, build, Exprs, no_exprs, expr, exprs_in}
use Rattle.glsl_ast.specs.declared.expressions.Literal.TheVariants.{Int, Uint, Truth}

-- how structs are named, and how the lengths of arrays are written
pub record Spelling : Type 0 where
  pub struct_name : ℕ → Text
  pub length : Length → Extent

abbrev pub vector_base : Elem → ℕ → Base
vector_base elem.Bool n = bool_vec n
vector_base elem.Int n = int_vec n
vector_base elem.Uint n = uint_vec n

-- the extent of an outer array stands before those of the arrays in it
abbrev pub with_extent : Extent → TypeName → TypeName
with_extent e (type_name b es) = type_name b (e ∷ es)

abbrev pub type_text : Spelling → Tree → TypeName
type_text s shape.boolean = type_name boolean []
type_text s shape.int = type_name int []
type_text s shape.uint = type_name uint []
type_text s (shape.vector e n) = type_name (vector_base e n) []
type_text s (shape.array t l) = with_extent (s.length l) (type_text s t)
type_text s (shape.runtime t) = with_extent open_end (type_text s t)
type_text s (shape.struct id ts) = type_name (struct (s.struct_name id)) []

abbrev pub zero_elem : Elem → Expr
zero_elem elem.Bool = literal (Truth false)
zero_elem elem.Int = literal (Int 0)
zero_elem elem.Uint = literal (Uint 0)

-- so many times this expression
abbrev pub times : ℕ → Expr → Exprs
times n e = exprs_in (replicate n e)

-- the zero of a shape: a constructor lists each part
abbrev mutual
  pub zero_text : Spelling → Tree → Expr
  zero_text s shape.boolean = literal (Truth false)
  zero_text s shape.int = literal (Int 0)
  zero_text s shape.uint = literal (Uint 0)
  zero_text s (shape.vector e n) = build (type_text s (shape.vector e n)) (times n (zero_elem e))
  zero_text s (shape.array t (Fixed n)) = build (type_text s (shape.array t (Fixed n))) (times n (zero_text s t))
  zero_text s (shape.array t (Spec id)) = build (type_text s (shape.array t (Spec id))) no_exprs
  zero_text s (shape.runtime t) = build (type_text s (shape.runtime t)) no_exprs
  zero_text s (shape.struct id ts) = build (type_text s (shape.struct id ts)) (zero_texts s ts)

  pub zero_texts : Spelling → Trees → Exprs
  zero_texts s no_trees = no_exprs
  zero_texts s (tree t ts) = expr (zero_text s t) (zero_texts s ts)
