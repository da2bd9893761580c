-- Vectors, arrays and structs, made of parts and taken apart.
use Rattle.std.specs.Prelude.{ℕ, zero, suc, ◌==◌, ◌-◌, ◌+◌, nat_lt, Bool as Truth, true, false, List, [], ◌∷◌, map, Option, Some, None, if◌then◌else◌}
use Rattle.spv_module.specs.declared.tree.Elem.{Elem}
use Rattle.spv_module.specs.declared.tree.Length.{Length}
use Rattle.spv_module.specs.declared.tree.Length.TheVariants.{Fixed, Spec}
use Rattle.spv_types.specs.Tree.{Tree, boolean, int, uint, vector, array, runtime, struct, Trees, no_trees, tree}
use Rattle.spv_types.specs.View.{tree_of}
use Rattle.glsl_ast.specs.Tree.{Expr, literal, build, exprs_in, Exprs, no_exprs, expr}
use Rattle.glsl_ast.specs.View.{expr_of}
use Rattle.glsl_ast.specs.declared.expressions.Literal.TheVariants as lit
use Rattle.int_lowering.specs.declared.operands.Arg.{Arg}
use Rattle.int_lowering.specs.Operand.{Operand, basic_type, literal_of}
use Rattle.vec_lowering.specs.Named.{Naming, member_name, shape_type}
use Rattle.vec_lowering.specs.Component.{axis_name, each_below}

-- an operand with the shape of its value
pub record Argument : Type 0 where
  pub of : Expr
  pub shape : Tree
  pub word : Option ℕ

abbrev pub argument_of : Arg → Argument
argument_of a = record { of = expr_of a.expr; shape = tree_of a.shape; word = a.word }

abbrev pub operand : Argument → Operand
operand a = record { expr = a.of; ty = basic_type a.shape; word = a.word }

-- an operand that is not there counts as 0u
abbrev pub first_of : List Argument → Argument
first_of [] = record { of = literal (lit.Uint 0); shape = uint; word = None }
first_of (a ∷ as') = a

abbrev pub rest_of : List Argument → List Argument
rest_of [] = []
rest_of (a ∷ as') = as'

abbrev pub second_of : List Argument → Argument
second_of xs = first_of (rest_of xs)

-- a constructor of the operands
abbrev pub constructed : Naming → Tree → List Argument → Expr
constructed names t xs = build (shape_type names t) (exprs_in (map (λ a. a.of) xs))

-- the shape of a struct's member, and another past them
abbrev pub nth_or : Trees → ℕ → Tree → Tree
nth_or no_trees i other = other
nth_or (tree t ts) zero other = t
nth_or (tree t ts) (suc i) other = nth_or ts i other

-- an element of an array, and a component of a vector
abbrev pub element : Expr → ℕ → Expr
element e i = Expr.index e (literal (lit.Int i))

abbrev pub axis : Expr → ℕ → Expr
axis e k = Expr.member e (axis_name k)

-- a member of a struct
abbrev pub member_of : Naming → Expr → ℕ → ℕ → Expr
member_of names e id k = Expr.member e (member_name names id k)

-- the part that indexes lead to: `.x`, `.name` and `[2]`; a scalar has no parts
abbrev pub extracted : Naming → Tree → List ℕ → Expr → Expr
extracted names t [] e = e
extracted names (vector f n) (i ∷ is) e = axis e i
extracted names (array t l) (i ∷ is) e = extracted names t is (element e i)
extracted names (runtime t) (i ∷ is) e = extracted names t is (element e i)
extracted names (struct id ts) (i ∷ is) e = extracted names (nth_or ts i boolean) is (member_of names e id i)
extracted names t (i ∷ is) e = e

-- how many components a vector has
abbrev pub count_or_none : Option ℕ → ℕ
count_or_none (Some n) = n
count_or_none None = 0

abbrev pub vector_size : Tree → ℕ
vector_size t = count_or_none (basic_type t).size

-- the component that a number picks of two vectors, where 2 ^ 32 - 1 picks a zero
abbrev pub picked : Elem → Argument → Argument → ℕ → Expr
picked e a b k =
    if k == 4294967295
    then literal (literal_of e 0)
    else (if nat_lt k (vector_size a.shape) then axis a.of k else axis b.of (k - vector_size a.shape))

abbrev pub shuffled : Naming → Tree → List ℕ → Argument → Argument → Expr
shuffled names t picks a b = build (shape_type names t) (exprs_in (map (picked (basic_type t).elem a b) picks))

-- a struct stands in the shape
abbrev mutual
  pub has_struct : Tree → Truth
  has_struct boolean = false
  has_struct int = false
  has_struct uint = false
  has_struct (vector e n) = false
  has_struct (array t l) = has_struct t
  has_struct (runtime t) = has_struct t
  has_struct (struct id ts) = true

-- what an array is an array of, and its number of elements
abbrev pub array_part : Tree → Tree
array_part (array t l) = t
array_part t = t

abbrev pub fixed_length : Length → ℕ
fixed_length (Fixed n) = n
fixed_length (Spec id) = 0

-- a struct's id and its members
abbrev pub struct_id : Tree → ℕ
struct_id (struct id ts) = id
struct_id _ = 0

abbrev pub struct_parts : Tree → Trees
struct_parts (struct id ts) = ts
struct_parts _ = no_trees

-- a value as one of a shape with other structs, from the shape that it has: constructors, and parts without a struct as they are
abbrev mutual
  pub copied : Naming → Tree → Tree → Expr → Expr
  copied names (array t l) from e =
      if has_struct t
      then build (shape_type names (array t l)) (exprs_in (each_below (fixed_length l) (λ k. copied names t (array_part from) (element e k))))
      else e
  copied names (struct id ts) from e = build (shape_type names (struct id ts)) (copied_parts names ts (struct_id from) (struct_parts from) 0 e)
  copied names t from e = e

  pub copied_parts : Naming → Trees → ℕ → Trees → ℕ → Expr → Exprs
  copied_parts names no_trees id from k e = no_exprs
  copied_parts names (tree t ts) id from k e = expr (copied names t (nth_or from k boolean) (member_of names e id k)) (copied_parts names ts id from (k + 1) e)
