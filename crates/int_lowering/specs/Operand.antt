-- An operand, and what it is written as where it is wanted as another type.
use Rattle.std.specs.Prelude.{ℕ, ◌==◌, not, nat_lt, Bool as Truth, true, false, List, [], ◌∷◌, Option, Some, None, if◌then◌else◌}
use Rattle.spv_module.specs.declared.tree.Elem.{Elem}
use Rattle.spv_module.specs.declared.tree.Elem.TheVariants.{Bool, Int, Uint}
use Rattle.spv_types.specs.Tree.{Tree, boolean, int, uint, vector}
use Rattle.spv_types.specs.View.{tree_of}
use Rattle.glsl_ast.specs.Tree as tree
use Rattle.glsl_ast.specs.View.{expr_of}
use Rattle.glsl_ast.specs.Height.{height, highest}
use Rattle.glsl_ast.specs.declared.expressions.Literal.{Literal}
use Rattle.glsl_ast.specs.declared.expressions.Literal.TheVariants as literal
use Rattle.int_lowering.specs.declared.basic.BasicType.{BasicType}
use Rattle.int_lowering.specs.declared.operands.Arg.{Arg}
use Rattle.int_lowering.specs.declared.operands.Operand.{Operand as Held}

-- a scalar type, and a vector's with the components of another type
abbrev pub scalar : Elem → BasicType
scalar e = record { elem = e; size = None }

abbrev pub with_elem : Elem → BasicType → BasicType
with_elem e ty = record { elem = e; size = ty.size }

-- the type of a shape, and bool where the shape is neither a scalar's nor a vector's
abbrev pub basic_type : Tree → BasicType
basic_type boolean = scalar Bool
basic_type int = scalar Int
basic_type uint = scalar Uint
basic_type (vector e n) = record { elem = e; size = Some n }
basic_type _ = scalar Bool

-- its name
abbrev pub base_named : Elem → Option ℕ → tree.Base
base_named Bool None = tree.boolean
base_named Int None = tree.int
base_named Uint None = tree.uint
base_named Bool (Some n) = tree.bool_vec n
base_named Int (Some n) = tree.int_vec n
base_named Uint (Some n) = tree.uint_vec n

abbrev pub type_named : BasicType → tree.TypeName
type_named ty = tree.type_name (base_named ty.elem ty.size) []

-- an operand: its expression, its type, and its word where it is a scalar integer constant that prints as a literal
pub record Operand : Type 0 where
  pub expr : tree.Expr
  pub ty : BasicType
  pub word : Option ℕ

-- what an argument stands for, and an operand as the code holds it
abbrev pub operand_of : Arg → Operand
operand_of a = record { expr = expr_of a.expr; ty = basic_type (tree_of a.shape); word = a.word }

abbrev pub plain : Held → Operand
plain x = record { expr = expr_of x.expr; ty = x.ty; word = x.word }

-- the literal of a word: an int with its top bit set is hexadecimal
abbrev pub literal_of : Elem → ℕ → Literal
literal_of Bool w = literal.Truth (not (w == 0))
literal_of Int w = if nat_lt w 2147483648 then literal.Int w else literal.Hex w
literal_of Uint w = literal.Uint w

abbrev pub same_elem : Elem → Elem → Truth
same_elem Bool Bool = true
same_elem Int Int = true
same_elem Uint Uint = true
same_elem _ _ = false

-- a constructor of one argument
abbrev pub constructed : BasicType → tree.Expr → tree.Expr
constructed ty e = tree.build (type_named ty) (tree.expr e tree.no_exprs)

-- r(e): an expression whose components are of one type, as a value of another type: itself where it is of that, else a constructor
abbrev pub converted : BasicType → Elem → tree.Expr → tree.Expr
converted ty from e = if same_elem ty.elem from then e else constructed ty e

-- an operand as components of a type: the literal of a constant, else the operand itself or a constructor
abbrev pub as_elem : Elem → Operand → tree.Expr
as_elem e x = elim x.word [ Some w ↦ tree.literal (literal_of e w) | None ↦ converted (with_elem e x.ty) x.ty.elem x.expr ]

-- an operand as uint, and as int
abbrev pub as_uint : Operand → tree.Expr
as_uint x = as_elem Uint x

abbrev pub as_int : Operand → tree.Expr
as_int x = as_elem Int x

-- an operand that is not there counts as 0u
abbrev pub missing : Operand
missing = record { expr = tree.literal (literal.Uint 0); ty = scalar Uint; word = None }

abbrev pub first : List Operand → Operand
first [] = missing
first (x ∷ xs) = x

abbrev pub rest : List Operand → List Operand
rest [] = []
rest (x ∷ xs) = xs

abbrev pub second : List Operand → Operand
second xs = first (rest xs)

abbrev pub third : List Operand → Operand
third xs = second (rest xs)

abbrev pub fourth : List Operand → Operand
fourth xs = third (rest xs)

-- the height of the highest operand
abbrev pub highest_operand : List Operand → ℕ
highest_operand xs = highest (λ x. height x.expr) xs
