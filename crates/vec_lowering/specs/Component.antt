-- Operations on vectors, as GLSL writes them on vectors or component by component.
use Rattle.std.specs.Prelude.{ℕ, zero, suc, ◌==◌, Bool, true, false, List, [], ◌∷◌, ◌++◌, map, Option, Some, None, codes, is_none, is_some, if◌then◌else◌}
use Rattle.spv_module.specs.declared.tree.Elem.{Elem}
use Rattle.spv_module.specs.declared.tree.Elem.TheVariants as elem
use Rattle.glsl_ast.specs.Tree.{Text, Expr, build, exprs_in}
use Rattle.op_semantics.specs.declared.operation.Unary.TheVariants.{SNegate, Not}
use Rattle.op_semantics.specs.declared.operation.Binary.{Binary}
use Rattle.op_semantics.specs.declared.operation.Operation.{Operation}
use Rattle.op_semantics.specs.declared.operation.Operation.TheVariants as op
use Rattle.int_lowering.specs.declared.basic.BasicType.{BasicType}
use Rattle.int_lowering.specs.Operand.{Operand, scalar, type_named, first}
use Rattle.int_lowering.specs.Operator.{arithmetic_operator}
use Rattle.int_lowering.specs.Lowered.{applied}

-- the names of components (GLSL 4.60, section 5.5)
unfoldable pub axis_name : ℕ → Text
axis_name k = if k == 0 then codes "x" else if k == 1 then codes "y" else if k == 2 then codes "z" else codes "w"

-- a component of a vector, and a scalar as it is
abbrev pub component_of : Option ℕ → ℕ → Operand → Operand
component_of (Some n) k x = record { expr = Expr.member x.expr (axis_name k); ty = scalar x.ty.elem; word = None }
component_of None k x = x

abbrev pub component : ℕ → Operand → Operand
component k x = component_of x.ty.size k x

-- f of each number below n
abbrev pub each_below : ℕ → (ℕ → Expr) → List Expr
each_below zero f = []
each_below (suc n) f = each_below n f ++ f n ∷ []

-- a constructor of the operation's components
abbrev pub by_component : Operation → Elem → ℕ → List Operand → Expr
by_component o e n xs =
    build (type_named (record { elem = e; size = Some n })) (exprs_in (each_below n (λ k. applied o (scalar e) (map (component k) xs))))

-- the operation is one operator, which GLSL has on vectors too (GLSL 4.60, section 5.9)
abbrev pub is_operator : Binary → Bool
is_operator o = is_some (arithmetic_operator o elem.Uint)

-- an operation that is written on vectors as on scalars, where its first operand is of this type; so is a choice by one bool
abbrev pub is_alike : Operation → BasicType → Bool
is_alike (op.Unary SNegate) ty = true
is_alike (op.Unary Not) ty = true
is_alike (op.Binary o) ty = is_operator o
is_alike op.Select ty = is_none ty.size
is_alike op.Copy ty = true
is_alike _ ty = false

-- an operation with a result of a basic type
abbrev pub on_basic : Operation → BasicType → List Operand → Expr
on_basic o ty xs =
    elim ty.size [ Some n ↦ (if is_alike o (first xs).ty then applied o ty xs else by_component o ty.elem n xs) | None ↦ applied o ty xs ]
