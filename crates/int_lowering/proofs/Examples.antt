-- The definitions on some operations.
use Rattle.std.proofs.Common.{◌≡◌, ℕ, [], ◌∷◌, Some, None, refl, codes}
use Rattle.spv_ops.specs.declared.Op.TheVariants as op
use Rattle.spv_module.specs.declared.tree.Elem.TheVariants.{Int, Uint}
use Rattle.glsl_ast.specs.Tree.{Expr, literal, name, binary, choose, build, type_name, int, uint, uint_vec, expr, no_exprs}
use Rattle.glsl_ast.specs.Height.{height}
use Rattle.glsl_ast.specs.declared.expressions.Literal.TheVariants as lit
use Rattle.glsl_ast.specs.declared.expressions.BinOp.TheVariants.{Sub, Div, Shl, And, Less, NotEqual}
use Rattle.op_semantics.specs.Value.{operation, operation_of}
use Rattle.int_lowering.specs.Operand.{Operand, scalar}
use Rattle.int_lowering.specs.Lowered.{lowered, lowered_basic}

abbrev v18 : Operand
v18 = record { expr = name (codes "v18"); ty = scalar Uint; word = None }

abbrev v20 : Operand
v20 = record { expr = name (codes "v20"); ty = scalar Uint; word = None }

abbrev v40 : Operand
v40 = record { expr = name (codes "v40"); ty = scalar Int; word = None }

abbrev word : ℕ → Operand
word n = record { expr = literal (lit.Uint n); ty = scalar Uint; word = Some n }

abbrev two : Operand
two = record { expr = literal (lit.Int 2); ty = scalar Int; word = Some 2 }

abbrev number : ℕ → Expr
number n = literal (lit.Uint n)

-- (v20 << (v18 & 31u)), (v20 << 31u) and (v20 << (32u & 31u))
shift_by_variable : lowered op.ShiftLeftLogical 0 Uint (v20 ∷ v18 ∷ []) ≡ binary Shl v20.expr (binary And v18.expr (number 31))
unfolding operation operation_of
shift_by_variable = refl

shift_by_31 : lowered op.ShiftLeftLogical 0 Uint (v20 ∷ word 31 ∷ []) ≡ binary Shl v20.expr (number 31)
unfolding operation operation_of
shift_by_31 = refl

shift_by_32 : lowered op.ShiftLeftLogical 0 Uint (v20 ∷ word 32 ∷ []) ≡ binary Shl v20.expr (binary And (number 32) (number 31))
unfolding operation operation_of
shift_by_32 = refl

-- ((v40 < 0) ? (0u - uint(v40)) : uint(v40)), and the same of 2
abbrev unsigned_v40 : Expr
unsigned_v40 = build (type_name uint []) (expr v40.expr no_exprs)

abbrev negative_v40 : Expr
negative_v40 = binary Less v40.expr (literal (lit.Int 0))

abbrev negative_two : Expr
negative_two = binary Less (literal (lit.Int 2)) (literal (lit.Int 0))

abbrev quotient_of_magnitudes : Expr
quotient_of_magnitudes =
    binary Div (choose negative_v40 (binary Sub (number 0) unsigned_v40) unsigned_v40)
    (choose negative_two (binary Sub (number 0) (number 2)) (number 2))

-- the quotient of v40 by 2, with a sign
signed_division : lowered op.SDiv 0 Int (v40 ∷ two ∷ []) ≡ build (type_name int []) (expr (choose (binary NotEqual negative_v40 negative_two) (binary Sub (number 0) quotient_of_magnitudes) quotient_of_magnitudes) no_exprs)
unfolding operation operation_of
signed_division = refl

-- its height
height_of_division : height (lowered op.SDiv 0 Int (v40 ∷ two ∷ [])) ≡ 9
unfolding operation operation_of
height_of_division = refl

-- a vector's shift: (v << (uvec3(s) & 31u))
abbrev ivec3 : Operand
ivec3 = record { expr = name (codes "s"); ty = record { elem = Int; size = Some 3 }; word = None }

abbrev uvec3 : Operand
uvec3 = record { expr = name (codes "v"); ty = record { elem = Uint; size = Some 3 }; word = None }

shift_of_vectors : lowered_basic op.ShiftLeftLogical 0 uvec3.ty (uvec3 ∷ ivec3 ∷ []) ≡ binary Shl uvec3.expr (binary And (build (type_name (uint_vec 3) []) (expr ivec3.expr no_exprs)) (number 31))
unfolding operation operation_of
shift_of_vectors = refl
