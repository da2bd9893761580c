-- The expression of each operation on scalars, which stands for vectors too where GLSL's operators do (GLSL 4.60, section 5.9).
use Rattle.std.specs.Prelude.{ℕ, List, [], ◌∷◌, Option, Some, None, if◌then◌else◌}
use Rattle.spv_ops.specs.declared.Op.{Op}
use Rattle.spv_module.specs.declared.tree.Elem.{Elem}
use Rattle.spv_module.specs.declared.tree.Elem.TheVariants as elem
use Rattle.glsl_ast.specs.Tree.{Expr, literal, not, flip, choose}
use Rattle.glsl_ast.specs.Tree as tree
use Rattle.glsl_ast.specs.declared.expressions.BinOp.{BinOp}
use Rattle.glsl_ast.specs.declared.expressions.BinOp.TheVariants.{Sub, Equal, NotEqual, Both, Either}
use Rattle.op_semantics.specs.Value.{operation_of}
use Rattle.op_semantics.specs.declared.operation.Unary.{Unary}
use Rattle.op_semantics.specs.declared.operation.Unary.TheVariants.{SNegate, Not, BitReverse, BitCount, SAbs, SSign, FindILsb, FindSMsb, FindUMsb}
use Rattle.op_semantics.specs.declared.operation.Binary.{Binary}
use Rattle.op_semantics.specs.declared.operation.Binary.TheVariants.{SDiv, SRem, SMod, UMin, SMin, UMax, SMax}
use Rattle.op_semantics.specs.declared.operation.Comparison.{Comparison}
use Rattle.op_semantics.specs.declared.operation.Comparison.TheVariants.{IEqual, INotEqual, UGreaterThan, SGreaterThan, UGreaterThanEqual, SGreaterThanEqual, ULessThan, SLessThan, ULessThanEqual, SLessThanEqual}
use Rattle.op_semantics.specs.declared.operation.Logical.{Logical}
use Rattle.op_semantics.specs.declared.operation.Logical.TheVariants.{LogicalEqual, LogicalNotEqual, LogicalOr, LogicalAnd}
use Rattle.op_semantics.specs.declared.operation.Clamp.{Clamp}
use Rattle.op_semantics.specs.declared.operation.Clamp.TheVariants.{UClamp, SClamp}
use Rattle.op_semantics.specs.declared.operation.Operation.{Operation}
use Rattle.op_semantics.specs.declared.operation.Operation.TheVariants as op
use Rattle.int_lowering.specs.declared.basic.BasicType.{BasicType}
use Rattle.int_lowering.specs.declared.built_ins.BuiltIn.{BuiltIn}
use Rattle.int_lowering.specs.declared.built_ins.BuiltIn.TheVariants as built_in
use Rattle.int_lowering.specs.Operand.{Operand, scalar, literal_of, same_elem, converted, as_elem, as_int, first, second, third, fourth}
use Rattle.int_lowering.specs.Term.{call_built_in}
use Rattle.int_lowering.specs.declared.operators.Operator.{Operator}
use Rattle.int_lowering.specs.Operator.{arithmetic_operator, comparison_operator, operated}
use Rattle.int_lowering.specs.Division.{magnitude, signed_quotient, signed_remainder, signed_modulo}

-- an operator on both operands as components of a type, and a function of both
abbrev pub both_as : Elem → BinOp → Operand → Operand → Expr
both_as e o a b = tree.binary o (as_elem e a) (as_elem e b)

abbrev pub function_of_both : Elem → BuiltIn → Operand → Operand → Expr
function_of_both e f a b = call_built_in f (as_elem e a ∷ as_elem e b ∷ [])

abbrev pub function_of : Elem → BuiltIn → Operand → Expr
function_of e f a = call_built_in f (as_elem e a ∷ [])

-- an operation on one operand, from the type of its result
abbrev pub unary : Unary → BasicType → Operand → Expr
unary SNegate ty a = tree.binary Sub (literal (literal_of ty.elem 0)) (as_elem ty.elem a)
unary Not ty a = flip (as_elem ty.elem a)
unary BitReverse ty a = function_of ty.elem built_in.BitfieldReverse a
unary BitCount ty a = converted ty elem.Int (call_built_in built_in.BitCount (a.expr ∷ []))
unary SAbs ty a = converted ty elem.Uint (magnitude a)
unary SSign ty a = converted ty elem.Int (function_of elem.Int built_in.Sign a)
unary FindILsb ty a = converted ty elem.Int (function_of elem.Uint built_in.FindLsb a)
unary FindSMsb ty a = converted ty elem.Int (function_of elem.Int built_in.FindMsb a)
unary FindUMsb ty a = converted ty elem.Int (function_of elem.Uint built_in.FindMsb a)

-- the zero of a scalar type
abbrev pub zero : BasicType → Expr
zero ty = literal (literal_of ty.elem 0)

-- an operation on two operands that is no operator, from the type of its result
abbrev pub called : Binary → BasicType → Operand → Operand → Expr
called SDiv ty a b = converted ty elem.Uint (signed_quotient a b)
called SRem ty a b = converted ty elem.Uint (signed_remainder a b)
called SMod ty a b = converted ty elem.Uint (signed_modulo a b)
called UMin ty a b = converted ty elem.Uint (function_of_both elem.Uint built_in.Min a b)
called SMin ty a b = converted ty elem.Int (function_of_both elem.Int built_in.Min a b)
called UMax ty a b = converted ty elem.Uint (function_of_both elem.Uint built_in.Max a b)
called SMax ty a b = converted ty elem.Int (function_of_both elem.Int built_in.Max a b)
called _ ty a b = zero ty

abbrev pub binary_by : Option Operator → Binary → BasicType → Operand → Operand → Expr
binary_by (Some o) op ty a b = operated o ty a b
binary_by None op ty a b = called op ty a b

abbrev pub binary : Binary → BasicType → Operand → Operand → Expr
binary o ty a b = binary_by (arithmetic_operator o ty.elem) o ty a b

-- equal words are compared as they are where they are of one type; other comparisons have operators
abbrev pub compared_as_they_are : BinOp → Operand → Operand → Expr
compared_as_they_are o a b = if same_elem a.ty.elem b.ty.elem then tree.binary o a.expr b.expr else both_as elem.Uint o a b

abbrev pub compared : Comparison → Operand → Operand → Expr
compared IEqual a b = compared_as_they_are Equal a b
compared INotEqual a b = compared_as_they_are NotEqual a b
compared UGreaterThan a b = compared_as_they_are Equal a b
compared SGreaterThan a b = compared_as_they_are Equal a b
compared UGreaterThanEqual a b = compared_as_they_are Equal a b
compared SGreaterThanEqual a b = compared_as_they_are Equal a b
compared ULessThan a b = compared_as_they_are Equal a b
compared SLessThan a b = compared_as_they_are Equal a b
compared ULessThanEqual a b = compared_as_they_are Equal a b
compared SLessThanEqual a b = compared_as_they_are Equal a b

abbrev pub comparison_by : Option Operator → Comparison → Operand → Operand → Expr
comparison_by (Some o) op a b = operated o (scalar elem.Bool) a b
comparison_by None op a b = compared op a b

abbrev pub comparison : Comparison → Operand → Operand → Expr
comparison o a b = comparison_by (comparison_operator o) o a b

abbrev pub logical : Logical → Operand → Operand → Expr
logical LogicalEqual a b = tree.binary Equal a.expr b.expr
logical LogicalNotEqual a b = tree.binary NotEqual a.expr b.expr
logical LogicalOr a b = tree.binary Either a.expr b.expr
logical LogicalAnd a b = tree.binary Both a.expr b.expr

-- the least of the upper bound and the greatest of the operand and the lower bound
abbrev pub clamped : Elem → Operand → Operand → Operand → Expr
clamped e x low high = call_built_in built_in.Min (function_of_both e built_in.Max x low ∷ as_elem e high ∷ [])

abbrev pub clamp : Clamp → BasicType → Operand → Operand → Operand → Expr
clamp UClamp ty x low high = converted ty elem.Uint (clamped elem.Uint x low high)
clamp SClamp ty x low high = converted ty elem.Int (clamped elem.Int x low high)

-- a bit field, read with or without a sign
abbrev pub extracted : Elem → BasicType → Operand → Operand → Operand → Expr
extracted e ty x offset count = converted ty e (call_built_in built_in.BitfieldExtract (as_elem e x ∷ as_int offset ∷ as_int count ∷ []))

abbrev pub inserted : Elem → Operand → Operand → Operand → Operand → Expr
inserted e base insert offset count =
    call_built_in built_in.BitfieldInsert (as_elem e base ∷ as_elem e insert ∷ as_int offset ∷ as_int count ∷ [])

-- the expression of an operation, from the type of its result and as many of these operands as it has, in order; of an operation on composites a zero
abbrev pub written : Operation → BasicType → Operand → Operand → Operand → Operand → Expr
written (op.Unary o) ty a b c d = unary o ty a
written (op.Binary o) ty a b c d = binary o ty a b
written (op.Comparison o) ty a b c d = comparison o a b
written (op.Logical o) ty a b c d = logical o a b
written op.LogicalNot ty a b c d = not a.expr
written (op.Clamp o) ty a b c d = clamp o ty a b c
written op.BitFieldInsert ty a b c d = inserted ty.elem a b c d
written op.BitFieldSExtract ty a b c d = extracted elem.Int ty a b c
written op.BitFieldUExtract ty a b c d = extracted elem.Uint ty a b c
written op.Any ty a b c d = call_built_in built_in.Any (a.expr ∷ [])
written op.All ty a b c d = call_built_in built_in.All (a.expr ∷ [])
written op.Select ty a b c d = choose a.expr b.expr c.expr
written op.Copy ty a b c d = converted ty a.ty.elem a.expr
written op.Undef ty a b c d = zero ty
written op.VectorExtractDynamic ty a b c d = zero ty
written op.VectorInsertDynamic ty a b c d = zero ty
written op.VectorShuffle ty a b c d = zero ty
written op.CompositeConstruct ty a b c d = zero ty
written op.CompositeExtract ty a b c d = zero ty
written op.CompositeInsert ty a b c d = zero ty

-- the same of a list of operands
abbrev pub applied : Operation → BasicType → List Operand → Expr
applied o ty xs = written o ty (first xs) (second xs) (third xs) (fourth xs)

-- the same where there is an operation, and else a zero
abbrev pub written_if_any : Option Operation → BasicType → List Operand → Expr
written_if_any (Some o) ty xs = applied o ty xs
written_if_any None ty xs = zero ty

-- the same by opcode and, of OpExtInst, by the number in GLSL.std.450
abbrev pub lowered_basic : Op → ℕ → BasicType → List Operand → Expr
lowered_basic code ext ty xs = written_if_any (operation_of code (ext ∷ [])) ty xs

abbrev pub lowered : Op → ℕ → Elem → List Operand → Expr
lowered code ext e xs = lowered_basic code ext (scalar e) xs
