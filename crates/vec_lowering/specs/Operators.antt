-- The operations on scalars and vectors that are one operator.
use Rattle.std.specs.Prelude.{Option, Some, None}
use Rattle.op_semantics.specs.declared.operation.Operation.{Operation}
use Rattle.op_semantics.specs.declared.operation.Operation.TheVariants as op
use Rattle.int_lowering.specs.declared.basic.BasicType.{BasicType}
use Rattle.int_lowering.specs.declared.operators.Operator.{Operator}
use Rattle.int_lowering.specs.Operator.{arithmetic_operator, comparison_operator}

-- the operator of an operation, by the type of its result: GLSL compares vectors by functions
abbrev pub operator_of : Operation → BasicType → Option Operator
operator_of (op.Binary o) ty = arithmetic_operator o ty.elem
operator_of (op.Comparison o) ty = elim ty.size [ Some n ↦ None | None ↦ comparison_operator o ]
operator_of _ ty = None

abbrev pub operator_if_any : Option Operation → BasicType → Option Operator
operator_if_any (Some o) ty = operator_of o ty
operator_if_any None ty = None
