-- The operations that are one operator on two operands.
use Rattle.std.specs.Prelude.{ℕ, nat_lt, Bool, true, false, Option, Some, None, if◌then◌else◌}
use Rattle.spv_module.specs.declared.tree.Elem.{Elem}
use Rattle.spv_module.specs.declared.tree.Elem.TheVariants as elem
use Rattle.glsl_ast.specs.Tree as tree
use Rattle.glsl_ast.specs.Tree.{Expr}
use Rattle.glsl_ast.specs.declared.expressions.BinOp.{BinOp}
use Rattle.glsl_ast.specs.declared.expressions.BinOp.TheVariants.{Add, Sub, Mul, Div, Rem, Shl, Shr, And, Or, Xor, Less, LessEqual, Greater, GreaterEqual}
use Rattle.op_semantics.specs.declared.operation.Binary.{Binary}
use Rattle.op_semantics.specs.declared.operation.Binary.TheVariants.{IAdd, ISub, IMul, UDiv, SDiv, UMod, SRem, SMod, ShiftRightLogical, ShiftRightArithmetic, ShiftLeftLogical, BitwiseOr, BitwiseXor, BitwiseAnd, UMin, SMin, UMax, SMax}
use Rattle.op_semantics.specs.declared.operation.Comparison.{Comparison}
use Rattle.op_semantics.specs.declared.operation.Comparison.TheVariants.{IEqual, INotEqual, UGreaterThan, SGreaterThan, UGreaterThanEqual, SGreaterThanEqual, ULessThan, SLessThan, ULessThanEqual, SLessThanEqual}
use Rattle.int_lowering.specs.declared.basic.BasicType.{BasicType}
use Rattle.int_lowering.specs.declared.operators.Operator.{Operator}
use Rattle.int_lowering.specs.Operand.{Operand, converted, as_elem, as_uint}
use Rattle.int_lowering.specs.Term.{unsigned_literal}

-- an operator on operands that are read as components of a type, with a result that is as the operation has it
abbrev pub plain : BinOp → Elem → Operator
plain o e = record { op = o; elem = e; shifts = false; converts = false }

-- one with a result of that type, which is converted
abbrev pub converting : BinOp → Elem → Operator
converting o e = record { op = o; elem = e; shifts = false; converts = true }

abbrev pub shifting : BinOp → Elem → Bool → Operator
shifting o e c = record { op = o; elem = e; shifts = true; converts = c }

-- the operator of an operation with a result of such components
abbrev pub arithmetic_operator : Binary → Elem → Option Operator
arithmetic_operator IAdd e = Some (plain Add e)
arithmetic_operator ISub e = Some (plain Sub e)
arithmetic_operator IMul e = Some (plain Mul e)
arithmetic_operator UDiv e = Some (converting Div elem.Uint)
arithmetic_operator SDiv e = None
arithmetic_operator UMod e = Some (converting Rem elem.Uint)
arithmetic_operator SRem e = None
arithmetic_operator SMod e = None
arithmetic_operator ShiftRightLogical e = Some (shifting Shr elem.Uint true)
arithmetic_operator ShiftRightArithmetic e = Some (shifting Shr elem.Int true)
arithmetic_operator ShiftLeftLogical e = Some (shifting Shl e false)
arithmetic_operator BitwiseOr e = Some (plain Or e)
arithmetic_operator BitwiseXor e = Some (plain Xor e)
arithmetic_operator BitwiseAnd e = Some (plain And e)
arithmetic_operator UMin e = None
arithmetic_operator SMin e = None
arithmetic_operator UMax e = None
arithmetic_operator SMax e = None

-- the operator of a comparison: equal words are compared as they are
abbrev pub comparison_operator : Comparison → Option Operator
comparison_operator IEqual = None
comparison_operator INotEqual = None
comparison_operator UGreaterThan = Some (plain Greater elem.Uint)
comparison_operator SGreaterThan = Some (plain Greater elem.Int)
comparison_operator UGreaterThanEqual = Some (plain GreaterEqual elem.Uint)
comparison_operator SGreaterThanEqual = Some (plain GreaterEqual elem.Int)
comparison_operator ULessThan = Some (plain Less elem.Uint)
comparison_operator SLessThan = Some (plain Less elem.Int)
comparison_operator ULessThanEqual = Some (plain LessEqual elem.Uint)
comparison_operator SLessThanEqual = Some (plain LessEqual elem.Int)

-- a shift amount: the literal of a constant below 32, else taken modulo 32
abbrev pub masked : Expr → Expr
masked e = tree.binary And e (unsigned_literal 31)

abbrev pub modulo_32 : Operand → Expr
modulo_32 s = masked (as_uint s)

abbrev pub shift_amount : Operand → Expr
shift_amount s = elim s.word [ Some w ↦ (if nat_lt w 32 then unsigned_literal w else modulo_32 s) | None ↦ modulo_32 s ]

-- the second operand, as an operator reads it
abbrev pub second_operand : Operator → Operand → Expr
second_operand o b = if o.shifts then shift_amount b else as_elem o.elem b

-- an operator over what its operands are read as, and over its operands, as a value of a type
abbrev pub over : Operator → BasicType → Expr → Expr → Expr
over o ty x y = if o.converts then converted ty o.elem (tree.binary o.op x y) else tree.binary o.op x y

abbrev pub operated : Operator → BasicType → Operand → Operand → Expr
operated o ty a b = over o ty (as_elem o.elem a) (second_operand o b)
