-- An operation that is one operator is written so, on scalars and on vectors.
use Rattle.std.proofs.Common.{◌≡◌, ℕ, List, [], ◌∷◌, Option, Some, None, IfSome, subst, refl}
use Rattle.spv_ops.specs.declared.Op.{Op}
use Rattle.spv_types.specs.Tree.{Tree}
use Rattle.glsl_ast.specs.Tree.{Expr}
use Rattle.op_semantics.specs.Value.{operation_of}
use Rattle.op_semantics.specs.declared.operation.Binary.{Binary}
use Rattle.op_semantics.specs.declared.operation.Binary.TheVariants as bin
use Rattle.op_semantics.specs.declared.operation.Comparison.{Comparison}
use Rattle.op_semantics.specs.declared.operation.Comparison.TheVariants as cmp
use Rattle.op_semantics.specs.declared.operation.Operation.{Operation}
use Rattle.op_semantics.specs.declared.operation.Operation.TheVariants as op
use Rattle.spv_module.specs.declared.tree.Elem.{Elem}
use Rattle.int_lowering.specs.declared.basic.BasicType.{BasicType}
use Rattle.int_lowering.specs.declared.operators.Operator.{Operator}
use Rattle.int_lowering.specs.Operand.{Operand, basic_type}
use Rattle.int_lowering.specs.Operator.{arithmetic_operator, operated}
use Rattle.int_lowering.specs.Lowered.{applied}
use Rattle.vec_lowering.specs.Named.{Naming}
use Rattle.vec_lowering.specs.Component.{on_basic}
use Rattle.vec_lowering.specs.Composite.{Argument, operand}
use Rattle.vec_lowering.specs.Lowered.{written, written_if_any, lowered_vector}
use Rattle.vec_lowering.specs.Operators.{operator_of, operator_if_any}

-- what is written alike on scalars and on vectors
alike : (size : Option ℕ) (x : Expr) → (elim size [ Some n ↦ x | None ↦ x ]) ≡ x
alike (Some n) x = refl
alike None x = refl

arithmetic : (o : Binary) (ty : BasicType) (a b : Operand) → IfSome (arithmetic_operator o ty.elem) (λ f. on_basic (op.Binary o) ty (a ∷ b ∷ []) ≡ operated f ty a b)
arithmetic bin.IAdd ty a b = alike ty.size (applied (op.Binary bin.IAdd) ty (a ∷ b ∷ []))
arithmetic bin.ISub ty a b = alike ty.size (applied (op.Binary bin.ISub) ty (a ∷ b ∷ []))
arithmetic bin.IMul ty a b = alike ty.size (applied (op.Binary bin.IMul) ty (a ∷ b ∷ []))
arithmetic bin.UDiv ty a b = alike ty.size (applied (op.Binary bin.UDiv) ty (a ∷ b ∷ []))
arithmetic bin.SDiv ty a b = tt
arithmetic bin.UMod ty a b = alike ty.size (applied (op.Binary bin.UMod) ty (a ∷ b ∷ []))
arithmetic bin.SRem ty a b = tt
arithmetic bin.SMod ty a b = tt
arithmetic bin.ShiftRightLogical ty a b = alike ty.size (applied (op.Binary bin.ShiftRightLogical) ty (a ∷ b ∷ []))
arithmetic bin.ShiftRightArithmetic ty a b = alike ty.size (applied (op.Binary bin.ShiftRightArithmetic) ty (a ∷ b ∷ []))
arithmetic bin.ShiftLeftLogical ty a b = alike ty.size (applied (op.Binary bin.ShiftLeftLogical) ty (a ∷ b ∷ []))
arithmetic bin.BitwiseOr ty a b = alike ty.size (applied (op.Binary bin.BitwiseOr) ty (a ∷ b ∷ []))
arithmetic bin.BitwiseXor ty a b = alike ty.size (applied (op.Binary bin.BitwiseXor) ty (a ∷ b ∷ []))
arithmetic bin.BitwiseAnd ty a b = alike ty.size (applied (op.Binary bin.BitwiseAnd) ty (a ∷ b ∷ []))
arithmetic bin.UMin ty a b = tt
arithmetic bin.SMin ty a b = tt
arithmetic bin.UMax ty a b = tt
arithmetic bin.SMax ty a b = tt

compared : (o : Comparison) (e : Elem) (size : Option ℕ) (a b : Operand) →
    IfSome (operator_of (op.Comparison o) (record { elem = e; size = size })) (λ f. on_basic (op.Comparison o) (record { elem = e; size = size }) (a ∷ b ∷ []) ≡ operated f (record { elem = e; size = size }) a b)
compared o e (Some n) a b = tt
compared cmp.IEqual e None a b = tt
compared cmp.INotEqual e None a b = tt
compared cmp.UGreaterThan e None a b = refl
compared cmp.SGreaterThan e None a b = refl
compared cmp.UGreaterThanEqual e None a b = refl
compared cmp.SGreaterThanEqual e None a b = refl
compared cmp.ULessThan e None a b = refl
compared cmp.SLessThan e None a b = refl
compared cmp.ULessThanEqual e None a b = refl
compared cmp.SLessThanEqual e None a b = refl

by_operation : (names : Naming) (opcode : Op) (o : Operation) (t : Tree) (literals : List ℕ) (x y : Argument) →
    IfSome (operator_of o (basic_type t)) (λ f. written names opcode o t literals (x ∷ y ∷ []) ≡ operated f (basic_type t) (operand x) (operand y))
by_operation names opcode (op.Unary o) t literals x y = tt
by_operation names opcode (op.Binary o) t literals x y = arithmetic o (basic_type t) (operand x) (operand y)
by_operation names opcode (op.Comparison o) t literals x y = compared o (basic_type t).elem (basic_type t).size (operand x) (operand y)
by_operation names opcode (op.Logical o) t literals x y = tt
by_operation names opcode op.LogicalNot t literals x y = tt
by_operation names opcode (op.Clamp o) t literals x y = tt
by_operation names opcode op.BitFieldInsert t literals x y = tt
by_operation names opcode op.BitFieldSExtract t literals x y = tt
by_operation names opcode op.BitFieldUExtract t literals x y = tt
by_operation names opcode op.Any t literals x y = tt
by_operation names opcode op.All t literals x y = tt
by_operation names opcode op.Select t literals x y = tt
by_operation names opcode op.Copy t literals x y = tt
by_operation names opcode op.Undef t literals x y = tt
by_operation names opcode op.VectorExtractDynamic t literals x y = tt
by_operation names opcode op.VectorInsertDynamic t literals x y = tt
by_operation names opcode op.VectorShuffle t literals x y = tt
by_operation names opcode op.CompositeConstruct t literals x y = tt
by_operation names opcode op.CompositeExtract t literals x y = tt
by_operation names opcode op.CompositeInsert t literals x y = tt

if_any : (names : Naming) (opcode : Op) (found : Option Operation) (t : Tree) (literals : List ℕ) (x y : Argument) →
    IfSome (operator_if_any found (basic_type t)) (λ f. written_if_any names opcode found t literals (x ∷ y ∷ []) ≡ operated f (basic_type t) (operand x) (operand y))
if_any names opcode (Some o) t literals x y = by_operation names opcode o t literals x y
if_any names opcode None t literals x y = tt

-- the law: an instruction on two operands that has an operator is that operator over them
pub lowered_with : (names : Naming) (opcode : Op) (t : Tree) (literals : List ℕ) (x y : Argument) (f : Operator) →
    operator_if_any (operation_of opcode (0 ∷ [])) (basic_type t) ≡ Some f →
    lowered_vector names opcode 0 t literals (x ∷ y ∷ []) ≡ operated f (basic_type t) (operand x) (operand y)
lowered_with names opcode t literals x y f is =
    subst (λ (found : Option Operator). IfSome found (λ g. lowered_vector names opcode 0 t literals (x ∷ y ∷ []) ≡ operated g (basic_type t) (operand x) (operand y))) is
    (if_any names opcode (operation_of opcode (0 ∷ [])) t literals x y)
