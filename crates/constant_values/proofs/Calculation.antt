-- The value of an OpSpecConstantOp is that of the operation inside it.
use Rattle.std.proofs.Common.{◌≡◌, ℕ, ◌&&◌, ◌||◌, Bool, true, false, List, refl, ap, sym, ◌∙◌}
use Rattle.std.specs.Prelude.{Option, Some, None, option_and_then, if◌then◌else◌}
use Rattle.spv_ops.specs.Groups.{is_inner}
use Rattle.spv_ops.specs.Opcode.{op_of}
use Rattle.spv_ops.specs.Operands.{inner_of}
use Rattle.spv_ops.specs.declared.Op.{Op}
use Rattle.spv_ops.specs.declared.Op.TheVariants as code
use Rattle.spv_types.specs.Tree.{Tree, ValueTree}
use Rattle.op_semantics.specs.declared.operation.Operation.{Operation}
use Rattle.op_semantics.specs.Component.{each_one}
use Rattle.op_semantics.specs.Value.{value_of_operation, operation, operation_of, op_value}
use Rattle.profile_rules.specs.Constants.{is_flat, gives_parts, inner_operands, inner_literals, value_by_operation, operation_value}
use Rattle.constant_values.specs.Calculated.{calculated_by, calculated}

-- no literal names the operation of an opcode that may stand inside
inner_operation : (o : Op) (literals : List ℕ) → is_inner o ≡ true → operation_of o literals ≡ operation o
unfolding operation_of
inner_operation code.ExtInst literals e = cc
inner_operation o literals e = refl

given_values : (t : Tree) (literals : List ℕ) (vs : Option (List ValueTree)) (o : Option Operation) → value_by_operation t literals vs o ≡ option_and_then (λ ws. option_and_then (λ p. value_of_operation p t literals ws) o) vs
given_values t literals None None = refl
given_values t literals None (Some o) = refl
given_values t literals (Some vs) None = refl
given_values t literals (Some vs) (Some o) = refl

inner_value : (t : Tree) (literals : List ℕ) (vs : Option (List ValueTree)) (o : Op) → is_inner o ≡ true → value_by_operation t literals vs (operation o) ≡ option_and_then (op_value o t literals) vs
inner_value t literals vs o e =
    given_values t literals vs (operation o)
    ∙ ap (λ x. option_and_then (λ ws. option_and_then (λ p. value_of_operation p t literals ws) x) vs) (sym (inner_operation o literals e))

by_test : (t : Tree) (f : ℕ → Option ValueTree) (args : List ℕ) (o : Op) (inner : Bool) → (inner ≡ true → is_inner o ≡ true) → (if inner && (is_flat t || gives_parts o) then value_by_operation t (inner_literals o args) (each_one f (inner_operands o args)) (operation o) else None) ≡ option_and_then (calculated_by t f args) (if inner then Some o else None)
by_test t f args o false told = refl
by_test t f args o true told = ap (λ v. if is_flat t || gives_parts o then v else None) (inner_value t (inner_literals o args) (each_one f (inner_operands o args)) o (told refl))

by_op : (t : Tree) (f : ℕ → Option ValueTree) (args : List ℕ) (o : Option Op) → option_and_then (λ (o : Op). operation_value t f o args) o ≡ option_and_then (calculated_by t f args) (option_and_then (λ (o : Op). if is_inner o then Some o else None) o)
by_op t f args None = refl
by_op t f args (Some o) = by_test t f args o (is_inner o) (λ e. e)

pub operation_is : (t : Tree) (f : ℕ → Option ValueTree) (args : List ℕ) (n : ℕ) → option_and_then (λ (o : Op). operation_value t f o args) (op_of n) ≡ calculated t f args n
unfolding inner_of
operation_is t f args n = by_op t f args (op_of n)
