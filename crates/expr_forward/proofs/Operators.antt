-- An operation on two operands that is one operator.
use Rattle.std.proofs.Common.{◌≡◌, ℕ, [], ◌∷◌, Some, refl, sym, subst, ap, ◌∙◌, map}
use Rattle.spv_ops.specs.declared.Op.{Op}
use Rattle.spv_ops.specs.declared.Op.TheVariants as code
use Rattle.spv_module.specs.declared.inst.Inst.{Inst}
use Rattle.glsl_ast.specs.Tree.{Expr}
use Rattle.op_semantics.specs.Value.{operation_of}
use Rattle.int_lowering.specs.declared.basic.BasicType.{BasicType}
use Rattle.int_lowering.specs.declared.operators.Operator.{Operator}
use Rattle.int_lowering.specs.Operator.{operated}
use Rattle.vec_lowering.specs.Named.{naming_of}
use Rattle.vec_lowering.specs.Operators.{operator_if_any}
use Rattle.vec_lowering.proofs.WithOperator.{lowered_with}
use Rattle.text_rules.specs.Outlines.{basic}
use Rattle.expr_forward.specs.Scope.{globals}
use Rattle.expr_forward.specs.Context.{ContextState, basic_in, operand, read_operand, scope_of}
use Rattle.expr_forward.specs.Values.{argument, value_words, literal_words, operation_text}

two_values : (o : Op) (a b : ℕ) → value_words o (a ∷ b ∷ []) ≡ a ∷ b ∷ []
two_values code.VectorShuffle a b = refl
two_values o a b = refl

pub with_operator : (s : ContextState) (value : ℕ → Expr) (i : Inst) (a b : ℕ) (f : Operator) (ty : BasicType) →
    ty ≡ basic_in (scope_of s) i.ty → operator_if_any (operation_of i.op (0 ∷ [])) ty ≡ Some f →
    operation_text (scope_of s) value 0 i (a ∷ b ∷ []) ≡ operated f ty (read_operand (scope_of s) value a) (read_operand (scope_of s) value b)
with_operator s value i a b f ty same is =
    let w = scope_of s in
    let found : operator_if_any (operation_of i.op (0 ∷ [])) (basic_in w i.ty) ≡ Some f = subst (λ (u : BasicType). operator_if_any (operation_of i.op (0 ∷ [])) u ≡ Some f) same is in
    let args : value_words i.op (a ∷ b ∷ []) ≡ a ∷ b ∷ [] = two_values i.op a b in
    ap (λ xs. w.lowered i.op 0 (basic (globals w) i.ty) (map (argument w value) xs) (literal_words i.op (a ∷ b ∷ []))) args
    ∙ (lowered_with (naming_of s.names) i.op (basic (globals w) i.ty) (literal_words i.op (a ∷ b ∷ [])) (operand (argument w value a)) (operand (argument w value b)) f found
    ∙ ap (λ u. operated f u (read_operand w value a) (read_operand w value b)) (sym same))
