use Rattle.std.proofs.Common.{◌≡◌, ◌∙◌, ℕ, Option, ap, sym}
use Rattle.spv_module.specs.declared.inst.Function.{Function}
use Rattle.spv_module.specs.declared.tree.Elem.{Elem}
use Rattle.expr_forward.specs.Scope.{type_of}
use Rattle.expr_forward.specs.Context.{scope_of}
use Rattle.function_plan.specs.declared.plan.FunctionPlan.{FunctionPlan}
use Rattle.function_text.specs.Functions.{first_operand, case_by, elem_at}
use Rattle.function_text.proofs.blocks.PlannedFunctionBlockText.case.Goals as goal

pub returns : goal.returns
returns c =
    let written : c.function.result.now ≡ c.args.self.now.context.function = c.function.ensures.function ∙ (ap (λ (p : FunctionPlan). p.locals) c.plan.ensures ∙ sym c.args.self.now.function_is) in
    let id : c.first_operand-id.result ≡ first_operand c.args.self.now.context.function c.args.header = c.first_operand-id.ensures ∙ ap (λ (f : Function). first_operand f c.args.header) written in
    c.case_literal.ensures
    ∙ ap (λ (e : Option Elem). case_by e c.args.word) (c.elem.ensures ∙ ap (λ (n : ℕ). elem_at (scope_of c.args.self.now.context) (type_of (scope_of c.args.self.now.context) n)) id)
