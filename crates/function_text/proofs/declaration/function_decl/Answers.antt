use Rattle.std.proofs.Common.{◌≡◌, subst}
use Rattle.std.proofs.lemmas.Result.{MatchResult-weaker}
use Rattle.glsl_ast.specs.View.{decl_of}
use Rattle.expr_forward.specs.Context.{ContextState}
use Rattle.function_plan.specs.declared.plan.FunctionPlan.{FunctionPlan}
use Rattle.function_text.specs.Functions.{function_decl}
use Rattle.function_text.specs.State.{plan_in}
use Rattle.function_text.proofs.declaration.function_decl.Goals as goal

pub returns : goal.returns
returns c =
    MatchResult-weaker c.decl.result c.decl.ensures
    (λ d is.
    let planned = subst (λ (p : FunctionPlan). decl_of d ≡ function_decl (plan_in c.in_ok-function.function.context p)) c.in_ok-function.ensures.plan is in
    subst (λ (k : ContextState). decl_of d ≡ function_decl (plan_in k c.args.plan.now)) c.in_ok-function.ensures.context planned)
    (λ e no. no)
