use Rattle.std.proofs.Common.{◌∷◌, [], ap, sym, ◌∙◌}
use Rattle.glsl_ast.specs.View.{expr_of, step_of}
use Rattle.expr_forward.specs.Paths.{further}
use Rattle.expr_forward.proofs.Further.{further_push}
use Rattle.expr_forward.proofs.places.walked.Goals as goal

pub loop-step-preserved : goal.loop-step-preserved
loop-step-preserved c =
    c.in_ok-expr.ensures ∙ (ap (λ e. further e (step_of c.in-Some.step ∷ [])) c.loop-step.invariant ∙ sym (further_push (expr_of c.args.from) c.loop-step.yielded c.in-Some.step))
