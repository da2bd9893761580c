use Rattle.std.proofs.Common.{List, refl, map}
use Rattle.glsl_ast.specs.declared.statements.LStep.{LStep}
use Rattle.glsl_ast.specs.View.{step_of}
use Rattle.glsl_grammar.specs.Layout.{steps_text}
use Rattle.glsl_print.specs.Parts.{step_text}
use Rattle.glsl_print.proofs.Parts.{steps-cons}
use Rattle.glsl_print.proofs.Steps.{remains_item, remains_none}
use Rattle.glsl_print.proofs.statements.print_steps.Goals as goal

pub loop-step-preserved : goal.loop-step-preserved
loop-step-preserved g c = remains_item (λ (xs : List LStep). steps_text (map step_of xs)) (λ (x : LStep). step_text (step_of x)) _ _ _ (λ y ys. steps-cons (step_of y) (map step_of ys)) c.loop-step-test.true c.step-item.is c.loop-step.invariant c.print_step.ensures

pub returns : goal.returns
returns g c = remains_none (λ (xs : List LStep). steps_text (map step_of xs)) _ _ c.loop-step-test.false refl c.loop-step.invariant
