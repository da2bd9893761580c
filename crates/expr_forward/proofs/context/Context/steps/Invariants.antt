use Rattle.std.proofs.Common.{◌≡◌, ◌++◌, drop, map}
use Rattle.glsl_ast.specs.View.{step_of}
use Rattle.expr_forward.specs.Paths.{steps_text}
use Rattle.expr_forward.specs.Context.{setting_of}
use Rattle.expr_forward.proofs.context.Context.steps.Given as goal

abbrev pub invariant-loop-step : goal.invariant-loop-step
invariant-loop-step l = map step_of l.list.items ++ steps_text (setting_of l.self) l.ty (drop l.step-index l.steps) ≡ steps_text (setting_of l.self) l.from l.steps
