use Rattle.std.proofs.Common.{◌≡◌, map}
use Rattle.glsl_ast.specs.View.{expr_of, step_of}
use Rattle.expr_forward.specs.Paths.{further}
use Rattle.expr_forward.proofs.places.walked.Given as goal

abbrev pub invariant-loop-step : goal.invariant-loop-step
invariant-loop-step l = expr_of l.expr ≡ further (expr_of l.initial.expr) (map step_of l.yielded)
