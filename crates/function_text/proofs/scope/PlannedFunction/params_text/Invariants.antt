use Rattle.std.proofs.Common.{◌≡◌, map, take}
use Rattle.glsl_ast.specs.View.{param_of}
use Rattle.expr_forward.specs.Context.{scope_of}
use Rattle.function_text.specs.Functions.{param_text}
use Rattle.function_text.proofs.scope.PlannedFunction.params_text.Given as goal

abbrev pub invariant-loop-param : goal.invariant-loop-param
invariant-loop-param l = map param_of l.list.items ≡ map (param_text (scope_of l.self.context)) (take l.param-index l.params)
