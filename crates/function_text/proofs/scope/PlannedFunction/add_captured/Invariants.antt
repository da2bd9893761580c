use Rattle.std.proofs.Common.{◌≡◌, ◌++◌, map, take}
use Rattle.glsl_ast.specs.View.{stmt_of}
use Rattle.expr_forward.specs.Context.{scope_of}
use Rattle.function_text.specs.Functions.{captured_texts}
use Rattle.function_text.proofs.scope.PlannedFunction.add_captured.Given as goal

abbrev pub invariant-loop-inst : goal.invariant-loop-inst
invariant-loop-inst l = map stmt_of l.out.items ≡ map stmt_of l.initial.out.items ++ captured_texts (scope_of l.self.context) (take l.inst-index l.insts)
