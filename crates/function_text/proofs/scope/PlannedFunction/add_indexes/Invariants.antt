use Rattle.std.proofs.Common.{◌≡◌, ◌++◌, map, take}
use Rattle.glsl_ast.specs.View.{stmt_of}
use Rattle.expr_forward.specs.Context.{scope_of}
use Rattle.function_text.specs.Functions.{index_of, captured_text}
use Rattle.function_text.proofs.scope.PlannedFunction.add_indexes.Given as goal

abbrev pub invariant-loop-index : goal.invariant-loop-index
invariant-loop-index l = map stmt_of l.out.items ≡ map stmt_of l.initial.out.items ++ map (captured_text (scope_of l.self.context) l.chain) (map index_of (take l.index-index l.indexes))
