use Rattle.std.proofs.Common.{◌≡◌, ◌++◌, map, take}
use Rattle.glsl_ast.specs.View.{stmt_of}
use Rattle.expr_forward.specs.Context.{scope_of}
use Rattle.function_text.specs.Functions.{in_blocks, kind_texts}
use Rattle.function_text.proofs.scope.PlannedFunction.add_in_blocks.Given as goal

abbrev pub invariant-loop-block : goal.invariant-loop-block
invariant-loop-block l = map stmt_of l.out.items ≡ map stmt_of l.initial.out.items ++ in_blocks (kind_texts (scope_of l.self.context) l.kind) (take l.block-index l.blocks)
