use Rattle.std.proofs.Common.{◌≡◌, map, take}
use Rattle.glsl_ast.specs.View.{expr_of}
use Rattle.expr_forward.specs.Context.{scope_of}
use Rattle.expr_forward.specs.Statements.{call_argument}
use Rattle.expr_forward.proofs.block.BlockContext.call_arguments.Given as goal

abbrev pub invariant-loop-id : goal.invariant-loop-id
invariant-loop-id l = map expr_of l.args.items ≡ map (call_argument (scope_of l.self.context.now) l.self.block) (take l.id-index l.ids)
