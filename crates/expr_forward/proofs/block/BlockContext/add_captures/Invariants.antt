use Rattle.std.proofs.Common.{◌≡◌, ◌++◌, map}
use Rattle.glsl_ast.specs.View.{stmt_of}
use Rattle.expr_forward.specs.Context.{scope_of}
use Rattle.expr_forward.specs.Statements.{capture}
use Rattle.expr_forward.proofs.block.BlockContext.add_captures.Given as goal

abbrev pub invariant-loop-number : goal.invariant-loop-number
invariant-loop-number l =
    map stmt_of l.into.items ≡ map stmt_of l.initial.into.items ++ map (capture (scope_of l.self.context.now) l.inst) (map (λ n. (n.0, n.1.0)) l.yielded)
