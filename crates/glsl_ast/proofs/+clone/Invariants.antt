use Rattle.std.proofs.Common.{◌≡◌, map, take}
use Rattle.glsl_ast.specs.View.{expr_of}
use Rattle.glsl_ast.proofs.+clone.Given as goal

abbrev pub invariant-copying::clone_all-loop-expr : goal.invariant-copying::clone_all-loop-expr
invariant-copying::clone_all-loop-expr l = map expr_of l.copies.items ≡ map expr_of (take l.expr-index l.exprs)
