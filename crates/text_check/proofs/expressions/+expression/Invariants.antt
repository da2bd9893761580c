use Rattle.std.proofs.Common.{◌≡◌, drop}
use Rattle.glsl_ast.specs.View.{exprs_of}
use Rattle.text_check.specs.Parts.{are_exprs}
use Rattle.text_check.specs.Words.{declares}
use Rattle.text_check.proofs.expressions.+expression.Given as goal

abbrev pub invariant-are_exprs-loop-expr : goal.invariant-are_exprs-loop-expr
invariant-are_exprs-loop-expr l = are_exprs (declares l.structs) (exprs_of (drop l.expr-index l.exprs)) ≡ are_exprs (declares l.structs) (exprs_of l.exprs)
