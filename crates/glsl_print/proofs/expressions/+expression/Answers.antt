use Rattle.std.proofs.Common.{◌++◌, ℕ, List}
use Rattle.glsl_ast.specs.View.{expr_of, exprs_of}
use Rattle.glsl_ast.specs.declared.expressions.Expr.{Expr}
use Rattle.glsl_grammar.specs.Layout.{expr_text}
use Rattle.glsl_print.specs.Parts.{args_from, separator_text}
use Rattle.glsl_print.proofs.Parts.{args-cons, args-end}
use Rattle.glsl_print.proofs.Steps.{goes_then, remains_item_at, remains_end_at}
use Rattle.glsl_print.proofs.expressions.+expression.Goals as goal

pub print_args-loop-i-preserved : goal.print_args-loop-i-preserved
print_args-loop-i-preserved g t c =
    remains_item_at (λ (i : ℕ) (xs : List Expr). args_from i (exprs_of xs)) (separator_text c.loop-i.i ++ expr_text (expr_of c.index-args-i.result)) _ _ c.index-args-i.result (λ ys. args-cons c.loop-i.i (expr_of c.index-args-i.result) (exprs_of ys)) c.loop-i-test.true c.index-args-i.is c.loop-i.invariant (goes_then c.print_separator.ensures c.print_expr.ensures)

pub print_args-returns : goal.print_args-returns
print_args-returns g t c =
    goes_then c.put_mark.ensures (remains_end_at (λ (i : ℕ) (xs : List Expr). args_from i (exprs_of xs)) _ _ c.loop-i-test.false (args-end c.loop-i.i) c.loop-i.invariant c.put_mark-2.ensures)
