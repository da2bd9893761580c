use Rattle.std.proofs.Common.{drop}
use Rattle.glsl_ast.specs.View.{exprs_of}
use Rattle.glsl_grammar.specs.Layout.{args_text}
use Rattle.glsl_print.specs.Parts.{args_from}
use Rattle.glsl_print.proofs.Steps.{Remains}
use Rattle.glsl_print.proofs.expressions.+expression.Given as goal

abbrev pub invariant-print_args-loop-i : goal.invariant-print_args-loop-i
invariant-print_args-loop-i g l = Remains g.K.Sink.written g.K.Sink.faults g.K.Sink.wants l.initial.sink l.initial.page (args_from l.i (exprs_of (drop l.i l.args))) (args_text (exprs_of l.args)) l.sink l.page
