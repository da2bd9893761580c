use Rattle.std.proofs.Common.{drop, map}
use Rattle.glsl_ast.specs.View.{param_of}
use Rattle.glsl_grammar.specs.Layout.{more_params_text}
use Rattle.glsl_print.proofs.Steps.{Remains}
use Rattle.glsl_print.proofs.items.print_more_params.Given as goal

abbrev pub invariant-loop-param : goal.invariant-loop-param
invariant-loop-param g l = Remains g.K.Sink.written g.K.Sink.faults g.K.Sink.wants l.initial.sink l.initial.page (more_params_text (map param_of (drop l.param-index l.params))) (more_params_text (map param_of l.params)) l.sink l.page
