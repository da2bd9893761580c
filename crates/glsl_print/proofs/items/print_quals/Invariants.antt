use Rattle.std.proofs.Common.{drop}
use Rattle.glsl_grammar.specs.Layout.{quals_text}
use Rattle.glsl_print.proofs.Steps.{Remains}
use Rattle.glsl_print.proofs.items.print_quals.Given as goal

abbrev pub invariant-loop-qual : goal.invariant-loop-qual
invariant-loop-qual g l = Remains g.K.Sink.written g.K.Sink.faults g.K.Sink.wants l.initial.sink l.initial.page (quals_text (drop l.qual-index l.quals)) (quals_text l.quals) l.sink l.page
