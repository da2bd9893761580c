use Rattle.std.proofs.Common.{drop}
use Rattle.glsl_grammar.specs.Layout.{more_sizes_text}
use Rattle.glsl_print.proofs.Steps.{Remains}
use Rattle.glsl_print.proofs.printing.print_more_sizes.Given as goal

abbrev pub invariant-loop-size : goal.invariant-loop-size
invariant-loop-size g l = Remains g.K.Sink.written g.K.Sink.faults g.K.Sink.wants l.initial.sink l.initial.page (more_sizes_text (drop l.size-index l.sizes)) (more_sizes_text l.sizes) l.sink l.page
