use Rattle.std.proofs.Common.{drop}
use Rattle.glsl_grammar.specs.Layout.{labels_text}
use Rattle.glsl_print.proofs.Steps.{Remains}
use Rattle.glsl_print.proofs.statements.print_labels.Given as goal

abbrev pub invariant-loop-label : goal.invariant-loop-label
invariant-loop-label g l = Remains g.K.Sink.written g.K.Sink.faults g.K.Sink.wants l.initial.sink l.initial.page (labels_text (drop l.label-index l.labels)) (labels_text l.labels) l.sink l.page
