use Rattle.std.proofs.Common.{drop, map}
use Rattle.glsl_ast.specs.View.{extent_of}
use Rattle.glsl_grammar.specs.Layout.{extents_text}
use Rattle.glsl_print.proofs.Steps.{Remains}
use Rattle.glsl_print.proofs.types.print_extents.Given as goal

abbrev pub invariant-loop-extent : goal.invariant-loop-extent
invariant-loop-extent g l = Remains g.K.Sink.written g.K.Sink.faults g.K.Sink.wants l.initial.sink l.initial.page (extents_text (map extent_of (drop l.extent-index l.extents))) (extents_text (map extent_of l.extents)) l.sink l.page
