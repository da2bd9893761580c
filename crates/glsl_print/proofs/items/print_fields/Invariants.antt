use Rattle.std.proofs.Common.{drop, map}
use Rattle.glsl_ast.specs.View.{field_of}
use Rattle.glsl_grammar.specs.Layout.{fields_text}
use Rattle.glsl_print.proofs.Steps.{Remains}
use Rattle.glsl_print.proofs.items.print_fields.Given as goal

abbrev pub invariant-loop-field : goal.invariant-loop-field
invariant-loop-field g l = Remains g.K.Sink.written g.K.Sink.faults g.K.Sink.wants l.initial.sink l.initial.page (fields_text (map field_of (drop l.field-index l.fields))) (fields_text (map field_of l.fields)) l.sink l.page
