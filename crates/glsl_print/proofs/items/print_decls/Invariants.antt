use Rattle.std.proofs.Common.{drop, map}
use Rattle.glsl_ast.specs.View.{decl_of}
use Rattle.glsl_grammar.specs.Layout.{decls_text}
use Rattle.glsl_print.proofs.Steps.{Remains}
use Rattle.glsl_print.proofs.items.print_decls.Given as goal

abbrev pub invariant-loop-decl : goal.invariant-loop-decl
invariant-loop-decl g l = Remains g.K.Sink.written g.K.Sink.faults g.K.Sink.wants l.initial.sink l.initial.page (decls_text (map decl_of (drop l.decl-index l.decls))) (decls_text (map decl_of l.decls)) l.sink l.page
