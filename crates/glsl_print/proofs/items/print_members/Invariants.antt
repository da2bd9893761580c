use Rattle.std.proofs.Common.{drop, map}
use Rattle.glsl_ast.specs.View.{member_of}
use Rattle.glsl_grammar.specs.Layout.{members_text}
use Rattle.glsl_print.proofs.Steps.{Remains}
use Rattle.glsl_print.proofs.items.print_members.Given as goal

abbrev pub invariant-loop-member : goal.invariant-loop-member
invariant-loop-member g l = Remains g.K.Sink.written g.K.Sink.faults g.K.Sink.wants l.initial.sink l.initial.page (members_text (map member_of (drop l.member-index l.members))) (members_text (map member_of l.members)) l.sink l.page
