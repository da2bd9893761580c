use Rattle.std.proofs.Common.{◌≡◌, ◌++◌, map, drop}
use Rattle.std.specs.List.{enumerate_from}
use Rattle.glsl_ast.specs.View.{member_of}
use Rattle.text_rules.specs.Declarations.{member_decl}
use Rattle.text_items.specs.Names.{item_names}
use Rattle.text_items.proofs.blocks.members.Given as goal

abbrev pub invariant-loop-k : goal.invariant-loop-k
invariant-loop-k l = map member_of l.members.items ++ map (member_decl l.written.source (item_names l.written.source l.names) l.variable l.block) (enumerate_from l.k (drop l.k l.types)) ≡ map (member_decl l.written.source (item_names l.written.source l.names) l.variable l.block) (enumerate_from 0 l.types)
