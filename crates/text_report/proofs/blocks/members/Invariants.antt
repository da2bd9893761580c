use Rattle.std.proofs.Common.{◌≡◌, ◌++◌, map, drop}
use Rattle.glsl_ast.specs.View.{member_of}
use Rattle.serde_json.specs.View.{view}
use Rattle.text_report.specs.Blocks.{member_data}
use Rattle.text_report.proofs.blocks.members.Given as goal

abbrev pub invariant-loop-member : goal.invariant-loop-member
invariant-loop-member l = map view l.list.items ++ map member_data (map member_of (drop l.member-index l.members)) ≡ map member_data (map member_of l.members)
