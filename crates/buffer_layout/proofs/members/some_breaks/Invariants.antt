use Rattle.std.proofs.Common.{◌≡◌, drop, map}
use Rattle.std.specs.List.{list_any}
use Rattle.layout_rules.specs.Blocks.{member_breaks}
use Rattle.buffer_layout.specs.Members.{member_of}
use Rattle.buffer_layout.proofs.members.some_breaks.Given as goal

abbrev pub invariant-loop-member : goal.invariant-loop-member
invariant-loop-member l = list_any (member_breaks l.ruler.heads l.ruler.globals l.ruler.kind l.rule) (map member_of (drop l.member-index l.members)) ≡ list_any (member_breaks l.ruler.heads l.ruler.globals l.ruler.kind l.rule) (map member_of l.members)
