use Rattle.std.proofs.Common.{◌≡◌, drop, map, None, option_map}
use Rattle.layout_rules.specs.Blocks.{any_overlap}
use Rattle.buffer_layout.specs.Members.{member_of}
use Rattle.buffer_layout.proofs.members.any_overlap.Given as goal

abbrev pub invariant-loop-member : goal.invariant-loop-member
invariant-loop-member l = any_overlap l.ruler.kind (option_map (λ b. member_of b.now) l.before) (map member_of (drop l.member-index l.members)) ≡ any_overlap l.ruler.kind None (map member_of l.members)
