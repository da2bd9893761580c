use Rattle.std.proofs.Common.{◌≡◌, ◌++◌, drop, map}
use Rattle.buffer_layout.specs.Members.{member_of}
use Rattle.buffer_layout.specs.Plan.{type_layout, layouts_of, AllFit}
use Rattle.buffer_layout.proofs.layouts.layouts.Given as goal

abbrev pub invariant-loop-member : goal.invariant-loop-member
invariant-loop-member l = record {
  fit : AllFit l.ruler.kind (map member_of (drop l.member-index l.members));
  all : map type_layout l.layouts.items ++ layouts_of l.ruler.kind (map member_of (drop l.member-index l.members)) ≡ layouts_of l.ruler.kind (map member_of l.members);
}
