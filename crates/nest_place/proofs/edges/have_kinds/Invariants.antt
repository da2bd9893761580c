use Rattle.std.proofs.Common.{◌≡◌, true, take}
use Rattle.std.specs.List.{list_all}
use Rattle.structure_rules.specs.EdgeKinds.{has_some_kind}
use Rattle.nest_place.proofs.edges.have_kinds.Given as goal

abbrev pub invariant-loop-target : goal.invariant-loop-target
invariant-loop-target l = list_all (has_some_kind l.nest l.block) (take l.target-index l.targets) ≡ true
