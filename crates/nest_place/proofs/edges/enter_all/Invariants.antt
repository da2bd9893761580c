use Rattle.std.proofs.Common.{◌≡◌, true, take}
use Rattle.std.specs.List.{list_all}
use Rattle.structure_rules.specs.declared.graph.EdgeKind.TheVariants.{Enter}
use Rattle.structure_rules.specs.EdgeKinds.{has_kind}
use Rattle.nest_place.proofs.edges.enter_all.Given as goal

abbrev pub invariant-loop-target : goal.invariant-loop-target
invariant-loop-target l = list_all (λ t. has_kind l.nest l.block t Enter) (take l.target-index l.targets) ≡ true
