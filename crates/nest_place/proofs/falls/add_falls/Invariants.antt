use Rattle.std.proofs.Common.{◌≡◌, ◌++◌, drop}
use Rattle.std.specs.List.{filter_map}
use Rattle.structure_rules.specs.Structure.{fall_link}
use Rattle.nest_place.proofs.falls.add_falls.Given as goal

abbrev pub invariant-loop-target : goal.invariant-loop-target
invariant-loop-target l = l.links.items ++ filter_map (fall_link l.nest l.block) (drop l.target-index l.targets) ≡ l.initial.links.items ++ filter_map (fall_link l.nest l.block) l.targets
