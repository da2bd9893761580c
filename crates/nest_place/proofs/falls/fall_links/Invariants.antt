use Rattle.std.proofs.Common.{◌≡◌, ◌++◌, drop}
use Rattle.std.specs.List.{filter_map}
use Rattle.structure_rules.specs.Graph.{edges}
use Rattle.structure_rules.specs.Nesting.{each}
use Rattle.structure_rules.specs.Structure.{fall_link}
use Rattle.nest_place.proofs.falls.fall_links.Given as goal

abbrev pub invariant-loop-block : goal.invariant-loop-block
invariant-loop-block l = l.links.items ++ each (λ b n. filter_map (fall_link l.nest b) (edges n)) l.block (drop l.block l.nest) ≡ each (λ b n. filter_map (fall_link l.nest b) (edges n)) 0 l.nest
