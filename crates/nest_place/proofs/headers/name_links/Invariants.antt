use Rattle.std.proofs.Common.{◌≡◌, ◌++◌, drop}
use Rattle.structure_rules.specs.Graph.{names}
use Rattle.structure_rules.specs.Nesting.{linked, each}
use Rattle.nest_place.proofs.headers.name_links.Given as goal

abbrev pub invariant-loop-header : goal.invariant-loop-header
invariant-loop-header l = l.links.items ++ each (λ h n. linked (names n) h) l.header (drop l.header l.nodes) ≡ each (λ h n. linked (names n) h) 0 l.nodes
