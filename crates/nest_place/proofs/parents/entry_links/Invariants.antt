use Rattle.std.proofs.Common.{◌≡◌, ◌++◌, drop}
use Rattle.structure_rules.specs.Nesting.{linked, each, later_targets}
use Rattle.nest_place.proofs.parents.entry_links.Given as goal

abbrev pub invariant-loop-block : goal.invariant-loop-block
invariant-loop-block l = l.links.items ++ each (λ p n. linked (later_targets l.cases p n) p) l.block (drop l.block l.cases) ≡ each (λ p n. linked (later_targets l.cases p n) p) 0 l.cases
