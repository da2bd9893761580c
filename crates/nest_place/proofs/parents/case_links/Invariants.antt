use Rattle.std.proofs.Common.{◌≡◌, ◌++◌, drop}
use Rattle.structure_rules.specs.Nesting.{linked, each, case_targets}
use Rattle.nest_place.proofs.parents.case_links.Given as goal

abbrev pub invariant-loop-switch : goal.invariant-loop-switch
invariant-loop-switch l = l.links.items ++ each (λ s n. linked (case_targets l.headers n) s) l.switch (drop l.switch l.headers) ≡ each (λ s n. linked (case_targets l.headers n) s) 0 l.headers
