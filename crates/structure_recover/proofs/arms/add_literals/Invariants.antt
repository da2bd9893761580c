use Rattle.std.proofs.Common.{drop}
use Rattle.std.specs.List.{zip}
use Rattle.structure_recover.specs.Follows.{firsts}
use Rattle.structure_recover.specs.Arms.{AddsSoFar}
use Rattle.structure_recover.proofs.arms.add_literals.Given as goal

abbrev pub invariant-loop-target : goal.invariant-loop-target
invariant-loop-target l = AddsSoFar (zip l.targets (firsts l.cases)) (zip (drop l.target-index l.targets) (firsts l.rest)) l.initial.arms.items l.arms.items
