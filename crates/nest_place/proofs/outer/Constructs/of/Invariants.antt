use Rattle.nest_place.specs.Shared.{AreBounds}
use Rattle.nest_place.proofs.outer.Constructs.of.Given as goal

abbrev pub invariant-loop-place : goal.invariant-loop-place
invariant-loop-place l = AreBounds l.rings l.place l.parts.items l.bounds.items
