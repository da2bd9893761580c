use Rattle.nest_place.specs.Cycles.{AreHeights}
use Rattle.nest_place.proofs.cycles.heights.Given as goal

abbrev pub invariant-loop-tail : goal.invariant-loop-tail
invariant-loop-tail l = AreHeights l.next l.heights.items
