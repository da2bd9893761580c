use Rattle.nest_place.specs.Cycles.{AreHeights, IsReady}
use Rattle.nest_place.proofs.cycles.climb.Given as goal

abbrev pub invariant-loop-height : goal.invariant-loop-height
invariant-loop-height l = record {
  known : AreHeights l.next l.heights;
  ready : IsReady l.next l.heights l.at l.height;
}
