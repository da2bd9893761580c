use Rattle.nest_place.specs.Spots.{AreSpots}
use Rattle.nest_place.proofs.spots.place_blocks.Given as goal

abbrev pub invariant-loop-block : goal.invariant-loop-block
invariant-loop-block l = AreSpots l.nodes l.block l.spots.items l.lists
