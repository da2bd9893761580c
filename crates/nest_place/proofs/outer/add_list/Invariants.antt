use Rattle.std.proofs.Common.{◌≡◌, ◌<◌, ◌++◌, length}
use Rattle.nest_place.specs.Spots.{list_at}
use Rattle.nest_place.proofs.outer.add_list.Given as goal

abbrev pub invariant-loop-ring : goal.invariant-loop-ring
invariant-loop-ring l = record {
  inside : l.at < length l.rings;
  done : l.parts.items ++ list_at l.rings l.at ≡ l.initial.parts.items ++ list_at l.rings l.place;
}

abbrev pub decreases-loop-ring : goal.decreases-loop-ring
decreases-loop-ring l = l.at
