use Rattle.std.proofs.Common.{◌≡◌, ◌++◌, map, drop}
use Rattle.dispatch_semantics.specs.Store.{found_at, AreWords}
use Rattle.group_items.specs.Events.{locations_of}
use Rattle.group_items.specs.Memory.{stored}
use Rattle.group_items.proofs.play.found.Given as goal

abbrev pub invariant-loop-place : goal.invariant-loop-place
invariant-loop-place l = record {
  are : AreWords l.words.items;
  found : l.words.items ++ map (found_at (stored l.store.maps.items) l.group) (locations_of (drop l.place-index l.places)) ≡ map (found_at (stored l.store.maps.items) l.group) (locations_of l.places);
}
