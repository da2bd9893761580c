use Rattle.std.proofs.Common.{◌≡◌, length, drop}
use Rattle.dispatch_semantics.specs.Store.{put_all}
use Rattle.group_items.specs.Events.{locations_of}
use Rattle.group_items.specs.Memory.{stored}
use Rattle.group_items.proofs.play.put_all_at.Given as goal

abbrev pub invariant-loop-k : goal.invariant-loop-k
invariant-loop-k l = record {
  rooms : length l.store.maps.items ≡ length l.initial.store.maps.items;
  put : put_all l.group (locations_of (drop l.k l.places)) (drop l.k l.words) (stored l.store.maps.items) ≡ put_all l.group (locations_of l.places) l.words (stored l.initial.store.maps.items);
}
