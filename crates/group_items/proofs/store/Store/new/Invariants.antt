use Rattle.std.proofs.Common.{◌≡◌, ℕ, length}
use Rattle.traces.specs.Events.{Location}
use Rattle.group_items.specs.Memory.{stored}
use Rattle.group_items.proofs.store.Store.new.Given as goal

abbrev pub invariant-loop-turn : goal.invariant-loop-turn
invariant-loop-turn l = record {
  rooms : length l.maps.items ≡ l.turn;
  zero : (group : ℕ) (at : Location) → stored l.maps.items group at ≡ 0;
}
