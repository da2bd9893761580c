use Rattle.std.proofs.Common.{ap, ◌∙◌, ◌+◌, length, length-append}
use Rattle.group_items.specs.Memory.{stored}
use Rattle.group_items.proofs.Kept.{stored_push}
use Rattle.group_items.proofs.store.Store.new.Goals as goal

pub loop-turn-preserved : goal.loop-turn-preserved
loop-turn-preserved c = record {
  rooms = ap length c.in_ok-push.ensures.items ∙ length-append c.loop-turn.maps.items _ ∙ ap (λ n. n + 1) c.loop-turn.invariant.rooms;
  zero = λ g at. ap (λ ms. stored ms g at) c.in_ok-push.ensures.items ∙ stored_push c.loop-turn.maps.items c.empty.result c.empty.ensures c.loop-turn.invariant.zero g at;
}
