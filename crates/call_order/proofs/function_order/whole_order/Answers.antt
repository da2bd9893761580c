use Rattle.std.proofs.Common.{length}
use Rattle.call_order.proofs.Steps.{stuck}
use Rattle.call_order.proofs.function_order.whole_order.Goals as goal

pub call_on_cycle-requires-clause-stuck : goal.call_on_cycle-requires-clause-stuck
call_on_cycle-requires-clause-stuck c =
    rw c.deref.ensures.value (stuck c.args.calls.now (length c.args.callers.now) c.in_ok-listing.listing.order.items c.in_ok-listing.listing.missing.items c.requires.below c.in_ok-listing.ensures)
