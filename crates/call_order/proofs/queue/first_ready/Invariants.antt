use Rattle.std.specs.BTreeSet.{contains}
use Rattle.std.specs.Ordering.{nat_cmp}
use Rattle.call_order.specs.Listing.{AreReady}
use Rattle.call_order.proofs.queue.first_ready.Given as goal

abbrev pub invariant-loop-p : goal.invariant-loop-p
invariant-loop-p l = AreReady l.counts l.p (contains nat_cmp l.ready)
