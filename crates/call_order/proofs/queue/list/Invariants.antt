use Rattle.std.proofs.Common.{length}
use Rattle.std.specs.BTreeSet.{contains}
use Rattle.std.specs.Ordering.{nat_cmp}
use Rattle.call_order.specs.Listing.{IsState}
use Rattle.call_order.proofs.Unlisted.{unlisted}
use Rattle.call_order.proofs.queue.list.Given as goal

abbrev pub invariant-loop-next : goal.invariant-loop-next
invariant-loop-next l = IsState l.calls (length l.callers) l.order.items l.missing.items (contains nat_cmp l.ready)

abbrev pub decreases-loop-next : goal.decreases-loop-next
decreases-loop-next l = unlisted (length l.callers) l.order.items
