use Rattle.std.proofs.Common.{take}
use Rattle.call_order.specs.Listing.{AreCounts}
use Rattle.call_order.proofs.queue.call_counts.Given as goal

abbrev pub invariant-loop-call : goal.invariant-loop-call
invariant-loop-call l = AreCounts (take l.call-index l.calls) l.count l.counts.items
