use Rattle.std.proofs.Common.{length}
use Rattle.call_order.proofs.Deep.{AreDepthsFrom}
use Rattle.call_order.proofs.reach.depths.Given as goal

abbrev pub invariant-loop-k : goal.invariant-loop-k
invariant-loop-k l = AreDepthsFrom l.calls (length l.callers) l.entry l.order l.k l.depths.items
