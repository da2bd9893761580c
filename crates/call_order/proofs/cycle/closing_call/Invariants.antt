use Rattle.std.proofs.Common.{count_by, not}
use Rattle.call_order.proofs.Trail.{IsTrail}
use Rattle.call_order.proofs.cycle.closing_call.Given as goal

abbrev pub invariant-loop-seen : goal.invariant-loop-seen
invariant-loop-seen l = IsTrail l.waits l.seen.items l.call

abbrev pub decreases-loop-seen : goal.decreases-loop-seen
decreases-loop-seen l = count_by not l.seen.items
