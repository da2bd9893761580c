use Rattle.std.proofs.Common.{take}
use Rattle.call_order.specs.Cycle.{AreWaits}
use Rattle.call_order.proofs.cycle.waits_of.Given as goal

abbrev pub invariant-loop-call : goal.invariant-loop-call
invariant-loop-call l = AreWaits l.calls (take l.call-index l.calls) l.missing l.waits.items
