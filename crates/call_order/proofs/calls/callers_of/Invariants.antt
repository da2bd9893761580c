use Rattle.std.proofs.Common.{take}
use Rattle.call_order.specs.Graph.{AreCallersOf}
use Rattle.call_order.proofs.calls.callers_of.Given as goal

abbrev pub invariant-loop-call : goal.invariant-loop-call
invariant-loop-call l = AreCallersOf (take l.call-index l.calls) l.count l.lists.items
