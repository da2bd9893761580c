use Rattle.std.proofs.Common.{[]}
use Rattle.call_order.specs.Graph.{AreCallersOf}
use Rattle.call_order.proofs.calls.empty_lists.Given as goal

abbrev pub invariant-loop : goal.invariant-loop
invariant-loop l = AreCallersOf [] l.counter l.lists.items
