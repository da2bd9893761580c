use Rattle.std.proofs.Common.{◌≡◌, ◌++◌, drop}
use Rattle.call_order.specs.Graph.{calls_from, calls_of}
use Rattle.call_order.proofs.calls.calls_of.Given as goal

abbrev pub invariant-loop-caller : goal.invariant-loop-caller
invariant-loop-caller l = l.list.items ++ calls_from l.functions l.caller (drop l.caller l.functions) ≡ calls_of l.functions
