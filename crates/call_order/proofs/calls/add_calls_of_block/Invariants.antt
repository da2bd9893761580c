use Rattle.std.proofs.Common.{◌≡◌, ◌++◌, map, filter, take}
use Rattle.profile_rules.specs.Calls.{is_call}
use Rattle.call_order.specs.Graph.{call_at}
use Rattle.call_order.proofs.calls.add_calls_of_block.Given as goal

abbrev pub invariant-loop-inst : goal.invariant-loop-inst
invariant-loop-inst l = l.list.items ≡ l.initial.list.items ++ map (call_at l.places l.caller) (filter is_call (take l.inst-index l.insts))
