use Rattle.std.proofs.Common.{◌≡◌, ◌++◌, map, filter, take}
use Rattle.std.specs.List.{flat_map}
use Rattle.spv_module.specs.declared.inst.Block.{Block}
use Rattle.profile_rules.specs.Calls.{is_call}
use Rattle.call_order.specs.Graph.{call_at}
use Rattle.call_order.proofs.calls.add_calls.Given as goal

abbrev pub invariant-loop-block : goal.invariant-loop-block
invariant-loop-block l = l.list.items ≡ l.initial.list.items ++ map (call_at l.places l.caller) (filter is_call (flat_map (λ (b : Block). b.insts) (take l.block-index l.function.blocks)))
