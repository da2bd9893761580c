use Rattle.std.proofs.Common.{◌≡◌, map, filter, take}
use Rattle.profile_rules.specs.Calls.{numbers}
use Rattle.call_order.specs.Graph.{number}
use Rattle.call_order.specs.Depths.{is_reached}
use Rattle.call_order.proofs.function_order.reached_ids.Given as goal

abbrev pub invariant-loop-place : goal.invariant-loop-place
invariant-loop-place l = numbers l.ids.items ≡ map (number l.functions) (filter (is_reached l.depths) (take l.place-index l.order))
