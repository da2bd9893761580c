use Rattle.std.proofs.Common.{◌≡◌, map, take}
use Rattle.function_plan.specs.Planned.{is_reached_node}
use Rattle.function_plan.proofs.planning.reached_blocks.Given as goal

abbrev pub invariant-loop-node : goal.invariant-loop-node
invariant-loop-node l = l.reached.items ≡ map is_reached_node (take l.node-index l.places)
