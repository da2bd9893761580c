use Rattle.std.proofs.Common.{◌≡◌, take}
use Rattle.std.specs.List.{flat_map}
use Rattle.switch_ladder.specs.Ladder.{items_of}
use Rattle.function_plan.proofs.orders.chained.Given as goal

abbrev pub invariant-loop-chain : goal.invariant-loop-chain
invariant-loop-chain l = l.blocks.items ≡ flat_map items_of (take l.chain-index l.chains)
