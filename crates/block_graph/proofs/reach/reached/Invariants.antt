use Rattle.std.proofs.Common.{◌-◌, length}
use Rattle.block_graph.specs.Search.{IsSearch}
use Rattle.block_graph.proofs.reach.reached.Given as goal

abbrev pub invariant-loop-place : goal.invariant-loop-place
invariant-loop-place l = IsSearch l.nodes l.marks.items l.order.items l.place

abbrev pub decreases-loop-place : goal.decreases-loop-place
decreases-loop-place l = length l.nodes - l.place
