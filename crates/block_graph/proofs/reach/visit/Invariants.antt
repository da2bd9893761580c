use Rattle.block_graph.proofs.Search.{IsVisit}
use Rattle.block_graph.proofs.reach.visit.Given as goal

abbrev pub invariant-loop-target : goal.invariant-loop-target
invariant-loop-target l = IsVisit l.nodes l.marks.items l.order.items l.place l.block l.target-items l.target-index
