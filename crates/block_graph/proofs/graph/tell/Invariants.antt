use Rattle.std.proofs.Common.{◌≡◌}
use Rattle.block_graph.proofs.Told.{told_first}
use Rattle.block_graph.proofs.graph.tell.Given as goal

abbrev pub invariant-loop-block : goal.invariant-loop-block
invariant-loop-block l = l.nodes.items ≡ told_first l.marks l.initial.nodes.items l.block
