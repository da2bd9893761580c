use Rattle.function_plan.proofs.Edges.{tree_more}
use Rattle.function_plan.proofs.edge_moves.tree_of.Goals as goal

pub loop-edge-preserved : goal.loop-edge-preserved
loop-edge-preserved c = tree_more c.loop-edge.tree c.put_first.new.tree c.loop-edge.yielded c.in-Some.edge c.in_ok-put_first.ensures c.loop-edge.invariant
