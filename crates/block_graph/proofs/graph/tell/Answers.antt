use Rattle.std.proofs.Common.{false}
use Rattle.block_graph.proofs.Told.{told_read}
use Rattle.block_graph.proofs.graph.tell.Goals as goal

pub loop-block-preserved : goal.loop-block-preserved
loop-block-preserved c = told_read c.args.marks.now c.args.nodes.now.items c.loop-block.nodes.items c.loop-block.block _ c.index_mut.result.now false c.index_mut.ensures.value c.loop-block.invariant c.loop-block-test.true c.requires
