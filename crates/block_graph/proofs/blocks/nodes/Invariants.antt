use Rattle.std.proofs.Common.{◌≡◌, map, take}
use Rattle.structure_rules.specs.Graph.{index_of, node_by}
use Rattle.block_graph.proofs.blocks.nodes.Given as goal

abbrev pub invariant-loop-block : goal.invariant-loop-block
invariant-loop-block l = l.nodes.items ≡ map (node_by (index_of l.locals)) (take l.block-index l.blocks)
