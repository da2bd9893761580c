use Rattle.std.proofs.Common.{◌≡◌, ◌++◌, length, map}
use Rattle.structure_rules.specs.Graph.{index_of, seconds}
use Rattle.block_graph.proofs.blocks.seconds_of.Given as goal

abbrev pub invariant-loop-rest : goal.invariant-loop-rest
invariant-loop-rest l = l.targets.items ++ map (index_of l.locals) (seconds l.rest) ≡ map (index_of l.locals) (seconds l.words)

abbrev pub decreases-loop-rest : goal.decreases-loop-rest
decreases-loop-rest l = length l.rest
