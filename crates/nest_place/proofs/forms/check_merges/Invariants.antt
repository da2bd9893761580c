use Rattle.nest_place.proofs.Reading.{NoneBelow, BadMerge}
use Rattle.nest_place.proofs.forms.check_merges.Given as goal

abbrev pub invariant-loop-node : goal.invariant-loop-node
invariant-loop-node l = NoneBelow l.nodes l.node-index BadMerge
