use Rattle.nest_place.proofs.Reading.{NoneBelow, SameTargets}
use Rattle.nest_place.proofs.forms.check_targets.Given as goal

abbrev pub invariant-loop-node : goal.invariant-loop-node
invariant-loop-node l = NoneBelow l.nodes l.node-index SameTargets
