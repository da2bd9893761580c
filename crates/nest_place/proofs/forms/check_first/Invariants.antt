use Rattle.nest_place.proofs.Reading.{NoneBelow, NamesFirst}
use Rattle.nest_place.proofs.forms.check_first.Given as goal

abbrev pub invariant-loop-node : goal.invariant-loop-node
invariant-loop-node l = NoneBelow l.nodes l.node-index NamesFirst
