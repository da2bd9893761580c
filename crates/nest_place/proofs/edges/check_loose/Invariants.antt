use Rattle.nest_place.proofs.Reading.{NoneBelow, EntersBoth}
use Rattle.nest_place.proofs.edges.check_loose.Given as goal

abbrev pub invariant-loop-block : goal.invariant-loop-block
invariant-loop-block l = NoneBelow l.nest l.block (EntersBoth l.nest)
