use Rattle.nest_place.proofs.Reading.{NoneBelow}
use Rattle.nest_place.proofs.Turning.{IsCyclicExit}
use Rattle.nest_place.proofs.cycles.check_cycles.Given as goal

abbrev pub invariant-loop-block : goal.invariant-loop-block
invariant-loop-block l = NoneBelow l.nest l.block (IsCyclicExit l.nest l.next)
