use Rattle.nest_place.proofs.Reading.{NoneBelow, LacksKind}
use Rattle.nest_place.proofs.edges.check_kinds.Given as goal

abbrev pub invariant-loop-block : goal.invariant-loop-block
invariant-loop-block l = NoneBelow l.nest l.block (LacksKind l.nest)
