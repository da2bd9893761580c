use Rattle.nest_place.proofs.Reading.{NoneBelow}
use Rattle.nest_place.proofs.Parenthood.{IsEarly}
use Rattle.nest_place.proofs.parents.check_order.Given as goal

abbrev pub invariant-loop-block : goal.invariant-loop-block
invariant-loop-block l = NoneBelow l.nodes l.block (IsEarly l.nodes)
