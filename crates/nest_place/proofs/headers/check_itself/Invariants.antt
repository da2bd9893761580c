use Rattle.nest_place.proofs.Reading.{NoneBelow}
use Rattle.nest_place.proofs.Naming.{NamesItself}
use Rattle.nest_place.proofs.headers.check_itself.Given as goal

abbrev pub invariant-loop-header : goal.invariant-loop-header
invariant-loop-header l = NoneBelow l.nodes l.header NamesItself
