use Rattle.nest_place.proofs.Turning.{IsTurning}
use Rattle.nest_place.proofs.cycles.returns.Given as goal

abbrev pub invariant-loop-turn : goal.invariant-loop-turn
invariant-loop-turn l = IsTurning l.next l.from l.at l.turn
