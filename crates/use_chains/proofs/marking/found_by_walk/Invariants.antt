use Rattle.use_chains.specs.Marking.{AreMarked, ArePassed}
use Rattle.use_chains.proofs.marking.found_by_walk.Given as goal

abbrev pub invariant-loop-k : goal.invariant-loop-k
invariant-loop-k l = AreMarked l.slots l.marked × ArePassed l.slots l.marked l.k
