use Rattle.std.specs.BTreeMap.{get}
use Rattle.std.specs.Ordering.{nat_cmp}
use Rattle.run_flow.specs.Chains.{AreBased}
use Rattle.run_flow.proofs.routine.based_of.Given as goal

abbrev pub invariant-loop-block : goal.invariant-loop-block
invariant-loop-block l = AreBased l.locals (get nat_cmp l.known)
