use Rattle.std.specs.BTreeMap.{get}
use Rattle.std.specs.Ordering.{nat_cmp}
use Rattle.run_flow.specs.Chains.{AreBased}
use Rattle.run_flow.proofs.routine.add_based.Given as goal

abbrev pub invariant-loop-inst : goal.invariant-loop-inst
invariant-loop-inst l = AreBased l.locals (get nat_cmp l.known)
