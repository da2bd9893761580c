use Rattle.std.proofs.Common.{◌≡◌, ℕ, drop, map}
use Rattle.std.specs.BTreeSet.{contains}
use Rattle.std.specs.Ordering.{nat_cmp}
use Rattle.hoist_plan.specs.Plan.{carried_from}
use Rattle.hoist_plan.specs.Kept.{placed_chain}
use Rattle.hoist_plan.proofs.carried.carried.Given as goal

abbrev pub invariant-loop-k : goal.invariant-loop-k
invariant-loop-k l = (n : ℕ) → contains nat_cmp l.carried n ≡ carried_from l.locals (map placed_chain (drop l.k l.chains)) n
