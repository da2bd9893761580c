use Rattle.std.proofs.Common.{◌≡◌, ℕ}
use Rattle.std.specs.BTreeMap.{get}
use Rattle.std.specs.Ordering.{nat_cmp}
use Rattle.function_plan.specs.Moved.{first_from}
use Rattle.function_plan.proofs.edge_moves.tree_of.Given as goal

abbrev pub invariant-loop-edge : goal.invariant-loop-edge
invariant-loop-edge l = (b : ℕ) → get nat_cmp l.tree b ≡ first_from l.yielded b
