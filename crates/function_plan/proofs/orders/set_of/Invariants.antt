use Rattle.std.proofs.Common.{◌≡◌, ℕ, take}
use Rattle.std.specs.BTreeSet.{contains}
use Rattle.std.specs.Ordering.{nat_cmp}
use Rattle.function_plan.specs.Orders.{is_among}
use Rattle.function_plan.proofs.orders.set_of.Given as goal

abbrev pub invariant-loop-block : goal.invariant-loop-block
invariant-loop-block l = (q : ℕ) → contains nat_cmp l.set q ≡ is_among (take l.block-index l.blocks) q
