use Rattle.std.proofs.Common.{◌≡◌, ◌++◌, take}
use Rattle.std.specs.BTreeSet.{contains}
use Rattle.std.specs.Ordering.{nat_cmp}
use Rattle.function_plan.specs.Orders.{others_of}
use Rattle.function_plan.proofs.orders.add_others.Given as goal

abbrev pub invariant-loop-target : goal.invariant-loop-target
invariant-loop-target l = l.order.items ≡ l.initial.order.items ++ others_of (contains nat_cmp l.chained) (take l.target-index l.targets)
