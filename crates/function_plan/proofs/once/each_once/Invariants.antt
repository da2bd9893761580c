use Rattle.std.proofs.Common.{◌≡◌, ◌++◌, drop}
use Rattle.std.specs.BTreeSet.{contains}
use Rattle.std.specs.Ordering.{nat_cmp}
use Rattle.function_plan.specs.Once.{once_by, once, itself}
use Rattle.function_plan.proofs.once.each_once.Given as goal

abbrev pub invariant-loop-id : goal.invariant-loop-id
invariant-loop-id l = l.list.items ++ once_by itself (contains nat_cmp l.seen) (drop l.id-index l.ids) ≡ once itself l.ids
