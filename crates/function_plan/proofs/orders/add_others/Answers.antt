use Rattle.std.proofs.Common.{ap, not}
use Rattle.std.specs.BTreeSet.{contains}
use Rattle.std.specs.Ordering.{nat_cmp}
use Rattle.function_plan.proofs.Ordered.{other_more}
use Rattle.function_plan.proofs.orders.add_others.Goals as goal

pub loop-target-preserved : goal.loop-target-preserved
loop-target-preserved c =
    other_more (contains nat_cmp c.args.chained.now) c.args.targets.now c.loop-target.target-index (not c.contains.result) c.args.order.now.items c.loop-target.order.items c.add_if.new.list.items
    c.loop-target-test.true (ap not c.contains.ensures) c.in_ok-add_if.ensures c.loop-target.invariant
