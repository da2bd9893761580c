use Rattle.std.proofs.Common.{arith}
use Rattle.std.specs.BTreeSet.{contains}
use Rattle.std.specs.Ordering.{nat_cmp}
use Rattle.function_plan.specs.Once.{once, itself}
use Rattle.function_plan.proofs.Singled.{once_step}
use Rattle.function_plan.proofs.once.each_once.Goals as goal

pub loop-id-preserved : goal.loop-id-preserved
loop-id-preserved c =
    once_step itself (contains nat_cmp c.loop-id.seen) (contains nat_cmp c.is_new.new.seen) c.args.ids.now c.loop-id.id-index 0 c.loop-id.list.items c.add_if.new.list.items
    (once itself c.args.ids.now) c.in_ok-new.new (omega arith) c.in_ok-new.ensures.new c.in_ok-new.ensures.seen c.in_ok-add_if.ensures c.loop-id.invariant
