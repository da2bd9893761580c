use Rattle.std.proofs.Common.{◌-◌, arith}
use Rattle.std.specs.BTreeSet.{contains}
use Rattle.std.specs.Ordering.{nat_cmp}
use Rattle.hoist_plan.proofs.Passes.{carried_more}
use Rattle.hoist_plan.proofs.carried.carried.Goals as goal

pub loop-k-preserved : goal.loop-k-preserved
loop-k-preserved c =
    carried_more c.args.locals.now c.args.chains.now (c.loop-k.k - 1) c.loop-k.k c.index-chains-k.result (contains nat_cmp c.loop-k.carried) (contains nat_cmp c.add_if_carried.new.carried) (omega arith) (omega arith) c.index-chains-k.is c.loop-k.invariant c.in_ok-add_if_carried.ensures
