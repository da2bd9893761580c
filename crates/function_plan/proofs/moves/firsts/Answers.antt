use Rattle.std.proofs.Common.{arith}
use Rattle.std.specs.BTreeSet.{contains}
use Rattle.std.specs.Ordering.{nat_cmp}
use Rattle.phi_copies.specs.Sequence.{target, no_pair}
use Rattle.function_plan.specs.Once.{once}
use Rattle.function_plan.proofs.Singled.{once_step}
use Rattle.function_plan.proofs.moves.firsts.Goals as goal

pub loop-pair-preserved : goal.loop-pair-preserved
loop-pair-preserved c =
    once_step target (contains nat_cmp c.loop-pair.seen) (contains nat_cmp c.is_new.new.seen) c.args.pairs.now c.loop-pair.pair-index no_pair c.loop-pair.own.items c.add_if.new.list.items
    (once target c.args.pairs.now) c.in_ok-new.new (omega arith) c.in_ok-new.ensures.new c.in_ok-new.ensures.seen c.in_ok-add_if.ensures c.loop-pair.invariant
