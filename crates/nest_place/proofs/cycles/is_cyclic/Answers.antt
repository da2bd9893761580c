use Rattle.std.proofs.Common.{◌<◌, length, get_or, arith, below_more}
use Rattle.nest_place.specs.Cycles.{FallsOnCycle}
use Rattle.nest_place.proofs.cycles.is_cyclic.Goals as goal

pub loop-target-preserved : goal.loop-target-preserved
loop-target-preserved c = below_more (λ k. FallsOnCycle c.args.nest.now c.args.next.now c.args.block (get_or c.args.targets.now k 0) → ⊥) c.loop-target.target-index c.loop-target.invariant c.if-falls_on_cycle.ensures

pub returns : goal.returns
returns c = λ some.
    let inside : some.0 < length c.args.targets.now = some.1 in
    c.loop-target.invariant some.0 (omega (arith, inside, c.loop-target-test.false)) some.2
