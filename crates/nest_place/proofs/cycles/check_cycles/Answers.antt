use Rattle.std.proofs.Common.{ap, length, arith}
use Rattle.nest_place.proofs.Turning.{cycles_fine}
use Rattle.nest_place.proofs.cycles.check_cycles.Goals as goal

pub returns-clause-passes : goal.returns-clause-passes
returns-clause-passes c =
    let size = ap length c.nodes-node-items.ensures in
    cycles_fine c.args.nest.now c.args.next.now c.loop-block.block c.requires.table c.requires.sized (omega (arith, size, c.loop-block-test.false)) c.loop-block.invariant
