use Rattle.std.proofs.Common.{◌≡◌, ap, length, arith}
use Rattle.function_plan.proofs.Ordered.{ordered}
use Rattle.function_plan.proofs.orders.orders_of.Goals as goal

pub returns : goal.returns
returns c =
    let same : length c.nodes-header-end.result.now ≡ length c.args.places.now = ap length c.nodes-header-end.ensures.nodes in
    ordered c.args.places.now c.loop-header.header c.loop-header.orders (omega (arith, same)) c.loop-header.invariant
