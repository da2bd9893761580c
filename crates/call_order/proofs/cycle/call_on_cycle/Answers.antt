use Rattle.call_order.proofs.Waits.{on_cycle}
use Rattle.call_order.proofs.cycle.call_on_cycle.Goals as goal

pub returns-clause-some : goal.returns-clause-some
returns-clause-some c =
    let closes = rw c.deref-in-Some.ensures.value at c.in_ok-closing_call-in-Some.ensures in
    on_cycle c.args.calls.now c.args.missing.now c.in_ok-waits.waits.items c.in_ok-closing_call-in-Some.field-0 c.in_ok-waits.ensures closes
