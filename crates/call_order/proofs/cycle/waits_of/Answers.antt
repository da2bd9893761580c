use Rattle.std.proofs.Common.{arith}
use Rattle.call_order.proofs.Waits.{waits_put, waits_past}
use Rattle.call_order.proofs.cycle.waits_of.Goals as goal
use Rattle.call_order.proofs.cycle.waits_of.Goals.{then-missing-call-gt0, else-missing-call-gt0}

pub loop-call-preserved : goal.loop-call-preserved
loop-call-preserved c =
    elim c.if-missing-call-gt0.branch [
      | then-missing-call-gt0 w ↦
          rw w.waits-is (waits_put c.args.calls.now c.loop-call.call-index (record { caller = 0; callee = 0; at = 0 }) c.args.missing.now c.loop-call.waits.items c.loop-call-test.true (c.requires c.loop-call.call-index (record { caller = 0; callee = 0; at = 0 }) c.loop-call-test.true).0 w.if-missing-call-gt0.true c.loop-call.invariant)
      | else-missing-call-gt0 w ↦
          rw w.waits-is (waits_past c.args.calls.now c.loop-call.call-index (record { caller = 0; callee = 0; at = 0 }) c.args.missing.now c.loop-call.waits.items c.loop-call-test.true (λ h. omega (arith, w.if-missing-call-gt0.false)) c.loop-call.invariant)
    ]
