use Rattle.std.proofs.Common.{◌≡◌, ◌+◌, max, get_or, arith}
use Rattle.std.proofs.lemmas.Bool.Decides.{nat_tests}
use Rattle.call_order.proofs.Deep.{deepest_more, deepest_past}
use Rattle.call_order.proofs.reach.deepest.Goals as goal
use Rattle.call_order.proofs.reach.deepest.Goals.{then-depth-gt0, else-depth-gt0}

pub loop-caller-preserved : goal.loop-caller-preserved
loop-caller-preserved c =
    elim c.if-depth-gt0.branch [
      | then-depth-gt0 w ↦
          let most : w.max-deepest.result ≡ max c.loop-caller.deepest (get_or c.args.depths.now (get_or c.args.callers.now c.loop-caller.caller-index 0) 0 + 1) = grind (arith, nat_tests, w.max-deepest.ensures) in
          rw (w.deepest-is, most) (deepest_more c.args.callers.now c.args.depths.now c.loop-caller.caller-index c.loop-caller.deepest c.loop-caller-test.true c.loop-caller.invariant w.if-depth-gt0.true)
      | else-depth-gt0 w ↦ rw w.deepest-is (deepest_past c.args.callers.now c.args.depths.now c.loop-caller.caller-index c.loop-caller.deepest c.loop-caller-test.true c.loop-caller.invariant w.if-depth-gt0.false)
    ]
