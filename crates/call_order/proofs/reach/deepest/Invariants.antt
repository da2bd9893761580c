use Rattle.std.proofs.Common.{take}
use Rattle.call_order.specs.Depths.{IsDeepest}
use Rattle.call_order.proofs.reach.deepest.Given as goal

abbrev pub invariant-loop-caller : goal.invariant-loop-caller
invariant-loop-caller l = IsDeepest (take l.caller-index l.callers) l.depths l.deepest
