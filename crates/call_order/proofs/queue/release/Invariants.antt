use Rattle.std.proofs.Common.{take}
use Rattle.std.specs.BTreeSet.{contains}
use Rattle.std.specs.Ordering.{nat_cmp}
use Rattle.call_order.specs.Released.{IsReleased}
use Rattle.call_order.proofs.queue.release.Given as goal

abbrev pub invariant-loop-caller : goal.invariant-loop-caller
invariant-loop-caller l = IsReleased (take l.caller-index l.callers) l.initial.missing l.missing (contains nat_cmp l.initial.ready) (contains nat_cmp l.ready)
