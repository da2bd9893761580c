use Rattle.std.proofs.Common.{◌≡◌, ◌<◌, ℕ, None}
use Rattle.call_order.specs.Cycle.{wait_of}
use Rattle.call_order.proofs.cycle.first_wait.Given as goal

abbrev pub invariant-loop-wait : goal.invariant-loop-wait
invariant-loop-wait l = (p : ℕ) → p < l.wait-index → wait_of l.waits p ≡ None
