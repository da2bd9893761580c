use Rattle.std.proofs.Common.{◌≡◌, filter}
use Rattle.std.specs.List.{range_with_len}
use Rattle.switch_ladder.specs.Flags.{needs_again, needs_leave, needs_fell}
use Rattle.switch_ladder.proofs.plan.flags.Given as goal

abbrev pub invariant-loop-block : goal.invariant-loop-block
invariant-loop-block l = (l.plan.again.items ≡ filter (needs_again l.places) (range_with_len 0 l.block-counter)) × (l.plan.leave.items ≡ filter (needs_leave l.places) (range_with_len 0 l.block-counter)) × (l.plan.fell.items ≡ filter (needs_fell l.places l.phi_blocks) (range_with_len 0 l.block-counter))
