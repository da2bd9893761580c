use Rattle.std.proofs.Common.{◌≡◌, ℕ, ◌<◌, ◌≤◌, ◌/◌, slice_index}
use Rattle.group_items.proofs.play.all_passed.Given as goal

abbrev pub invariant-loop-j : goal.invariant-loop-j
invariant-loop-j l = (k : ℕ) → k < l.j → k / l.group ≡ l.number → l.mine ≤ slice_index l.passed k
