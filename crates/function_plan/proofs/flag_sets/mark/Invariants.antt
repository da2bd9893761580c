use Rattle.std.proofs.Common.{◌≡◌, ◌+◌, ◌-◌, ℕ, length, get_or, false}
use Rattle.function_plan.proofs.flag_sets.mark.Given as goal

abbrev pub invariant-loop-marks : goal.invariant-loop-marks
invariant-loop-marks l = (b : ℕ) → get_or l.marks.items b false ≡ get_or l.initial.marks.items b false

abbrev pub decreases-loop-marks : goal.decreases-loop-marks
decreases-loop-marks l = l.block + 1 - length l.marks.items
