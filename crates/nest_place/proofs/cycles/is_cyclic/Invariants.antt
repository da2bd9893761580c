use Rattle.std.proofs.Common.{◌<◌, ℕ, get_or}
use Rattle.nest_place.specs.Cycles.{FallsOnCycle}
use Rattle.nest_place.proofs.cycles.is_cyclic.Given as goal

abbrev pub invariant-loop-target : goal.invariant-loop-target
invariant-loop-target l = (k : ℕ) → k < l.target-index → FallsOnCycle l.nest l.next l.block (get_or l.targets k 0) → ⊥
