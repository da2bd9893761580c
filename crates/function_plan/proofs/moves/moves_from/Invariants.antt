use Rattle.std.proofs.Common.{ℕ, take}
use Rattle.function_plan.specs.Moved.{first_from}
use Rattle.function_plan.proofs.Moving.{AreMovesOf}
use Rattle.function_plan.proofs.moves.moves_from.Given as goal

abbrev pub invariant-loop-from : goal.invariant-loop-from
invariant-loop-from l = (b : ℕ) → AreMovesOf l.pairs (take l.from-index l.blocks) b (first_from l.moves.items b)
