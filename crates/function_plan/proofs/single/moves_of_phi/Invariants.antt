use Rattle.std.proofs.Common.{◌≡◌, ℕ, length}
use Rattle.function_plan.specs.Phis.{given_words, given_by}
use Rattle.function_plan.specs.Moved.{first_from, first_moves, left_moves}
use Rattle.function_plan.proofs.single.moves_of_phi.Given as goal

abbrev pub invariant-loop-rest : goal.invariant-loop-rest
invariant-loop-rest l = (b : ℕ) → left_moves (first_from l.list.items b) (given_words l.module.globals l.locals b l.phi.result l.rest) ≡ first_moves (given_by l.module.globals l.locals b l.phi)

abbrev pub decreases-loop-rest : goal.decreases-loop-rest
decreases-loop-rest l = length l.rest
