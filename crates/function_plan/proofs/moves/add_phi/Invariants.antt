use Rattle.std.proofs.Common.{◌≡◌, ◌++◌, ℕ, length}
use Rattle.function_plan.specs.Phis.{given_words, given_by}
use Rattle.function_plan.specs.Moved.{pairs_from}
use Rattle.function_plan.proofs.moves.add_phi.Given as goal

abbrev pub invariant-loop-rest : goal.invariant-loop-rest
invariant-loop-rest l = (b : ℕ) → pairs_from l.pairs b ++ given_words l.module.globals l.locals b l.phi.result l.rest ≡ pairs_from l.initial.pairs b ++ given_by l.module.globals l.locals b l.phi

abbrev pub decreases-loop-rest : goal.decreases-loop-rest
decreases-loop-rest l = length l.rest
