use Rattle.std.proofs.Common.{◌≡◌, length}
use Rattle.module_semantics.specs.Steps as steps
use Rattle.run_state.proofs.edge.source_from.Given as goal

abbrev pub invariant-loop-rest : goal.invariant-loop-rest
invariant-loop-rest l = steps.source_from l.from l.rest ≡ steps.source_from l.from l.pairs

abbrev pub decreases-loop-rest : goal.decreases-loop-rest
decreases-loop-rest l = length l.rest
