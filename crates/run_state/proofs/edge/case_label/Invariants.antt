use Rattle.std.proofs.Common.{◌≡◌, length}
use Rattle.module_semantics.specs.Steps as steps
use Rattle.run_state.proofs.edge.case_label.Given as goal

abbrev pub invariant-loop-rest : goal.invariant-loop-rest
invariant-loop-rest l = steps.case_label l.selector l.default l.rest ≡ steps.case_label l.selector l.default l.cases

abbrev pub decreases-loop-rest : goal.decreases-loop-rest
decreases-loop-rest l = length l.rest
