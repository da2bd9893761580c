use Rattle.hoist_plan.specs.Plan.{nothing}
use Rattle.hoist_plan.proofs.Passes.{known_is}
use Rattle.hoist_plan.proofs.rows.none_for.Goals as goal

pub returns-clause-known : goal.returns-clause-known
returns-clause-known c = known_is c.in_ok-spanning.field-0 nothing c.in_ok-spanning.ensures.operands c.in_ok-spanning.ensures.forms
