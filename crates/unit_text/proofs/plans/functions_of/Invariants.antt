use Rattle.std.proofs.Common.{◌≡◌, map, take}
use Rattle.text_items.specs.State.{functions_at}
use Rattle.unit_text.specs.Reached.{function_in}
use Rattle.unit_text.proofs.plans.functions_of.Given as goal

abbrev pub invariant-loop-plan : goal.invariant-loop-plan
invariant-loop-plan l = functions_at l.functions.items ≡ map function_in (take l.plan-index l.plans)
