use Rattle.std.proofs.Common.{◌≡◌, map, take}
use Rattle.unit_text.specs.Reached.{id_in}
use Rattle.unit_text.proofs.plans.ids_in.Given as goal

abbrev pub invariant-loop-plan : goal.invariant-loop-plan
invariant-loop-plan l = l.ids.items ≡ map id_in (take l.plan-index l.plans)
