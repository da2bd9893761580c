-- What a plan of a function claims names for.
use Rattle.id_map.specs.Entries.{is_in}
use Rattle.hoist_plan.specs.Kept.{is_carried_in}
use Rattle.text_rules.specs.Claims.{Plan}
use Rattle.function_plan.specs.declared.plan.FunctionPlan.{FunctionPlan as Planned}
use Rattle.function_plan.specs.Planned.{captured_numbers, spares_in}
use Rattle.function_plan.specs.Once.{once, itself}
use Rattle.function_plan.specs.Targets.{targets_in}
use Rattle.function_plan.specs.Flagged.{has_again, has_leave, has_fell}
use Rattle.function_plan.specs.Moved.{moves_in}

abbrev pub claimed_by : Planned → Plan
claimed_by p = record {
  function = p.locals;
  is_named = is_in p.named;
  again = has_again p.flags;
  leave = has_leave p.flags;
  fell = has_fell p.flags;
  captured = captured_numbers p.source.now.globals (is_carried_in p.naming);
  targets = λ b. once itself (targets_in p.nodes.items b);
  spares = λ b t. spares_in (moves_in p.moves.items b t);
}
