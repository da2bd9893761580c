use Rattle.std.proofs.Common.{◌∙◌, Bool, ap}
use Rattle.function_plan.specs.Phis.{source_by}
use Rattle.function_plan.proofs.moves.source.Goals as goal

pub returns : goal.returns
returns c = c.source_by.ensures ∙ ap (λ (b : Bool). source_by b c.args.value) c.is_constant_id.ensures
