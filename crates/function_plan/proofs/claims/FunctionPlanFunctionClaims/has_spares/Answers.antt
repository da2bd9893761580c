use Rattle.std.proofs.Common.{◌∙◌, sym}
use Rattle.function_plan.proofs.Spared.{no_spares}
use Rattle.function_plan.proofs.claims.FunctionPlanFunctionClaims.has_spares.Goals as goal

pub returns : goal.returns
returns c = λ none. no_spares c.args.self.now c.args.block (sym c.has_saves.ensures ∙ none)
