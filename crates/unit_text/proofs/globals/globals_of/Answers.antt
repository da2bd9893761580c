use Rattle.std.proofs.Common.{◌≡◌, ◌∙◌, ap}
use Rattle.std.proofs.lemmas.Result.{MatchResult-weaker}
use Rattle.spv_module.specs.State.{ModuleState}
use Rattle.unit_text.proofs.Expressed.{among_all}
use Rattle.unit_text.proofs.globals.globals_of.Goals as goal

pub returns : goal.returns
returns c =
    let all : c.globals.result.now ≡ c.args.readings.now.of.globals = c.globals.ensures ∙ ap (λ (m : ModuleState). m.globals) c.module.ensures in
    MatchResult-weaker c.globals_among.result c.globals_among.ensures (λ globals is n. is n ∙ among_all c.args.readings.now c.args.names.now c.globals.result.now n all) (λ e no. no)
