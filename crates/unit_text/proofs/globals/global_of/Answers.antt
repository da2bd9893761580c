use Rattle.std.proofs.Common.{◌≡◌, ◌∙◌, Some, ap}
use Rattle.std.proofs.lemmas.Result.{MatchResult-weaker}
use Rattle.std.specs.Prelude.{option_and_then}
use Rattle.spv_module.specs.Held.{global}
use Rattle.spv_module.specs.State.{ModuleState}
use Rattle.constant_text.specs.Named.{id_names}
use Rattle.text_items.specs.Globals.{global_by}
use Rattle.unit_text.proofs.globals.global_of.Goals as goal

pub returns-in-Some : goal.returns-in-Some
returns-in-Some c =
    let s = c.args.readings.now in
    let found : Some c.in-Some.inst.now ≡ global s.of.globals c.args.id.0 = c.in-Some.ensures ∙ ap (λ (m : ModuleState). global m.globals c.args.id.0) c.module.ensures in
    MatchResult-weaker c.global_expr.result c.global_expr.ensures (λ expr is. is ∙ ap (option_and_then (global_by s (id_names c.args.names.now))) found) (λ e no. no)
