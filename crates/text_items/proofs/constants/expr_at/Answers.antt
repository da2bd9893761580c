use Rattle.std.proofs.Common.{◌≡◌, ◌∙◌, ap, rules}
use Rattle.std.proofs.lemmas.Result.{MatchResult-weaker}
use Rattle.std.specs.Option.{option_copied}
use Rattle.spv_module.specs.Held.{global}
use Rattle.constant_text.specs.Named.{id_names}
use Rattle.text_items.specs.Names.{expr_if_any}
use Rattle.text_items.proofs.constants.expr_at.Goals as goal

pub returns : goal.returns
returns c =
    let found : option_copied c.global-inst.result ≡ global c.args.wording.now.readings.now.of.globals c.args.id = search rules in
    MatchResult-weaker c.expr_by.result c.expr_by.ensures (λ expr is. is ∙ ap (expr_if_any c.args.wording.now.readings.now (id_names c.args.wording.now.names.now)) found) (λ e no. no)
