use Rattle.std.proofs.Common.{◌≡◌, ◌∙◌, ap, rules}
use Rattle.std.proofs.lemmas.Result.{MatchResult-weaker}
use Rattle.std.specs.Option.{option_copied}
use Rattle.spv_module.specs.Held.{global}
use Rattle.constant_text.specs.Named.{id_names}
use Rattle.text_items.specs.Names.{operand_by}
use Rattle.text_items.proofs.calculated.operand.Goals as goal

pub returns : goal.returns
returns c =
    let found : option_copied c.global-inst.result ≡ global c.args.readings.now.of.globals c.args.id = search rules in
    MatchResult-weaker c.operand_at.result c.operand_at.ensures (λ arg is. is ∙ ap (operand_by c.args.readings.now (id_names c.args.names.now)) found) (λ e no. no)
