use Rattle.std.proofs.Common.{◌∙◌, ap}
use Rattle.std.proofs.lemmas.Result.{MatchResult-weaker}
use Rattle.text_rules.specs.Constants.{Source}
use Rattle.text_rules.specs.Declarations.{type_at}
use Rattle.text_items.specs.Names.{item_names}
use Rattle.text_items.proofs.blocks.type_in.Goals as goal

pub returns : goal.returns
returns c = MatchResult-weaker c.type_at.result c.type_at.ensures (λ t is. is ∙ ap (λ (o : Source). type_at o (item_names o c.args.names.now) c.args.ty) c.readings.ensures) (λ e no. no)
