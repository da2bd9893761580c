use Rattle.std.proofs.Common.{◌∙◌}
use Rattle.text_check.proofs.Keywords.{are_keywords}
use Rattle.text_check.proofs.names.is_keyword.Goals as goal

pub returns : goal.returns
returns c = c.is_among.ensures ∙ are_keywords c.args.text.now
