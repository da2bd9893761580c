use Rattle.std.proofs.Common.{◌∙◌}
use Rattle.word_search.proofs.Search.{searched}
use Rattle.word_search.proofs.is_among.Goals as goal

pub returns : goal.returns
returns c = c.is_ok.ensures.value ∙ searched c.args.words.now c.args.text.now c.binary_search.result c.requires c.binary_search.ensures.bound c.binary_search.ensures.position
