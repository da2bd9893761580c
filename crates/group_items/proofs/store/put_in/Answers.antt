use Rattle.std.proofs.Common.{ap, ◌∙◌}
use Rattle.group_items.specs.Memory.{word_among}
use Rattle.group_items.proofs.Keys.{inserted}
use Rattle.group_items.proofs.store.put_in.Goals as goal

pub returns : goal.returns
returns c = λ at. ap (λ es. word_among es at) c.in_ok-insert.ensures.entries ∙ inserted c.args.place c.args.word at c.args.words.now.entries
