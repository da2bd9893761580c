use Rattle.std.proofs.Common.{ap, ◌∙◌, unwrap_or}
use Rattle.group_items.proofs.Keys.{found_by}
use Rattle.group_items.proofs.store.word_in.Goals as goal

pub returns : goal.returns
returns c = c.unwrap_or.ensures ∙ ap (λ o. unwrap_or o 0) (c.copied.ensures ∙ c.get.ensures.value) ∙ found_by c.args.place.now c.args.words.now.entries
