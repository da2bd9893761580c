use Rattle.std.proofs.Common.{◌||◌, ◌∙◌, ap}
use Rattle.id_map.specs.Entries.{is_in}
use Rattle.memory_places.specs.Mentions.{is_among_ids, mention, with_ids}
use Rattle.memory_places.proofs.Reached.{mentioned_are}
use Rattle.memory_places.proofs.mentions.mentioned_ids.Goals as goal

pub returns : goal.returns
returns c =
    mentioned_are c.args.module.now c.args.entry.0 c.in_ok-order.order.items (is_in c.in_ok-called.called) (is_in c.in_ok-ids.ids) (is_in c.add_functions.new.ids) c.in_ok-order.ensures
    (λ id. c.in_ok-called.ensures id ∙ ap (λ l. is_among_ids l id) c.deref.ensures.value)
    c.in_ok-ids.ensures
    (λ id. c.in_ok-add_functions.ensures id ∙ ap (λ fs. is_in c.in_ok-ids.ids id || mention (with_ids (is_in c.in_ok-called.called) fs) id) c.functions-functions.ensures)
