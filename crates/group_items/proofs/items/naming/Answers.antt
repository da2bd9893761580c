use Rattle.std.proofs.Common.{◌∙◌, ◌++◌, ◌∷◌, [], sym, ap, slice_index, arith, nat_lt}
use Rattle.std.proofs.lemmas.List.{take_all}
use Rattle.std.proofs.lemmas.List.Elements.{filter_more}
use Rattle.group_items.specs.Schedule.{among}
use Rattle.group_items.proofs.items.naming.Goals as goal

pub loop-item-preserved : goal.loop-item-preserved
loop-item-preserved c =
    let items = c.args.items.now in
    let k = c.loop-item.item-index in
    c.in_ok-add_naming.ensures ∙ ap (λ xs. xs ++ among c.args.count (slice_index items k ∷ [])) c.loop-item.invariant ∙ sym (filter_more (λ i. nat_lt i c.args.count) items k 0 c.loop-item-test.true)

pub returns : goal.returns
returns c =
    c.loop-item.invariant ∙ ap (among c.args.count) (take_all c.loop-item.item-index c.args.items.now (omega (arith, c.loop-item-test.false)))
