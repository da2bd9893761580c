use Rattle.std.proofs.Common.{◌∙◌, ◌++◌, ◌∷◌, [], sym, ap}
use Rattle.group_items.proofs.Naming.{turn_more}
use Rattle.group_items.proofs.items.whole_round.Goals as goal

pub loop-k-preserved : goal.loop-k-preserved
loop-k-preserved c =
    c.in_ok-push.ensures.items ∙ ap (λ xs. xs ++ c.loop-k.k ∷ []) c.loop-k.invariant ∙ sym (turn_more c.loop-k.k)
