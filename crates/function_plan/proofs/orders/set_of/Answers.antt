use Rattle.std.proofs.Common.{◌||◌, ◌==◌, get_or, sym, ap, ◌∙◌}
use Rattle.std.proofs.lemmas.List.Folds.{list_any_more}
use Rattle.function_plan.proofs.orders.set_of.Goals as goal

pub loop-block-preserved : goal.loop-block-preserved
loop-block-preserved c = λ q.
    c.in_ok-add.ensures q
    ∙ (ap (λ b. b || (get_or c.args.blocks.now c.loop-block.block-index 0 == q)) (c.loop-block.invariant q) ∙ sym (list_any_more (λ b. b == q) c.args.blocks.now c.loop-block.block-index 0 c.loop-block-test.true))
