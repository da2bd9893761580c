use Rattle.std.proofs.Common.{◌||◌, ◌==◌, get_or, sym, ap, ◌∙◌}
use Rattle.std.proofs.lemmas.List.Folds.{list_any_more}
use Rattle.function_plan.proofs.flag_sets.marks_of.Goals as goal

pub loop-block-preserved : goal.loop-block-preserved
loop-block-preserved c = λ b.
    c.in_ok-mark.ensures b
    ∙ (ap (λ m. m || (get_or c.args.blocks.now c.loop-block.block-index 0 == b)) (c.loop-block.invariant b) ∙ sym (list_any_more (λ u. u == b) c.args.blocks.now c.loop-block.block-index 0 c.loop-block-test.true))
