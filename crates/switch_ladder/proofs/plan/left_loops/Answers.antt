use Rattle.std.proofs.Common.{◌||◌, sym, ap, ◌∙◌}
use Rattle.switch_ladder.specs.Flags.{leaves}
use Rattle.switch_ladder.proofs.Passing.{any_more}
use Rattle.switch_ladder.proofs.plan.left_loops.Goals as goal

pub loop-block-preserved : goal.loop-block-preserved
loop-block-preserved c = λ q.
    c.in_ok-add_left.ensures q
    ∙ (ap (λ b. b || leaves c.args.places.now q c.loop-block.block) (c.loop-block.invariant q) ∙ sym (any_more (leaves c.args.places.now q) c.loop-block.block))
