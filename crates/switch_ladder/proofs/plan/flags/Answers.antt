use Rattle.std.proofs.Common.{◌&&◌, ◌==◌, ap, ◌∙◌}
use Rattle.std.specs.List.{list_any}
use Rattle.std.specs.Prelude.{is_some}
use Rattle.switch_ladder.specs.Flags.{needs_again, needs_leave, needs_fell}
use Rattle.switch_ladder.specs.Ladder.{fallen_from}
use Rattle.switch_ladder.proofs.Passing.{pass_more}
use Rattle.switch_ladder.proofs.plan.flags.Goals as goal

pub loop-block-preserved : goal.loop-block-preserved
loop-block-preserved c =
    let g = c.args.places.now in
    let block = c.loop-block.block-counter in (
      pass_more (needs_again g) block c.loop-block.plan.again.items c.add_if.new.blocks.items c.needs_again.result c.loop-block.invariant.0 c.needs_again.ensures c.in_ok-add_if.ensures,
      pass_more (needs_leave g) block c.loop-block.plan.leave.items c.add_if-in-loop-block.new.blocks.items c.contains.result c.loop-block.invariant.1 (c.contains.ensures ∙ c.in_ok-left.ensures block) c.in_ok-add_if-2.ensures,
      pass_more (needs_fell g c.args.phi_blocks.now) block c.loop-block.plan.fell.items c.add_if-in-loop-block-2.new.blocks.items c.needs_fell.result c.loop-block.invariant.2 (c.needs_fell.ensures ∙ ap (λ b. is_some (fallen_from g block) && b) (ap (list_any (λ b. b == block)) c.deref.ensures.value ∙ c.in_ok-phis.ensures.same block)) c.in_ok-add_if-3.ensures,
    )
