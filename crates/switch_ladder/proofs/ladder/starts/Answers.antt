use Rattle.switch_ladder.specs.Ladder.{begins_chain}
use Rattle.switch_ladder.proofs.Chained.{pass_more, pass_end}
use Rattle.switch_ladder.proofs.ladder.starts.Goals as goal

pub begins_chain-begins-requires-clause-leads : goal.begins_chain-begins-requires-clause-leads
begins_chain-begins-requires-clause-leads c = c.requires.targets.leads c.loop-target.target-index 0 c.loop-target-test.true

pub loop-target-preserved : goal.loop-target-preserved
loop-target-preserved c =
    pass_more (begins_chain c.args.places.now c.args.head) c.args.targets.now c.loop-target.target-index c.loop-target.starts.items c.add_if.new.blocks.items _ c.begins_chain-begins.result c.loop-target-test.true c.begins_chain-begins.ensures c.in_ok-add_if.ensures c.loop-target.invariant

pub returns : goal.returns
returns c =
    pass_end (begins_chain c.args.places.now c.args.head) c.args.targets.now c.loop-target.target-index c.loop-target.starts.items _ c.loop-target-test.false c.loop-target.invariant
