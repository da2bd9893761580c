use Rattle.id_map.specs.Entries.{is_in}
use Rattle.run_flow.specs.Chains.{is_chain_on}
use Rattle.run_flow.proofs.Bases.{any_more}
use Rattle.run_flow.proofs.routine.add_bases.Goals as goal

pub loop-inst-preserved : goal.loop-inst-preserved
loop-inst-preserved c = λ id.
    any_more (is_chain_on id) c.args.insts.now c.loop-inst.inst-index c.inst-item.result (is_in c.args.bases.now id) (is_in c.loop-inst.bases id) (is_in c.add_base.new.bases id) c.loop-inst-test.true c.inst-item.is (c.in_ok-add_base.ensures id) (c.loop-inst.invariant id)
