use Rattle.std.proofs.Common.{◌∙◌}
use Rattle.module_semantics.specs.Setting.{is_listed}
use Rattle.run_state.proofs.Based.{based_more}
use Rattle.run_state.proofs.chain.add_based_in.Goals as goal

pub loop-inst-preserved : goal.loop-inst-preserved
loop-inst-preserved c =
    based_more c.args.chain c.args.insts.now c.loop-inst.inst-index c.inst-item.result (is_listed c.loop-inst.based.items) (is_listed c.add_based.new.based.items) c.loop-inst-test.true c.inst-item.is c.in_ok-add_based.ensures
    ∙ c.loop-inst.invariant
