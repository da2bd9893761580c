use Rattle.std.proofs.Common.{◌<◌, length, arith}
use Rattle.declaration_check.proofs.Asked.{with_none, with_next}
use Rattle.declaration_check.proofs.rows.add_insts.Goals as goal

pub loop-inst-init : goal.loop-inst-init
loop-inst-init c = with_none c.args.rows.now c.requires

pub loop-inst-preserved : goal.loop-inst-preserved
loop-inst-preserved c =
    let inside : c.loop-inst.inst-index < length c.args.insts.now = omega arith in
    with_next c.args.insts.now c.loop-inst.inst-index c.inst-item.result c.args.rows.now c.loop-inst.rows c.add_inst.new.rows inside c.inst-item.is c.loop-inst.invariant c.in_ok-add_inst.ensures

pub add_inst-requires : goal.add_inst-requires
add_inst-requires c = c.loop-inst.invariant.kept
