use Rattle.std.proofs.Common.{◌<◌, length, arith}
use Rattle.spv_module.specs.declared.inst.Block.{Block}
use Rattle.declaration_check.proofs.Asked.{with_none, with_part}
use Rattle.declaration_check.proofs.rows.add_blocks.Goals as goal

pub loop-block-init : goal.loop-block-init
loop-block-init c = with_none c.args.rows.now c.requires

pub loop-block-preserved : goal.loop-block-preserved
loop-block-preserved c =
    let inside : c.loop-block.block-index < length c.args.blocks.now = omega arith in
    with_part (λ (b : Block). b.insts) c.args.blocks.now c.loop-block.block-index c.block-item.result c.as_slice.result.now c.args.rows.now c.loop-block.rows c.add_insts.new.rows inside c.block-item.is c.as_slice.ensures c.loop-block.invariant c.in_ok-add_insts.ensures

pub add_insts-requires : goal.add_insts-requires
add_insts-requires c = c.loop-block.invariant.kept
