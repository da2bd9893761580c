use Rattle.std.proofs.Common.{◌<◌, length, arith, ap}
use Rattle.std.specs.List.{flat_map}
use Rattle.spv_module.specs.declared.inst.Block.{Block}
use Rattle.spv_module.specs.declared.inst.Function.{Function}
use Rattle.declaration_check.proofs.Asked.{with_none, with_part}
use Rattle.declaration_check.proofs.rows.add_functions.Goals as goal

pub loop-function-init : goal.loop-function-init
loop-function-init c = with_none c.args.rows.now c.requires

pub loop-function-preserved : goal.loop-function-preserved
loop-function-preserved c =
    let inside : c.loop-function.function-index < length c.args.functions.now = omega arith in
    with_part (λ (f : Function). flat_map (λ (b : Block). b.insts) f.blocks) c.args.functions.now c.loop-function.function-index c.function-item.result (flat_map (λ (b : Block). b.insts) c.as_slice.result.now) c.args.rows.now c.loop-function.rows c.add_blocks.new.rows inside c.function-item.is (ap (flat_map (λ (b : Block). b.insts)) c.as_slice.ensures) c.loop-function.invariant c.in_ok-add_blocks.ensures

pub add_blocks-requires : goal.add_blocks-requires
add_blocks-requires c = c.loop-function.invariant.kept
