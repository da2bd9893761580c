use Rattle.std.proofs.Common.{take}
use Rattle.std.specs.List.{flat_map}
use Rattle.spv_module.specs.declared.inst.Block.{Block}
use Rattle.declaration_check.specs.Kept.{WithMore}
use Rattle.declaration_check.proofs.rows.add_blocks.Given as goal

abbrev pub invariant-loop-block : goal.invariant-loop-block
invariant-loop-block l = WithMore (flat_map (λ (b : Block). b.insts) (take l.block-index l.blocks)) l.initial.rows l.rows
