-- Functions that are small enough for what is counted in them to be words.
use Rattle.std.specs.Prelude.{◌<◌, ◌^◌, Bool, List, length, Contains}
use Rattle.spv_module.specs.declared.inst.Inst.{Inst}
use Rattle.spv_module.specs.declared.inst.Block.{Block}
use Rattle.spv_module.specs.declared.inst.Function.{Function}
use Rattle.use_chains.specs.Slots.{slots}

-- the instructions of a block, and the operands of each of them, are fewer than 2 ^ 32
pub record IsSmallBlock (b : Block) : Type 0 where
  pub insts : length b.insts < 2 ^ 32
  pub args : (i : Inst) → Contains b.insts i → length i.args < 2 ^ 32

-- so are the blocks of a function, and its slots
pub record IsSmall (f : Function) : Type 0 where
  pub blocks : length f.blocks < 2 ^ 32
  pub each : (b : Block) → Contains f.blocks b → IsSmallBlock b
  pub mentions : (reached : List Bool) → length (slots f reached) < 2 ^ 32
