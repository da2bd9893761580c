-- Functions whose instructions have few operands.
use Rattle.std.specs.Prelude.{◌<◌, ◌^◌, length}
use Rattle.std.specs.List.{All}
use Rattle.spv_module.specs.declared.inst.Inst.{Inst}
use Rattle.spv_module.specs.declared.inst.Block.{Block}
use Rattle.spv_module.specs.declared.inst.Function.{Function}

-- its operands are fewer than 2 ^ 32
abbrev pub HasFewArgs : Inst → Type 0
HasFewArgs i = length i.args < 2 ^ 32

-- so are those of each instruction of a block, and of a function
abbrev pub IsShortBlock : Block → Type 0
IsShortBlock b = All HasFewArgs b.insts

abbrev pub IsShort : Function → Type 0
IsShort f = All IsShortBlock f.blocks
