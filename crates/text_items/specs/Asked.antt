-- Where it matters which instructions are live.
use Rattle.std.specs.Prelude.{◌&&◌, ◌||◌, not, Bool}
use Rattle.spv_ops.specs.Opcode.{is}
use Rattle.spv_ops.specs.declared.Op.TheVariants as code
use Rattle.spv_module.specs.declared.inst.Inst.{Inst}
use Rattle.spv_index.specs.BlockStructs.{is_block}
use Rattle.text_rules.specs.Constants.{Source, is_constant, reading}
use Rattle.text_rules.specs.Printed.{is_named}

-- a global that is written only where a live instruction asks for it, or something that is written: a constant that is read by its name, or a struct with neither Block nor BufferBlock
abbrev pub is_asked : Source → Inst → Bool
is_asked s g = (is_constant g && is_named (reading s g)) || ((is g.op code.TypeStruct) && not (is_block s.of.heads g.result))
