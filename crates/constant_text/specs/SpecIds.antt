-- The decorations SpecId.
use Rattle.std.specs.Prelude.{◌==◌, ◌&&◌, Bool, slice_index}
use Rattle.spv_ops.specs.Opcode.{is}
use Rattle.spv_ops.specs.Enumerants.{decoration_number}
use Rattle.spv_ops.specs.declared.Op.TheVariants as code
use Rattle.spv_ops.specs.declared.Decoration.TheVariants as decoration
use Rattle.spv_module.specs.declared.inst.Inst.{Inst}

-- an OpDecorate by SpecId
abbrev pub is_spec_id_row : Inst → Bool
is_spec_id_row i = (is i.op code.Decorate) && (slice_index i.args 1 == decoration_number decoration.SpecId)
