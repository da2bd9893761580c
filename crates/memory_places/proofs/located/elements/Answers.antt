use Rattle.std.proofs.Common.{sym}
use Rattle.memory_places.specs.Kernel.{bare}
use Rattle.memory_places.proofs.Positions.{elements_are}
use Rattle.memory_places.proofs.located.elements.Goals as goal

pub returns : goal.returns
returns c =
    elements_are c.args.module.now c.args.sizes.now c.args.variable.now c.args.member c.args.decor.now c.variable_type-ty.result c.bytes_in_buffer-bytes.result c.member_offset-offset.result c.part_type-part.result
    c.array_stride-stride.result c.whole_strides.result c.requires c.variable_type-ty.ensures c.bytes_in_buffer-bytes.ensures (c.member_offset-offset.ensures (bare c.args.module.now) (sym c.requires))
    c.part_type-part.ensures (c.array_stride-stride.ensures (bare c.args.module.now) (sym c.requires)) c.whole_strides.ensures
