-- What contracts see of a block's members.
use Rattle.std.specs.Prelude.{option_map}
use Rattle.spv_types.specs.View.{tree_of}
use Rattle.layout_rules.specs.Blocks.{Member as MemberOfBlock}
use Rattle.buffer_layout.specs.declared.members.Member.{Member}

abbrev pub member_of : Member → MemberOfBlock
member_of m = record { id = m.id; offset = m.offset; shape = option_map tree_of m.shape }
