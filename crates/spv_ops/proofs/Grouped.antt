-- What the groups of opcodes say of their opcodes.
use Rattle.std.proofs.Common.{◌≡◌, refl}
use Rattle.spv_ops.specs.declared.opcode.Op.{Op}
use Rattle.spv_ops.specs.declared.opcode.Op.TheVariants as op
use Rattle.spv_ops.specs.Shape.{shape, class_of}
use Rattle.spv_ops.specs.Groups.{is_inner}
use Rattle.spv_ops.specs.OpGroups.{group_of, class_in, is_inner_group}

pub class_of_group : (o : Op) → class_in (group_of o) ≡ class_of o
unfolding group_of shape
class_of_group op.Nop = refl
class_of_group o = refl

pub inner_of_group : (o : Op) → is_inner_group (group_of o) ≡ is_inner o
unfolding group_of
inner_of_group op.Nop = refl
inner_of_group o = refl
