use Rattle.std.proofs.Common.{◌≡◌, map, take}
use Rattle.spv_types.specs.View.{value_of}
use Rattle.value_ops.specs.References.{referred}
use Rattle.value_ops.proofs.copies.copied_from.Given as goal

abbrev pub invariant-loop-part : goal.invariant-loop-part
invariant-loop-part l = map value_of l.copies.items ≡ referred (take l.part-index l.parts)
