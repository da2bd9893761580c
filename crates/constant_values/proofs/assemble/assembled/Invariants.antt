use Rattle.std.proofs.Common.{◌≡◌, map, take}
use Rattle.spv_types.specs.View.{value_of}
use Rattle.value_ops.specs.References.{referred}
use Rattle.constant_values.proofs.assemble.assembled.Given as goal

abbrev pub invariant-loop-i : goal.invariant-loop-i
invariant-loop-i l = map value_of l.copies.items ≡ referred (take l.i l.parts)
