use Rattle.std.proofs.Common.{◌≡◌, map, take}
use Rattle.int_lowering.specs.Operand.{operand_of}
use Rattle.vec_lowering.specs.Component.{component}
use Rattle.vec_lowering.proofs.components.components.Given as goal

abbrev pub invariant-loop-arg : goal.invariant-loop-arg
invariant-loop-arg l = map operand_of l.parts.items ≡ map (component l.k) (map operand_of (take l.arg-index l.args))
