use Rattle.std.proofs.Common.{◌≡◌, ◌++◌, map, drop}
use Rattle.std.specs.List.{flat_map}
use Rattle.spv_types.specs.View.{value_of}
use Rattle.op_semantics.specs.Composite.{components}
use Rattle.value_ops.specs.References.{referred}
use Rattle.value_ops.proofs.compose.all_components.Given as goal

abbrev pub invariant-loop-operand : goal.invariant-loop-operand
invariant-loop-operand l = map value_of l.all.items ++ flat_map components (referred (drop l.operand-index l.operands)) ≡ flat_map components (referred l.operands)
