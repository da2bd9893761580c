-- Operations by the number of their operands.
use Rattle.std.specs.Prelude.{Option}
use Rattle.spv_types.specs.Tree.{ValueTree}
use Rattle.op_semantics.specs.Component.{unary_scalar, not_scalar, binary_scalar, comparison_scalar, logical_scalar, field_scalar, insert_scalar, clamp_scalar, chosen}
use Rattle.value_ops.specs.Fields.{bit_field}
use Rattle.value_ops.specs.declared.scalars.OneScalar.{OneScalar}
use Rattle.value_ops.specs.declared.scalars.OneScalar.TheVariants as one
use Rattle.value_ops.specs.declared.scalars.TwoScalars.{TwoScalars}
use Rattle.value_ops.specs.declared.scalars.TwoScalars.TheVariants as two
use Rattle.value_ops.specs.declared.scalars.ThreeValues.{ThreeValues}
use Rattle.value_ops.specs.declared.scalars.ThreeValues.TheVariants as three

abbrev pub one_scalar : OneScalar → ValueTree → Option ValueTree
one_scalar (one.Unary op) = unary_scalar op
one_scalar one.Not = not_scalar
one_scalar (one.Field sign offset count) = field_scalar (bit_field sign offset count)

abbrev pub two_scalars : TwoScalars → ValueTree → ValueTree → Option ValueTree
two_scalars (two.Binary op) = binary_scalar op
two_scalars (two.Comparison op) = comparison_scalar op
two_scalars (two.Logical op) = logical_scalar op
two_scalars (two.InsertField offset count) = insert_scalar offset count

abbrev pub three_values : ThreeValues → ValueTree → ValueTree → ValueTree → Option ValueTree
three_values (three.Clamp op) = clamp_scalar op
three_values three.Choose = chosen
