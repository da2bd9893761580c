-- The operations inside OpSpecConstantOps.
use Rattle.std.specs.Prelude.{ℕ, ◌||◌, List, Option, None, option_and_then, if◌then◌else◌}
use Rattle.spv_ops.specs.Operands.{inner_of}
use Rattle.spv_ops.specs.declared.Op.{Op}
use Rattle.spv_types.specs.Tree.{Tree, ValueTree}
use Rattle.op_semantics.specs.Component.{each_one}
use Rattle.op_semantics.specs.Value.{op_value}
use Rattle.profile_rules.specs.Constants.{is_flat, gives_parts, inner_operands, inner_literals}

-- the value of an OpSpecConstantOp with this opcode inside, and with the opcode of this number where it may stand there
abbrev pub calculated_by : Tree → (ℕ → Option ValueTree) → List ℕ → Op → Option ValueTree
calculated_by t f args o = if is_flat t || gives_parts o then option_and_then (op_value o t (inner_literals o args)) (each_one f (inner_operands o args)) else None

abbrev pub calculated : Tree → (ℕ → Option ValueTree) → List ℕ → ℕ → Option ValueTree
calculated t f args n = option_and_then (calculated_by t f args) (inner_of n)
