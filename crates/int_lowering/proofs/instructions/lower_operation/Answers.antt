-- The height of the answer, by the law on its definition.
use Rattle.std.proofs.Common.{map}
use Rattle.int_lowering.specs.Operand.{operand_of}
use Rattle.int_lowering.proofs.Heights.{height-operation}
use Rattle.int_lowering.proofs.instructions.lower_operation.Goals as goal

pub returns-clause-height : goal.returns-clause-height
returns-clause-height c =
    height-operation c.written.result c.args.operation c.args.ty (map operand_of c.args.operands.items) c.written.ensures
