-- The height of the answer, by the law on its definition.
use Rattle.std.proofs.Common.{map}
use Rattle.int_lowering.specs.Operand.{operand_of, scalar}
use Rattle.int_lowering.proofs.Heights.{height-result}
use Rattle.int_lowering.proofs.instructions.lower.Goals as goal

pub returns-clause-height : goal.returns-clause-height
returns-clause-height c =
    height-result c.written_opcode.result c.args.op c.args.ext (scalar c.args.elem) (map operand_of c.args.operands.items) c.written_opcode.ensures
