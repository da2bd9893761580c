use Rattle.spv_module.proofs.Behind.{op_at, op_known}
use Rattle.spv_module.proofs.decode.op_at.Goals as goal

pub returns-clause-opcode : goal.returns-clause-opcode
returns-clause-opcode c = op_at c.args.words.now c.args.ops.now c.args.i c.requires.opcodes c.requires.inside

pub returns-clause-known : goal.returns-clause-known
returns-clause-known c = op_known c.args.words.now c.args.ops.now c.args.i c.requires.opcodes c.requires.inside
