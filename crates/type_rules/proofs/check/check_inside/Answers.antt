use Rattle.std.proofs.Common.{◌≡◌, true, Some, rules}
use Rattle.spv_ops.specs.Opcode.{is, op_of}
use Rattle.spv_ops.specs.declared.Op.TheVariants as code
use Rattle.spv_decor.specs.Rows.{word}
use Rattle.type_rules.proofs.Refused.{inside_right}
use Rattle.type_rules.proofs.check.check_inside.Goals as goal

pub returns-clause-refused : goal.returns-clause-refused
returns-clause-refused c =
    let is_one : is c.args.inst.now.op code.SpecConstantOp ≡ true = search rules in
    let opcode : op_of (word c.args.inst.now 0) ≡ Some c.in-Some.op = search rules in
    inside_right c.args.judge.now.m c.args.inst.now c.in_ok-inside.inside c.in-Some.op c.check_as.result is_one c.in_ok-inside.ensures opcode c.check_as.ensures.refused
