use Rattle.std.proofs.Common.{ap, sym, ◌∙◌, Some}
use Rattle.std.specs.Prelude.{option_map}
use Rattle.spv_types.specs.View.{tree_of}
use Rattle.op_semantics.specs.Value.{op_value}
use Rattle.module_semantics.specs.Operands.{literal_operands}
use Rattle.value_ops.specs.References.{referred, plain_references}
use Rattle.run_operands.proofs.Operands.{by_values}
use Rattle.run_operands.proofs.operation.of_many.Goals as goal

pub returns-in-Some : goal.returns-in-Some
returns-in-Some c =
    let i = c.args.inst.now in
    by_values c.op_value.result (op_value i.op (tree_of c.args.shape.now)) c.literal_operands.result.now (literal_operands i.op i.args) (referred c.deref.result.now) (option_map plain_references c.args.operands) c.op_value.ensures c.literal_operands.ensures
    (ap (λ l. Some (referred l)) c.deref.ensures.value ∙ sym (ap (option_map plain_references) c.in-Some.is))
