use Rattle.std.proofs.Common.{[], ◌∷◌, ap, sym}
use Rattle.std.specs.Prelude.{Some}
use Rattle.spv_types.specs.View.{tree_of, value_of}
use Rattle.op_semantics.specs.Component.{before}
use Rattle.op_semantics.specs.Value.{op_value}
use Rattle.module_semantics.specs.Operands.{literal_operands}
use Rattle.run_operands.specs.Looks.{found}
use Rattle.run_operands.proofs.Operands.{by_values}
use Rattle.run_operands.proofs.operation.of_one.Goals as goal

pub returns-in-Some : goal.returns-in-Some
returns-in-Some c =
    let i = c.args.inst.now in
    by_values c.op_value.result (op_value i.op (tree_of c.args.shape.now)) c.literal_operands.result.now (literal_operands i.op i.args) (value_of c.in-Some.a.now ∷ []) (before (found c.args.a) (Some [])) c.op_value.ensures c.literal_operands.ensures
    (sym (ap (λ o. before (found o) (Some [])) c.in-Some.is))
