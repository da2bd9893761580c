use Rattle.std.proofs.Common.{◌≡◌, [], arith, length, subst}
use Rattle.std.specs.Prelude.{Some, IfOk, option_map, option_and_then, slice_index}
use Rattle.spv_types.specs.View.{tree_of, value_of}
use Rattle.op_semantics.specs.Component.{before}
use Rattle.op_semantics.specs.Value.{op_value}
use Rattle.module_semantics.specs.Operands.{literal_operands}
use Rattle.run_state.specs.Ids.{ids_of}
use Rattle.run_operands.specs.Looks.{found, value_by, values_by}
use Rattle.run_operands.proofs.Operands.{one_list, two_list, two_values}
use Rattle.run_operands.proofs.operation.of_list.Goals as goal

pub returns-in-len1 : goal.returns-in-len1
returns-in-len1 c =
    let i = c.args.inst.now in
    let one : length c.args.list.now ≡ 1 = omega (arith, c.in-len1.len_at_least, c.in-len1.len_below) in
    subst (λ l. IfOk c.of_one.result (λ v. option_map value_of v ≡ option_and_then (op_value i.op (tree_of c.args.shape.now) (literal_operands i.op i.args)) (values_by c.args.map.now (ids_of c.args.ids.now) l))) (one_list c.args.list.now one)
    (subst (λ o. IfOk c.of_one.result (λ v. option_map value_of v ≡ option_and_then (op_value i.op (tree_of c.args.shape.now) (literal_operands i.op i.args)) (before o (Some [])))) c.value.ensures c.of_one.ensures)

pub returns-in-len2 : goal.returns-in-len2
returns-in-len2 c =
    let i = c.args.inst.now in
    let f = value_by c.args.map.now (ids_of c.args.ids.now) in
    let two : length c.args.list.now ≡ 2 = omega (arith, c.in-len2.len_at_least, c.in-len2.len_below) in
    subst (λ l. IfOk c.of_two.result (λ v. option_map value_of v ≡ option_and_then (op_value i.op (tree_of c.args.shape.now) (literal_operands i.op i.args)) (values_by c.args.map.now (ids_of c.args.ids.now) l))) (two_list c.args.list.now two)
    (two_values c.of_two.result (op_value i.op (tree_of c.args.shape.now) (literal_operands i.op i.args)) (found c.value-in-len2.result) (f (slice_index c.args.list.now 0)) (found c.value-in-len2-2.result) (f (slice_index c.args.list.now 1)) c.value-in-len2.ensures c.value-in-len2-2.ensures c.of_two.ensures)
