use Rattle.std.proofs.Common.{◌≡◌, ◌∙◌, ap, sym, rules, option_map, option_and_then}
use Rattle.std.specs.Prelude.{Some}
use Rattle.spv_types.specs.Tree.{Tree}
use Rattle.spv_types.specs.View.{tree_of}
use Rattle.op_semantics.specs.Value.{op_value}
use Rattle.profile_rules.specs.Constants.{if_fits}
use Rattle.value_ops.specs.References.{referred, plain_references}
use Rattle.constant_values.proofs.operate.operated.Goals as goal

pub returns-in_ok-value-in-Some : goal.returns-in_ok-value-in-Some
returns-in_ok-value-in-Some c =
    let t : Tree = tree_of c.args.shape.now in
    let is : c.args.operands ≡ Some c.in-Some.operands = search rules in
    let items : c.deref.result.now ≡ c.in-Some.operands.items = search rules in
    let same : op_value c.args.op t c.args.literals.now (referred c.deref.result.now) ≡ option_and_then (op_value c.args.op t c.args.literals.now) (option_map plain_references c.args.operands) =
    ap (λ l. op_value c.args.op t c.args.literals.now (referred l)) items
    ∙ sym (ap (λ o. option_and_then (op_value c.args.op t c.args.literals.now) (option_map plain_references o)) is) in
    c.fitting.ensures ∙ ap (option_and_then (if_fits t)) (c.in_ok-value-in-Some.ensures ∙ same)
