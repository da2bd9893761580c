use Rattle.std.proofs.Common.{◌≡◌, ◌∙◌, IfOk, option_map, option_and_then, List, subst, ap, sym, rules}
use Rattle.std.specs.Prelude.{Option, Some}
use Rattle.spv_types.specs.Tree.{ValueTree}
use Rattle.spv_types.specs.View.{tree_of, value_of}
use Rattle.op_semantics.specs.Component.{composite}
use Rattle.profile_rules.specs.Constants.{if_fits}
use Rattle.value_ops.specs.References.{referred, plain_references}
use Rattle.constant_values.proofs.assemble.assembled_of.Goals as goal

pub returns-in-Some : goal.returns-in-Some
returns-in-Some c =
    let P : Option (List ValueTree) → Type 0 = λ all. IfOk c.assembled.result (λ v. option_map value_of v ≡ option_and_then (if_fits (tree_of c.args.shape.now)) (option_map composite all)) in
    let is : c.args.parts ≡ Some c.in-Some.parts = search rules in
    let items : c.deref.result.now ≡ c.in-Some.parts.items = search rules in
    let e : Some (referred c.deref.result.now) ≡ option_map plain_references c.args.parts = ap (λ l. Some (referred l)) items ∙ sym (ap (option_map plain_references) is) in
    subst P e c.assembled.ensures
