use Rattle.std.proofs.Common.{◌≡◌, IfOk, option_map, option_and_then, List, subst}
use Rattle.std.specs.Prelude.{Option}
use Rattle.spv_types.specs.Tree.{ValueTree}
use Rattle.spv_types.specs.View.{tree_of, value_of}
use Rattle.op_semantics.specs.Component.{composite}
use Rattle.profile_rules.specs.Constants.{if_fits}
use Rattle.constant_values.proofs.operate.composed.Goals as goal

pub returns : goal.returns
returns c =
    let P : Option (List ValueTree) → Type 0 = λ all. IfOk c.assembled_of.result (λ v. option_map value_of v ≡ option_and_then (if_fits (tree_of c.args.shape.now)) (option_map composite all)) in
    subst P c.in_ok-parts.ensures c.assembled_of.ensures
