use Rattle.std.proofs.Common.{◌≡◌, ◌∙◌, ap, Err, Ok, true, false, rules}
use Rattle.std.specs.List.{find}
use Rattle.spv_words.specs.declared.rule.Rule.TheVariants.{P13}
use Rattle.spv_module.specs.State.{ModuleState}
use Rattle.spv_decor.specs.Decorations.{local_insts}
use Rattle.profile_rules.specs.Places.{places}
use Rattle.profile_rules.specs.Variables.{is_misclassed}
use Rattle.declaration_check.specs.Checked.{IsChecked}
use Rattle.declaration_check.specs.Flaws.{has_flaw}
use Rattle.declaration_check.specs.declared.variables.Flaw.TheVariants.{Misclassed}
use Rattle.declaration_check.proofs.Listed.{checked_found, checked_error, checked_after}
use Rattle.declaration_check.proofs.Asked.{misclassed_same}
use Rattle.declaration_check.proofs.variables.check_classes.Goals as goal

pub returns-in_err-refuse_at : goal.returns-in_err-refuse_at
returns-in_err-refuse_at c =
    let m : ModuleState = c.args.context.now in
    let is : c.from_residual.result ≡ Err c.in_err-refuse_at.field-0.0 = search rules in
    let first : IsChecked P13 (places (is_misclassed false m.globals) m.globals) (Err c.in_err-refuse_at.field-0.0) = checked_found P13 _ (Err c.in_err-refuse_at.field-0.0) _ m.globals c.in_err-refuse_at.ensures c.first_misclassed_outside.ensures in
    checked_error P13 (places (is_misclassed false m.globals) m.globals) _ c.in_err-refuse_at.field-0.0 c.from_residual.result first is

pub returns : goal.returns
returns c =
    let m : ModuleState = c.args.context.now in
    let first : IsChecked P13 (places (is_misclassed false m.globals) m.globals) (Ok c.in_ok-refuse_at.field-0) = checked_found P13 _ (Ok c.in_ok-refuse_at.field-0) _ m.globals c.in_ok-refuse_at.ensures c.first_misclassed_outside.ensures in
    let second : IsChecked P13 (places (is_misclassed true m.globals) (local_insts m)) c.refuse_at-2.result = checked_found P13 _ c.refuse_at-2.result _ (local_insts m) c.refuse_at-2.ensures (c.first_flawed.ensures ∙ ap (find (has_flaw m Misclassed)) c.local_variables.ensures ∙ misclassed_same m) in
    checked_after P13 (places (is_misclassed false m.globals) m.globals) _ c.refuse_at-2.result first.passes second
