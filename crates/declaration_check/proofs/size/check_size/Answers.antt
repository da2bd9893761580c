use Rattle.std.proofs.Common.{◌≡◌, ◌++◌, ℕ, Err, Ok, rules, subst}
use Rattle.spv_words.specs.declared.rule.Rule.TheVariants.{P10}
use Rattle.spv_module.specs.State.{ModuleState}
use Rattle.profile_rules.specs.Places.{places}
use Rattle.profile_rules.specs.Entry.{is_bad_size_id, composite_faults}
use Rattle.declaration_check.specs.Checked.{IsChecked}
use Rattle.declaration_check.proofs.Listed.{checked_found, checked_error, checked_after}
use Rattle.declaration_check.proofs.size.check_size.Goals as goal

pub returns-in_err-refuse_at : goal.returns-in_err-refuse_at
returns-in_err-refuse_at c =
    let m : ModuleState = c.args.context.now in
    let is : c.from_residual.result ≡ Err c.in_err-refuse_at.field-0.0 = search rules in
    let first : IsChecked P10 (composite_faults m) (Err c.in_err-refuse_at.field-0.0) = checked_found P10 _ (Err c.in_err-refuse_at.field-0.0) _ m.globals c.in_err-refuse_at.ensures c.composite_fault.ensures in
    checked_error P10 (composite_faults m) _ c.in_err-refuse_at.field-0.0 c.from_residual.result first is

pub returns : goal.returns
returns c =
    let m : ModuleState = c.args.context.now in
    let f : ℕ = c.operand.result in
    let first : IsChecked P10 (composite_faults m) (Ok c.in_ok-refuse_at.field-0) = checked_found P10 _ (Ok c.in_ok-refuse_at.field-0) _ m.globals c.in_ok-refuse_at.ensures c.composite_fault.ensures in
    let second : IsChecked P10 (places (is_bad_size_id m f) m.heads) c.refuse_at-2.result = checked_found P10 _ c.refuse_at-2.result _ m.heads c.refuse_at-2.ensures c.first_bad_size_id.ensures in
    let P : ℕ → Type 0 = λ n. IsChecked P10 (composite_faults m ++ places (is_bad_size_id m n) m.heads) c.refuse_at-2.result in
    subst P c.operand.ensures (checked_after P10 (composite_faults m) _ c.refuse_at-2.result first.passes second)
