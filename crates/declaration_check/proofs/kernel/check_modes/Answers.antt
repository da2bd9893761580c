use Rattle.std.proofs.Common.{◌≡◌, ◌++◌, ℕ, List, [], ◌∷◌, Err, Ok, rules, subst}
use Rattle.spv_words.specs.declared.rule.Rule.TheVariants.{P9}
use Rattle.spv_module.specs.State.{ModuleState}
use Rattle.profile_rules.specs.Places.{when}
use Rattle.profile_rules.specs.Entry.{has_no_size, bad_modes}
use Rattle.declaration_check.specs.Checked.{IsChecked}
use Rattle.declaration_check.proofs.Listed.{checked_found, checked_error, checked_after}
use Rattle.declaration_check.proofs.kernel.check_modes.Goals as goal

-- both parts, of the function that the entry point names
abbrev both : ModuleState → ℕ → ℕ → List ℕ
both m at f = bad_modes m f ++ when (has_no_size m f) (at ∷ [])

pub returns-in_err-refuse_at : goal.returns-in_err-refuse_at
returns-in_err-refuse_at c =
    let m : ModuleState = c.args.context.now in
    let f : ℕ = c.operand-function.result in
    let is : c.from_residual.result ≡ Err c.in_err-refuse_at.field-0.0 = search rules in
    let first : IsChecked P9 (bad_modes m f) (Err c.in_err-refuse_at.field-0.0) = checked_found P9 _ (Err c.in_err-refuse_at.field-0.0) _ m.heads c.in_err-refuse_at.ensures c.mode_fault.ensures in
    let P : ℕ → Type 0 = λ n. IsChecked P9 (both m c.args.entry.now.at n) c.from_residual.result in
    subst P c.operand-function.ensures (checked_error P9 (bad_modes m f) _ c.in_err-refuse_at.field-0.0 c.from_residual.result first is)

pub returns : goal.returns
returns c =
    let m : ModuleState = c.args.context.now in
    let f : ℕ = c.operand-function.result in
    let first : IsChecked P9 (bad_modes m f) (Ok c.in_ok-refuse_at.field-0) = checked_found P9 _ (Ok c.in_ok-refuse_at.field-0) _ m.heads c.in_ok-refuse_at.ensures c.mode_fault.ensures in
    let P : ℕ → Type 0 = λ n. IsChecked P9 (both m c.args.entry.now.at n) c.refuse_if.result in
    let second : IsChecked P9 (when (has_no_size m f) (c.args.entry.now.at ∷ [])) c.refuse_if.result = rw c.has_no_size.ensures at c.refuse_if.ensures in
    subst P c.operand-function.ensures (checked_after P9 (bad_modes m f) _ c.refuse_if.result first.passes second)
