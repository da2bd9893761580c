use Rattle.std.proofs.Common.{ℕ, List, subst}
use Rattle.spv_words.specs.declared.rule.Rule.TheVariants.{P3, P4}
use Rattle.spv_module.specs.Broken.{IsUnbroken}
use Rattle.spv_module.proofs.module.checked_rows.Goals as goal

pub returns-clause-p3 : goal.returns-clause-p3
returns-clause-p3 c =
    let P : List ℕ → Type 0 = λ ws. IsUnbroken ws P3 in
    subst P c.in_ok-rows.ensures.rows c.in_ok-check_ids.ensures.fine

pub returns-clause-p4 : goal.returns-clause-p4
returns-clause-p4 c =
    let P : List ℕ → Type 0 = λ ws. IsUnbroken ws P4 in
    subst P c.in_ok-rows.ensures.rows c.in_ok-check_form.ensures.fine
