use Rattle.std.proofs.Common.{◌≡◌, subst}
use Rattle.std.specs.List.{find}
use Rattle.std.specs.Option.{option_copied}
use Rattle.spv_words.specs.declared.rule.Rule.TheVariants.{P18}
use Rattle.spv_module.specs.State.{ModuleState}
use Rattle.profile_rules.specs.TypeForm.{is_misformed}
use Rattle.declaration_check.proofs.Listed.{checked_found}
use Rattle.declaration_check.proofs.types.check_form.Goals as goal

pub returns : goal.returns
returns c =
    let m : ModuleState = c.args.context.now in
    let found : option_copied c.first_misformed.result ≡ find (is_misformed m) m.globals = subst (λ (s : ModuleState). option_copied c.first_misformed.result ≡ find (is_misformed s) s.globals) c.in_ok-holders.ensures c.first_misformed.ensures in
    checked_found P18 _ c.refuse_at.result _ m.globals c.refuse_at.ensures found
