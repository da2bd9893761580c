use Rattle.std.proofs.Common.{◌∙◌, ap}
use Rattle.std.specs.List.{find}
use Rattle.spv_words.specs.declared.rule.Rule.TheVariants.{P14}
use Rattle.profile_rules.specs.Places.{body_insts}
use Rattle.declaration_check.specs.Flaws.{has_flaw}
use Rattle.declaration_check.specs.declared.variables.Flaw.TheVariants.{OtherInput}
use Rattle.declaration_check.proofs.Listed.{checked_found}
use Rattle.declaration_check.proofs.Asked.{input_same}
use Rattle.declaration_check.proofs.variables.check_inputs.Goals as goal

pub returns : goal.returns
returns c = checked_found P14 _ c.refuse_at.result _ (body_insts c.args.context.now) c.refuse_at.ensures (c.first_flawed.ensures ∙ ap (find (has_flaw c.args.context.now OtherInput)) c.variables.ensures ∙ input_same c.args.context.now)
