use Rattle.std.proofs.Common.{◌∙◌, ap}
use Rattle.std.specs.List.{find}
use Rattle.spv_words.specs.declared.rule.Rule.TheVariants.{P16}
use Rattle.profile_rules.specs.Places.{body_insts}
use Rattle.declaration_check.specs.Flaws.{has_flaw}
use Rattle.declaration_check.specs.declared.variables.Flaw.TheVariants.{OtherInitializer}
use Rattle.declaration_check.proofs.Listed.{checked_found}
use Rattle.declaration_check.proofs.Asked.{initializer_same}
use Rattle.declaration_check.proofs.variables.check_initializers.Goals as goal

pub returns : goal.returns
returns c = checked_found P16 _ c.refuse_at.result _ (body_insts c.args.context.now) c.refuse_at.ensures (c.first_flawed.ensures ∙ ap (find (has_flaw c.args.context.now OtherInitializer)) c.variables.ensures ∙ initializer_same c.args.context.now)
