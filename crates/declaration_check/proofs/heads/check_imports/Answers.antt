use Rattle.spv_words.specs.declared.rule.Rule.TheVariants.{P6}
use Rattle.profile_rules.specs.Heads.{is_other_import}
use Rattle.declaration_check.proofs.Listed.{checked_found}
use Rattle.declaration_check.proofs.heads.check_imports.Goals as goal

pub returns : goal.returns
returns c = checked_found P6 _ c.refuse_at.result is_other_import c.args.context.now.heads c.refuse_at.ensures c.in_ok-found.ensures
