use Rattle.std.proofs.Common.{◌∙◌}
use Rattle.spv_words.specs.declared.rule.Rule.TheVariants.{P15}
use Rattle.profile_rules.specs.Places.{body_insts}
use Rattle.declaration_check.proofs.Listed.{checked_found}
use Rattle.declaration_check.proofs.Asked.{block_same}
use Rattle.declaration_check.proofs.variables.check_blocks.Goals as goal

pub returns : goal.returns
returns c = checked_found P15 _ c.refuse_at.result _ (body_insts c.args.context.now) c.refuse_at.ensures (c.block_fault.ensures ∙ block_same c.args.context.now)
