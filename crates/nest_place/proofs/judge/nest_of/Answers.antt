use Rattle.std.proofs.Common.{subst}
use Rattle.spv_words.specs.declared.rule.Rule.TheVariants.{K6}
use Rattle.nest_place.specs.Checks.{IsFineBefore}
use Rattle.nest_place.proofs.Verdict.{ends_deep}
use Rattle.nest_place.proofs.judge.nest_of.Goals as goal

pub returns-clause-refused : goal.returns-clause-refused
returns-clause-refused c = ends_deep c.args.nodes.items c.of.result (subst (λ g. IsFineBefore g K6) c.deref.ensures.value c.in_ok-roles.ensures.passes) c.of.ensures.limit
