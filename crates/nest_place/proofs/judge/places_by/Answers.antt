use Rattle.std.proofs.Common.{subst, ◌∙◌}
use Rattle.spv_words.specs.Breaks.{NoRuleBroken}
use Rattle.structure_rules.specs.Structure.{BrokenIn, structure_rules}
use Rattle.nest_place.proofs.judge.places_by.Goals as goal

pub returns-clause-passes : goal.returns-clause-passes
returns-clause-passes c = subst (λ g. NoRuleBroken (BrokenIn g) structure_rules) (c.in_ok-nest.ensures.nest ∙ c.in_ok-nodes.ensures.graph) c.in_ok-falls.ensures.passes
