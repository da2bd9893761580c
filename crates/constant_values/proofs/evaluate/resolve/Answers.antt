use Rattle.std.proofs.Common.{◌≡◌, ◌∙◌, ap, rules}
use Rattle.std.specs.BTreeMap.{get}
use Rattle.std.specs.Ordering.{nat_cmp}
use Rattle.profile_rules.specs.Constants.{given_to}
use Rattle.constant_values.proofs.Evaluation.{resolved}
use Rattle.constant_values.proofs.evaluate.resolve.Goals as goal

pub returns-clause-values : goal.returns-clause-values
returns-clause-values c =
    let pairs : c.as_slice-pairs.result.now ≡ c.args.overrides.now.pairs.items = search rules in
    λ q. c.in_ok-values.ensures.values q
    ∙ resolved c.args.«module».now c.args.overrides.now.pairs.items c.args.decor.now (get nat_cmp c.in_ok-given.given) (get nat_cmp c.args.special.now) q c.requires (λ s. c.in_ok-given.ensures s ∙ ap (λ l. given_to l s) pairs)
