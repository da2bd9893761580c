use Rattle.std.proofs.Common.{◌≡◌, ℕ, take}
use Rattle.std.specs.BTreeMap.{get}
use Rattle.std.specs.Ordering.{nat_cmp}
use Rattle.profile_rules.specs.Constants.{given_to}
use Rattle.spec_constants.proofs.given_words.givens.Given as goal

abbrev pub invariant-loop-pair : goal.invariant-loop-pair
invariant-loop-pair l = (id : ℕ) → get nat_cmp l.map id ≡ given_to (take l.pair-index l.pairs) id
