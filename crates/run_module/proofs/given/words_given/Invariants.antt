use Rattle.std.proofs.Common.{◌≡◌, ℕ, drop}
use Rattle.std.specs.BTreeMap.{get}
use Rattle.std.specs.Ordering.{nat_cmp}
use Rattle.run_module.specs.Runs.{given_words}
use Rattle.run_module.proofs.given.words_given.Given as goal

abbrev pub invariant-loop-k : goal.invariant-loop-k
invariant-loop-k l = (id : ℕ) → get nat_cmp l.special id ≡ given_words (drop l.k l.pairs) id
