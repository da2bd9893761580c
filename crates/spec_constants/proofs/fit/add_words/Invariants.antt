use Rattle.std.proofs.Common.{◌≡◌, ◌==◌, ◌||◌, ℕ, take}
use Rattle.std.specs.List.{list_any}
use Rattle.std.specs.BTreeSet.{contains}
use Rattle.std.specs.Ordering.{nat_cmp}
use Rattle.spec_constants.proofs.fit.add_words.Given as goal

abbrev pub invariant-loop-word : goal.invariant-loop-word
invariant-loop-word l = (id : ℕ) → contains nat_cmp l.ids id ≡ (contains nat_cmp l.initial.ids id || list_any (λ part. part == id) (take l.word-index l.words))
