use Rattle.std.proofs.Common.{◌≡◌, ℕ}
use Rattle.std.specs.BTreeMap.{get}
use Rattle.std.specs.Ordering.{nat_cmp}
use Rattle.constant_values.specs.Held.{value_in, chosen_by}
use Rattle.constant_values.proofs.Evaluation.{so_far}
use Rattle.constant_values.proofs.evaluate.evaluated.Given as goal

abbrev pub invariant-loop-k : goal.invariant-loop-k
invariant-loop-k l = (id : ℕ) → value_in l.values id ≡ so_far l.«module» (chosen_by l.decor (get nat_cmp l.given) (get nat_cmp l.special)) l.k id
