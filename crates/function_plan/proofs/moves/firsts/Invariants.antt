use Rattle.std.proofs.Common.{◌≡◌, ◌++◌, drop}
use Rattle.std.specs.BTreeSet.{contains}
use Rattle.std.specs.Ordering.{nat_cmp}
use Rattle.phi_copies.specs.Sequence.{target}
use Rattle.function_plan.specs.Once.{once_by, once}
use Rattle.function_plan.proofs.moves.firsts.Given as goal

abbrev pub invariant-loop-pair : goal.invariant-loop-pair
invariant-loop-pair l = l.own.items ++ once_by target (contains nat_cmp l.seen) (drop l.pair-index l.pairs) ≡ once target l.pairs
