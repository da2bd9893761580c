use Rattle.std.proofs.Common.{◌≡◌, ℕ}
use Rattle.std.specs.BTreeSet.{contains}
use Rattle.std.specs.List.{list_any, range_with_len}
use Rattle.std.specs.Ordering.{nat_cmp}
use Rattle.switch_ladder.specs.Flags.{leaves}
use Rattle.switch_ladder.proofs.plan.left_loops.Given as goal

abbrev pub invariant-loop-block : goal.invariant-loop-block
invariant-loop-block l = (q : ℕ) → contains nat_cmp l.loops q ≡ list_any (leaves l.places q) (range_with_len 0 l.block)
