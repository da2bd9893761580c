use Rattle.std.specs.BTreeSet.{contains}
use Rattle.std.specs.Ordering.{nat_cmp}
use Rattle.phi_copies.specs.Kept.{AreReady}
use Rattle.phi_copies.proofs.counts.unread_places.Given as goal

abbrev pub invariant-loop-i : goal.invariant-loop-i
invariant-loop-i l = AreReady l.counts l.i (contains nat_cmp l.ready)
