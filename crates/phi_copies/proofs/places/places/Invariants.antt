use Rattle.std.specs.BTreeMap.{get}
use Rattle.std.specs.Ordering.{nat_cmp}
use Rattle.phi_copies.specs.Kept.{ArePlaces, AreNarrow}
use Rattle.phi_copies.proofs.places.places.Given as goal

abbrev pub invariant-loop-i : goal.invariant-loop-i
invariant-loop-i l = ArePlaces l.pairs l.i (get nat_cmp l.places) × AreNarrow l.pairs l.i
