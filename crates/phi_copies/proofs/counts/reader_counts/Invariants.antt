use Rattle.phi_copies.specs.Kept.{AreCounts}
use Rattle.phi_copies.proofs.counts.reader_counts.Given as goal

abbrev pub invariant-loop-pair : goal.invariant-loop-pair
invariant-loop-pair l = AreCounts l.pairs l.pair-index l.counts.items
