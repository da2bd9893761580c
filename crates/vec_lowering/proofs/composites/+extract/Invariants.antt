use Rattle.std.proofs.Common.{length}
use Rattle.vec_lowering.proofs.composites.+extract.Given as goal

abbrev pub decreases-extract : goal.decreases-extract
decreases-extract l = length l.indexes.now
