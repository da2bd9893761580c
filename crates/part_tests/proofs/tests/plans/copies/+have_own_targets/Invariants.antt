use Rattle.std.proofs.Common.{length}
use Rattle.part_tests.proofs.tests.plans.copies.+have_own_targets.Given as goal

abbrev pub decreases-have_own_targets : goal.decreases-have_own_targets
decreases-have_own_targets l = length l.pairs.now
