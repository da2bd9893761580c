use Rattle.std.proofs.Common.{◌≡◌, true}
use Rattle.use_chains.specs.Links.{is_in_chain}
use Rattle.part_tests.proofs.tests.plans.uses.walked.Given as goal

abbrev pub invariant-loop-turn : goal.invariant-loop-turn
invariant-loop-turn g l = is_in_chain l.uses l.id.0 l.at ≡ true
