use Rattle.std.proofs.Common.{◌≡◌, ◌++◌, filter, drop}
use Rattle.switch_ladder.specs.Ladder.{begins_chain}
use Rattle.switch_ladder.proofs.ladder.starts.Given as goal

abbrev pub invariant-loop-target : goal.invariant-loop-target
invariant-loop-target l = l.starts.items ++ filter (begins_chain l.places l.head) (drop l.target-index l.targets) ≡ filter (begins_chain l.places l.head) l.targets
