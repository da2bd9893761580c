use Rattle.std.proofs.Common.{◌≡◌}
use Rattle.group_items.specs.Schedule.{turn}
use Rattle.group_items.proofs.items.whole_round.Given as goal

abbrev pub invariant-loop-k : goal.invariant-loop-k
invariant-loop-k l = l.list.items ≡ turn l.k
