use Rattle.std.specs.BTreeSet.{contains}
use Rattle.std.specs.Ordering.{nat_cmp}
use Rattle.std.proofs.Common.{take}
use Rattle.type_rules.proofs.Repeats.{AreSeen}
use Rattle.type_rules.proofs.flow.has_repeat_among_many.Given as goal

abbrev pub invariant-loop-word : goal.invariant-loop-word
invariant-loop-word l = AreSeen (take l.word-index l.words) (contains nat_cmp l.seen)
