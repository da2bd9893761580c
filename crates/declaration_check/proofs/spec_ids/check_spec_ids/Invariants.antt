use Rattle.std.specs.BTreeSet.{contains}
use Rattle.std.specs.Ordering.{nat_cmp}
use Rattle.declaration_check.proofs.SpecIds.{IsSeen}
use Rattle.declaration_check.proofs.spec_ids.check_spec_ids.Given as goal

abbrev pub invariant-loop-inst : goal.invariant-loop-inst
invariant-loop-inst l = IsSeen l.context.heads l.inst-items l.inst-index (contains nat_cmp l.seen)
