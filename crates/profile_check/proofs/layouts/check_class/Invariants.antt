use Rattle.std.proofs.Common.{take}
use Rattle.std.specs.List.{All}
use Rattle.std.specs.BTreeSet.{contains}
use Rattle.std.specs.Ordering.{nat_cmp}
use Rattle.profile_check.specs.Layouts.{AreJudged, IsLaidOutAt}
use Rattle.profile_check.proofs.layouts.check_class.Given as goal

abbrev pub invariant-loop-inst : goal.invariant-loop-inst
invariant-loop-inst l = record {
  judged : AreJudged l.«module» l.class (contains nat_cmp l.judged);
  laid : All (IsLaidOutAt l.«module» l.class) (take l.inst-index l.inst-items);
}
