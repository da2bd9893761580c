use Rattle.std.proofs.Common.{take}
use Rattle.std.specs.Prelude.{fold}
use Rattle.profile_rules.specs.Leaves.{said_with, leaves_step}
use Rattle.spec_constants.specs.Counted.{known, AreCounted}
use Rattle.spec_constants.proofs.leaves.type_leaves.Given as goal

abbrev pub invariant-loop-inst : goal.invariant-loop-inst
invariant-loop-inst l = AreCounted (known l.counts) (fold (said_with (leaves_step l.«module».globals)) (λ id. 0) (take l.inst-index l.inst-items))
