use Rattle.std.proofs.Common.{◌≡◌, min, take}
use Rattle.std.specs.Prelude.{sum_by}
use Rattle.spec_constants.specs.Counted.{cap, known}
use Rattle.spec_constants.proofs.leaves.sum_of.Given as goal

abbrev pub invariant-loop-id : goal.invariant-loop-id
invariant-loop-id l = l.sum ≡ min cap (sum_by (known l.counts) (take l.id-index l.ids))
