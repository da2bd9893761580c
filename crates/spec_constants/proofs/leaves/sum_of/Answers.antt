use Rattle.std.proofs.Common.{◌∙◌, ap, min, arith}
use Rattle.spec_constants.specs.Counted.{cap, known}
use Rattle.spec_constants.proofs.Counts.{sum_more}
use Rattle.spec_constants.proofs.leaves.sum_of.Goals as goal

pub loop-id-preserved : goal.loop-id-preserved
loop-id-preserved c =
    c.min-sum.ensures ∙ ap (min cap) c.saturating_add.ensures
    ∙ sum_more (known c.args.counts.now) c.args.ids.now c.loop-id.id-index 0 c.loop-id.sum c.known_leaves.result (omega arith) c.loop-id.invariant (ap (min cap) c.known_leaves.ensures)
