use Rattle.std.proofs.Common.{◌∙◌, ap, min, arith}
use Rattle.profile_rules.specs.Leaves.{inst_leaves}
use Rattle.spec_constants.specs.Counted.{cap, known}
use Rattle.spec_constants.proofs.Counts.{sum_more_at}
use Rattle.spec_constants.proofs.leaves.insts_leaves.Goals as goal

pub loop-inst-preserved : goal.loop-inst-preserved
loop-inst-preserved c =
    c.min-sum.ensures ∙ ap (min cap) c.saturating_add.ensures
    ∙ sum_more_at (inst_leaves c.args.«module».now.globals (known c.args.counts.now)) c.args.insts.now c.loop-inst.inst-index c.inst-item.result c.loop-inst.sum c.inst_leaves.result (omega arith) c.inst-item.is c.loop-inst.invariant (ap (min cap) c.inst_leaves.ensures)
