use Rattle.std.proofs.Common.{◌∙◌, arith}
use Rattle.std.specs.BTreeMap.{get}
use Rattle.std.specs.Ordering.{nat_cmp}
use Rattle.spec_constants.proofs.Counts.{counted_more, counted_all}
use Rattle.spec_constants.proofs.leaves.type_leaves.Goals as goal

pub loop-inst-preserved : goal.loop-inst-preserved
loop-inst-preserved c = λ q. counted_more c.args.«module».now.globals c.globals-inst-items.result.now c.loop-inst.inst-index q c.inst-item.result (get nat_cmp c.loop-inst.counts) (get nat_cmp c.insert.new.self) c.count-leaves.result (omega arith) c.inst-item.is c.loop-inst.invariant c.count-leaves.ensures (c.in_ok-insert.ensures.updates.0 q)

pub returns : goal.returns
returns c = λ q. c.loop-inst.invariant q ∙ counted_all c.args.«module».now.globals c.globals-inst-items.result.now c.loop-inst.inst-index q c.loop-inst-test.false c.globals-inst-items.ensures
