use Rattle.std.proofs.Common.{◌<◌, ◌≤◌, List, length, rules, subst}
use Rattle.std.specs.List.{All}
use Rattle.spv_module.specs.declared.inst.Inst.{Inst}
use Rattle.profile_check.specs.Layouts.{IsLaidOutAt}
use Rattle.profile_check.proofs.Laid.{laid_more, laid_all}
use Rattle.profile_check.proofs.layouts.check_class.Goals as goal

pub loop-inst-preserved : goal.loop-inst-preserved
loop-inst-preserved c =
    let gs : List Inst = c.globals-inst-items.result.now in
    let inside : c.loop-inst.inst-index < length gs = search rules in
    record {
      judged = c.in_ok-judge.ensures.judged;
      laid = laid_more c.args.module.now c.args.class gs c.loop-inst.inst-index c.inst-item.result inside (search rules) c.loop-inst.invariant.laid c.in_ok-judge.ensures.laid_out;
    }

pub returns-clause-passes : goal.returns-clause-passes
returns-clause-passes c =
    let gs : List Inst = c.globals-inst-items.result.now in
    let past : length gs ≤ c.loop-inst.inst-index = search rules in
    let P : List Inst → Type 0 = All (IsLaidOutAt c.args.module.now c.args.class) in
    subst P c.globals-inst-items.ensures (laid_all c.args.module.now c.args.class gs c.loop-inst.inst-index past c.loop-inst.invariant.laid)
