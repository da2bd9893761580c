use Rattle.std.proofs.Common.{◌≡◌, subst}
use Rattle.std.specs.Prelude.{OnOk}
use Rattle.module_semantics.specs.Steps as steps
use Rattle.memory_places.specs.Kernel.{setting_for}
use Rattle.run_state.specs.Confs.{conf_of, behind}
use Rattle.run_acts.specs.Narrowed.{narrowed, told_words}
use Rattle.run_memory.proofs.Told.{kind_is}
use Rattle.run_memory.proofs.taking.take.Goals as goal

pub returns-clause-took : goal.returns-clause-took
returns-clause-took c = λ told.
    let fs = c.args.site.now.map.now.of.functions in
    let d = conf_of fs c.args.conf.now in
    let rest = behind fs c.args.conf.now in
    subst (λ (k : steps.StepKind). OnOk c.take_in.result (conf_of fs c.take_in.new.conf ≡ told_words (narrowed (steps.step_by k (setting_for c.args.site.now.map.now told) d rest c.args.site.now.inst.now)) c.args.words.now d)) (kind_is c.args.site.now.inst.now.op c.group.result c.group.ensures.group) (c.take_in.ensures.took told)
