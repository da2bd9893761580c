use Rattle.std.proofs.Common.{◌≡◌, sym, subst}
use Rattle.std.specs.Prelude.{OnOk}
use Rattle.spv_ops.specs.declared.OpGroup.{OpGroup}
use Rattle.module_semantics.specs.Steps as steps
use Rattle.memory_places.specs.Kernel.{setting_for}
use Rattle.run_state.specs.Confs.{conf_of, behind}
use Rattle.run_acts.specs.Narrowed.{narrowed, told_words}
use Rattle.run_memory.proofs.Quiet.{others_quiet}
use Rattle.run_memory.proofs.taking.take_in.Goals as goal

pub returns-in-Load-clause-took : goal.returns-in-Load-clause-took
returns-in-Load-clause-took c = λ told.
    let fs = c.args.site.now.map.now.of.functions in
    let d = conf_of fs c.args.conf.now in
    let rest = behind fs c.args.conf.now in
    subst (λ (g : OpGroup). OnOk c.take_read.result (conf_of fs c.take_read.new.conf ≡ told_words (narrowed (steps.step_by (steps.step_in g) (setting_for c.args.site.now.map.now told) d rest c.args.site.now.inst.now)) c.args.words.now d)) (sym c.in-Load.is) (c.take_read.ensures.took told)

pub returns-in-Atomic-clause-took : goal.returns-in-Atomic-clause-took
returns-in-Atomic-clause-took c = λ told.
    let fs = c.args.site.now.map.now.of.functions in
    let d = conf_of fs c.args.conf.now in
    let rest = behind fs c.args.conf.now in
    subst (λ (g : OpGroup). OnOk c.take_found.result (conf_of fs c.take_found.new.conf ≡ told_words (narrowed (steps.step_by (steps.step_in g) (setting_for c.args.site.now.map.now told) d rest c.args.site.now.inst.now)) c.args.words.now d)) (sym c.in-Atomic.is) (c.take_found.ensures.took told)

pub returns-in_default-clause-took : goal.returns-in_default-clause-took
returns-in_default-clause-took c = λ told.
    let fs = c.args.site.now.map.now.of.functions in
    let d = conf_of fs c.args.conf.now in
    let rest = behind fs c.args.conf.now in
    sym (others_quiet (setting_for c.args.site.now.map.now told) d rest c.args.site.now.inst.now c.args.group c.in_default.not-Load c.in_default.not-Atomic c.args.words.now d)
