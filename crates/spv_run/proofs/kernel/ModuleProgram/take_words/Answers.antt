use Rattle.std.proofs.Common.{◌≡◌, ap, sym, subst}
use Rattle.std.specs.Prelude.{OnOk}
use Rattle.memory_places.specs.Kernel.{setting_for}
use Rattle.run_state.specs.Confs.{conf_of}
use Rattle.run_acts.specs.Narrowed.{told_words}
use Rattle.spv_run.proofs.Nexts.{no_next, act_is}
use Rattle.spv_run.proofs.kernel.ModuleProgram.take_words.Goals as goal

pub returns-in-None-clause-took : goal.returns-in-None-clause-took
returns-in-None-clause-took c = λ told.
    let fails = no_next (setting_for c.args.self.now.map told) c.args.conf.now c.args.conf.now c.in-None.ensures in
    sym (ap (λ a. told_words a c.args.words.now (conf_of c.args.self.now.map.of.functions c.args.conf.now)) fails.0)

pub returns-in-Some-clause-took : goal.returns-in-Some-clause-took
returns-in-Some-clause-took c = λ told.
    let fs = c.args.self.now.map.of.functions in
    subst (λ a. OnOk c.take.result (conf_of fs c.take.new.conf ≡ told_words a c.args.words.now (conf_of fs c.args.conf.now))) (act_is (setting_for c.args.self.now.map told) c.args.conf.now c.args.conf.now c.in-Some.inst.now c.in-Some.ensures.next) (c.take.ensures.took told)
