use Rattle.std.proofs.Common.{sym, subst, refl}
use Rattle.std.proofs.lemmas.Result.{IfOk-weaker, on_err_weaker}
use Rattle.traces.specs.Runs.{Act}
use Rattle.group_items.specs.Sides.{told_of}
use Rattle.module_semantics.specs.State.{Conf}
use Rattle.module_semantics.specs.Steps as steps
use Rattle.memory_places.specs.Kernel.{setting_for}
use Rattle.run_state.specs.Confs.{conf_of, behind}
use Rattle.run_acts.specs.Narrowed.{narrowed}
use Rattle.run_acts.specs.Acts.{IsAct}
use Rattle.run_memory.specs.Outcomes.{IsLoaded}
use Rattle.run_memory.proofs.loads.load_step.Goals as goal

pub returns-in-Missing-clause-step : goal.returns-in-Missing-clause-step
returns-in-Missing-clause-step c =
    let fs = c.args.site.now.map.now.of.functions in
    let d = conf_of fs c.args.conf.now in
    let rest = behind fs c.args.conf.now in
    (subst (IsLoaded (narrowed (steps.load_step (setting_for c.args.site.now.map.now (told_of c.args.inv.now)) d rest c.args.site.now.inst.now)) d rest c.args.site.now.inst.now) c.in-Missing.is (c.in_ok-load.ensures fs rest), refl)

pub returns-in-Value-clause-step : goal.returns-in-Value-clause-step
returns-in-Value-clause-step c =
    let fs = c.args.site.now.map.now.of.functions in
    let d = conf_of fs c.args.conf.now in
    let rest = behind fs c.args.conf.now in
    let h = subst (IsLoaded (narrowed (steps.load_step (setting_for c.args.site.now.map.now (told_of c.args.inv.now)) d rest c.args.site.now.inst.now)) d rest c.args.site.now.inst.now) c.in-Value.is (c.in_ok-load.ensures fs rest) in
    IfOk-weaker c.set_result.result _ _ (λ step k. subst (λ (a : Act Conf). IsAct a d (conf_of fs c.set_result.new.conf) step) (sym h) k) (c.set_result.ensures.set fs)

pub returns-in-Value-clause-err : goal.returns-in-Value-clause-err
returns-in-Value-clause-err c = on_err_weaker c.set_result.result (λ h. h c.args.site.now.map.now.of.functions) c.set_result.ensures.err

pub returns-in-Asked-clause-step : goal.returns-in-Asked-clause-step
returns-in-Asked-clause-step c =
    let fs = c.args.site.now.map.now.of.functions in
    let d = conf_of fs c.args.conf.now in
    let rest = behind fs c.args.conf.now in
    let h = subst (IsLoaded (narrowed (steps.load_step (setting_for c.args.site.now.map.now (told_of c.args.inv.now)) d rest c.args.site.now.inst.now)) d rest c.args.site.now.inst.now) c.in-Asked.is (c.in_ok-load.ensures fs rest) in
    (h.0, (h.1.0, (h.1.1.0, (h.1.1.1, refl))))
