use Rattle.std.proofs.Common.{sym, subst}
use Rattle.std.proofs.lemmas.Result.{IfOk-weaker}
use Rattle.traces.specs.Runs.{Act}
use Rattle.module_semantics.specs.State.{Conf}
use Rattle.run_state.specs.Confs.{conf_of, behind}
use Rattle.run_acts.specs.Acts.{IsAct}
use Rattle.run_memory.proofs.writes.store_step.Goals as goal

pub returns-clause-step : goal.returns-clause-step
returns-clause-step c =
    let fs = c.args.site.now.map.now.of.functions in
    let d = conf_of fs c.args.conf.now in
    let rest = behind fs c.args.conf.now in
    IfOk-weaker c.settle.result _ _ (λ step k. subst (λ (a : Act Conf). IsAct a d (conf_of fs c.settle.new.conf) step) (sym (c.in_ok-stored.ensures fs rest)) k) (c.settle.ensures.step fs)

pub returns-clause-err : goal.returns-clause-err
returns-clause-err c = c.settle.ensures.err c.args.site.now.map.now.of.functions
