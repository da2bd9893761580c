use Rattle.std.proofs.Common.{ℕ, List, ap, sym, subst, refl, ◌∙◌}
use Rattle.std.specs.Prelude.{option_and_then}
use Rattle.std.proofs.lemmas.Result.{IfOk-weaker}
use Rattle.spv_types.specs.View.{value_of}
use Rattle.op_semantics.specs.Composite.{inserted}
use Rattle.traces.specs.Runs.{Act}
use Rattle.module_semantics.specs.State.{Conf}
use Rattle.run_state.specs.Ids.{root_of}
use Rattle.run_state.specs.Confs.{conf_of, behind}
use Rattle.run_variables.specs.Stored.{kept_by}
use Rattle.run_acts.specs.Acts.{IsAct}
use Rattle.run_memory.specs.Outcomes.{kept_with, stored_by}
use Rattle.run_memory.proofs.writes.settle.Goals as goal

pub returns-in-Missing-clause-step : goal.returns-in-Missing-clause-step
returns-in-Missing-clause-step c = λ fs.
    let d = conf_of fs c.args.conf.now in
    let rest = behind fs c.args.conf.now in
    (ap (stored_by d rest) c.in-Missing.is, refl)

pub returns-in-Part-clause-step : goal.returns-in-Part-clause-step
returns-in-Part-clause-step c = λ fs.
    let d = conf_of fs c.args.conf.now in
    let rest = behind fs c.args.conf.now in
    let r = root_of c.in-Part.root in
    let h = (ap (stored_by d rest) c.in-Part.is) ∙ ap (λ (p : List ℕ). kept_with d rest r (option_and_then (inserted (value_of c.in-Part.value) p) (kept_by d r))) (sym c.deref.ensures.value) in
    subst (λ (a : Act Conf). IsAct a d (conf_of fs c.replace.new.conf) c.replace.result) (sym h) (c.replace.ensures fs)

pub returns-in-Whole-clause-step : goal.returns-in-Whole-clause-step
returns-in-Whole-clause-step c = λ fs.
    let d = conf_of fs c.args.conf.now in
    let rest = behind fs c.args.conf.now in
    IfOk-weaker c.keep.result _ _ (λ step k. subst (λ (a : Act Conf). IsAct a d (conf_of fs c.keep.new.conf) step) (sym (ap (stored_by d rest) c.in-Whole.is)) k) (c.keep.ensures.step fs)

pub returns-in-Seen-clause-step : goal.returns-in-Seen-clause-step
returns-in-Seen-clause-step c = λ fs.
    let d = conf_of fs c.args.conf.now in
    let rest = behind fs c.args.conf.now in
    IfOk-weaker c.write.result _ _ (λ step k. subst (λ (a : Act Conf). IsAct a d (conf_of fs c.write.new.conf) step) (sym (ap (stored_by d rest) c.in-Seen.is)) k) (c.write.ensures.step fs)
