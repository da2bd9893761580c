use Rattle.std.proofs.Common.{ap, refl, sym, subst}
use Rattle.std.specs.Prelude.{IfOk, option_map}
use Rattle.spv_types.specs.View.{value_of}
use Rattle.run_state.specs.Confs.{conf_of, behind}
use Rattle.run_acts.specs.Acts.{IsAct}
use Rattle.run_values.proofs.Results.{variable_goes, variable_fails}
use Rattle.run_values.proofs.variables.variable_step.Goals as goal

pub returns-in-None-clause-step : goal.returns-in-None-clause-step
returns-in-None-clause-step c = λ s.
    let fs = s.of.functions in
    let old = c.args.conf.now in (sym (variable_fails s (conf_of fs old) (behind fs old) c.args.inst.now (ap (option_map value_of) c.in-None.ensures.value)), refl)

pub returns-in-Some-clause-step : goal.returns-in-Some-clause-step
returns-in-Some-clause-step c = λ s.
    let fs = s.of.functions in
    let old = c.args.conf.now in
    subst (λ a. IfOk c.set_result.result (IsAct a (conf_of fs old) (conf_of fs c.set_result.new.conf)))
    (variable_goes s (conf_of fs old) (behind fs old) c.args.inst.now _ c.new.result.items c.new.ensures.items (ap (option_map value_of) c.in-Some.ensures.value))
    (c.set_result.ensures.set fs)
