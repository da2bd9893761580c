use Rattle.std.proofs.Common.{refl, ap, sym, subst, ◌∙◌}
use Rattle.std.specs.Prelude.{IfOk, option_map}
use Rattle.spv_types.specs.View.{value_of}
use Rattle.memory_places.specs.Kernel.{setting_for}
use Rattle.run_state.specs.Confs.{conf_of, behind}
use Rattle.run_acts.specs.Acts.{IsAct}
use Rattle.run_values.proofs.Results.{operation_goes, operation_fails}
use Rattle.run_values.proofs.operations.operation_step.Goals as goal

pub returns-in-None-clause-step : goal.returns-in-None-clause-step
returns-in-None-clause-step c = λ told.
    let s = setting_for c.args.site.now.map.now told in
    let fs = s.of.functions in
    let old = c.args.conf.now in (sym (operation_fails s (conf_of fs old) (behind fs old) c.args.site.now.inst.now (sym (ap (option_map value_of) c.in-None.is) ∙ c.in_ok-computed.ensures)), refl)

pub returns-in-Some-clause-step : goal.returns-in-Some-clause-step
returns-in-Some-clause-step c = λ told.
    let s = setting_for c.args.site.now.map.now told in
    let fs = s.of.functions in
    let old = c.args.conf.now in
    subst (λ a. IfOk c.set_result.result (IsAct a (conf_of fs old) (conf_of fs c.set_result.new.conf))) (operation_goes s (conf_of fs old) (behind fs old) c.args.site.now.inst.now (value_of c.in-Some.value) (sym (ap (option_map value_of) c.in-Some.is) ∙ c.in_ok-computed.ensures)) (c.set_result.ensures.set fs)
