use Rattle.std.proofs.Common.{ap, refl, sym, subst, ◌∙◌}
use Rattle.std.specs.Prelude.{IfOk, option_map}
use Rattle.module_semantics.specs.Steps.{is_based_on}
use Rattle.module_semantics.specs.Setting.{is_listed}
use Rattle.memory_places.specs.Kernel.{setting_for}
use Rattle.spv_module.specs.declared.inst.Function.{Function}
use Rattle.run_state.specs.Ids.{held_of}
use Rattle.run_state.specs.Confs.{conf_of, behind}
use Rattle.run_acts.specs.Acts.{IsAct}
use Rattle.run_values.proofs.Led.{chain_goes, chain_fails}
use Rattle.run_values.proofs.chains.chain_step.Goals as goal

pub returns-in-None-clause-step : goal.returns-in-None-clause-step
returns-in-None-clause-step c = λ told.
    let s = setting_for c.args.site.now.map.now told in
    let fs = s.of.functions in
    let old = c.args.conf.now in (sym (chain_fails s (conf_of fs old) (behind fs old) c.args.site.now.inst.now (sym (ap (option_map held_of) c.in-None.is) ∙ c.in_ok-target.ensures told)), refl)

pub returns-in-Some-clause-step : goal.returns-in-Some-clause-step
returns-in-Some-clause-step c = λ told.
    let s = setting_for c.args.site.now.map.now told in
    let fs = s.of.functions in
    let old = c.args.conf.now in
    subst (λ a. IfOk c.lead.result (IsAct a (conf_of fs old) (conf_of fs c.lead.new.conf)))
    (chain_goes s (conf_of fs old) (behind fs old) c.args.site.now.inst.now (held_of c.in-Some.held) (is_listed c.args.based.now)
    (λ id. c.requires.based id ∙ ap (λ (f : Function). is_based_on f c.args.site.now.inst.now.result id) (sym c.requires.here)) (sym (ap (option_map held_of) c.in-Some.is) ∙ c.in_ok-target.ensures told))
    (c.lead.ensures.led fs)
