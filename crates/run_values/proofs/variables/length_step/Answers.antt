use Rattle.std.proofs.Common.{ap, refl, sym, subst}
use Rattle.std.specs.Prelude.{IfOk}
use Rattle.spv_types.proofs.Views.{value-Word}
use Rattle.group_items.specs.Sides.{bytes_in, told_of}
use Rattle.module_semantics.specs.State as state
use Rattle.memory_places.specs.Kernel.{setting_for}
use Rattle.run_state.specs.Confs.{conf_of, behind}
use Rattle.run_acts.specs.Acts.{IsAct}
use Rattle.run_values.proofs.Results.{length_goes, length_fails}
use Rattle.run_values.proofs.variables.length_step.Goals as goal

pub returns-in-None-clause-step : goal.returns-in-None-clause-step
returns-in-None-clause-step c =
    let s = setting_for c.args.site.now.map.now (told_of c.args.inv.now) in
    let fs = s.of.functions in
    let old = c.args.conf.now in (sym (length_fails s (conf_of fs old) (behind fs old) c.args.site.now.inst.now c.operand.result c.operand.ensures (c.in-None.ensures (told_of c.args.inv.now))), refl)

pub returns-in-Some-clause-step : goal.returns-in-Some-clause-step
returns-in-Some-clause-step c =
    let told = told_of c.args.inv.now in
    let s = setting_for c.args.site.now.map.now told in
    let fs = s.of.functions in
    let old = c.args.conf.now in
    subst (λ a. IfOk c.set_result.result (IsAct a (conf_of fs old) (conf_of fs c.set_result.new.conf)))
    (length_goes s (conf_of fs old) (behind fs old) c.args.site.now.inst.now c.operand.result c.operand-in-Some.result c.elements-count.result c.in-Some.variable.now _ c.operand.ensures c.operand-in-Some.ensures (c.in-Some.ensures told)
    (c.elements-count.ensures told (ap bytes_in (sym c.as_slice.ensures.value))) (ap state.value (value-Word c.elements-count.result)))
    (c.set_result.ensures.set fs)
