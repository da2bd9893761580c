use Rattle.std.proofs.Common.{ℕ, ap, ◌∙◌}
use Rattle.std.specs.Prelude.{Option, option_and_then}
use Rattle.std.proofs.lemmas.Result.{IfOk-weaker}
use Rattle.spv_module.specs.declared.inst.Inst.{Inst}
use Rattle.spv_types.specs.View.{value_of}
use Rattle.op_semantics.specs.Composite.{inserted}
use Rattle.group_items.specs.Sides.{told_of}
use Rattle.module_semantics.specs.State.{global}
use Rattle.module_semantics.specs.Accesses.{global_value}
use Rattle.memory_places.specs.Kernel.{setting_for}
use Rattle.run_memory.specs.Outcomes.{kept_with}
use Rattle.run_memory.proofs.Classes.{variable_named}
use Rattle.run_memory.proofs.stores.store_by_module.Goals as goal

pub returns-in-None : goal.returns-in-None
returns-in-None c = λ d rest. ap (λ (o : Option Inst). kept_with d rest (global c.args.id) (option_and_then (inserted (value_of c.args.storing.now.value.now) c.args.storing.now.path.now) (option_and_then (global_value (setting_for c.args.storing.now.map.now (told_of c.args.storing.now.inv.now)) d) o))) (c.in-None.ensures (told_of c.args.storing.now.inv.now))

pub returns-in-Some : goal.returns-in-Some
returns-in-Some c =
    let v = c.in-Some.variable.now in
    IfOk-weaker c.store_global.result _ _ (λ w h d rest.
    h d rest
    ∙ ap (λ (id : ℕ). kept_with d rest (global id) (option_and_then (inserted (value_of c.args.storing.now.value.now) c.args.storing.now.path.now) (global_value (setting_for c.args.storing.now.map.now (told_of c.args.storing.now.inv.now)) d v))) (variable_named (setting_for c.args.storing.now.map.now (told_of c.args.storing.now.inv.now)) c.args.id v (c.in-Some.ensures (told_of c.args.storing.now.inv.now)))
    ∙ ap (λ (o : Option Inst). kept_with d rest (global c.args.id) (option_and_then (inserted (value_of c.args.storing.now.value.now) c.args.storing.now.path.now) (option_and_then (global_value (setting_for c.args.storing.now.map.now (told_of c.args.storing.now.inv.now)) d) o))) (c.in-Some.ensures (told_of c.args.storing.now.inv.now))) c.store_global.ensures
