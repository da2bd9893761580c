use Rattle.std.proofs.Common.{ap, ◌∙◌}
use Rattle.std.specs.Prelude.{Option, option_and_then}
use Rattle.std.proofs.lemmas.Result.{IfOk-weaker}
use Rattle.spv_ops.specs.declared.StorageClass.{StorageClass}
use Rattle.spv_types.specs.View.{value_of}
use Rattle.op_semantics.specs.Composite.{inserted}
use Rattle.group_items.specs.Sides.{told_of}
use Rattle.module_semantics.specs.State.{global}
use Rattle.module_semantics.specs.Accesses.{global_value_by}
use Rattle.memory_places.specs.Kernel.{setting_for}
use Rattle.run_memory.specs.Outcomes.{kept_with}
use Rattle.run_memory.proofs.stores.store_global.Goals as goal

pub returns-in-None : goal.returns-in-None
returns-in-None c = λ d rest. ap (λ (o : Option StorageClass). kept_with d rest (global c.args.variable.now.result) (option_and_then (inserted (value_of c.args.storing.now.value.now) c.args.storing.now.path.now) (global_value_by (setting_for c.args.storing.now.map.now (told_of c.args.storing.now.inv.now)) d c.args.variable.now o))) c.in-None.ensures

pub returns-in-Some : goal.returns-in-Some
returns-in-Some c = IfOk-weaker c.store_in.result _ _ (λ w h d rest. h d rest ∙ ap (λ (o : Option StorageClass). kept_with d rest (global c.args.variable.now.result) (option_and_then (inserted (value_of c.args.storing.now.value.now) c.args.storing.now.path.now) (global_value_by (setting_for c.args.storing.now.map.now (told_of c.args.storing.now.inv.now)) d c.args.variable.now o))) c.in-Some.ensures) c.store_in.ensures
