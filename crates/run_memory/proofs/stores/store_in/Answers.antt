use Rattle.std.proofs.Common.{ap, sym, ◌∙◌}
use Rattle.std.specs.Prelude.{Option, Some, option_and_then}
use Rattle.std.proofs.lemmas.Result.{IfOk-weaker}
use Rattle.spv_ops.specs.declared.StorageClass.{StorageClass}
use Rattle.spv_types.specs.Tree.{ValueTree}
use Rattle.spv_types.specs.View.{value_of}
use Rattle.op_semantics.specs.Composite.{inserted}
use Rattle.group_items.specs.Sides.{told_of}
use Rattle.module_semantics.specs.State.{global}
use Rattle.module_semantics.specs.Accesses.{global_value_by}
use Rattle.memory_places.specs.Kernel.{setting_for}
use Rattle.run_memory.specs.Outcomes.{kept_with}
use Rattle.run_memory.proofs.Classes.{none_in_class}
use Rattle.run_memory.proofs.stores.store_in.Goals as goal

pub returns-in-Private : goal.returns-in-Private
returns-in-Private c = IfOk-weaker c.store_part.result _ _ (λ w h d rest. h d rest ∙ ap (λ (k : StorageClass). kept_with d rest (global c.args.variable.now.result) (option_and_then (inserted (value_of c.args.storing.now.value.now) c.args.storing.now.path.now) (global_value_by (setting_for c.args.storing.now.map.now (told_of c.args.storing.now.inv.now)) d c.args.variable.now (Some k)))) (sym c.in-Private.is)) c.store_part.ensures

pub returns-in-Input : goal.returns-in-Input
returns-in-Input c = IfOk-weaker c.store_input.result _ _ (λ w h d rest. h d rest ∙ ap (λ (k : StorageClass). kept_with d rest (global c.args.variable.now.result) (option_and_then (inserted (value_of c.args.storing.now.value.now) c.args.storing.now.path.now) (global_value_by (setting_for c.args.storing.now.map.now (told_of c.args.storing.now.inv.now)) d c.args.variable.now (Some k)))) (sym c.in-Input.is)) c.store_input.ensures

pub returns-in_default : goal.returns-in_default
returns-in_default c = λ d rest. ap (λ (o : Option ValueTree). kept_with d rest (global c.args.variable.now.result) (option_and_then (inserted (value_of c.args.storing.now.value.now) c.args.storing.now.path.now) o)) (none_in_class (setting_for c.args.storing.now.map.now (told_of c.args.storing.now.inv.now)) d c.args.variable.now c.args.class c.in_default.not-Private c.in_default.not-Input)
