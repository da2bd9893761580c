use Rattle.std.proofs.Common.{◌≡◌, ap, sym, subst, refl, ◌∙◌}
use Rattle.std.specs.Prelude.{Option, option_and_then}
use Rattle.std.proofs.lemmas.Result.{IfOk-weaker}
use Rattle.spv_types.specs.Tree.{ValueTree}
use Rattle.spv_types.specs.View.{value_of}
use Rattle.op_semantics.specs.Composite.{inserted}
use Rattle.group_items.specs.Sides.{told_of}
use Rattle.module_semantics.specs.Accesses.{kept}
use Rattle.memory_places.specs.Kernel.{setting_for}
use Rattle.run_state.specs.declared.held.Root.{Root}
use Rattle.run_state.specs.Ids.{root_of}
use Rattle.run_variables.specs.Stored.{kept_by}
use Rattle.run_memory.specs.Outcomes.{kept_with}
use Rattle.run_memory.proofs.stores.store_kept.Goals as goal

pub returns-in-Global : goal.returns-in-Global
returns-in-Global c = IfOk-weaker c.store_by_module.result _ _ (λ w h d rest. h d rest ∙ ap (λ (r : Root). kept_with d rest (root_of r) (option_and_then (inserted (value_of c.args.storing.now.value.now) c.args.storing.now.path.now) (kept (setting_for c.args.storing.now.map.now (told_of c.args.storing.now.inv.now)) d (root_of r)))) (sym c.in-Global.is)) c.store_by_module.ensures

pub returns-in-Own : goal.returns-in-Own
returns-in-Own c = IfOk-weaker c.store_part.result _ _ (λ w h d rest. h d rest ∙ ap (λ (o : Option ValueTree). kept_with d rest (root_of c.args.root) (option_and_then (inserted (value_of c.args.storing.now.value.now) c.args.storing.now.path.now) o)) (subst (λ (r : Root). kept_by d (root_of r) ≡ kept (setting_for c.args.storing.now.map.now (told_of c.args.storing.now.inv.now)) d (root_of r)) (sym c.in-Own.is) refl)) c.store_part.ensures

pub returns-in-Lent : goal.returns-in-Lent
returns-in-Lent c = IfOk-weaker c.store_part-in-Lent.result _ _ (λ w h d rest. h d rest ∙ ap (λ (o : Option ValueTree). kept_with d rest (root_of c.args.root) (option_and_then (inserted (value_of c.args.storing.now.value.now) c.args.storing.now.path.now) o)) (subst (λ (r : Root). kept_by d (root_of r) ≡ kept (setting_for c.args.storing.now.map.now (told_of c.args.storing.now.inv.now)) d (root_of r)) (sym c.in-Lent.is) refl)) c.store_part-in-Lent.ensures
