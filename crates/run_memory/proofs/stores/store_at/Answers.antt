use Rattle.std.proofs.Common.{ap, sym, ◌∙◌}
use Rattle.std.specs.Prelude.{Option, option_and_then}
use Rattle.std.proofs.lemmas.Result.{IfOk-weaker}
use Rattle.spv_module.specs.declared.inst.Inst.{Inst}
use Rattle.spv_types.specs.View.{value_of}
use Rattle.op_semantics.specs.Composite.{inserted}
use Rattle.group_items.specs.Sides.{told_of}
use Rattle.module_semantics.specs.Accesses.{kept}
use Rattle.module_semantics.specs.Steps.{store_to}
use Rattle.memory_places.specs.Kernel.{setting_for}
use Rattle.run_state.specs.Ids.{root_of}
use Rattle.run_acts.specs.Narrowed.{narrowed}
use Rattle.run_memory.proofs.Storing.{kept_narrowed}
use Rattle.run_memory.proofs.stores.store_at.Goals as goal

pub returns-in-None : goal.returns-in-None
returns-in-None c =
    IfOk-weaker c.store_kept.result _ _ (λ w h d rest.
    ap (λ (o : Option Inst). narrowed (store_to (setting_for c.args.storing.now.map.now (told_of c.args.storing.now.inv.now)) d rest (root_of c.args.root, c.args.storing.now.path.now) (value_of c.args.storing.now.value.now) o)) (sym (c.in-None.ensures (told_of c.args.storing.now.inv.now)))
    ∙ kept_narrowed d rest (root_of c.args.root) (option_and_then (inserted (value_of c.args.storing.now.value.now) c.args.storing.now.path.now) (kept (setting_for c.args.storing.now.map.now (told_of c.args.storing.now.inv.now)) d (root_of c.args.root)))
    ∙ sym (h d rest)) c.store_kept.ensures

pub returns-in-Some : goal.returns-in-Some
returns-in-Some c =
    IfOk-weaker c.store_seen.result _ _ (λ w h d rest.
    ap (λ (o : Option Inst). narrowed (store_to (setting_for c.args.storing.now.map.now (told_of c.args.storing.now.inv.now)) d rest (root_of c.args.root, c.args.storing.now.path.now) (value_of c.args.storing.now.value.now) o)) (sym (c.in-Some.ensures (told_of c.args.storing.now.inv.now))) ∙ h d rest (root_of c.args.root)) (c.store_seen.ensures (told_of c.args.storing.now.inv.now))
