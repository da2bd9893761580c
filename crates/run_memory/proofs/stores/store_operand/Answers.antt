use Rattle.std.proofs.Common.{ap, sym, ◌∙◌}
use Rattle.std.specs.Prelude.{Option}
use Rattle.std.proofs.lemmas.Result.{IfOk-weaker}
use Rattle.spv_types.specs.Tree.{ValueTree}
use Rattle.group_items.specs.Sides.{told_of}
use Rattle.module_semantics.specs.Accesses.{seen}
use Rattle.module_semantics.specs.Steps.{with_some, store_to}
use Rattle.memory_places.specs.Kernel.{setting_for}
use Rattle.run_state.specs.Ids.{root_of}
use Rattle.run_state.specs.Confs.{conf_of}
use Rattle.run_acts.specs.Narrowed.{narrowed}
use Rattle.run_memory.proofs.stores.store_operand.Goals as goal

pub returns-in-None : goal.returns-in-None
returns-in-None c = λ fs rest. ap (λ (o : Option ValueTree). narrowed (with_some o (λ v. store_to (setting_for c.args.site.now.map.now (told_of c.args.inv.now)) (conf_of fs c.args.conf.now) rest (root_of c.args.root, c.args.path.now) v (seen (setting_for c.args.site.now.map.now (told_of c.args.inv.now)) (root_of c.args.root))))) (sym c.in-None.ensures)

pub returns-in-Some : goal.returns-in-Some
returns-in-Some c = IfOk-weaker c.store_at.result _ _ (λ w h fs rest. ap (λ (o : Option ValueTree). narrowed (with_some o (λ v. store_to (setting_for c.args.site.now.map.now (told_of c.args.inv.now)) (conf_of fs c.args.conf.now) rest (root_of c.args.root, c.args.path.now) v (seen (setting_for c.args.site.now.map.now (told_of c.args.inv.now)) (root_of c.args.root))))) (sym c.in-Some.ensures) ∙ h (conf_of fs c.args.conf.now) rest) c.store_at.ensures
