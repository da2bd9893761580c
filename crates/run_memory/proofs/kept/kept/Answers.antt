use Rattle.std.proofs.Common.{◌≡◌, refl, sym, subst, ap, ◌∙◌}
use Rattle.group_items.specs.Sides.{told_of}
use Rattle.module_semantics.specs.Accesses.{kept}
use Rattle.memory_places.specs.Kernel.{setting_for}
use Rattle.run_state.specs.declared.held.Root.{Root}
use Rattle.run_state.specs.Ids.{root_of}
use Rattle.run_state.specs.Confs.{conf_of}
use Rattle.run_variables.specs.Stored.{kept_by}
use Rattle.run_memory.proofs.kept.kept.Goals as goal

pub returns-in-Global : goal.returns-in-Global
returns-in-Global c = λ fs. c.kept_by_module.ensures fs ∙ ap (λ (r : Root). kept (setting_for c.args.map.now (told_of c.args.inv.now)) (conf_of fs c.args.conf.now) (root_of r)) (sym c.in-Global.is)

pub returns-in-Own : goal.returns-in-Own
returns-in-Own c = λ fs. c.value_at.ensures fs ∙ subst (λ (r : Root). kept_by (conf_of fs c.args.conf.now) (root_of r) ≡ kept (setting_for c.args.map.now (told_of c.args.inv.now)) (conf_of fs c.args.conf.now) (root_of r)) (sym c.in-Own.is) refl

pub returns-in-Lent : goal.returns-in-Lent
returns-in-Lent c = λ fs. c.value_at-in-Lent.ensures fs ∙ subst (λ (r : Root). kept_by (conf_of fs c.args.conf.now) (root_of r) ≡ kept (setting_for c.args.map.now (told_of c.args.inv.now)) (conf_of fs c.args.conf.now) (root_of r)) (sym c.in-Lent.is) refl
