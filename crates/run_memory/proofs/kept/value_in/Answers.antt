use Rattle.std.proofs.Common.{sym, ap, ◌∙◌}
use Rattle.std.specs.Prelude.{Some}
use Rattle.spv_ops.specs.declared.StorageClass.{StorageClass}
use Rattle.group_items.specs.Sides.{told_of}
use Rattle.module_semantics.specs.Accesses.{global_value_by}
use Rattle.memory_places.specs.Kernel.{setting_for}
use Rattle.run_state.specs.Confs.{conf_of}
use Rattle.run_memory.proofs.Classes.{none_in_class}
use Rattle.run_memory.proofs.kept.value_in.Goals as goal

pub returns-in-Private : goal.returns-in-Private
returns-in-Private c = λ fs. c.value_at.ensures fs ∙ ap (λ (k : StorageClass). global_value_by (setting_for c.args.map.now (told_of c.args.inv.now)) (conf_of fs c.args.conf.now) c.args.variable.now (Some k)) (sym c.in-Private.is)

pub returns-in-Input : goal.returns-in-Input
returns-in-Input c = λ fs. c.input_value.ensures ∙ ap (λ (k : StorageClass). global_value_by (setting_for c.args.map.now (told_of c.args.inv.now)) (conf_of fs c.args.conf.now) c.args.variable.now (Some k)) (sym c.in-Input.is)

pub returns-in_default : goal.returns-in_default
returns-in_default c = λ fs. none_in_class (setting_for c.args.map.now (told_of c.args.inv.now)) (conf_of fs c.args.conf.now) c.args.variable.now c.args.class c.in_default.not-Private c.in_default.not-Input
