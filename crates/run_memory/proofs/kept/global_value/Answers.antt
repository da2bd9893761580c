use Rattle.std.proofs.Common.{ap, ◌∙◌}
use Rattle.group_items.specs.Sides.{told_of}
use Rattle.module_semantics.specs.Accesses.{global_value_by}
use Rattle.memory_places.specs.Kernel.{setting_for}
use Rattle.run_state.specs.Confs.{conf_of}
use Rattle.run_memory.proofs.kept.global_value.Goals as goal

pub returns-in-None : goal.returns-in-None
returns-in-None c = λ fs. ap (global_value_by (setting_for c.args.map.now (told_of c.args.inv.now)) (conf_of fs c.args.conf.now) c.args.variable.now) c.in-None.ensures

pub returns-in-Some : goal.returns-in-Some
returns-in-Some c = λ fs. c.value_in.ensures fs ∙ ap (global_value_by (setting_for c.args.map.now (told_of c.args.inv.now)) (conf_of fs c.args.conf.now) c.args.variable.now) c.in-Some.ensures
