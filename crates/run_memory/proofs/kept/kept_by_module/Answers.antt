use Rattle.std.proofs.Common.{ap, ◌∙◌}
use Rattle.std.specs.Prelude.{option_and_then}
use Rattle.group_items.specs.Sides.{told_of}
use Rattle.module_semantics.specs.Accesses.{global_value}
use Rattle.memory_places.specs.Kernel.{setting_for}
use Rattle.run_state.specs.Confs.{conf_of}
use Rattle.run_memory.proofs.kept.kept_by_module.Goals as goal

pub returns-in-None : goal.returns-in-None
returns-in-None c = λ fs. ap (option_and_then (global_value (setting_for c.args.map.now (told_of c.args.inv.now)) (conf_of fs c.args.conf.now))) (c.in-None.ensures (told_of c.args.inv.now))

pub returns-in-Some : goal.returns-in-Some
returns-in-Some c = λ fs. c.global_value.ensures fs ∙ ap (option_and_then (global_value (setting_for c.args.map.now (told_of c.args.inv.now)) (conf_of fs c.args.conf.now))) (c.in-Some.ensures (told_of c.args.inv.now))
