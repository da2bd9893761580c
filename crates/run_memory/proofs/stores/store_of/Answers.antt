use Rattle.std.proofs.lemmas.Result.{IfOk-weaker}
use Rattle.group_items.specs.Sides.{told_of}
use Rattle.memory_places.specs.Kernel.{setting_for}
use Rattle.run_state.specs.Ids.{root_of}
use Rattle.run_state.specs.Confs.{conf_of}
use Rattle.run_memory.specs.Outcomes.{stored_by}
use Rattle.run_memory.proofs.Storing.{store_there, store_nowhere}
use Rattle.run_memory.proofs.stores.store_of.Goals as goal

pub returns-in-None : goal.returns-in-None
returns-in-None c = λ fs rest. store_nowhere (setting_for c.args.site.now.map.now (told_of c.args.inv.now)) (conf_of fs c.args.conf.now) rest c.args.site.now.inst.now c.in-None.ensures

pub returns-in-Some : goal.returns-in-Some
returns-in-Some c =
    IfOk-weaker c.store_operand.result _ _ (λ w h fs rest.
    let d = conf_of fs c.args.conf.now in
    store_there (setting_for c.args.site.now.map.now (told_of c.args.inv.now)) d rest c.args.site.now.inst.now (root_of c.in-Some.root, c.in-Some.path.now) (stored_by d rest w) c.in-Some.ensures (h fs rest)) c.store_operand.ensures
