use Rattle.std.proofs.lemmas.Result.{IfOk-weaker}
use Rattle.memory_places.specs.Kernel.{setting_for}
use Rattle.run_state.specs.Ids.{root_of}
use Rattle.run_state.specs.Confs.{conf_of}
use Rattle.run_memory.specs.Outcomes.{updated_by}
use Rattle.run_memory.proofs.Updating.{atomic_there, atomic_nowhere}
use Rattle.run_memory.proofs.atomics.update_of.Goals as goal

pub returns-in-None : goal.returns-in-None
returns-in-None c = λ told fs rest. atomic_nowhere (setting_for c.args.site.now.map.now told) (conf_of fs c.args.conf.now) rest c.args.site.now.inst.now c.args.op c.in-None.ensures

pub returns-in-Some : goal.returns-in-Some
returns-in-Some c = λ told.
    IfOk-weaker c.update_there.result _ _ (λ u h fs rest.
    let d = conf_of fs c.args.conf.now in
    atomic_there (setting_for c.args.site.now.map.now told) d rest c.args.site.now.inst.now c.args.op (root_of c.in-Some.root, c.in-Some.path.now) (updated_by (setting_for c.args.site.now.map.now told) d rest c.args.site.now.inst.now c.args.op u) c.in-Some.ensures (h fs rest)) (c.update_there.ensures told)
