use Rattle.std.proofs.lemmas.Result.{IfOk-weaker}
use Rattle.memory_places.specs.Kernel.{setting_for}
use Rattle.run_state.specs.Ids.{root_of}
use Rattle.run_state.specs.Confs.{conf_of}
use Rattle.run_memory.specs.Outcomes.{loaded_from}
use Rattle.run_memory.proofs.Reading.{load_there, load_nowhere}
use Rattle.run_memory.proofs.loads.source_of.Goals as goal

pub returns-in-None-clause-load : goal.returns-in-None-clause-load
returns-in-None-clause-load c = λ told fs rest. load_nowhere (setting_for c.args.site.now.map.now told) (conf_of fs c.args.conf.now) rest c.args.site.now.inst.now c.in-None.ensures

pub returns-in-Some-clause-load : goal.returns-in-Some-clause-load
returns-in-Some-clause-load c = λ told.
    IfOk-weaker c.source_at.result _ _ (λ source h fs rest.
    let d = conf_of fs c.args.conf.now in
    load_there (setting_for c.args.site.now.map.now told) d rest c.args.site.now.inst.now (root_of c.in-Some.root, c.in-Some.path.now) (loaded_from (setting_for c.args.site.now.map.now told) d rest c.args.site.now.inst.now source) c.in-Some.ensures (h d rest c.args.site.now.inst.now)) (c.source_at.ensures.load told)
