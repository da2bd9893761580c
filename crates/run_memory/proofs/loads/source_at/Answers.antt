use Rattle.std.proofs.Common.{ap, sym, ◌∙◌}
use Rattle.std.proofs.lemmas.Result.{IfOk-weaker}
use Rattle.module_semantics.specs.Steps.{load_from}
use Rattle.memory_places.specs.Kernel.{setting_for}
use Rattle.run_state.specs.Ids.{root_of}
use Rattle.run_memory.proofs.loads.source_at.Goals as goal

pub returns-in-None-clause-load : goal.returns-in-None-clause-load
returns-in-None-clause-load c = λ told d rest i. ap (load_from (setting_for c.args.map.now told) d rest i (root_of c.args.root, c.args.path.now)) (sym (c.in-None.ensures told))

pub returns-in-Some-clause-load : goal.returns-in-Some-clause-load
returns-in-Some-clause-load c = λ told.
    IfOk-weaker c.source_in.result _ _ (λ source h d rest i.
    ap (load_from (setting_for c.args.map.now told) d rest i (root_of c.args.root, c.args.path.now)) (sym (c.in-Some.ensures told)) ∙ h d rest i (root_of c.args.root)) (c.source_in.ensures.load told)
