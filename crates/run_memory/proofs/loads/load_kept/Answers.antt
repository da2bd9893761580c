use Rattle.std.proofs.Common.{ap, sym, [], ◌∙◌}
use Rattle.std.specs.Prelude.{Option}
use Rattle.spv_types.specs.Tree.{ValueTree}
use Rattle.traces.specs.Runs.{goes}
use Rattle.module_semantics.specs.Steps.{with_some, set_value}
use Rattle.run_state.specs.Confs.{conf_of}
use Rattle.run_acts.specs.Narrowed.{narrowed}
use Rattle.run_memory.proofs.loads.load_kept.Goals as goal

pub returns-in-None : goal.returns-in-None
returns-in-None c = λ fs rest i. ap (λ (o : Option ValueTree). narrowed (with_some o (λ v. goes [] (set_value (conf_of fs c.args.conf.now) rest i v)))) (sym (c.in-None.ensures fs))

pub returns-in_ok-copied-in-Some : goal.returns-in_ok-copied-in-Some
returns-in_ok-copied-in-Some c = λ fs rest i.
    ap (λ (o : Option ValueTree). narrowed (with_some o (λ v. goes [] (set_value (conf_of fs c.args.conf.now) rest i v)))) (sym (c.in-Some.ensures fs))
    ∙ ap (λ (v : ValueTree). goes [] (set_value (conf_of fs c.args.conf.now) rest i v)) (sym c.in_ok-copied-in-Some.ensures)
