use Rattle.run_state.specs.Ids.{held_of}
use Rattle.run_acts.proofs.Acts.{set_acts}
use Rattle.run_acts.proofs.results.set_result.Goals as goal

pub returns-clause-set : goal.returns-clause-set
returns-clause-set c = λ fs. set_acts fs c.args.conf.now c.set.new.conf c.args.inst.now (held_of c.args.held) c.in_ok-set.ensures.set
