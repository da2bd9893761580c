use Rattle.std.proofs.Common.{[], ap, sym}
use Rattle.traces.specs.Runs.{goes}
use Rattle.run_state.specs.Ids.{held_of}
use Rattle.module_semantics.specs.Setting.{is_listed}
use Rattle.run_values.proofs.Led.{led_conf}
use Rattle.run_values.proofs.chains.lead.Goals as goal

pub returns-clause-led : goal.returns-clause-led
returns-clause-led c = λ fs. ap (goes []) (sym (led_conf fs c.args.conf.now c.set.new.conf c.args.inst.now (held_of c.args.held) (is_listed c.args.based.now) c.forget_all.new.ids c.in_ok-set.ensures.set c.forget_all.ensures))
