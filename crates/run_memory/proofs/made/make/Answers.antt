use Rattle.std.proofs.Common.{map, ap, sym}
use Rattle.traces.specs.Runs.{goes}
use Rattle.group_items.specs.Events.{event_of}
use Rattle.run_state.proofs.States.{advanced_conf}
use Rattle.run_memory.proofs.made.make.Goals as goal

pub returns : goal.returns
returns c = λ fs. (ap (goes (map event_of c.args.events.items)) (sym (advanced_conf fs c.args.conf.now c.advance.new.conf c.advance.ensures)), c.requires.given)
