use Rattle.nest_place.proofs.Falling.{next_fine, same_single}
use Rattle.nest_place.proofs.falls.next_table.Goals as goal

pub returns-in-Ok-clause-passes : goal.returns-in-Ok-clause-passes
returns-in-Ok-clause-passes c = next_fine c.args.nest.now c.args.links.now c.requires.links c.in-Ok.ensures.single

pub returns-in-Ok-clause-single : goal.returns-in-Ok-clause-single
returns-in-Ok-clause-single c = same_single c.args.links.now c.args.nest.now c.requires.links c.in-Ok.ensures.single
