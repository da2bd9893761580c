use Rattle.std.proofs.Common.{◌∙◌}
use Rattle.nest_place.proofs.Falling.{last_fine}
use Rattle.nest_place.proofs.falls.last_table.Goals as goal

pub returns-in-Ok-clause-passes : goal.returns-in-Ok-clause-passes
returns-in-Ok-clause-passes c = last_fine c.args.nest.now c.args.links.now c.deref.result.now (c.deref.ensures.value ∙ c.in_ok-turned.ensures) c.requires.links c.in-Ok.ensures.single
