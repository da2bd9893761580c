use Rattle.std.proofs.Common.{sym, ◌∙◌}
use Rattle.name_alloc.proofs.Named.{held_out_some}
use Rattle.name_alloc.proofs.naming.held_in.Goals as goal

pub returns-in-Some : goal.returns-in-Some
returns-in-Some c = held_out_some c.args.members.now c.args.block c.in-Some.held c.remove.new.self (sym c.remove.ensures.value ∙ c.in-Some.is) c.remove.ensures.updates.0
