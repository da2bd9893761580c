use Rattle.nest_place.proofs.Naming.{names_fine}
use Rattle.nest_place.proofs.headers.Headers.of.Goals as goal

pub returns-clause-passes : goal.returns-clause-passes
returns-clause-passes c = names_fine c.args.nodes.now c.in_ok-check_itself.ensures.passes c.in_ok-namers.ensures.single
