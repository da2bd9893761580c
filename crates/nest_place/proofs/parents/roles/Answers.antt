use Rattle.nest_place.proofs.Parenthood.{parents_fine_of}
use Rattle.nest_place.proofs.parents.roles.Goals as goal

pub returns-clause-passes : goal.returns-clause-passes
returns-clause-passes c = parents_fine_of c.args.headers _ _ c.nodes-nodes.ensures c.in_ok-cases.ensures.cases c.in_ok-check_orphans.ensures.passes c.in_ok-cases.ensures.single c.in_ok-entries.ensures.single
