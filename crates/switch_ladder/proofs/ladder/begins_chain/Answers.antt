use Rattle.std.proofs.Common.{sym}
use Rattle.structure_recover.proofs.Onward.{not_enter}
use Rattle.switch_ladder.proofs.Chained.{begins_none}
use Rattle.switch_ladder.proofs.ladder.begins_chain.Goals as goal

pub returns-in_default : goal.returns-in_default
returns-in_default c =
    sym (begins_none c.args.places.now c.args.head c.args.target (not_enter c.args.places.now c.args.head c.args.target c.edge.result c.edge.ensures.only c.in_default.not-Enter))
