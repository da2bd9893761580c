use Rattle.std.proofs.Common.{sym}
use Rattle.switch_ladder.proofs.Left.{not_break}
use Rattle.switch_ladder.proofs.plan.is_break.Goals as goal

pub returns-in_default : goal.returns-in_default
returns-in_default c = sym (not_break c.args.places.now c.args.from c.args.to c.edge.result c.edge.ensures.only c.in_default.not-Break)
