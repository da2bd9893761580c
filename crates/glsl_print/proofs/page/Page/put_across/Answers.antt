use Rattle.glsl_print.proofs.Steps.{remains_piece, remains_held}
use Rattle.glsl_print.proofs.page.Page.put_across.Goals as goal

pub loop-rest-preserved : goal.loop-rest-preserved
loop-rest-preserved g c = remains_piece c.room-in-loop-rest.result c.loop-rest.invariant c.split_at.ensures.front c.split_at.ensures.back c.hold.ensures c.hand_on.ensures.goes

pub returns : goal.returns
returns g c = remains_held c.loop-rest.invariant c.hold-2.ensures
