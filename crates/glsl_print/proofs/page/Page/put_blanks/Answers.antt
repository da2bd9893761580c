use Rattle.glsl_print.proofs.Steps.{goes_blanks}
use Rattle.glsl_print.proofs.page.Page.put_blanks.Goals as goal

pub returns-else-count-room : goal.returns-else-count-room
returns-else-count-room g c = goes_blanks c.room-room.result c.args.count c.if-count-room.false c.hold_blanks-else-count-room.ensures c.hand_on.ensures.goes c.hold_blanks-else-count-room-2.ensures
