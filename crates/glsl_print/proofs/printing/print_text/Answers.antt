use Rattle.glsl_print.proofs.Steps.{printed_whole, all_handed}
use Rattle.glsl_print.proofs.printing.print_text.Goals as goal

pub returns-clause-all : goal.returns-clause-all
returns-clause-all g c = rw c.status.ensures (all_handed _ _ _ _ _ c.hand_on.ensures.empty (printed_whole c.new-page.ensures c.print_unit.ensures c.hand_on.ensures.goes).all)

pub returns-clause-front : goal.returns-clause-front
returns-clause-front g c = (printed_whole c.new-page.ensures c.print_unit.ensures c.hand_on.ensures.goes).front

pub returns-clause-fault : goal.returns-clause-fault
returns-clause-fault g c = rw c.status.ensures (printed_whole c.new-page.ensures c.print_unit.ensures c.hand_on.ensures.goes).fault

pub returns-clause-want : goal.returns-clause-want
returns-clause-want g c = rw c.status.ensures (printed_whole c.new-page.ensures c.print_unit.ensures c.hand_on.ensures.goes).want
