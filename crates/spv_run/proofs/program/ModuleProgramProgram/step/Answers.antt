use Rattle.spv_run.proofs.Shapes.{whole_of}
use Rattle.spv_run.proofs.Stepped.{stepped}
use Rattle.spv_run.proofs.program.ModuleProgramProgram.step.Goals as goal

pub next-requires : goal.next-requires
next-requires c = record { told = whole_of c.take_all.new.state.told c.take_all.new.state.values c.take_all.new.state.sizes }

pub returns-clause-step : goal.returns-clause-step
returns-clause-step c = stepped c.args.self.now.map c.args.state.now c.take_all.new.state c.next.new.conf c.make_room.new.words c.in_ok-take_all.ensures.taken c.in_ok-step.step c.in_ok-step.ensures.step c.in_ok-make_room.ensures.room
