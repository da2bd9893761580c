use Rattle.std.proofs.Common.{subst}
use Rattle.run_state.specs.Confs.{HasLeft}
use Rattle.run_flow.proofs.Moves.{has_left, has_ended}
use Rattle.run_flow.proofs.leaving.return_step.Goals as goal

pub returns-then-leave : goal.returns-then-leave
returns-then-leave g c = has_left g.fs c.args.conf.now c.leave.new.conf (subst (λ b. HasLeft g.fs b c.args.conf.now c.leave.new.conf) c.if-leave.true c.leave.ensures)

pub returns-else-leave : goal.returns-else-leave
returns-else-leave g c = has_ended g.fs c.args.conf.now c.leave.new.conf (subst (λ b. HasLeft g.fs b c.args.conf.now c.leave.new.conf) c.if-leave.false c.leave.ensures)
