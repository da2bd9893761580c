use Rattle.std.proofs.Common.{subst}
use Rattle.spv_types.specs.View.{value_of}
use Rattle.run_calls.specs.Entered.{HasGiven}
use Rattle.run_flow.proofs.Moves.{has_given, gives_none}
use Rattle.run_flow.proofs.leaving.give_back.Goals as goal

pub returns-then-branch-clause-step : goal.returns-then-branch-clause-step
returns-then-branch-clause-step c = λ fs. has_given fs c.args.conf.now c.give.new.conf (value_of c.args.value) (subst (HasGiven fs c.args.conf.now c.give.new.conf (value_of c.args.value)) c.if-branch.true (c.in_ok-give.ensures.given fs))

pub returns-else-branch-clause-step : goal.returns-else-branch-clause-step
returns-else-branch-clause-step c = λ fs. gives_none fs c.args.conf.now c.give.new.conf (value_of c.args.value) (subst (HasGiven fs c.args.conf.now c.give.new.conf (value_of c.args.value)) c.if-branch.false (c.in_ok-give.ensures.given fs))
