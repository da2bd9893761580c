use Rattle.std.proofs.Common.{ℕ, List, subst}
use Rattle.command_line.specs.Endings.{IsCause}
use Rattle.cross_core.specs.Answers.{above}
use Rattle.cross_core.proofs.top.run_on_generated.Goals as goal

pub returns-else-len-number-clause-cause : goal.returns-else-len-number-clause-cause
returns-else-len-number-clause-cause g c = subst (λ (b : List ℕ). IsCause c.args.command.now.options (above c.args.command.now b) b c.answer.result) c.in-Ok.ensures c.answer.ensures.cause
