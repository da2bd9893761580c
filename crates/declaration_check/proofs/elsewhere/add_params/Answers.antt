use Rattle.std.proofs.Common.{arith}
use Rattle.std.proofs.lemmas.Grind.{common_steps}
use Rattle.declaration_check.proofs.elsewhere.add_params.Goals as goal

pub loop-param-preserved : goal.loop-param-preserved
loop-param-preserved c = λ id. grind (arith, common_steps, c.loop-param.invariant id, c.in_ok-insert.ensures id)
