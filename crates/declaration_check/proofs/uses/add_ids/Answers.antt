use Rattle.std.proofs.Common.{arith}
use Rattle.std.proofs.lemmas.Grind.{common_steps}
use Rattle.declaration_check.proofs.uses.add_ids.Goals as goal

pub loop-id-preserved : goal.loop-id-preserved
loop-id-preserved c = λ id. grind (arith, common_steps, c.loop-id.invariant id, c.in_ok-add_id.ensures id)
