use Rattle.std.proofs.Common.{arith, rules}
use Rattle.std.proofs.lemmas.Grind.{common_steps}
use Rattle.declaration_check.proofs.Finds.{filter_no, kept_yes}
use Rattle.declaration_check.proofs.choice.meant_entries.Goals as goal
use Rattle.declaration_check.proofs.choice.meant_entries.Goals.{then-branch+in_ok-push, else-branch}

pub loop-inst-preserved : goal.loop-inst-preserved
loop-inst-preserved c = elim c.if-branch.branch [ then-branch+in_ok-push w ↦ rw w.list-is (search (rules, kept_yes)) | else-branch w ↦ rw w.list-is (grind (arith, common_steps, filter_no)) ]
