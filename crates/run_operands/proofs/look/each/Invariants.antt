use Rattle.std.proofs.Common.{take}
use Rattle.run_operands.specs.Found.{AreFound}
use Rattle.run_operands.proofs.look.each.Given as goal

abbrev pub invariant-loop-id : goal.invariant-loop-id
invariant-loop-id g l = AreFound (goal.F-post g l.find) (take l.id-index l.list) l.all.items
