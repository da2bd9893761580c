use Rattle.std.proofs.Common.{take}
use Rattle.declaration_check.specs.Kept.{WithMore}
use Rattle.declaration_check.proofs.rows.add_insts.Given as goal

abbrev pub invariant-loop-inst : goal.invariant-loop-inst
invariant-loop-inst l = WithMore (take l.inst-index l.insts) l.initial.rows l.rows
