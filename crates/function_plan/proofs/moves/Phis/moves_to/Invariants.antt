use Rattle.std.proofs.Common.{take}
use Rattle.std.specs.List.{AllZip}
use Rattle.hoist_plan.specs.Kept.{form_in}
use Rattle.function_plan.specs.Moved.{AreMovesFor}
use Rattle.function_plan.proofs.moves.Phis.moves_to.Given as goal

abbrev pub invariant-loop-block : goal.invariant-loop-block
invariant-loop-block l = AllZip (AreMovesFor l.self.«module».now.globals (form_in l.self.naming.now) l.self.locals.now) (take l.block-index l.blocks) l.moves.items
