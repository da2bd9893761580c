use Rattle.std.proofs.Common.{◌≡◌, ℕ, take}
use Rattle.std.specs.List.{flat_map, filter}
use Rattle.hoist_plan.specs.Kept.{form_in}
use Rattle.function_plan.specs.Phis.{is_live_phi, given_by}
use Rattle.function_plan.specs.Moved.{pairs_from}
use Rattle.function_plan.proofs.moves.Phis.pairs_of.Given as goal

abbrev pub invariant-loop-inst : goal.invariant-loop-inst
invariant-loop-inst l = (b : ℕ) → pairs_from l.pairs b ≡ flat_map (given_by l.self.«module».now.globals l.self.locals.now b) (filter (is_live_phi (form_in l.self.naming.now)) (take l.inst-index l.block.insts))
