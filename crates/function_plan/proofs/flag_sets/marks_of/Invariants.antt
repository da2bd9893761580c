use Rattle.std.proofs.Common.{◌≡◌, ℕ, take, get_or, false}
use Rattle.function_plan.specs.Orders.{is_among}
use Rattle.function_plan.proofs.flag_sets.marks_of.Given as goal

abbrev pub invariant-loop-block : goal.invariant-loop-block
invariant-loop-block l = (b : ℕ) → get_or l.marks.items b false ≡ is_among (take l.block-index l.blocks) b
