-- Whether the edges that leave a block need spares.
use Rattle.std.specs.Prelude.{ℕ, ◌==◌, not, Bool, List}
use Rattle.phi_copies.specs.declared.moves.Move.{Move}
use Rattle.function_plan.specs.declared.plan.FunctionPlan.{FunctionPlan as Planned}
use Rattle.function_plan.specs.Moved.{moves_in}
use Rattle.function_plan.specs.Planned.{spares_in}

abbrev pub saves_any : List Move → Bool
saves_any moves = not (spares_in moves == 0)

-- the moves of the edge between two blocks save something
abbrev pub has_saves_to : Planned → ℕ → ℕ → Bool
has_saves_to p from to = saves_any (moves_in p.moves.items from to)
