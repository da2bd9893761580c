use Rattle.std.proofs.Common.{◌≡◌, map, take}
use Rattle.function_plan.specs.Planned.{number_in}
use Rattle.function_plan.proofs.claims.numbers_of.Given as goal

abbrev pub invariant-loop-index : goal.invariant-loop-index
invariant-loop-index l = l.numbers.items ≡ map number_in (take l.index-index l.indexes)
