use Rattle.std.proofs.Common.{◌≡◌, ℕ, map, length}
use Rattle.std.specs.Option.{option_or}
use Rattle.module_semantics.specs.Steps.{argument_of}
use Rattle.run_state.specs.Ids.{held_of, ids_of}
use Rattle.run_calls.proofs.calls.arguments.Given as goal

abbrev pub invariant-loop-argument : goal.invariant-loop-argument
invariant-loop-argument l = (q : ℕ) → option_or (argument_of l.params (map held_of l.left.items) q) (ids_of l.ids q) ≡ argument_of l.params (map held_of l.fn.arguments.items) q

abbrev pub decreases-loop-argument : goal.decreases-loop-argument
decreases-loop-argument l = length l.left.items
