use Rattle.std.proofs.Common.{◌≡◌, take}
use Rattle.run_flow.proofs.routines.routines_of.Given as goal

abbrev pub invariant-loop-function : goal.invariant-loop-function
invariant-loop-function l = l.list.items ≡ take l.function-index l.functions
