use Rattle.std.proofs.Common.{◌≡◌, ◌++◌, take}
use Rattle.run_flow.specs.Begun.{variables_among}
use Rattle.run_flow.proofs.starts.variable_ids.Given as goal

abbrev pub invariant-loop-inst : goal.invariant-loop-inst
invariant-loop-inst l = l.list.items ≡ l.initial.list.items ++ variables_among (take l.inst-index l.insts)
