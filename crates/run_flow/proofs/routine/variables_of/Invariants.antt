use Rattle.std.proofs.Common.{◌≡◌, take}
use Rattle.std.specs.List.{flat_map}
use Rattle.spv_module.specs.declared.inst.Block.{Block}
use Rattle.run_flow.specs.Begun.{variables_among}
use Rattle.run_flow.proofs.routine.variables_of.Given as goal

abbrev pub invariant-loop-block : goal.invariant-loop-block
invariant-loop-block l = l.list.items ≡ variables_among (flat_map (λ (b : Block). b.insts) (take l.block-index l.function.blocks))
