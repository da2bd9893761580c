use Rattle.std.proofs.Common.{◌≡◌, ◌++◌, List, drop, map}
use Rattle.std.specs.Prelude.{option_map}
use Rattle.spv_types.specs.Tree.{ValueTree}
use Rattle.spv_types.specs.View.{value_of}
use Rattle.op_semantics.specs.Component.{each_one}
use Rattle.op_semantics.specs.Composite.{picked}
use Rattle.value_ops.specs.References.{referred}
use Rattle.value_ops.proofs.shuffle.picked_parts.Given as goal

abbrev pub invariant-loop-pick : goal.invariant-loop-pick
invariant-loop-pick l = option_map (λ (rest : List ValueTree). referred l.parts.items ++ rest) (each_one (picked (value_of l.zero) (map value_of l.firsts ++ map value_of l.seconds)) (drop l.pick-index l.picks)) ≡ each_one (picked (value_of l.zero) (map value_of l.firsts ++ map value_of l.seconds)) l.picks
