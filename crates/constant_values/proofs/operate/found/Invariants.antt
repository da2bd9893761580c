use Rattle.std.proofs.Common.{◌≡◌, ◌++◌, List, drop}
use Rattle.std.specs.Prelude.{option_map}
use Rattle.spv_types.specs.Tree.{ValueTree}
use Rattle.op_semantics.specs.Component.{each_one}
use Rattle.value_ops.specs.References.{referred}
use Rattle.constant_values.specs.Held.{value_in}
use Rattle.constant_values.proofs.operate.found.Given as goal

abbrev pub invariant-loop-id : goal.invariant-loop-id
invariant-loop-id l = option_map (λ (rest : List ValueTree). referred l.all.items ++ rest) (each_one (value_in l.values) (drop l.id-index l.ids)) ≡ each_one (value_in l.values) l.ids
