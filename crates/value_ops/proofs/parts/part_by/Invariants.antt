use Rattle.std.proofs.Common.{◌≡◌, drop}
use Rattle.spv_types.specs.View.{value_of}
use Rattle.op_semantics.specs.Composite.{extracted}
use Rattle.value_ops.proofs.parts.part_by.Given as goal

abbrev pub invariant-loop-index : goal.invariant-loop-index
invariant-loop-index l = extracted (drop l.index-index l.indexes) (value_of l.part) ≡ extracted l.indexes (value_of l.whole)
