use Rattle.std.proofs.Common.{◌≡◌, drop}
use Rattle.op_semantics.specs.Fits.{each_fits, elem_tree}
use Rattle.value_ops.proofs.Values.{plain}
use Rattle.constant_values.proofs.fitting.are_elems.Given as goal

abbrev pub invariant-loop-value : goal.invariant-loop-value
invariant-loop-value l = each_fits (elem_tree l.elem) (plain (drop l.value-index l.values)) ≡ each_fits (elem_tree l.elem) (plain l.values)
