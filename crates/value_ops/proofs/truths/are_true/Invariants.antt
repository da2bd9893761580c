use Rattle.std.proofs.Common.{◌≡◌}
use Rattle.std.specs.Prelude.{option_map}
use Rattle.value_ops.specs.Quantity.{over}
use Rattle.value_ops.proofs.Quantified.{truths_from, known_with}
use Rattle.value_ops.proofs.truths.are_true.Given as goal

abbrev pub invariant-loop-value : goal.invariant-loop-value
invariant-loop-value l = option_map (known_with l.quantity l.known) (truths_from l.values l.value-index) ≡ option_map (over l.quantity) (truths_from l.values 0)
