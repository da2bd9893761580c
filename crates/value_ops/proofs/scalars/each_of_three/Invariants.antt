use Rattle.std.proofs.Common.{◌≡◌, ◌++◌, List, drop, map, length}
use Rattle.std.specs.Prelude.{option_map}
use Rattle.spv_types.specs.Tree.{ValueTree}
use Rattle.spv_types.specs.View.{value_of}
use Rattle.op_semantics.specs.Component.{each_three}
use Rattle.value_ops.specs.Scalars.{three_values}
use Rattle.value_ops.proofs.scalars.each_of_three.Given as goal

abbrev pub invariant-loop-i : goal.invariant-loop-i
invariant-loop-i l = record {
  whole : length l.firsts ≡ length l.seconds;
  whole_too : length l.seconds ≡ length l.thirds;
  rest : option_map (λ (rest : List ValueTree). map value_of l.results.items ++ rest) (each_three (three_values l.op) (map value_of (drop l.i l.firsts)) (map value_of (drop l.i l.seconds)) (map value_of (drop l.i l.thirds))) ≡ each_three (three_values l.op) (map value_of l.firsts) (map value_of l.seconds) (map value_of l.thirds);
}
