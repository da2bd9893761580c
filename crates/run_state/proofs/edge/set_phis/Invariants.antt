use Rattle.std.proofs.Common.{◌≡◌, ◌≤◌, length, take, map}
use Rattle.spv_types.specs.View.{value_of}
use Rattle.module_semantics.specs.Steps as steps
use Rattle.run_state.specs.Ids.{ids_of, HavePlaces}
use Rattle.run_state.proofs.edge.set_phis.Given as goal

abbrev pub invariant-loop-value : goal.invariant-loop-value
invariant-loop-value l = record {
  within : length l.left.items ≤ length l.phis;
  places : HavePlaces l.ids l.phis;
  rest : steps.with_phis (take (length l.left.items) l.phis) (map value_of l.left.items) (ids_of l.ids) ≡ steps.with_phis l.phis (map value_of l.fn.values.items) (ids_of l.fn.ids);
}

abbrev pub decreases-loop-value : goal.decreases-loop-value
decreases-loop-value l = goal.left-loop-value l
