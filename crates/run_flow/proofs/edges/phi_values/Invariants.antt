use Rattle.std.proofs.Common.{◌≡◌, ◌++◌, List, drop}
use Rattle.std.specs.Prelude.{option_map}
use Rattle.spv_types.specs.Tree.{ValueTree}
use Rattle.op_semantics.specs.Component.{each_one}
use Rattle.run_state.specs.Ids.{ids_of}
use Rattle.run_flow.specs.Flow.{values_of, phi_by}
use Rattle.run_flow.proofs.edges.phi_values.Given as goal

abbrev pub invariant-loop-phi : goal.invariant-loop-phi
invariant-loop-phi l = option_map (λ (rest : List ValueTree). values_of l.all.items ++ rest) (each_one (phi_by l.map (ids_of l.ids) l.from) (drop l.phi-index l.phis)) ≡ each_one (phi_by l.map (ids_of l.ids) l.from) l.phis
