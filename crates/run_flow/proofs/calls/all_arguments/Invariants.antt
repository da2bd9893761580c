use Rattle.std.proofs.Common.{◌≡◌, ◌++◌, List, drop, length}
use Rattle.std.specs.Prelude.{option_map}
use Rattle.op_semantics.specs.Component.{each_one}
use Rattle.module_semantics.specs.State.{Held}
use Rattle.run_state.specs.Ids.{ids_of}
use Rattle.run_flow.specs.Flow.{all_held, passed_by}
use Rattle.run_flow.proofs.calls.all_arguments.Given as goal

abbrev pub invariant-loop-id : goal.invariant-loop-id
invariant-loop-id l = option_map (λ (rest : List Held). all_held l.all.items ++ rest) (each_one (passed_by l.site.map.now (ids_of l.conf.top.ids) (length l.conf.below.items)) (drop l.id-index l.list)) ≡ each_one (passed_by l.site.map.now (ids_of l.conf.top.ids) (length l.conf.below.items)) l.list
