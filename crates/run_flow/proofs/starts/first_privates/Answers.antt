use Rattle.module_semantics.specs.Accesses.{initial_private}
use Rattle.memory_places.specs.Kernel.{plain}
use Rattle.run_state.specs.Ids.{variables_of}
use Rattle.run_flow.proofs.Entries.{begun_all, no_initial_private}
use Rattle.run_flow.proofs.starts.first_privates.Goals as goal

pub returns : goal.returns
returns c = λ q. begun_all (initial_private (plain c.args.map.now)) c.args.ids.now c.loop-id.id-index (variables_of c.loop-id.variables) q c.loop-id-test.false (c.loop-id.invariant q) (no_initial_private (plain c.args.map.now) c.args.ids.now q c.requires)
