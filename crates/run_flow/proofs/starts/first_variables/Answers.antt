use Rattle.module_semantics.specs.Accesses.{initial_in}
use Rattle.memory_places.specs.Kernel.{plain}
use Rattle.run_state.specs.Ids.{variables_of}
use Rattle.run_flow.proofs.Entries.{begun_all, no_initial_in}
use Rattle.run_flow.proofs.starts.first_variables.Goals as goal

pub returns : goal.returns
returns c = λ q. begun_all (initial_in (plain c.args.map.now) c.args.locals.now) c.args.ids.now c.loop-id.id-index (variables_of c.loop-id.variables) q c.loop-id-test.false (c.loop-id.invariant q) (no_initial_in (plain c.args.map.now) c.args.locals.now c.args.ids.now q c.requires)
