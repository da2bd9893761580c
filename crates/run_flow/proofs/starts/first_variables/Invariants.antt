use Rattle.std.proofs.Common.{◌≡◌, ℕ, drop}
use Rattle.std.specs.Prelude.{None}
use Rattle.module_semantics.specs.Accesses.{initial_in}
use Rattle.memory_places.specs.Kernel.{plain}
use Rattle.run_state.specs.Ids.{variables_of}
use Rattle.run_flow.specs.Begun.{begun_in}
use Rattle.run_flow.proofs.starts.first_variables.Given as goal

abbrev pub invariant-loop-id : goal.invariant-loop-id
invariant-loop-id l = (q : ℕ) → begun_in (initial_in (plain l.map) l.locals) (drop l.id-index l.ids) (variables_of l.variables) q ≡ begun_in (initial_in (plain l.map) l.locals) l.ids (λ id. None) q
