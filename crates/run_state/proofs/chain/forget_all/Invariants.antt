use Rattle.std.proofs.Common.{◌≡◌, ℕ, drop}
use Rattle.run_state.specs.Ids.{ids_of}
use Rattle.run_state.proofs.Based.{forgotten}
use Rattle.run_state.proofs.chain.forget_all.Given as goal

abbrev pub invariant-loop-id : goal.invariant-loop-id
invariant-loop-id l = (q : ℕ) → forgotten l.but (ids_of l.ids) (drop l.id-index l.list) q ≡ forgotten l.but (ids_of l.initial.ids) l.list q
