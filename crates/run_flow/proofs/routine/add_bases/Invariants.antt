use Rattle.std.proofs.Common.{◌≡◌, ◌||◌, ℕ, take}
use Rattle.std.specs.List.{list_any}
use Rattle.id_map.specs.Entries.{is_in}
use Rattle.run_flow.specs.Chains.{is_chain_on}
use Rattle.run_flow.proofs.routine.add_bases.Given as goal

abbrev pub invariant-loop-inst : goal.invariant-loop-inst
invariant-loop-inst l = (id : ℕ) → is_in l.bases id ≡ (is_in l.initial.bases id || list_any (is_chain_on id) (take l.inst-index l.insts))
