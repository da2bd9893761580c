use Rattle.std.proofs.Common.{◌≡◌, ℕ, take}
use Rattle.std.specs.List.{list_any, flat_map}
use Rattle.id_map.specs.Entries.{is_in}
use Rattle.spv_module.specs.declared.inst.Block.{Block}
use Rattle.run_flow.specs.Chains.{is_chain_on}
use Rattle.run_flow.proofs.routine.bases_of.Given as goal

abbrev pub invariant-loop-block : goal.invariant-loop-block
invariant-loop-block l = (id : ℕ) → is_in l.bases id ≡ list_any (is_chain_on id) (flat_map (λ (b : Block). b.insts) (take l.block-index l.function.blocks))
