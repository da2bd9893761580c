use Rattle.std.proofs.Common.{◌≡◌, false, drop}
use Rattle.module_semantics.specs.Steps.{based_among}
use Rattle.module_semantics.specs.Setting.{is_listed}
use Rattle.run_state.proofs.Based.{insts_in}
use Rattle.run_state.proofs.chain.based_on.Given as goal

abbrev pub invariant-loop-block : goal.invariant-loop-block
invariant-loop-block l = based_among l.chain (is_listed l.based.items) (insts_in (drop l.block-index l.locals.blocks)) ≡ based_among l.chain (λ id. false) (insts_in l.locals.blocks)
