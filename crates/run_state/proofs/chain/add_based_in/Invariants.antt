use Rattle.std.proofs.Common.{◌≡◌, drop}
use Rattle.module_semantics.specs.Steps.{based_among}
use Rattle.module_semantics.specs.Setting.{is_listed}
use Rattle.run_state.proofs.chain.add_based_in.Given as goal

abbrev pub invariant-loop-inst : goal.invariant-loop-inst
invariant-loop-inst l = based_among l.chain (is_listed l.based.items) (drop l.inst-index l.insts) ≡ based_among l.chain (is_listed l.initial.based.items) l.insts
