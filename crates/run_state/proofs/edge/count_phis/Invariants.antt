use Rattle.std.proofs.Common.{◌≡◌, ◌+◌, length, drop}
use Rattle.std.specs.Prelude.{take_while}
use Rattle.module_semantics.specs.Steps as steps
use Rattle.run_state.proofs.edge.count_phis.Given as goal

abbrev pub invariant-loop-inst : goal.invariant-loop-inst
invariant-loop-inst l = record {
  so_far : l.count ≡ l.inst-index;
  rest : l.count + length (take_while steps.is_phi (drop l.inst-index l.insts)) ≡ length (take_while steps.is_phi l.insts);
}
