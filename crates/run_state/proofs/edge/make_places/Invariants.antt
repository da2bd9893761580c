use Rattle.std.proofs.Common.{◌≡◌, ◌<◌, ℕ}
use Rattle.std.specs.Prelude.{IfSome, IsSome, slice_get}
use Rattle.std.specs.BTreeMap.{get}
use Rattle.std.specs.Ordering.{nat_cmp}
use Rattle.spv_module.specs.declared.inst.Inst.{Inst}
use Rattle.run_state.specs.Ids.{ids_of}
use Rattle.run_state.proofs.edge.make_places.Given as goal

abbrev pub invariant-loop-phi : goal.invariant-loop-phi
invariant-loop-phi l = record {
  same : (q : ℕ) → ids_of l.ids q ≡ ids_of l.initial.ids q;
  places : (k : ℕ) → k < l.phi-index → IfSome (slice_get l.phis k) (λ (i : Inst). IsSome (get nat_cmp l.ids i.result));
}
