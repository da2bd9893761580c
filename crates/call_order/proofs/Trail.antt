-- From call to call, until a function is met again.
use Rattle.std.proofs.Common.{◌≡◌, ℕ, suc, Bool, true, false, cond, List, Option, None, Some, length, set, get_or, refl, ap, sym, ◌∙◌, inl, inr, IsSome, IfSome, length-set, unwrap_or}
use Rattle.std.proofs.lemmas.List.{get_or-set_other}
use Rattle.std.proofs.lemmas.Bool.Decides.{eqb_tells}
use Rattle.profile_rules.specs.Calls.{Reaches}
use Rattle.call_order.specs.declared.graph.Call.{Call}
use Rattle.call_order.specs.Cycle.{wait_of, AreLinked, WaitEdge}

-- the call is kept, and from each function met the calls lead to the one that makes it
pub record IsTrail (waits : List (Option Call)) (seen : List Bool) (call : Call) : Type 0 where
  pub size : length seen ≡ length waits
  pub kept : wait_of waits call.caller ≡ Some call
  pub trail : (p : ℕ) → get_or seen p false ≡ true → IfSome (wait_of waits p) (λ c. Reaches (WaitEdge waits) c.callee call.caller)

abbrev as_number : Bool → ℕ
as_number b = cond b 1 0

-- one call more
extended : (waits : List (Option Call)) (call next : Call) (o : Option Call) → wait_of waits call.caller ≡ Some call → next.caller ≡ call.callee → IfSome o (λ c. Reaches (WaitEdge waits) c.callee call.caller) → IfSome o (λ c. Reaches (WaitEdge waits) c.callee next.caller)
extended waits call next None kept linked known = tt
extended waits call next (Some c) kept linked known =
    let step : WaitEdge waits call.caller next.caller = rw kept (sym linked) in
    (suc known.0, (call.caller, known.1, step))

go_on : (waits : List (Option Call)) (seen : List Bool) (call next : Call) → IsTrail waits seen call → next.caller ≡ call.callee → wait_of waits call.callee ≡ Some next → IsTrail waits (set seen call.caller true) next
go_on waits seen call next so_far linked kept = record {
  size = length-set seen call.caller true ∙ so_far.size;
  kept = ap (wait_of waits) linked ∙ kept;
  trail = λ p met.
      elim (eqb_tells call.caller p) [
        | inl w ↦ rw (← w.1, so_far.kept) (0, sym linked)
        | inr w ↦
            let before : get_or seen p false ≡ true = sym (get_or-set_other seen call.caller p true false (λ e. w.1 (sym e))) ∙ met in
            extended waits call next (wait_of waits p) so_far.kept linked (so_far.trail p before)
      ];
}

step_by : (waits : List (Option Call)) (seen : List Bool) (call : Call) (o : Option Call) → wait_of waits call.callee ≡ o → IsTrail waits seen call → IfSome o (λ c. (c.caller ≡ call.callee) × IsSome (wait_of waits c.callee)) → IsSome o → IsTrail waits (set seen call.caller true) (unwrap_or o call)
step_by waits seen call None is so_far linked some = cc
step_by waits seen call (Some next) is so_far linked some = go_on waits seen call next so_far linked.0 is

pub trail_step : (waits : List (Option Call)) (seen : List Bool) (call next : Call) → AreLinked waits → IsTrail waits seen call → next ≡ unwrap_or (wait_of waits call.callee) call → IsTrail waits (set seen call.caller true) next
trail_step waits seen call next linked so_far is =
    let own = rw so_far.kept at (linked call.caller) in
    rw is (step_by waits seen call (wait_of waits call.callee) refl so_far (linked call.callee) own.1)
