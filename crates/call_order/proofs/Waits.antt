-- For each function a call of one that is not listed, one call after another.
use Rattle.std.proofs.Common.{◌≡◌, ◌<◌, ◌+◌, ℕ, List, Option, None, Some, length, set, get_or, take, refl, sym, ◌∙◌, inl, inr, arith, IsSome, IsSomeAnd, IfSome, Contains, length-set}
use Rattle.std.proofs.lemmas.List.{get_or-set_same, get_or-set_other}
use Rattle.std.proofs.lemmas.List.Elements.{Contains-get_or}
use Rattle.std.proofs.lemmas.Bool.Decides.{eqb_tells}
use Rattle.call_order.specs.declared.graph.Call.{Call}
use Rattle.call_order.specs.Graph.{Edge}
use Rattle.call_order.proofs.Walks.{reaches_map}
use Rattle.call_order.proofs.Counts.{contains_more}
use Rattle.call_order.specs.Cycle.{wait_of, AreWaits, WaitEdge, ClosesCycle, IsOnCycle}

-- a call that is not kept
pub waits_past : (calls : List Call) (i : ℕ) (d : Call) (missing : List ℕ) (waits : List (Option Call)) → i < length calls → (0 < get_or missing (get_or calls i d).callee 0 → ⊥) → AreWaits calls (take i calls) missing waits → AreWaits calls (take (i + 1) calls) missing waits
waits_past calls i d missing waits inside listed so_far = record {
  size = so_far.size;
  sound = so_far.sound;
  complete = λ c here some.
      elim (contains_more calls i d c inside here) [
        | inl old ↦ so_far.complete c old some
        | inr new ↦ absurd (listed (rw new some))
      ];
}

set_some : (waits : List (Option Call)) (p q : ℕ) (c : Call) → p < length waits → IsSome (wait_of waits q) → IsSome (wait_of (set waits p (Some c)) q)
set_some waits p q c inside some =
    elim (eqb_tells p q) [
      | inl w ↦ rw (← w.1, get_or-set_same waits p (Some c) None inside) refl
      | inr w ↦ rw (get_or-set_other waits p q (Some c) None (λ e. w.1 (sym e))) some
    ]

-- a call that is kept
pub waits_put : (calls : List Call) (i : ℕ) (d : Call) (missing : List ℕ) (waits : List (Option Call)) → i < length calls → (get_or calls i d).caller < length missing → 0 < get_or missing (get_or calls i d).callee 0 → AreWaits calls (take i calls) missing waits
    → AreWaits calls (take (i + 1) calls) missing (set waits (get_or calls i d).caller (Some (get_or calls i d)))
waits_put calls i d missing waits inside below open_here so_far =
    let call = get_or calls i d in
    let fits : call.caller < length waits = omega (arith, below, so_far.size) in
    record {
      size = length-set waits call.caller (Some call) ∙ so_far.size;
      sound = λ p.
          elim (eqb_tells call.caller p) [
            | inl w ↦ rw (← w.1, get_or-set_same waits call.caller (Some call) None fits) (Contains-get_or calls i d inside, refl, open_here)
            | inr w ↦ rw (get_or-set_other waits call.caller p (Some call) None (λ e. w.1 (sym e))) (so_far.sound p)
          ];
      complete = λ c here some.
          elim (contains_more calls i d c inside here) [
            | inl old ↦ set_some waits call.caller c.caller call fits (so_far.complete c old some)
            | inr new ↦ rw (← new, get_or-set_same waits call.caller (Some call) None fits) refl
          ];
    }

edge_by : (calls : List Call) (missing : List ℕ) (o : Option Call) (p q : ℕ) → IfSome o (λ c. Contains calls c × (c.caller ≡ p) × (0 < get_or missing c.callee 0)) → IsSomeAnd o (λ c. c.callee ≡ q) → Edge calls p q
edge_by calls missing None p q own edge = absurd edge
edge_by calls missing (Some c) p q own edge = (c, own.0, own.1, edge)

-- what closes a cycle of calls that are kept is on a cycle of calls
pub on_cycle : (calls : List Call) (missing : List ℕ) (waits : List (Option Call)) (c : Call) → AreWaits calls calls missing waits → ClosesCycle waits c → IsOnCycle calls c
on_cycle calls missing waits c known closes =
    let own = rw closes.0 at (known.sound c.caller) in
    (own.0, reaches_map (WaitEdge waits) (Edge calls) (λ p q edge. edge_by calls missing (wait_of waits p) p q (known.sound p) edge) c.callee c.caller closes.1)
