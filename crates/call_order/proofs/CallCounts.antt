-- The calls of each function are counted, one call after another.
use Rattle.std.proofs.Common.{◌≡◌, ◌<◌, ◌≤◌, ◌+◌, ℕ, true, false, List, [], length, take, set, get_or, refl, ap, sym, ◌∙◌, inl, inr, arith, length-set}
use Rattle.std.proofs.lemmas.List.{get_or-set_same, get_or-set_other, length-take-le}
use Rattle.std.proofs.lemmas.List.Sums.{count_by_more_yes, count_by_more_no, count_by-le-length}
use Rattle.std.proofs.lemmas.Bool.Decides.{eqb_tells}
use Rattle.call_order.specs.declared.graph.Call.{Call}
use Rattle.call_order.specs.Graph.{is_open, open_calls}
use Rattle.call_order.specs.Listing.{AreCounts}

-- no function makes more calls than there are
pub few_calls : (calls : List Call) (i p : ℕ) → i ≤ length calls → open_calls (take i calls) [] p ≤ i
few_calls calls i p inside = omega (arith, count_by-le-length (is_open [] p) (take i calls), length-take-le i calls inside)

-- one more call
pub counts_more : (calls : List Call) (n i : ℕ) (counts : List ℕ) (d : Call) (v : ℕ) → i < length calls → (get_or calls i d).caller < n → AreCounts (take i calls) n counts → v ≡ get_or counts (get_or calls i d).caller 0
    → AreCounts (take (i + 1) calls) n (set counts (get_or calls i d).caller (v + 1))
counts_more calls n i counts d v inside below so_far was =
    let c = (get_or calls i d).caller in
    let fits : c < length counts = omega (arith, below, so_far.size) in
    record {
      size = length-set counts c (v + 1) ∙ so_far.size;
      counts_are = λ p small.
          elim (eqb_tells c p) [
            | inl w ↦
                let yes : is_open [] p (get_or calls i d) ≡ true = rw w.0 refl in
                let more = count_by_more_yes (is_open [] p) calls i d inside yes in
                let now : get_or (set counts c (v + 1)) p 0 ≡ v + 1 = rw (← w.1) (get_or-set_same counts c (v + 1) 0 fits) in
                let old : v ≡ get_or counts p 0 = was ∙ ap (λ k. get_or counts k 0) w.1 in
                omega (arith, now, old, more, so_far.counts_are p small)
            | inr w ↦
                let no : is_open [] p (get_or calls i d) ≡ false = rw w.0 refl in
                let more = count_by_more_no (is_open [] p) calls i d inside no in
                let now : get_or (set counts c (v + 1)) p 0 ≡ get_or counts p 0 = get_or-set_other counts c p (v + 1) 0 (λ e. w.1 (sym e)) in
                now ∙ so_far.counts_are p small ∙ sym more
          ];
    }
