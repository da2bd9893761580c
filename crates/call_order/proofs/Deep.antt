-- Depths, from the last function of the order to the first.
use Rattle.std.proofs.Common.{◌≡◌, ◌≢◌, ◌<◌, ◌≤◌, ◌+◌, ◌==◌, ℕ, zero, suc, Bool, true, cond, List, length, take, set, get_or, ap, sym, ◌∙◌, inl, inr, arith, max, ◌-◌, length-set}
use Rattle.std.proofs.lemmas.List.{get_or-set_same, get_or-set_other}
use Rattle.std.proofs.lemmas.Bool.Decides.{nat_tests, eqb_tells, leb_tells}
use Rattle.spv_words.specs.Limit.{limit_number}
use Rattle.spv_words.specs.declared.rule.Limit.TheVariants.{Calls as CallLimit}
use Rattle.profile_rules.specs.Calls.{Leads}
use Rattle.call_order.specs.declared.graph.Call.{Call}
use Rattle.call_order.specs.Graph.{Edge, AreBelow, is_in, callers}
use Rattle.call_order.specs.Listing.{IsListing}
use Rattle.call_order.specs.Depths.{IsDeepest, IsDepth, AreDepths, IsTooDeep}
use Rattle.call_order.proofs.Counts.{contains_more, contains_before, contains_here}
use Rattle.call_order.proofs.Listed.{once, caller_behind, caller_edge, edge_caller, edge_below, place_in}

abbrev as_number : Bool → ℕ
as_number b = cond b 1 0

-- the depths of the functions that stand in the order from place k on; those before are as at first
pub record AreDepthsFrom (calls : List Call) (n entry : ℕ) (order : List ℕ) (k : ℕ) (depths : List ℕ) : Type 0 where
  pub size : length depths ≡ n
  pub small : (p : ℕ) → get_or depths p 0 ≤ limit_number CallLimit
  pub done : (j : ℕ) → k ≤ j → j < length order → IsDepth (Edge calls) entry (get_or order j 0) (get_or depths (get_or order j 0) 0)
  pub first : (j : ℕ) → j < k → j < length order → get_or depths (get_or order j 0) 0 ≡ cond (get_or order j 0 == entry) 1 0

-- one more caller, that is reached
pub deepest_more : (callers depths : List ℕ) (i deepest : ℕ) → i < length callers → IsDeepest (take i callers) depths deepest → 0 < get_or depths (get_or callers i 0) 0 → IsDeepest (take (i + 1) callers) depths (max deepest (get_or depths (get_or callers i 0) 0 + 1))
deepest_more callers depths i deepest inside so_far reached =
    let c = get_or callers i 0 in
    record {
      most = λ p here above.
          elim (contains_more callers i 0 p inside here) [
            | inl old ↦ omega (arith, so_far.most p old above)
            | inr new ↦ let at : get_or depths c 0 ≡ get_or depths p 0 = ap (λ k. get_or depths k 0) new in omega (arith, at)
          ];
      some = λ above.
          elim (leb_tells deepest (get_or depths c 0 + 1)) [
            | inl w ↦ (c, contains_here callers i 0 inside, reached, omega (arith, w.1))
            | inr w ↦
                let old = so_far.some (omega (arith, w.1)) in
                (old.0, contains_before callers i 0 old.0 inside old.1, old.2, omega (arith, w.1, old.3))
          ];
    }

-- one more, that is not
pub deepest_past : (callers depths : List ℕ) (i deepest : ℕ) → i < length callers → IsDeepest (take i callers) depths deepest → get_or depths (get_or callers i 0) 0 ≤ 0 → IsDeepest (take (i + 1) callers) depths deepest
deepest_past callers depths i deepest inside so_far none = record {
  most = λ p here above.
      elim (contains_more callers i 0 p inside here) [
        | inl old ↦ so_far.most p old above
        | inr new ↦ let at : get_or depths (get_or callers i 0) 0 ≡ get_or depths p 0 = ap (λ k. get_or depths k 0) new in absurd (omega (arith, at, none, above))
      ];
  some = λ above.
      let old = so_far.some above in
      (old.0, contains_before callers i 0 old.0 inside old.1, old.2, old.3);
}

-- no chain to a function is longer than one more than those to its callers
most_of : (calls : List Call) (entry p own deepest depth : ℕ) (depths : List ℕ) → own ≡ as_number (p == entry) → ((q : ℕ) → Edge calls q p → IsDepth (Edge calls) entry q (get_or depths q 0))
    → IsDeepest (callers calls p) depths deepest → depth ≡ max deepest own → (m : ℕ) → Leads (Edge calls) m entry p → m + 1 ≤ depth
most_of calls entry p own deepest depth depths first known is_deepest is zero h =
    let same : (p == entry) ≡ true = grind (arith, nat_tests, h) in
    let one = first ∙ ap as_number same in
    omega (arith, one, is)
most_of calls entry p own deepest depth depths first known is_deepest is (suc m) h =
    let before = (known h.0 h.2).most m h.1 in
    let next = is_deepest.most h.0 (edge_caller calls h.0 p h.2) (omega (arith, before)) in
    omega (arith, before, next, is)

-- and some chain is as long
some_of : (calls : List Call) (entry p own deepest depth : ℕ) (depths : List ℕ) → own ≡ as_number (p == entry) → ((q : ℕ) → Edge calls q p → IsDepth (Edge calls) entry q (get_or depths q 0))
    → IsDeepest (callers calls p) depths deepest → depth ≡ max deepest own → 0 < depth → (m : ℕ) × (depth ≡ m + 1) × Leads (Edge calls) m entry p
some_of calls entry p own deepest depth depths first known is_deepest is above =
    elim (leb_tells deepest own) [
      | inl w ↦
          elim (eqb_tells p entry) [
            | inl e ↦ let one = first ∙ ap as_number e.0 in (0, omega (arith, one, is, w.1), sym e.1)
            | inr e ↦ let none = first ∙ ap as_number e.0 in absurd (omega (arith, none, is, w.1, above))
          ]
      | inr w ↦
          let from = is_deepest.some (omega (arith, w.1)) in
          let edge = caller_edge calls from.0 p from.1 in
          let before = (known from.0 edge).some from.2 in
          (suc before.0, omega (arith, w.1, is, from.3, before.1), (from.0, before.2, edge))
    ]

-- the depth of a function, from those of its callers
pub depth_of : (calls : List Call) (n entry : ℕ) (order : List ℕ) (k : ℕ) (depths : List ℕ) (deepest depth : ℕ)
    → IsListing calls n order → ((p : ℕ) → p < n → is_in order p ≡ true) → AreBelow n calls
    → 0 < k → k ≤ length order → AreDepthsFrom calls n entry order k depths
    → IsDeepest (callers calls (get_or order (k - 1) 0)) depths deepest
    → depth ≡ max deepest (get_or depths (get_or order (k - 1) 0) 0)
    → IsDepth (Edge calls) entry (get_or order (k - 1) 0) depth
depth_of calls n entry order k depths deepest depth listing listed below some inside so_far is_deepest is =
    let p = get_or order (k - 1) 0 in
    let own = so_far.first (k - 1) (omega (arith, some)) (omega (arith, some, inside)) in
    let known : (q : ℕ) → Edge calls q p → IsDepth (Edge calls) entry q (get_or depths q 0) = λ q edge.
    let small = (edge_below calls n q p below edge).0 in
    let at = caller_behind calls n order (k - 1) q listing (omega (arith, some, inside)) (listed q small) edge in
    rw at.3 at (so_far.done at.0 (omega (arith, at.1, some)) at.2) in
    record {
      most = most_of calls entry p (get_or depths p 0) deepest depth depths own known is_deepest is;
      some = some_of calls entry p (get_or depths p 0) deepest depth depths own known is_deepest is;
    }

-- one function more
pub depths_more : (calls : List Call) (n entry : ℕ) (order : List ℕ) (k : ℕ) (depths : List ℕ) (depth : ℕ)
    → IsListing calls n order → 0 < k → k ≤ length order → AreDepthsFrom calls n entry order k depths
    → IsDepth (Edge calls) entry (get_or order (k - 1) 0) depth → depth ≤ limit_number CallLimit
    → AreDepthsFrom calls n entry order (k - 1) (set depths (get_or order (k - 1) 0) depth)
depths_more calls n entry order k depths depth listing some inside so_far is small =
    let p = get_or order (k - 1) 0 in
    let below : p < n = (listing (k - 1) (omega (arith, some, inside))).ready.below in
    let fits : p < length depths = omega (arith, below, so_far.size) in
    let here : get_or (set depths p depth) p 0 ≡ depth = get_or-set_same depths p depth 0 fits in
    let apart : (j : ℕ) → j < length order → j ≢ k - 1 → get_or (set depths p depth) (get_or order j 0) 0 ≡ get_or depths (get_or order j 0) 0 = λ j inside_j other.
    get_or-set_other depths p (get_or order j 0) depth 0 (λ e. other (once calls n order j (k - 1) listing inside_j (omega (arith, some, inside)) e)) in
    record {
      size = length-set depths p depth ∙ so_far.size;
      small = λ q.
          elim (eqb_tells q p) [
            | inl w ↦ let at : get_or (set depths p depth) q 0 ≡ depth = rw w.1 here in omega (arith, at, small)
            | inr w ↦ let at = get_or-set_other depths p q depth 0 w.1 in omega (arith, at, so_far.small q)
          ];
      done = λ j past inside_j.
          elim (eqb_tells j (k - 1)) [
            | inl w ↦ rw (w.1, here) is
            | inr w ↦ rw (apart j inside_j w.1) (so_far.done j (omega (arith, w.1, past, some)) inside_j)
          ];
      first = λ j before inside_j. apart j inside_j (omega (arith, before)) ∙ so_far.first j (omega (arith, before)) inside_j;
    }

-- all functions
pub depths_all : (calls : List Call) (n entry : ℕ) (order : List ℕ) (depths : List ℕ) → ((p : ℕ) → p < n → is_in order p ≡ true) → AreDepthsFrom calls n entry order 0 depths → AreDepths calls n entry depths
depths_all calls n entry order depths listed so_far = record {
  size = so_far.size;
  small = so_far.small;
  depth = λ p inside.
      let at = place_in order p (listed p inside) in
      rw at.2 at (so_far.done at.0 (omega arith) at.1);
}

-- a function that is too deep
pub too_deep : (calls : List Call) (entry p depth : ℕ) → IsDepth (Edge calls) entry p depth → limit_number CallLimit < depth → IsTooDeep calls entry
too_deep calls entry p depth is above =
    let chain = is.some (omega (arith, above)) in
    (chain.0, p, omega (arith, chain.1, above), chain.2)
