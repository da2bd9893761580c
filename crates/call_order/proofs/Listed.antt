-- What stands before what in the order.
use Rattle.std.proofs.Common.{◌≡◌, ◌<◌, ◌≤◌, ◌+◌, ◌==◌, ℕ, zero, suc, true, false, cond, List, [], ◌∷◌, map, filter, length, take, get_or, refl, ap, sym, ◌∙◌, inl, inr, arith, Contains}
use Rattle.std.proofs.lemmas.List.{get_or-take, length-take-le}
use Rattle.std.proofs.lemmas.List.Folds.{list_any_at}
use Rattle.std.proofs.lemmas.List.Elements.{All-map, All-filter, All-contains, All-contains_itself, filter_passes}
use Rattle.std.proofs.lemmas.Bool.Decides.{nat_tests, eqb_tells, leb_tells}
use Rattle.profile_rules.specs.Calls.{Leads, Reaches}
use Rattle.call_order.specs.declared.graph.Call.{Call}
use Rattle.call_order.specs.Graph.{is_in, is_to, callers, Edge, AreBelow}
use Rattle.call_order.specs.Listing.{IsListing}
use Rattle.call_order.proofs.Counts.{open_none}

-- what is listed stands at a place
pub place_in : (order : List ℕ) (p : ℕ) → is_in order p ≡ true → (j : ℕ) × (j < length order) × (get_or order j 0 ≡ p)
place_in [] p h = cc
place_in (x ∷ xs) p h =
    let later = place_in xs p in
    elim (eqb_tells x p) [
      | inl w ↦ (0, omega arith, w.1)
      | inr w ↦
          let rest : is_in xs p ≡ true = grind (arith, nat_tests, w.1, h) in
          let found = later rest in
          (suc found.0, omega (arith, found.1), found.2)
    ]

-- and what stands at a place is listed
pub in_at : (order : List ℕ) (j : ℕ) → j < length order → is_in order (get_or order j 0) ≡ true
in_at order j inside = list_any_at (λ x. x == get_or order j 0) order j 0 inside (grind (arith, nat_tests))

pub place_in_front : (order : List ℕ) (k p : ℕ) → k ≤ length order → is_in (take k order) p ≡ true → (j : ℕ) × (j < k) × (get_or order j 0 ≡ p)
place_in_front order k p inside h =
    let found = place_in (take k order) p h in
    let small : found.0 < k = omega (arith, found.1, length-take-le k order inside) in
    (found.0, small, sym (get_or-take k order found.0 0 small) ∙ found.2)

pub in_front_at : (order : List ℕ) (k j : ℕ) → j < k → k ≤ length order → is_in (take k order) (get_or order j 0) ≡ true
in_front_at order k j before inside =
    let e : get_or (take k order) j 0 ≡ get_or order j 0 = get_or-take k order j 0 before in
    rw (← e) (in_at (take k order) j (omega (arith, before, length-take-le k order inside)))

-- no function stands twice in the order
pub once : (calls : List Call) (n : ℕ) (order : List ℕ) (i j : ℕ) → IsListing calls n order → i < length order → j < length order → get_or order i 0 ≡ get_or order j 0 → i ≡ j
once calls n order i j listing inside_i inside_j same =
    elim (eqb_tells i j) [
      | inl w ↦ w.1
      | inr w ↦
          elim (leb_tells i j) [
            | inl le ↦
                let was = in_front_at order j i (omega (arith, w.1, le.1)) (omega (arith, inside_j)) in
                let free = (listing j inside_j).ready.unlisted in
                let was_same : is_in (take j order) (get_or order j 0) ≡ true = rw (← same) was in
                cc
            | inr gt ↦
                let was = in_front_at order i j (omega (arith, gt.1)) (omega (arith, inside_i)) in
                let free = (listing i inside_i).ready.unlisted in
                let was_same : is_in (take i order) (get_or order i 0) ≡ true = rw same was in
                cc
          ]
    ]

-- who calls and who is called is a function
pub edge_below : (calls : List Call) (n p q : ℕ) → AreBelow n calls → Edge calls p q → (p < n) × (q < n)
edge_below calls n p q below edge =
    let own = All-contains (λ (c : Call). (c.caller < n) × (c.callee < n)) calls edge.0 below edge.1 in
    (omega (arith, own.0, edge.2), omega (arith, own.1, edge.3))

-- what a function calls stands before it
pub callee_before : (calls : List Call) (n : ℕ) (order : List ℕ) (j q : ℕ) → IsListing calls n order → j < length order → Edge calls (get_or order j 0) q → (i : ℕ) × (i < j) × (get_or order i 0 ≡ q)
callee_before calls n order j q listing inside edge =
    let before = open_none calls (take j order) (get_or order j 0) edge.0 (listing j inside).ready.closed edge.1 edge.2 in
    place_in_front order j q (omega (arith, inside)) (rw edge.3 at before)

-- what calls a function stands behind it
pub caller_behind : (calls : List Call) (n : ℕ) (order : List ℕ) (k p : ℕ) → IsListing calls n order → k < length order → is_in order p ≡ true → Edge calls p (get_or order k 0) → (j : ℕ) × (k < j) × (j < length order) × (get_or order j 0 ≡ p)
caller_behind calls n order k p listing inside listed edge =
    let at = place_in order p listed in
    let callee = callee_before calls n order at.0 (get_or order k 0) listing at.1 (rw at.2 edge) in
    let same = once calls n order callee.0 k listing (omega (arith, callee.1, at.1)) inside callee.2 in
    (at.0, omega (arith, same, callee.1), at.1, at.2)

-- steps lead to what stands before
pub leads_before : (calls : List Call) (n : ℕ) (order : List ℕ) (j : ℕ) → IsListing calls n order → j < length order → (m y : ℕ) → Leads (Edge calls) m (get_or order j 0) y → (i : ℕ) × (i + m ≤ j) × (get_or order i 0 ≡ y)
leads_before calls n order j listing inside zero y h = (j, omega arith, h)
leads_before calls n order j listing inside (suc m) y h =
    let before = leads_before calls n order j listing inside m h.0 h.1 in
    let next = callee_before calls n order before.0 y listing (omega (arith, before.1, inside)) (rw before.2 h.2) in
    (next.0, omega (arith, before.1, next.1), next.2)

-- where all callers are listed, no call is on a cycle
pub no_cycle : (calls : List Call) (n : ℕ) (order : List ℕ) (c : Call) → IsListing calls n order → is_in order c.caller ≡ true → Contains calls c → Reaches (Edge calls) c.callee c.caller → ⊥
no_cycle calls n order c listing listed here back =
    let at = place_in order c.caller listed in
    let edge : Edge calls (get_or order at.0 0) c.callee = (c, here, sym at.2, refl) in
    let callee = callee_before calls n order at.0 c.callee listing at.1 edge in
    let again = leads_before calls n order callee.0 listing (omega (arith, callee.1, at.1)) back.0 c.caller (rw callee.2 back.1) in
    let same = once calls n order again.0 at.0 listing (omega (arith, again.1, callee.1, at.1)) at.1 (again.2 ∙ sym at.2) in
    omega (arith, same, again.1, callee.1)

-- who is among the callers of a function calls it
pub caller_edge : (calls : List Call) (p q : ℕ) → Contains (callers calls q) p → Edge calls p q
caller_edge calls p q here =
    let kept = All-filter (is_to q) (Contains calls) calls (All-contains_itself calls) in
    let passes = filter_passes (is_to q) calls in
    All-contains (λ x. Edge calls x q) (callers calls q) p
    (All-map (λ x. Edge calls x q) (λ (c : Call). c.caller) (filter (is_to q) calls)
    (λ k d inside. (get_or (filter (is_to q) calls) k d, kept k d inside, refl, let h = passes k d inside in grind (arith, nat_tests, h))))
    here

callers_have : (calls : List Call) (k : ℕ) (c : Call) → k < length calls → get_or calls k c ≡ c → Contains (callers calls c.callee) c.caller
callers_have [] k c inside is = absurd (omega arith)
callers_have (x ∷ xs) zero c inside is =
    let own : is_to c.callee x ≡ true = rw is (grind (arith, nat_tests)) in
    let list : callers (x ∷ xs) c.callee ≡ x.caller ∷ callers xs c.callee = ap (λ b. map (λ (d : Call). d.caller) (cond b (x ∷ filter (is_to c.callee) xs) (filter (is_to c.callee) xs))) own in
    let caller : x.caller ≡ c.caller = ap (λ (d : Call). d.caller) is in
    rw list (0, omega arith, caller)
callers_have (x ∷ xs) (suc k) c inside is =
    let later = callers_have xs k c (omega arith) is in
    elim (is_to c.callee x) as (λ b. Contains (map (λ (d : Call). d.caller) (cond b (x ∷ filter (is_to c.callee) xs) (filter (is_to c.callee) xs))) c.caller) [
      | true ↦ (suc later.0, omega (arith, later.1), later.2)
      | false ↦ later
    ]

-- and who calls it is among them
pub edge_caller : (calls : List Call) (p q : ℕ) → Edge calls p q → Contains (callers calls q) p
edge_caller calls p q edge = rw (← edge.2, ← edge.3) (callers_have calls edge.1.0 edge.0 edge.1.1 edge.1.2)
