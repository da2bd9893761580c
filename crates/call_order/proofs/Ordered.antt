-- The order of all functions without those that are not reached is the order of those that are.
use Rattle.std.proofs.Common.{◌≡◌, ◌<◌, ◌≤◌, ℕ, zero, suc, Bool, true, false, cond, List, [], ◌∷◌, length, take, get_or, map, filter, refl, ap, sym, ◌∙◌, inl, inr, arith, Contains}
use Rattle.std.proofs.lemmas.List.{get_or-map, length-map, take-map, get_or_default}
use Rattle.std.proofs.lemmas.Bool.Decides.{nat_tests, eqb_tells}
use Rattle.std.proofs.lemmas.Bool.{false_from_ne_true}
use Rattle.spv_module.specs.declared.inst.Function.{Function}
use Rattle.profile_rules.specs.Calls.{ids_of, place, Calls, Reaches, IsReady, IsNext, IsCallOrder}
use Rattle.call_order.specs.Graph.{number, calls_of, Edge, is_in, open_calls}
use Rattle.call_order.specs.Listing.{IsListing, IsReadyAt}
use Rattle.call_order.specs.Depths.{AreDepths, is_reached}
use Rattle.call_order.proofs.Counts.{open_some, open_none}
use Rattle.call_order.proofs.Listed.{place_in_front, in_at, edge_below}
use Rattle.call_order.proofs.Numbers.{place_is, number_place, numbers_differ, contains_map, map_contains}
use Rattle.call_order.proofs.Transfer.{IsClosed, edge_of, calls_by, leads_places, leads_numbers, reached_is, all_below}

-- where the k-th that is kept comes from, and that those before it are kept of those before that place
abbrev IsKeptFrom : (ℕ → Bool) → List ℕ → List ℕ → ℕ → Type 0
IsKeptFrom r xs kept k = (j : ℕ) × (j < length xs) × (get_or kept k 0 ≡ get_or xs j 0) × (r (get_or xs j 0) ≡ true) × (take k kept ≡ filter r (take j xs))

kept_first : (r : ℕ → Bool) (x : ℕ) (xs : List ℕ) (k : ℕ) → r x ≡ true → ((m : ℕ) → m < length (filter r xs) → IsKeptFrom r xs (filter r xs) m) → k < length (x ∷ filter r xs) → IsKeptFrom r (x ∷ xs) (x ∷ filter r xs) k
kept_first r x xs zero e later inside = (0, omega arith, refl, e, refl)
kept_first r x xs (suc k) e later inside =
    let from = later k (omega (arith, inside)) in
    (suc from.0, omega (arith, from.1), from.2, from.3, ap (λ ys. x ∷ ys) from.4 ∙ ap (λ b. cond b (x ∷ filter r (take from.0 xs)) (filter r (take from.0 xs))) (sym e))

kept_later : (r : ℕ → Bool) (x : ℕ) (xs : List ℕ) (k : ℕ) → r x ≡ false → IsKeptFrom r xs (filter r xs) k → IsKeptFrom r (x ∷ xs) (filter r xs) k
kept_later r x xs k e from = (suc from.0, omega (arith, from.1), from.2, from.3, from.4 ∙ ap (λ b. cond b (x ∷ filter r (take from.0 xs)) (filter r (take from.0 xs))) (sym e))

pub kept_at : (r : ℕ → Bool) (xs : List ℕ) (k : ℕ) → k < length (filter r xs) → IsKeptFrom r xs (filter r xs) k
kept_at r [] k inside = absurd (omega (arith, inside))
kept_at r (x ∷ xs) k inside =
    let later : (m : ℕ) → m < length (filter r xs) → IsKeptFrom r xs (filter r xs) m = λ m h. kept_at r xs m h in
    (elim (r x) as (λ b. r x ≡ b → k < length (cond b (x ∷ filter r xs) (filter r xs)) → IsKeptFrom r (x ∷ xs) (cond b (x ∷ filter r xs) (filter r xs)) k) [
      | true ↦ λ e h. kept_first r x xs k e later h
      | false ↦ λ e h. kept_later r x xs k e (later k h)
    ]) refl inside

-- what is kept of a list
pub kept_in : (r : ℕ → Bool) (xs : List ℕ) (p : ℕ) → is_in xs p ≡ true → r p ≡ true → Contains (filter r xs) p
kept_in r [] p here passes = cc
kept_in r (x ∷ xs) p here passes =
    let later = kept_in r xs p in
    elim (eqb_tells x p) [
      | inl w ↦
          let own : r x ≡ true = ap r w.1 ∙ passes in
          let list : filter r (x ∷ xs) ≡ x ∷ filter r xs = ap (λ b. cond b (x ∷ filter r xs) (filter r xs)) own in
          rw list (0, omega arith, w.1)
      | inr w ↦
          let rest : is_in xs p ≡ true = grind (arith, nat_tests, w.1, here) in
          let found = later rest passes in
          elim (r x) as (λ b. Contains (cond b (x ∷ filter r xs) (filter r xs)) p) [
            | true ↦ (suc found.0, omega (arith, found.1), found.2)
            | false ↦ found
          ]
    ]

pub kept_from : (r : ℕ → Bool) (xs : List ℕ) (p : ℕ) → Contains (filter r xs) p → (is_in xs p ≡ true) × (r p ≡ true)
kept_from r xs p here =
    let from = kept_at r xs here.0 here.1 in
    let is : get_or xs from.0 0 ≡ p = sym from.2 ∙ get_or_default (filter r xs) here.0 0 p here.1 ∙ here.2 in
    (rw is at (in_at xs from.0 from.1), rw is at from.3)

-- what is known once all functions are listed, and their depths
pub record IsKnown (fs : List Function) (entry : ℕ) (order depths : List ℕ) : Type 0 where
  pub closed : IsClosed fs
  pub here : Contains (ids_of fs) entry
  pub listing : IsListing (calls_of fs) (length fs) order
  pub listed : (p : ℕ) → p < length fs → is_in order p ≡ true
  pub depths_are : AreDepths (calls_of fs) (length fs) (place fs entry) depths

-- a function that is reached has a depth
pub reached_has : (fs : List Function) (entry : ℕ) (order depths : List ℕ) (g : ℕ) → IsKnown fs entry order depths → Reaches (Calls fs) entry g → (place fs g < length fs) × (number fs (place fs g) ≡ g) × (is_reached depths (place fs g) ≡ true)
reached_has fs entry order depths g known reached =
    let at = number_place fs g known.closed.own (reached_is fs reached.0 entry g known.closed known.here reached.1) in
    let most = (known.depths_are.depth (place fs g) at.0).most reached.0 (leads_places fs reached.0 entry g known.closed reached.1) in
    (at.0, at.1, grind (arith, nat_tests, most))

-- and one that has a depth is reached
pub has_reached : (fs : List Function) (entry : ℕ) (order depths : List ℕ) (p : ℕ) → IsKnown fs entry order depths → p < length fs → is_reached depths p ≡ true → Reaches (Calls fs) entry (number fs p)
has_reached fs entry order depths p known inside has =
    let above : 0 < get_or depths p 0 = grind (arith, nat_tests, has) in
    let chain = (known.depths_are.depth p inside).some above in
    let is : number fs (place fs entry) ≡ entry = (number_place fs entry known.closed.own known.here).1 in
    (chain.0, rw is at (leads_numbers fs chain.0 (place fs entry) p known.closed chain.2))

-- the ids of those that are kept
abbrev pub kept_ids : List Function → List ℕ → List ℕ → List ℕ
kept_ids fs depths order = map (number fs) (filter (is_reached depths) order)

listed_below : (fs : List Function) (entry : ℕ) (order depths : List ℕ) (j p : ℕ) → IsKnown fs entry order depths → j ≤ length order → is_in (take j order) p ≡ true → p < length fs
listed_below fs entry order depths j p known inside here =
    let at = place_in_front order j p inside here in
    rw at.2 at ((known.listing at.0 (omega (arith, at.1, inside))).ready.below)

-- an id is among those that are kept where its function is listed and reached
ids_have : (fs : List Function) (depths front : List ℕ) (p : ℕ) → is_in front p ≡ true → is_reached depths p ≡ true → Contains (kept_ids fs depths front) (number fs p)
ids_have fs depths front p here reached = contains_map (number fs) (filter (is_reached depths) front) p (kept_in (is_reached depths) front p here reached)

ids_from : (fs : List Function) (entry : ℕ) (order depths : List ℕ) (j p : ℕ) → IsKnown fs entry order depths → j ≤ length order → p < length fs → Contains (kept_ids fs depths (take j order)) (number fs p) → is_in (take j order) p ≡ true
ids_from fs entry order depths j p known inside small here =
    let from = map_contains (number fs) (filter (is_reached depths) (take j order)) (number fs p) here in
    let kept = kept_from (is_reached depths) (take j order) from.0 from.1 in
    let same = numbers_differ fs from.0 p known.closed.own (listed_below fs entry order depths j from.0 known inside kept.0) small from.2 in
    rw same at kept.0

-- a function that is reached is ready among those that are reached where it is ready among all
ready_at : (fs : List Function) (entry : ℕ) (order depths : List ℕ) (j g : ℕ) → IsKnown fs entry order depths → j ≤ length order → IsReady fs entry (kept_ids fs depths (take j order)) g → IsReadyAt (calls_of fs) (length fs) (take j order) (place fs g)
ready_at fs entry order depths j g known inside ready =
    let own = reached_has fs entry order depths g known ready.reached in
    record {
      below = own.0;
      unlisted = false_from_ne_true (is_in (take j order) (place fs g)) (λ e. ready.unlisted (rw own.1 at (ids_have fs depths (take j order) (place fs g) e own.2)));
      closed = none_left (open_calls (calls_of fs) (take j order) (place fs g)) (λ some.
          let call = open_some (calls_of fs) (take j order) (place fs g) some in
          let edge : Edge (calls_of fs) (place fs g) call.0.callee = (call.0, call.1, call.2, refl) in
          let small = (edge_below (calls_of fs) (length fs) (place fs g) call.0.callee (all_below fs known.closed) edge).1 in
          let calls = rw own.1 at (calls_by fs (place fs g) call.0.callee known.closed edge) in
          let is = ids_from fs entry order depths j call.0.callee known inside small (ready.callees (number fs call.0.callee) calls) in
          let not : is_in (take j order) call.0.callee ≡ false = call.3 in
          cc);
    }
  where
    none_left : (n : ℕ) → (0 < n → ⊥) → n ≡ 0
    none_left zero h = refl
    none_left (suc n) h = absurd (h (omega arith))

-- each of those that are kept comes next
next_at : (fs : List Function) (entry : ℕ) (order depths : List ℕ) (j : ℕ) → IsKnown fs entry order depths → j < length order → is_reached depths (get_or order j 0) ≡ true → IsNext fs entry (kept_ids fs depths (take j order)) (number fs (get_or order j 0))
next_at fs entry order depths j known inside has =
    let p = get_or order j 0 in
    let next = known.listing j inside in
    let most : j ≤ length order = omega (arith, inside) in
    let reached = has_reached fs entry order depths p known next.ready.below has in
    let place_of_p = place_is fs p known.closed.own next.ready.below in
    record {
      ready = record {
        reached = reached;
        unlisted = λ h.
            let is = ids_from fs entry order depths j p known most next.ready.below h in
            let not : is_in (take j order) p ≡ false = next.ready.unlisted in
            cc;
        callees = λ g calls.
            let edge : Edge (calls_of fs) p (place fs g) = rw place_of_p at (edge_of fs (number fs p) g known.closed calls) in
            let listed = rw edge.3 at (open_none (calls_of fs) (take j order) p edge.0 next.ready.closed edge.1 edge.2) in
            let own = reached_has fs entry order depths g known (suc reached.0, (number fs p, reached.1, calls)) in
            rw own.1 at (ids_have fs depths (take j order) (place fs g) listed own.2);
      };
      earliest = λ g ready.
          let le = next.earliest (place fs g) (ready_at fs entry order depths j g known most ready) in
          omega (arith, place_of_p, le);
    }

-- the ids of those that are reached, in the order of all functions, are in the order of calls
pub call_order : (fs : List Function) (entry : ℕ) (order depths : List ℕ) → IsKnown fs entry order depths → IsCallOrder fs entry (kept_ids fs depths order)
call_order fs entry order depths known = record {
  next = λ k inside.
      let kept = filter (is_reached depths) order in
      let small : k < length kept = rw (length-map kept (number fs)) at inside in
      let from = kept_at (is_reached depths) order k small in
      let at : get_or (kept_ids fs depths order) k 0 ≡ number fs (get_or order from.0 0) = get_or-map (number fs) kept k 0 0 small ∙ ap (number fs) from.2 in
      let front : take k (kept_ids fs depths order) ≡ kept_ids fs depths (take from.0 order) = take-map (number fs) k kept ∙ ap (map (number fs)) from.4 in
      rw (at, front) (next_at fs entry order depths from.0 known from.1 from.3);
  all = λ f reached.
      let own = reached_has fs entry order depths f known reached in
      rw own.1 at (ids_have fs depths order (place fs f) (known.listed (place fs f) own.0) own.2);
}
