-- What stands behind an item.
use Rattle.std.proofs.Common.{◌≡◌, ℕ, ◌+◌, ◌<◌, ◌≤◌, ◌/◌, ◌==◌, Bool, true, false, List, [], ◌∷◌, ◌++◌, length, slice_index, slice_set, refl, sym, ap, ◌∙◌, subst, arith}
use Rattle.std.proofs.lemmas.Bool.Decides.{nat_tests}
use Rattle.std.proofs.lemmas.List.{get_or-set_same, get_or-set_other, length-set}
use Rattle.std.specs.Prelude.{None, Result, Ok, Err, IsErrOf}
use Rattle.list_law.proofs.Numbers.{same_number}
use Rattle.traces.specs.Events as trace
use Rattle.traces.specs.Runs as run
use Rattle.traces.specs.Runs.{made}
use Rattle.traces.specs.Simulation.{IsPrefix}
use Rattle.dispatch_semantics.specs.Store.{Store, after, answers_of, IsFound}
use Rattle.dispatch_semantics.specs.Dispatch.{Past, State, is_control, controls, later, moved, IsMove}
use Rattle.group_items.specs.declared.play.Play.{Play}
use Rattle.group_items.specs.Events.{events_of, place_count, weight_of}
use Rattle.group_items.specs.Memory.{stored}
use Rattle.group_items.specs.Sides.{Runs, Begun, with_at}
use Rattle.group_items.specs.Schedule.{Setup, number_of, side, now, May, run_so_far, most_weight}
use Rattle.group_items.specs.Playing.{MayMoveBy, IsMade, IsAt, IsNoted}
use Rattle.group_items.proofs.States.{weight-append, controls-snoc, now-snoc}

-- an error is the same, whatever there is where there is none
pub other_error : {S T E : Type 0} (x y : E) → IsErrOf {T = S} (Err x) y → IsErrOf {T = T} (Err x) y
other_error {S} {T} {E} x y h = ap (λ (r : Result S E). elim r as (λ _. Result T E) [ Ok v ↦ Err y | Err e ↦ Err e ]) h

few_controls : (e : trace.Event) → controls (e ∷ []) ≤ 1
few_controls e = elim (is_control e) as (λ b. (elim b as (λ _. ℕ) [ true ↦ 1 + 0 | false ↦ 0 ]) ≤ 1) [ true ↦ omega arith | false ↦ omega arith ]

set_same : (xs : List ℕ) (i x : ℕ) → i < length xs → slice_index (slice_set xs i x) i ≡ x
set_same xs i x h = get_or-set_same xs i x 0 h

set_other : (xs : List ℕ) (i j x : ℕ) → (j == i) ≡ false → slice_index (slice_set xs i x) j ≡ slice_index xs j
set_other xs i j x h = get_or-set_other xs i j x 0 (λ e. apart e)
  where
    apart : j ≡ i → ⊥
    apart e = grind (arith, nat_tests, h, e)

set_length : (xs : List ℕ) (i x : ℕ) → length (slice_set xs i x) ≡ length xs
set_length xs i x = length-set xs i x

-- the tests of code and definition agree on who may move on
pub may_by : (d : Setup) (runs : Runs) (at : ℕ → Begun) (p : Play) (i : ℕ) → IsAt d at p → i < d.count → MayMoveBy p.passed.items p.group i → May d runs (now d (events_of p.events.items)) i
may_by d runs at p i a lt may j less same =
    let le : slice_index p.passed.items i ≤ slice_index p.passed.items j = may j (subst (λ n. j < n) (sym a.all) less) (ap (λ g. j / g) a.group ∙ same ∙ ap (λ g. i / g) (sym a.group)) in
    subst (λ n. n ≤ controls ((now d (events_of p.events.items)).past j).events) (a.passes i lt) (subst (λ n. slice_index p.passed.items i ≤ n) (a.passes j less) le)

pub by_may : (d : Setup) (runs : Runs) (at : ℕ → Begun) (p : Play) (i : ℕ) → IsAt d at p → i < d.count → May d runs (now d (events_of p.events.items)) i → MayMoveBy p.passed.items p.group i
by_may d runs at p i a lt may j less same =
    let inside : j < d.count = subst (λ n. j < n) a.all less in
    let le : controls ((now d (events_of p.events.items)).past i).events ≤ controls ((now d (events_of p.events.items)).past j).events = may j inside (ap (λ g. j / g) (sym a.group) ∙ same ∙ ap (λ g. i / g) a.group) in
    subst (λ n. n ≤ slice_index p.passed.items j) (sym (a.passes i lt)) (subst (λ n. controls ((now d (events_of p.events.items)).past i).events ≤ n) (sym (a.passes j inside)) le)

module _ (d : Setup) (at : ℕ → Begun) (at' : ℕ → Begun) (p p' : Play) (i : ℕ) (e : trace.Event) (a : IsAt d at p) (lt : i < d.count) (n : IsNoted p i e p') (set : at' ≡ with_at at i (record (at i) { past = later (at i).past e })) where
  abbrev es : List (ℕ × trace.Event)
  es = events_of p.events.items

  abbrev new : List (ℕ × trace.Event)
  new = events_of p'.events.items

  abbrev next_state : State
  next_state = moved d.count (number_of d) (now d es) i e

  now_is : now d new ≡ next_state
  now_is = now-snoc d es new i e n.events

  abbrev begun_at : (ℕ → Past) → ℕ → Begun
  begun_at past j = record { told = d.told j; past = past j; asked = None }

  begun_by : (j : ℕ) (b : Bool) → (j == i) ≡ b → j < d.count → (elim b as (λ _. Begun) [ true ↦ record (at i) { past = later (at i).past e } | false ↦ at j ]) ≡ (record { told = d.told j; past = elim b as (λ _. Past) [ true ↦ later ((now d es).past i) e | false ↦ (now d es).past j ]; asked = None })
  begun_by j true h less =
      ap (λ (b : Begun). record b { past = later b.past e }) (a.begun i lt)
      ∙ ap (λ k. record { told = d.told k; past = later ((now d es).past i) e; asked = None }) (sym (same_number j i h))
  begun_by j false h less = a.begun j less

  passes_by : (j : ℕ) (b : Bool) → (j == i) ≡ b → j < d.count → slice_index p'.passed.items j ≡ controls (elim b as (λ _. Past) [ true ↦ later ((now d es).past i) e | false ↦ (now d es).past j ]).events
  passes_by j true h less =
      ap (λ (xs : List ℕ). slice_index xs j) n.passed
      ∙ ap (λ k. slice_index (slice_set p.passed.items i (slice_index p.passed.items i + controls (e ∷ []))) k) (same_number j i h)
      ∙ set_same p.passed.items i (slice_index p.passed.items i + controls (e ∷ [])) (subst (λ c. i < c) (sym a.all) lt)
      ∙ ap (λ c. c + controls (e ∷ [])) (a.passes i lt)
      ∙ sym (controls-snoc ((now d es).past i).events e)
  passes_by j false h less =
      ap (λ (xs : List ℕ). slice_index xs j) n.passed ∙ set_other p.passed.items i j (slice_index p.passed.items i + controls (e ∷ [])) h ∙ a.passes j less

  few_by : (j : ℕ) (b : Bool) → (j == i) ≡ b → j < d.count → slice_index p'.passed.items j ≤ p'.weight
  few_by j true h less =
      let is : slice_index p'.passed.items j ≡ slice_index p.passed.items i + controls (e ∷ []) =
      ap (λ (xs : List ℕ). slice_index xs j) n.passed
      ∙ ap (λ k. slice_index (slice_set p.passed.items i (slice_index p.passed.items i + controls (e ∷ []))) k) (same_number j i h)
      ∙ set_same p.passed.items i (slice_index p.passed.items i + controls (e ∷ [])) (subst (λ c. i < c) (sym a.all) lt) in
      let one : controls (e ∷ []) ≤ 1 = few_controls e in
      let few : slice_index p.passed.items i ≤ p.weight = a.few i lt in
      let more : p'.weight ≡ p.weight + (1 + place_count e) = n.weight in
      omega (arith, is, one, few, more)
  few_by j false h less =
      let is : slice_index p'.passed.items j ≡ slice_index p.passed.items j = ap (λ (xs : List ℕ). slice_index xs j) n.passed ∙ set_other p.passed.items i j (slice_index p.passed.items i + controls (e ∷ [])) h in
      let few : slice_index p.passed.items j ≤ p.weight = a.few j less in
      let more : p'.weight ≡ p.weight + (1 + place_count e) = n.weight in
      omega (arith, is, few, more)

  pub weighs_more : weight_of new ≡ weight_of es + (1 + place_count e)
  weighs_more =
      let one : weight_of new ≡ weight_of es + weight_of ((i, e) ∷ []) = ap weight_of n.events ∙ weight-append es ((i, e) ∷ []) in
      omega (arith, one)

  pub noted : IsAt d at' p'
  noted = record {
    all = ap length n.passed ∙ set_length p.passed.items i (slice_index p.passed.items i + controls (e ∷ [])) ∙ a.all;
    group = n.group ∙ a.group;
    some = a.some;
    rooms = λ j less. subst (λ c. j / d.group < c) (sym n.rooms) (a.rooms j less);
    begun = λ j less. ap (λ (f : ℕ → Begun). f j) set ∙ begun_by j (j == i) refl less ∙ ap (λ (s : State). begun_at s.past j) (sym now_is);
    passes = λ j less. passes_by j (j == i) refl less ∙ ap (λ (s : State). controls (s.past j).events) (sym now_is);
    few = λ j less. few_by j (j == i) refl less;
    store = ap (λ (s : State). s.store) now_is ∙ ap (λ g. after (i / g) e (now d es).store) (sym a.group) ∙ ap (after (i / p.group) e) a.store ∙ sym n.store;
    weighs = n.weight ∙ ap (λ w. w + (1 + place_count e)) a.weighs ∙ sym weighs_more;
    light = n.light;
  }

-- what the runner says of an invocation is said of the events so far
module _ (d : Setup) (runs : Runs) (at : ℕ → Begun) (p : Play) (i : ℕ) (a : IsAt d at p) (lt : i < d.count) where
  abbrev so_far : State
  so_far = now d (events_of p.events.items)

  pub paused : (status : run.Status) → runs (at i).told (at i).past.answers ≡ made (at i).past.events status → run_so_far d runs so_far i ≡ made (so_far.past i).events status
  paused status h = subst (λ (b : Begun). runs b.told b.past.answers ≡ made b.past.events status) (a.begun i lt) h

  pub move_of : (e : trace.Event) → May d runs so_far i → IsMade runs (stored p.store.maps.items) (i / p.group) (at i) e → IsMove d.count (number_of d) (side d runs) so_far i e
  move_of e may m = record {
    allowed = may;
    found = subst (λ g. IsFound so_far.store (i / g) e) a.group (subst (λ (s : Store). IsFound s (i / p.group) e) (sym a.store) m.found);
    words = m.words;
    made = subst (λ (b : Begun). IsPrefix (b.past.events ++ e ∷ []) (runs b.told (b.past.answers ++ answers_of e)).events) (a.begun i lt) m.made;
  }

  -- an event that is too much
  pub above : (e : trace.Event) → most_weight < p.weight + (1 + place_count e) → most_weight < weight_of (events_of p.events.items ++ (i, e) ∷ [])
  above e h =
      let sum : weight_of (events_of p.events.items ++ (i, e) ∷ []) ≡ weight_of (events_of p.events.items) + weight_of ((i, e) ∷ []) = weight-append (events_of p.events.items) ((i, e) ∷ []) in
      let is : p.weight ≡ weight_of (events_of p.events.items) = a.weighs in
      omega (arith, sum, is, h)
