-- One more function is listed.
use Rattle.std.proofs.Common.{◌≡◌, ◌≢◌, ◌<◌, ◌≤◌, ◌+◌, ◌++◌, ◌==◌, ℕ, zero, suc, Bool, true, false, cond, List, [], ◌∷◌, filter, Contains, length, take, get_or, refl, ap, sym, ◌∙◌, inl, inr, arith}
use Rattle.std.specs.List.{All}
use Rattle.std.specs.Ordering.{nat_cmp, is_eq}
use Rattle.std.proofs.lemmas.List.{get_or_append_left, get_or_push, take-append-le, take_all, length_push, get_or_past}
use Rattle.std.proofs.lemmas.List.Sums.{sum_by-cons}
use Rattle.std.proofs.lemmas.List.Elements.{All-map, All-filter, All-contains}
use Rattle.std.proofs.lemmas.Bool.Decides.{nat_tests, eqb_tells, leb_tells}
use Rattle.std.proofs.lemmas.Bool.{false_from_ne_true}
use Rattle.call_order.specs.declared.graph.Call.{Call}
use Rattle.call_order.specs.Graph.{is_in, is_to, callers, AreBelow}
use Rattle.call_order.specs.Released.{times, IsReleased}
use Rattle.call_order.specs.Listing.{IsNextAt, IsListing, IsState, IsFinished}
use Rattle.call_order.specs.Cycle.{IsStuck}
use Rattle.call_order.proofs.Counts.{open_push, open_some, in_push_same, in_push_other, in_push_cases}

-- the list with the one that comes next
pub listing_push : (calls : List Call) (n : ℕ) (order : List ℕ) (q : ℕ) → IsListing calls n order → IsNextAt calls n order q → IsListing calls n (order ++ q ∷ [])
listing_push calls n order q listing next k inside =
    let size : length (order ++ q ∷ []) ≡ length order + 1 = length_push order q in
    let P : List ℕ → ℕ → Type 0 = λ xs x. IsNextAt calls n xs x in
    elim (eqb_tells k (length order)) [
      | inl w ↦
          let front : take k (order ++ q ∷ []) ≡ order = take-append-le k order (q ∷ []) (omega (arith, w.1)) ∙ take_all k order (omega (arith, w.1)) in
          let at : get_or (order ++ q ∷ []) k 0 ≡ q = get_or_push order q 0 k (sym w.1) in
          rw (front, at) next
      | inr w ↦
          let earlier : k < length order = omega (arith, w.1, inside, size) in
          let front : take k (order ++ q ∷ []) ≡ take k order = take-append-le k order (q ∷ []) (omega (arith, earlier)) in
          let at : get_or (order ++ q ∷ []) k 0 ≡ get_or order k 0 = get_or_append_left order (q ∷ []) 0 k earlier in
          rw (front, at) (listing k earlier)
    ]

-- what a set has without one
rest_parts : (c p : ℕ) (is now : Bool) → now ≡ cond (is_eq (nat_cmp c p)) false is → now ≡ true → (is ≡ true) × (c ≢ p)
rest_parts c p is now e h =
    elim (eqb_tells c p) [
      | inl w ↦
          let own : is_eq (nat_cmp c p) ≡ true = grind (arith, nat_tests, w.1) in
          let gone : now ≡ false = rw own at e in
          cc
      | inr w ↦
          let other : is_eq (nat_cmp c p) ≡ false = grind (arith, nat_tests, w.1) in
          let same : now ≡ is = rw other at e in
          (sym same ∙ h, w.1)
    ]

rest_stays : (c p : ℕ) (is now : Bool) → now ≡ cond (is_eq (nat_cmp c p)) false is → is ≡ true → c ≢ p → now ≡ true
rest_stays c p is now e h apart =
    let other : is_eq (nat_cmp c p) ≡ false = grind (arith, nat_tests, apart) in
    let same : now ≡ is = rw other at e in
    same ∙ h

abbrev as_number : Bool → ℕ
as_number b = cond b 1 0

-- what is known once the earliest that is ready is listed, and its callers are released
pub state_push : (calls : List Call) (n : ℕ) (order missing : List ℕ) (ready : ℕ → Bool) (q : ℕ) (rest : ℕ → Bool) (after : List ℕ) (then : ℕ → Bool)
    → IsState calls n order missing ready
    → ready q ≡ true
    → ((p : ℕ) → ready p ≡ true → q ≤ p)
    → ((p : ℕ) → rest p ≡ cond (is_eq (nat_cmp q p)) false (ready p))
    → ((p : ℕ) → 0 < times p (callers calls q) → p < n)
    → IsReleased (callers calls q) missing after rest then
    → IsState calls n (order ++ q ∷ []) after then
state_push calls n order missing ready q rest after then state here least popped below released =
    let own = state.sound q here in
    let rest_of : (p : ℕ) → rest p ≡ true → (ready p ≡ true) × (q ≢ p) = λ p h. rest_parts q p (ready p) (rest p) (popped p) h in
    let stays : (p : ℕ) → ready p ≡ true → q ≢ p → rest p ≡ true = λ p h apart. rest_stays q p (ready p) (rest p) (popped p) h apart in
    record {
      listing = listing_push calls n order q state.listing record {
        ready = record { below = own.0; unlisted = own.1; closed = sym (state.counts q own.0) ∙ own.2 };
        earliest = λ p h. least p (state.complete p h.below h.unlisted (state.counts p h.below ∙ h.closed));
      };
      size = released.size ∙ state.size;
      counts = λ p inside. omega (arith, released.left p, state.counts p inside, open_push calls order p q own.1);
      listed = λ p h.
          elim (in_push_cases order q p h) [
            | inl old ↦ omega (arith, released.left p, state.listed p old)
            | inr e ↦ omega (arith, released.left p, rw e at own.2)
          ];
      sound = λ p h.
          elim (released.sound p h) [
            | inl old ↦
                let was = rest_of p old in
                let known = state.sound p was.0 in
                (known.0, in_push_other order q p was.1 ∙ known.1, omega (arith, released.left p, known.2))
            | inr new ↦
                let free = false_from_ne_true (is_in (order ++ q ∷ []) p) (λ e.
                elim (in_push_cases order q p e) [
                  | inl old ↦ omega (arith, released.left p, state.listed p old, new.0)
                  | inr same ↦
                      let none : get_or missing p 0 ≡ 0 = rw same at own.2 in
                      omega (arith, released.left p, none, new.0)
                ]) in
                (below p new.0, free, new.1)
          ];
      complete = λ p inside unlisted none_left.
          let apart : q ≢ p = λ e. let is : is_in (order ++ q ∷ []) p ≡ true = in_push_same order q p e in cc in
          let was : is_in order p ≡ false = sym (in_push_other order q p apart) ∙ unlisted in
          elim (eqb_tells (times p (callers calls q)) 0) [
            | inl w ↦ released.kept p (stays p (state.complete p inside was (omega (arith, released.left p, none_left, w.1))) apart)
            | inr w ↦ released.freed p (omega (arith, w.1)) none_left
          ];
    }

-- what stands among these as often as not at all is none of them
pub times_some : (p : ℕ) (xs : List ℕ) → 0 < times p xs → Contains xs p
times_some p [] some = absurd (omega arith)
times_some p (x ∷ xs) some =
    let is = sum_by-cons (λ y. cond (y == p) 1 0) x xs in
    let later = times_some p xs in
    elim (eqb_tells x p) [
      | inl w ↦ (0, omega arith, w.1)
      | inr w ↦
          let none : as_number (x == p) ≡ 0 = ap as_number w.0 in
          let found = later (omega (arith, some, is, none)) in
          (suc found.0, omega (arith, found.1), found.2)
    ]

-- who calls a function is one of them
pub callers_below : (calls : List Call) (n q : ℕ) → AreBelow n calls → All (λ p. p < n) (callers calls q)
callers_below calls n q below =
    All-map (λ p. p < n) (λ (c : Call). c.caller) (filter (is_to q) calls)
    (All-filter (is_to q) (λ (c : Call). c.caller < n) calls (λ k d inside. (below k d inside).0))

pub caller_below : (calls : List Call) (n q p : ℕ) → AreBelow n calls → 0 < times p (callers calls q) → p < n
caller_below calls n q p below some = All-contains (λ x. x < n) (callers calls q) p (callers_below calls n q below) (times_some p (callers calls q) some)

-- each caller of a function that is ready has as many open calls as it calls it
pub enough_calls : (calls : List Call) (n : ℕ) (order missing : List ℕ) (ready : ℕ → Bool) (q p : ℕ) → AreBelow n calls → IsState calls n order missing ready → ready q ≡ true → times p (callers calls q) ≤ get_or missing p 0
enough_calls calls n order missing ready q p below state here =
    elim (eqb_tells (times p (callers calls q)) 0) [
      | inl w ↦ omega (arith, w.1)
      | inr w ↦
          let inside = caller_below calls n q p below (omega (arith, w.1)) in
          omega (arith, open_push calls order p q (state.sound q here).1, state.counts p inside)
    ]

-- a function that is not listed calls another such
pub stuck : (calls : List Call) (n : ℕ) (order missing : List ℕ) → AreBelow n calls → IsFinished calls n order missing → IsStuck calls missing
stuck calls n order missing below done p some =
    let inside : p < n = missing_inside missing p n done.size some in
    let call = open_some calls order p (omega (arith, some, done.counts p inside)) in
    let callee : call.0.callee < n = (All-contains (λ (c : Call). (c.caller < n) × (c.callee < n)) calls call.0 below call.1).1 in (
      call.0,
      call.1,
      call.2,
      some_left (get_or missing call.0.callee 0) (λ none.
          let listed = done.complete call.0.callee callee none in
          let not : is_in order call.0.callee ≡ false = call.3 in
          cc),
    )
  where
    some_left : (n : ℕ) → (n ≡ 0 → ⊥) → 0 < n
    some_left zero h = absurd (h refl)
    some_left (suc n) h = omega arith

    missing_inside : (xs : List ℕ) (p n : ℕ) → length xs ≡ n → 0 < get_or xs p 0 → p < n
    missing_inside xs p n size some =
        elim (leb_tells n p) [
          | inl w ↦ let none = get_or_past xs p 0 (omega (arith, w.1, size)) in absurd (omega (arith, none, some))
          | inr w ↦ w.1
        ]
