-- How many calls of a function are of functions that are not listed.
use Rattle.std.proofs.Common.{◌≡◌, ◌≢◌, ◌<◌, ◌≤◌, ◌+◌, ◌==◌, ◌&&◌, ◌||◌, not, ◌⊎◌, ℕ, suc, Bool, true, false, cond, List, [], ◌∷◌, ◌++◌, length, take, get_or, refl, ap, sym, ◌∙◌, inl, inr, arith, map, filter, Contains}
use Rattle.std.proofs.lemmas.List.{take_more}
use Rattle.std.proofs.lemmas.List.Elements.{Contains-push_cases, Contains-append_left, Contains-push}
use Rattle.std.proofs.lemmas.List.Sums.{get_or-le-sum_by}
use Rattle.std.proofs.lemmas.List.Folds.{list_any-append}
use Rattle.std.proofs.lemmas.Bool.Decides.{nat_tests, eqb_tells}
use Rattle.std.proofs.lemmas.Bool.{and_parts}
use Rattle.list_law.proofs.Lists.{count_by-cons}
use Rattle.call_order.specs.declared.graph.Call.{Call}
use Rattle.call_order.specs.Graph.{is_in, is_to, is_open, open_calls, callers}
use Rattle.call_order.specs.Released.{times}

-- one more of a list
pub contains_more : {X : Type 0} (xs : List X) (i : ℕ) (d x : X) → i < length xs → Contains (take (i + 1) xs) x → Contains (take i xs) x ⊎ (get_or xs i d ≡ x)
contains_more xs i d x inside here = Contains-push_cases (take i xs) (get_or xs i d) x (rw (take_more xs i d inside) at here)

pub contains_before : {X : Type 0} (xs : List X) (i : ℕ) (d x : X) → i < length xs → Contains (take i xs) x → Contains (take (i + 1) xs) x
contains_before xs i d x inside here = rw (take_more xs i d inside) (Contains-append_left (take i xs) (get_or xs i d ∷ []) x here)

pub contains_here : {X : Type 0} (xs : List X) (i : ℕ) (d : X) → i < length xs → Contains (take (i + 1) xs) (get_or xs i d)
contains_here xs i d inside = rw (take_more xs i d inside) (Contains-push (take i xs) (get_or xs i d))

-- what is listed with one more
pub in_push : (order : List ℕ) (q y : ℕ) → is_in (order ++ q ∷ []) y ≡ (is_in order y || ((q == y) || false))
in_push order q y = list_any-append (λ x. x == y) order (q ∷ [])

pub in_push_same : (order : List ℕ) (q y : ℕ) → q ≡ y → is_in (order ++ q ∷ []) y ≡ true
in_push_same order q y e = let h = in_push order q y in grind (arith, nat_tests, h, e)

pub in_push_other : (order : List ℕ) (q y : ℕ) → q ≢ y → is_in (order ++ q ∷ []) y ≡ is_in order y
in_push_other order q y e = let h = in_push order q y in grind (arith, nat_tests, h, e)

pub in_push_cases : (order : List ℕ) (q y : ℕ) → is_in (order ++ q ∷ []) y ≡ true → (is_in order y ≡ true) ⊎ (q ≡ y)
in_push_cases order q y e = let h = in_push order q y in grind (arith, nat_tests, h, e)

abbrev as_number : Bool → ℕ
as_number b = cond b 1 0

-- a call of the function that is listed now
one_to : (a m n : Bool) → m ≡ false → n ≡ true → as_number (a && not m) ≡ as_number (a && not n) + as_number a
one_to true m n e f = rw (e, f) refl
one_to false m n e f = refl

-- another call
one_past : (a m n : Bool) → n ≡ m → as_number (a && not m) ≡ as_number (a && not n)
one_past a m n e = rw e refl

-- with one more function listed, the calls of it are open no more
pub open_push : (calls : List Call) (order : List ℕ) (p q : ℕ) → is_in order q ≡ false → open_calls calls order p ≡ open_calls calls (order ++ q ∷ []) p + times p (callers calls q)
open_push [] order p q new = refl
open_push (c ∷ cs) order p q new =
    let after = order ++ q ∷ [] in
    let later = open_push cs order p q new in
    let before_is = count_by-cons (is_open order p) c cs in
    let after_is = count_by-cons (is_open after p) c cs in
    elim (eqb_tells c.callee q) [
      | inl w ↦
          let was : is_in order c.callee ≡ false = rw w.1 new in
          let is : is_in after c.callee ≡ true = in_push_same order q c.callee (sym w.1) in
          let one = one_to (c.caller == p) (is_in order c.callee) (is_in after c.callee) was is in
          let list : callers (c ∷ cs) q ≡ c.caller ∷ callers cs q = ap (λ b. map (λ (d : Call). d.caller) (cond b (c ∷ filter (is_to q) cs) (filter (is_to q) cs))) w.0 in
          let more : times p (callers (c ∷ cs) q) ≡ cond (c.caller == p) 1 0 + times p (callers cs q) = ap (times p) list ∙ count_by-cons (λ x. x == p) c.caller (callers cs q) in
          omega (arith, later, before_is, after_is, one, more)
      | inr w ↦
          let is : is_in after c.callee ≡ is_in order c.callee = in_push_other order q c.callee (λ e. w.1 (sym e)) in
          let one = one_past (c.caller == p) (is_in order c.callee) (is_in after c.callee) is in
          let list : callers (c ∷ cs) q ≡ callers cs q = ap (λ b. map (λ (d : Call). d.caller) (cond b (c ∷ filter (is_to q) cs) (filter (is_to q) cs))) w.0 in
          let more : times p (callers (c ∷ cs) q) ≡ times p (callers cs q) = ap (times p) list in
          omega (arith, later, before_is, after_is, one, more)
    ]

-- a function with an open call
pub open_some : (calls : List Call) (order : List ℕ) (p : ℕ) → 0 < open_calls calls order p → (c : Call) × Contains calls c × (c.caller ≡ p) × (is_in order c.callee ≡ false)
open_some [] order p some = absurd (omega arith)
open_some (c ∷ cs) order p some =
    let is = count_by-cons (is_open order p) c cs in
    let later = open_some cs order p in
    (elim (is_open order p c) as (λ b. is_open order p c ≡ b → (d : Call) × Contains (c ∷ cs) d × (d.caller ≡ p) × (is_in order d.callee ≡ false)) [
      | true ↦ λ e.
          let parts = and_parts (c.caller == p) (not (is_in order c.callee)) e in
          (c, (0, omega arith, refl), grind (arith, nat_tests, parts.0), grind (arith, parts.1))
      | false ↦ λ e.
          let zero_here : as_number (is_open order p c) ≡ 0 = ap as_number e in
          let rest : 0 < open_calls cs order p = omega (arith, some, zero_here, is) in
          let found = later rest in
          (found.0, (suc found.1.0, omega (arith, found.1.1), found.1.2), found.2, found.3)
    ]) refl

-- a function with none
pub open_none : (calls : List Call) (order : List ℕ) (p : ℕ) (c : Call) → open_calls calls order p ≡ 0 → Contains calls c → c.caller ≡ p → is_in order c.callee ≡ true
open_none calls order p c none here own =
    let most = get_or-le-sum_by (λ (d : Call). cond (is_open order p d) 1 0) calls here.0 c here.1 in
    let at : as_number (is_open order p c) ≤ 0 = omega (arith, none, rw here.2 at most) in
    let same : (c.caller == p) ≡ true = grind (arith, nat_tests, own) in
    (elim (is_in order c.callee) as (λ b. as_number ((c.caller == p) && not b) ≤ 0 → b ≡ true) [
      | true ↦ λ h. refl
      | false ↦ λ h. absurd (omega (arith, rw same at h))
    ]) at
