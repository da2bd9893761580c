-- Functions by their places and by their ids.
use Rattle.std.proofs.Common.{◌≡◌, ◌≢◌, ◌<◌, ◌≤◌, ◌+◌, ◌==◌, ℕ, zero, suc, cond, List, [], ◌∷◌, Option, None, Some, length, get_or, map, refl, ap, sym, ◌∙◌, inl, inr, arith, Contains, unwrap_or, ltb}
use Rattle.std.specs.List.{position_or_len}
use Rattle.std.proofs.lemmas.List.{get_or-map, length-map, get_or_default}
use Rattle.std.proofs.lemmas.List.Sums.{position_or_len_is, prefix_len-le-length}
use Rattle.std.proofs.lemmas.List.Elements.{Contains-append_left, Contains-append_right, Contains-append_cases}
use Rattle.std.proofs.lemmas.Iterator.Adapters.{position_from-zero}
use Rattle.std.proofs.lemmas.Bool.Decides.{nat_tests, leb_tells}
use Rattle.spv_module.specs.declared.inst.Inst.{Inst}
use Rattle.spv_module.specs.declared.inst.Function.{Function}
use Rattle.profile_rules.specs.Calls.{calls_in, id_of, ids_of, place, HaveOwnIds}
use Rattle.call_order.specs.declared.graph.Call.{Call}
use Rattle.call_order.specs.Graph.{number, call_at, calls_from}

-- an element of a list, and what a function makes of it
pub contains_map : {X Y : Type 0} (f : X → Y) (xs : List X) (x : X) → Contains xs x → Contains (map f xs) (f x)
contains_map f xs x here =
    (here.0, rw (length-map xs f) here.1, get_or-map f xs here.0 x (f x) here.1 ∙ ap f here.2)

pub map_contains : {X Y : Type 0} (f : X → Y) (xs : List X) (y : Y) → Contains (map f xs) y → (x : X) × Contains xs x × (f x ≡ y)
map_contains f [] y here = absurd (omega (arith, here.1))
map_contains f (x ∷ xs) y (zero, inside, is) = (x, (0, omega arith, refl), is)
map_contains f (x ∷ xs) y (suc k, inside, is) =
    let later = map_contains f xs y (k, omega (arith, inside), is) in
    (later.0, (suc later.1.0, omega (arith, later.1.1), later.1.2), later.2)

chosen : (p n : ℕ) → p ≤ n → unwrap_or (cond (ltb p n) (Some p) None) n ≡ p
chosen p n most =
    elim (leb_tells (suc p) n) [
      | inl w ↦ ap (λ b. unwrap_or (cond b (Some p) None) n) w.0
      | inr w ↦ ap (λ b. unwrap_or (cond b (Some p) None) n) w.0 ∙ (let e : n ≡ p = omega (arith, w.1, most) in e)
    ]

-- the place is the first at which the id stands
pub place_first : (fs : List Function) (x : ℕ) → place fs x ≡ position_or_len (λ f. id_of f == x) fs
place_first fs x =
    ap (λ (o : Option ℕ). unwrap_or o (length fs)) (sym (position_from-zero (λ f. id_of f == x) fs))
    ∙ chosen (position_or_len (λ f. id_of f == x) fs) (length fs) (prefix_len-le-length _ fs)

-- the id of the function that stands at a place
pub number_is : (fs : List Function) (k : ℕ) (h : Function) → k < length fs → get_or fs k h ≡ h → number fs k ≡ id_of h
number_is fs k h inside is = get_or-map id_of fs k h 0 inside ∙ ap id_of is

place_with : (fs : List Function) (d : Function) (p : ℕ) → HaveOwnIds fs → p < length fs → place fs (number fs p) ≡ p
place_with fs d p own inside =
    place_first fs (number fs p)
    ∙ position_or_len_is (λ f. id_of f == number fs p) fs p d (omega (arith, inside))
    (λ k before.
    let at : number fs k ≡ id_of (get_or fs k d) = get_or-map id_of fs k d 0 (omega (arith, before, inside)) in
    let apart : number fs k ≢ number fs p = own k p before inside in
    grind (arith, nat_tests, at, apart))
    (λ here.
    let at : number fs p ≡ id_of (get_or fs p d) = get_or-map id_of fs p d 0 inside in
    grind (arith, nat_tests, at))

-- the place of the id of the function at a place
pub place_is : (fs : List Function) (p : ℕ) → HaveOwnIds fs → p < length fs → place fs (number fs p) ≡ p
place_is [] p own inside = absurd (omega (arith, inside))
place_is (f ∷ fs) p own inside = place_with (f ∷ fs) f p own inside

-- and the id at the place of an id
pub number_place : (fs : List Function) (x : ℕ) → HaveOwnIds fs → Contains (ids_of fs) x → (place fs x < length fs) × (number fs (place fs x) ≡ x)
number_place fs x own here =
    let inside : here.0 < length fs = rw (length-map fs id_of) at here.1 in
    let is : number fs here.0 ≡ x = get_or_default (ids_of fs) here.0 0 x here.1 ∙ here.2 in
    let at : place fs x ≡ here.0 = ap (place fs) (sym is) ∙ place_is fs here.0 own inside in
    (omega (arith, at, inside), ap (number fs) at ∙ is)

-- one place for one id
pub numbers_differ : (fs : List Function) (p q : ℕ) → HaveOwnIds fs → p < length fs → q < length fs → number fs p ≡ number fs q → p ≡ q
numbers_differ fs p q own inside_p inside_q same = sym (place_is fs p own inside_p) ∙ ap (place fs) same ∙ place_is fs q own inside_q

-- a call of the list is a call in a function
pub call_from : (all : List Function) (p : ℕ) (fs : List Function) (c : Call) → Contains (calls_from all p fs) c → (k : ℕ) × (h : Function) × (i : Inst) × (k < length fs) × (get_or fs k h ≡ h) × Contains (calls_in h) i × (c ≡ call_at all (p + k) i)
call_from all p [] c here = absurd (omega (arith, here.1))
call_from all p (f ∷ fs) c here =
    let later = call_from all (p + 1) fs c in
    elim (Contains-append_cases (map (call_at all p) (calls_in f)) (calls_from all (p + 1) fs) c here) [
      | inl own ↦
          let i = map_contains (call_at all p) (calls_in f) c own in
          (0, f, i.0, omega arith, refl, i.1, sym i.2 ∙ ap (λ q. call_at all q i.0) (let e : p ≡ p + 0 = omega arith in e))
      | inr behind ↦
          let found = later behind in
          (suc found.0, found.1, found.2, omega (arith, found.3), found.4, found.5, found.6 ∙ ap (λ q. call_at all q found.2) (let e : p + 1 + found.0 ≡ p + suc found.0 = omega arith in e))
    ]

-- and a call in a function is one of the list
pub call_in : (all : List Function) (p : ℕ) (fs : List Function) (k : ℕ) (h : Function) (i : Inst) → k < length fs → get_or fs k h ≡ h → Contains (calls_in h) i → Contains (calls_from all p fs) (call_at all (p + k) i)
call_in all p [] k h i inside is here = absurd (omega (arith, inside))
call_in all p (f ∷ fs) zero h i inside is here =
    let e : p + 0 ≡ p = omega arith in
    let own : Contains (calls_in f) i = rw is here in
    rw e (Contains-append_left (map (call_at all p) (calls_in f)) (calls_from all (p + 1) fs) (call_at all p i) (contains_map (call_at all p) (calls_in f) i own))
call_in all p (f ∷ fs) (suc k) h i inside is here =
    let later = call_in all (p + 1) fs k h i (omega (arith, inside)) is here in
    let e : p + suc k ≡ p + 1 + k = omega arith in
    rw e (Contains-append_right (map (call_at all p) (calls_in f)) (calls_from all (p + 1) fs) (call_at all (p + 1 + k) i) later)
