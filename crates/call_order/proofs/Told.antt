-- What a look-up of functions by their ids tells of the module.
use Rattle.std.proofs.Common.{◌≡◌, ◌<◌, ◌+◌, ◌==◌, ℕ, suc, true, false, cond, List, [], ◌∷◌, Option, None, Some, length, get_or, ap, sym, ◌∙◌, inl, inr, arith, Contains, not, eqb, below_more}
use Rattle.std.specs.List.{position_or_len, All}
use Rattle.std.specs.Option.{option_eq}
use Rattle.std.proofs.lemmas.List.{get_or-map, length-map}
use Rattle.std.proofs.lemmas.List.Sums.{passes_at_first}
use Rattle.std.proofs.lemmas.List.Elements.{All-contains}
use Rattle.std.proofs.lemmas.Iterator.Adapters.{position_from-zero}
use Rattle.std.proofs.lemmas.Bool.Decides.{nat_tests, leb_tells}
use Rattle.spv_module.specs.declared.inst.Function.{Function}
use Rattle.spv_index.specs.Locals.{function_in}
use Rattle.profile_rules.specs.Calls.{callee, id_of, ids_of, HaveOwnIds, AreCalleesFunctions}
use Rattle.call_order.specs.declared.graph.Call.{Call}
use Rattle.call_order.specs.Graph.{number, calls_of, call_at}
use Rattle.call_order.proofs.Numbers.{place_first, call_in}

-- what a comparison tells
pub same_place : (o : Option ℕ) (k : ℕ) → false ≡ not (option_eq eqb o (Some k)) → o ≡ Some k
same_place None k h = cc
same_place (Some x) k h =
    let same : x ≡ k = grind (arith, nat_tests, h) in
    ap (λ y. Some y) same

-- one function more that is found at its own place
pub found_more : (fs : List Function) (i : ℕ) (f : Function) → i < length fs → f ≡ get_or fs i f → function_in fs (id_of f) ≡ Some i → ((k : ℕ) → k < i → function_in fs (number fs k) ≡ Some k) → (k : ℕ) → k < i + 1 → function_in fs (number fs k) ≡ Some k
found_more fs i f inside is found before =
    below_more (λ k. function_in fs (number fs k) ≡ Some k) i before
    (ap (function_in fs) (get_or-map id_of fs i f 0 inside ∙ ap id_of (sym is)) ∙ found)

-- where each function is found at its own place, each has its own id
pub own_ids_from : (fs : List Function) → ((k : ℕ) → k < length fs → function_in fs (number fs k) ≡ Some k) → HaveOwnIds fs
own_ids_from fs found i j before inside same =
    let at_i = found i (omega (arith, before, inside)) in
    let at_j = found j inside in
    let both : Some i ≡ Some j = sym at_i ∙ ap (function_in fs) same ∙ at_j in
    let equal : i ≡ j = cc in
    omega (arith, equal, before)

first_is : (fs : List Function) (d : Function) (x : ℕ) → position_or_len (λ f. id_of f == x) fs < length fs → Contains (ids_of fs) x
first_is fs d x inside =
    let p = position_or_len (λ f. id_of f == x) fs in
    let passes : (id_of (get_or fs p d) == x) ≡ true = passes_at_first (λ f. id_of f == x) fs d inside in
    let is : id_of (get_or fs p d) ≡ x = grind (arith, nat_tests, passes) in
    (p, rw (length-map fs id_of) inside, get_or-map id_of fs p d x inside ∙ is)

stands : (fs : List Function) (x : ℕ) → position_or_len (λ f. id_of f == x) fs < length fs → Contains (ids_of fs) x
stands [] x inside = absurd (omega (arith, inside))
stands (f ∷ fs) x inside = first_is (f ∷ fs) f x inside

-- an id that has a place is a function's
pub known_from : (fs : List Function) (x k : ℕ) → function_in fs x ≡ Some k → Contains (ids_of fs) x
known_from fs x k found =
    let p = position_or_len (λ f. id_of f == x) fs in
    elim (leb_tells (suc p) (length fs)) [
      | inl w ↦ stands fs x w.1
      | inr w ↦
          let none : None ≡ function_in fs x = ap (λ b. cond b (Some p) None) (sym w.0) ∙ position_from-zero (λ f. id_of f == x) fs in
          cc
    ]

-- where each call has a place to go to, each function that is called is one of the module's
pub callees_from : (fs : List Function) → All (λ (c : Call). c.callee < length fs) (calls_of fs) → AreCalleesFunctions fs
callees_from fs inside f g calls =
    let i = calls.0 in
    let makes = calls.1 in
    let call = call_in fs 0 fs makes.1.0 makes.0 i makes.1.1 makes.1.2 makes.3 in
    let small = All-contains (λ (c : Call). c.callee < length fs) (calls_of fs) (call_at fs (0 + makes.1.0) i) inside call in
    let here : Contains (ids_of fs) (callee i) = stands fs (callee i) (rw (← place_first fs (callee i)) small) in
    rw calls.2 at here
