-- What is said of functions by their places is said of them by their ids.
use Rattle.std.proofs.Common.{◌≡◌, ◌<◌, ◌+◌, ℕ, zero, suc, true, List, length, refl, ap, sym, ◌∙◌, arith, Contains}
use Rattle.std.proofs.lemmas.List.Elements.{All-contains_itself, All-weaker}
use Rattle.spv_words.specs.declared.rule.Limit.TheVariants.{Calls as CallLimit}
use Rattle.spv_words.specs.declared.rule.Fault.{Fault}
use Rattle.spv_words.specs.declared.rule.Fault.TheVariants.{Refused, Limit, Memory}
use Rattle.spv_module.specs.declared.inst.Inst.{Inst}
use Rattle.spv_module.specs.declared.inst.Function.{Function}
use Rattle.profile_rules.specs.Calls.{callee, id_of, ids_of, place, Calls, Makes, Leads, HaveOwnIds, AreCalleesFunctions, IsRecursionAt, IsAcyclic, Exceeds, IsWithinCalls, IsRight}
use Rattle.call_order.specs.declared.graph.Call.{Call}
use Rattle.call_order.specs.Graph.{number, call_at, calls_of, Edge, AreBelow, is_in}
use Rattle.call_order.specs.Listing.{IsListing}
use Rattle.call_order.specs.Cycle.{IsOnCycle}
use Rattle.call_order.specs.Depths.{AreDepths, IsTooDeep, IsDepthFault}
use Rattle.call_order.specs.Checked.{IsCycleFault}
use Rattle.call_order.proofs.Walks.{leads_image}
use Rattle.call_order.proofs.Listed.{no_cycle}
use Rattle.call_order.proofs.Numbers.{number_is, place_is, number_place, call_from, call_in}

-- each function has its own id, and each that is called is one of them
pub record IsClosed (fs : List Function) : Type 0 where
  pub own : HaveOwnIds fs
  pub callees : AreCalleesFunctions fs

-- a call that a function makes, from place to place
pub made : (fs : List Function) (f : ℕ) (i : Inst) → IsClosed fs → Makes fs f i → Contains (calls_of fs) (call_at fs (place fs f) i)
made fs f i closed makes =
    let h = makes.0 in
    let k = makes.1.0 in
    let id : number fs k ≡ f = number_is fs k h makes.1.1 makes.1.2 ∙ makes.2 in
    let at : place fs f ≡ 0 + k = ap (place fs) (sym id) ∙ place_is fs k closed.own makes.1.1 ∙ (let e : k ≡ 0 + k = omega arith in e) in
    rw at (call_in fs 0 fs k h i makes.1.1 makes.1.2 makes.3)

-- who makes a call
pub maker : (fs : List Function) (c : Call) → IsClosed fs → Contains (calls_of fs) c → (i : Inst) × Makes fs (number fs c.caller) i × (c.callee ≡ place fs (callee i)) × (c.at ≡ i.at) × (c.caller < length fs)
maker fs c closed here =
    let from = call_from fs 0 fs c here in
    let k = from.0 in
    let h = from.1 in
    let caller : c.caller ≡ k = ap (λ (d : Call). d.caller) from.6 ∙ (let e : 0 + k ≡ k = omega arith in e) in
    let id : id_of h ≡ number fs c.caller = sym (number_is fs k h from.3 from.4) ∙ ap (number fs) (sym caller) in
    (from.2, (h, (k, from.3, from.4), id, from.5), ap (λ (d : Call). d.callee) from.6, ap (λ (d : Call). d.at) from.6, omega (arith, caller, from.3))

-- the callee of a call that a function makes is one of them
callee_is : (fs : List Function) (f : ℕ) (i : Inst) → IsClosed fs → Makes fs f i → Contains (ids_of fs) (callee i)
callee_is fs f i closed makes = closed.callees f (callee i) (i, makes, refl)

-- the calls are of and by functions of the module
pub all_below : (fs : List Function) → IsClosed fs → AreBelow (length fs) (calls_of fs)
all_below fs closed =
    All-weaker (Contains (calls_of fs)) (λ (c : Call). (c.caller < length fs) × (c.callee < length fs))
    (λ c here.
    let by = maker fs c closed here in
    let callee_at = number_place fs (callee by.0) closed.own (callee_is fs (number fs c.caller) by.0 closed by.1) in
    (by.4, omega (arith, by.2, callee_at.0)))
    (calls_of fs) (All-contains_itself (calls_of fs))

-- from place to place, and from id to id
pub edge_of : (fs : List Function) (f g : ℕ) → IsClosed fs → Calls fs f g → Edge (calls_of fs) (place fs f) (place fs g)
edge_of fs f g closed calls = (call_at fs (place fs f) calls.0, made fs f calls.0 closed calls.1, refl, ap (place fs) calls.2)

pub calls_by : (fs : List Function) (p q : ℕ) → IsClosed fs → Edge (calls_of fs) p q → Calls fs (number fs p) (number fs q)
calls_by fs p q closed edge =
    let by = maker fs edge.0 closed edge.1 in
    let callee_at = number_place fs (callee by.0) closed.own (callee_is fs (number fs edge.0.caller) by.0 closed by.1) in
    let is : callee by.0 ≡ number fs q = sym callee_at.1 ∙ ap (number fs) (sym by.2 ∙ edge.3) in
    (by.0, rw (← edge.2) by.1, is)

pub leads_places : (fs : List Function) (n f g : ℕ) → IsClosed fs → Leads (Calls fs) n f g → Leads (Edge (calls_of fs)) n (place fs f) (place fs g)
leads_places fs n f g closed h = leads_image (Calls fs) (Edge (calls_of fs)) (place fs) (λ x y c. edge_of fs x y closed c) n f g h

pub leads_numbers : (fs : List Function) (n p q : ℕ) → IsClosed fs → Leads (Edge (calls_of fs)) n p q → Leads (Calls fs) n (number fs p) (number fs q)
leads_numbers fs n p q closed h = leads_image (Edge (calls_of fs)) (Calls fs) (number fs) (λ x y e. calls_by fs x y closed e) n p q h

-- what is reached from a function is one
pub reached_is : (fs : List Function) (n f g : ℕ) → IsClosed fs → Contains (ids_of fs) f → Leads (Calls fs) n f g → Contains (ids_of fs) g
reached_is fs zero f g closed here h = rw (← h) here
reached_is fs (suc n) f g closed here h = closed.callees h.0 g h.2

-- a call on a cycle breaks the rule
pub recursion : (fs : List Function) (c : Call) → IsClosed fs → IsOnCycle (calls_of fs) c → IsRecursionAt fs c.at
recursion fs c closed cycle =
    let by = maker fs c closed cycle.0 in
    let callee_at = number_place fs (callee by.0) closed.own (callee_is fs (number fs c.caller) by.0 closed by.1) in
    let back = leads_numbers fs cycle.1.0 c.callee c.caller closed cycle.1.1 in
    let is : number fs c.callee ≡ callee by.0 = ap (number fs) by.2 ∙ callee_at.1 in
    (number fs c.caller, by.0, by.1, by.3, (cycle.1.0, rw is at back))

-- where all functions are listed, no calls form a cycle
pub acyclic : (fs : List Function) (order : List ℕ) → IsClosed fs → IsListing (calls_of fs) (length fs) order → ((p : ℕ) → p < length fs → is_in order p ≡ true) → IsAcyclic fs
acyclic fs order closed listing listed at broken =
    let c = call_at fs (place fs broken.0) broken.1 in
    let here = made fs broken.0 broken.1 closed broken.2 in
    let back = leads_places fs broken.4.0 (callee broken.1) broken.0 closed broken.4.1 in
    no_cycle (calls_of fs) (length fs) order c listing (listed (place fs broken.0) (maker fs c closed here).4) here (broken.4.0, back)

-- a chain that is too long
pub exceeds : (fs : List Function) (entry : ℕ) → IsClosed fs → Contains (ids_of fs) entry → IsAcyclic fs → IsTooDeep (calls_of fs) (place fs entry) → Exceeds fs entry CallLimit
exceeds fs entry closed here fine deep =
    let chain = leads_numbers fs deep.0 (place fs entry) deep.1 closed deep.3 in
    let is : number fs (place fs entry) ≡ entry = (number_place fs entry closed.own here).1 in
    (fine, (deep.0 + 1, deep.2, (deep.0, number fs deep.1, refl, rw is at chain)))

-- chains that are not
pub within : (fs : List Function) (entry : ℕ) (depths : List ℕ) → IsClosed fs → Contains (ids_of fs) entry → AreDepths (calls_of fs) (length fs) (place fs entry) depths → IsWithinCalls fs entry
within fs entry depths closed here known count chain =
    let last = chain.1 in
    let inside = (number_place fs last closed.own (reached_is fs chain.0 entry last closed here chain.3)).0 in
    let most = (known.depth (place fs last) inside).most chain.0 (leads_places fs chain.0 entry last closed chain.3) in
    omega (arith, chain.2, most, known.small (place fs last))

-- a refusal of the listing is right
pub cycle_right : (fs : List Function) (entry : ℕ) (fault : Fault) → IsClosed fs → IsCycleFault (calls_of fs) fault → IsRight fs entry fault
cycle_right fs entry (Refused r) closed cause =
    let broken : IsRecursionAt fs r.at = rw cause.1.1 (recursion fs cause.1.0 closed cause.1.2) in
    rw cause.0 broken
cycle_right fs entry (Limit l) closed cause = absurd cause
cycle_right fs entry Memory closed cause = tt

-- and so is one of the depths
pub depth_right : (fs : List Function) (entry : ℕ) (fault : Fault) → IsClosed fs → Contains (ids_of fs) entry → IsAcyclic fs → IsDepthFault (calls_of fs) (place fs entry) fault → IsRight fs entry fault
depth_right fs entry (Refused r) closed here fine cause = absurd cause
depth_right fs entry (Limit l) closed here fine cause = rw cause.0 (exceeds fs entry closed here fine cause.1)
depth_right fs entry Memory closed here fine cause = tt
