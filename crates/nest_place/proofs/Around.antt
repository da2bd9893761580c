-- The constructs round a block are those of headers before it, each within those round its header.
use Rattle.std.proofs.Common.{◌≡◌, ◌<◌, ◌≤◌, ◌==◌, ◌||◌, ℕ, zero, suc, Bool, true, false, List, [], ◌∷◌, ◌++◌, if◌then◌else◌, Option, Some, None, refl, ap, sym, subst, arith}
use Rattle.std.specs.List.{list_any}
use Rattle.structure_rules.specs.declared.graph.Merge.{Merge}
use Rattle.structure_rules.specs.declared.graph.Merge.TheVariants.{Absent, Selection, Loop as LoopMerge}
use Rattle.structure_rules.specs.declared.graph.Node.{Node}
use Rattle.structure_rules.specs.declared.graph.Role.{Role}
use Rattle.structure_rules.specs.declared.graph.Role.TheVariants.{First, Merge as MergeOf, Continue, Case as CaseOf, Inside}
use Rattle.structure_rules.specs.declared.graph.Part.{Part}
use Rattle.structure_rules.specs.declared.graph.Part.TheVariants.{If, Loop, Cont, Case}
use Rattle.structure_rules.specs.Graph.{nth, named, is_value, is_conditional, is_switch, is_selection, merge_block, merge_named}
use Rattle.structure_rules.specs.Nesting.{name_links, case_links, entry_links, header_of, switch_of, first_of, role_by, role, parent_of, opened, place, place_step, inner}
use Rattle.nest_place.specs.Spots.{IsGrounded}
use Rattle.nest_place.proofs.LinkLemmas.{has_first}
use Rattle.nest_place.proofs.Naming.{name_from}
use Rattle.nest_place.proofs.Parenthood.{case_from}
use Rattle.nest_place.proofs.Outward.{place_is, other_first}

-- a header, or a switch
abbrev pub header : Part → ℕ
header (If h) = h
header (Loop h) = h
header (Cont h) = h
header (Case s t) = s

abbrev pub IsLoopMerge : Merge → Type 0
IsLoopMerge (LoopMerge m c) = Unit {0}
IsLoopMerge _ = ⊥

-- the construct is one of the graph's
abbrev pub IsConstruct : List Node → Part → Type 0
IsConstruct g (If h) = (is_selection (nth g h).merge ≡ true) × (is_conditional (nth g h).exit ≡ true)
IsConstruct g (Loop h) = IsLoopMerge (nth g h).merge
IsConstruct g (Cont h) = IsLoopMerge (nth g h).merge
IsConstruct g (Case s t) = (is_switch (nth g s).exit ≡ true) × (role g t ≡ CaseOf s) × ((nth g t).reached ≡ true)

-- these constructs, of headers among the first n, are each within those round its header
abbrev pub IsNested : List Node → ℕ → List Part → Type 0
IsNested g n [] = Unit {0}
IsNested g n (p ∷ ps) = (header p < n) × ((nth g (header p)).reached ≡ true) × IsConstruct g p × (ps ≡ place g (header p)) × IsNested g (header p) ps

pub nested_more : (g : List Node) (n m : ℕ) (ps : List Part) → n ≤ m → IsNested g n ps → IsNested g m ps
nested_more g n m [] le is = tt
nested_more g n m (p ∷ ps) le is = ((let less : header p < n = is.0 in let more : header p < m = omega (arith, less, le) in more), is.1, is.2, is.3, is.4)

pub record RoleFacts (g : List Node) (t : ℕ) (r : Role) : Type 0 where
  pub continued : (h : ℕ) → r ≡ Continue h → (header_of g t ≡ Some h) × (is_value t (merge_block g h) ≡ false)
  pub merged : (h : ℕ) → r ≡ MergeOf h → (header_of g t ≡ Some h) × (is_value t (merge_block g h) ≡ true)
  pub cased : (s : ℕ) → r ≡ CaseOf s → (header_of g t ≡ None) × (switch_of g t ≡ Some s)
  pub entered : (p : ℕ) → r ≡ Inside p → (header_of g t ≡ None) × (switch_of g t ≡ None) × (first_of (entry_links g) t ≡ Some p)

named_facts : (g : List Node) (t h : ℕ) (b : Bool) → header_of g t ≡ Some h → is_value t (merge_block g h) ≡ b → RoleFacts g t (if b then MergeOf h else Continue h)
named_facts g t h true hi is = record {
  continued = λ k e. cc;
  merged = λ k e. (let same : h ≡ k = cc in subst (λ q. (header_of g t ≡ Some q) × (is_value t (merge_block g q) ≡ true)) same (hi, is));
  cased = λ k e. cc;
  entered = λ k e. cc;
}
named_facts g t h false hi is = record {
  continued = λ k e. (let same : h ≡ k = cc in subst (λ q. (header_of g t ≡ Some q) × (is_value t (merge_block g q) ≡ false)) same (hi, is));
  merged = λ k e. cc;
  cased = λ k e. cc;
  entered = λ k e. cc;
}

facts_by : (g : List Node) (t : ℕ) (h s e : Option ℕ) → header_of g t ≡ h → switch_of g t ≡ s → first_of (entry_links g) t ≡ e → RoleFacts g t (role_by g t h s e)
facts_by g t (Some h) s e hi si ei = named_facts g t h (is_value t (merge_block g h)) hi refl
facts_by g t None (Some s) e hi si ei = record {
  continued = λ k q. cc;
  merged = λ k q. cc;
  cased = λ k q. (hi, (let same : s ≡ k = cc in subst (λ x. switch_of g t ≡ Some x) same si));
  entered = λ k q. cc;
}
facts_by g t None None (Some e) hi si ei = record {
  continued = λ k q. cc;
  merged = λ k q. cc;
  cased = λ k q. cc;
  entered = λ k q. (hi, si, (let same : e ≡ k = cc in subst (λ x. first_of (entry_links g) t ≡ Some x) same ei));
}
facts_by g t None None None hi si ei = record {
  continued = λ k q. cc;
  merged = λ k q. cc;
  cased = λ k q. cc;
  entered = λ k q. cc;
}

-- what a role tells of its block
pub role_facts : (g : List Node) (t : ℕ) → RoleFacts g t (role g t)
unfolding role
role_facts g t = facts_by g t (header_of g t) (switch_of g t) (first_of (entry_links g) t) refl refl refl

-- a header that names a block, and not as its merge block, is a loop's
loop_by : (m : Merge) (t : ℕ) → list_any (λ x. x == t) (named m) ≡ true → is_value t (merge_named m) ≡ false → IsLoopMerge m
loop_by Absent t named other = cc
loop_by (Selection m) t named other = by_test (m == t) named other
  where
    by_test : (b : Bool) → (b || false) ≡ true → b ≡ false → ⊥
    by_test true e f = cc
    by_test false e f = cc
loop_by (LoopMerge m c) t named other = tt

-- the header of a continue target is a loop's
pub continue_header_is : (g : List Node) (t h : ℕ) → role g t ≡ Continue h → IsLoopMerge (nth g h).merge
continue_header_is g t h is =
    let facts = (role_facts g t).continued h is in
    let name = name_from g t h (has_first (name_links g) t h (other_first t h (first_of (name_links g) t) facts.0)) in
    loop_by (nth g h).merge t name.2 facts.1

-- the switch of a case target is one
pub case_switch_is : (g : List Node) (t s : ℕ) → role g t ≡ CaseOf s → is_switch (nth g s).exit ≡ true
case_switch_is g t s is = (case_from g t s (has_first (case_links g) t s ((role_facts g t).cased s is).1)).1

opened_nested : (g : List Node) (p : ℕ) (c : Bool) (m : Merge) → is_conditional (nth g p).exit ≡ c → (nth g p).merge ≡ m → (nth g p).reached ≡ true → IsNested g p (place g p) → IsNested g (suc p) (opened c m p ++ place g p)
opened_nested g p c Absent ci mi here up = nested_more g p (suc p) (place g p) (omega arith) up
opened_nested g p true (Selection m) ci mi here up = ((let less : p < suc p = omega arith in less), here, (ap is_selection mi, ci), refl, up)
opened_nested g p false (Selection m) ci mi here up = nested_more g p (suc p) (place g p) (omega arith) up
opened_nested g p c (LoopMerge m t) ci mi here up = ((let less : p < suc p = omega arith in less), here, subst IsLoopMerge (sym mi) tt, refl, up)

pub inner_from : (g : List Node) (p : ℕ) → (nth g p).reached ≡ true → IsNested g p (place g p) → IsNested g (suc p) (inner g p)
inner_from g p here up = opened_nested g p (is_conditional (nth g p).exit) (nth g p).merge refl refl here up

step_nested : (g : List Node) (b : ℕ) (r : Role) → role g b ≡ r → (nth g b).reached ≡ true → ((p : ℕ) → parent_of r ≡ Some p → (p < b) × ((nth g p).reached ≡ true) × IsNested g p (place g p)) → IsNested g b (place_step g b r (place g))
step_nested g b First is here up = tt
step_nested g b (MergeOf h) is here up = let u = up h refl in nested_more g h b (place g h) (let less : h < b = u.0 in let le : h ≤ b = omega (arith, less) in le) u.2
step_nested g b (Continue h) is here up = let u = up h refl in (u.0, u.1, continue_header_is g b h is, refl, u.2)
step_nested g b (CaseOf s) is here up = let u = up s refl in (u.0, u.1, (case_switch_is g b s is, is, here), refl, u.2)
step_nested g b (Inside p) is here up = let u = up p refl in nested_more g (suc p) b (inner g p) (let less : p < b = u.0 in let le : suc p ≤ b = omega (arith, less) in le) (inner_from g p u.1 u.2)

nested_by : (g : List Node) → IsGrounded g → (n b : ℕ) → b < n → (nth g b).reached ≡ true → IsNested g b (place g b)
nested_by g grounded zero b bn here = absurd (omega (arith, bn))
nested_by g grounded (suc n) b bn here =
    subst (λ ps. IsNested g b ps) (sym (place_is g b grounded here)) (step_nested g b (role g b) refl here (λ p is.
    let u = grounded.up b p here is in
    let less : p < b = u.0 in
    (u.0, u.1, nested_by g grounded n p (omega (arith, less, bn)) u.1)))

-- the constructs round a reached block
pub place_nested : (g : List Node) (b : ℕ) → IsGrounded g → (nth g b).reached ≡ true → IsNested g b (place g b)
place_nested g b grounded here = nested_by g grounded (suc b) b (let less : b < suc b = omega arith in less) here

pub inner_nested : (g : List Node) (b : ℕ) → IsGrounded g → (nth g b).reached ≡ true → IsNested g (suc b) (inner g b)
inner_nested g b grounded here = inner_from g b here (place_nested g b grounded here)
