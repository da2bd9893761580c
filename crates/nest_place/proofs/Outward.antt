-- What is said of a block by way of its parents.
use Rattle.std.proofs.Common.{◌≡◌, ◌<◌, ◌≤◌, ◌+◌, ◌==◌, ℕ, zero, suc, Bool, true, false, List, [], ◌∷◌, ◌++◌, length, if◌then◌else◌, Option, Some, None, refl, ap, sym, ◌∙◌, subst, inl, inr, arith}
use Rattle.std.proofs.lemmas.Bool.{cases_lt}
use Rattle.spv_words.specs.declared.rule.Rule.TheVariants.{K5}
use Rattle.structure_rules.specs.declared.graph.Node.{Node}
use Rattle.structure_rules.specs.declared.graph.Role.{Role}
use Rattle.structure_rules.specs.declared.graph.Role.TheVariants.{First, Merge as MergeOf, Continue, Case as CaseOf, Inside}
use Rattle.structure_rules.specs.declared.graph.Part.TheVariants.{Cont, Case}
use Rattle.structure_rules.specs.Graph.{nth, is_value, merge_block}
use Rattle.structure_rules.specs.Nesting.{name_links, case_links, entry_links, header_of, switch_of, first_of, other_than, named_role, role_by, role, parent_of, outward, place, place_step, nesting, nesting_step, own_part, deeper}
use Rattle.nest_place.specs.Checks.{IsUnbroken}
use Rattle.nest_place.specs.Spots.{IsGrounded}
use Rattle.nest_place.proofs.LinkLemmas.{has_first}
use Rattle.nest_place.proofs.Naming.{name_from}
use Rattle.nest_place.proofs.Parenthood.{case_from, entry_from, edge_if}

-- what a step says of a block hangs on what is said of its parent alone
abbrev pub IsLocal : {A : Type 0} → (ℕ → Role → (ℕ → A) → A) → Type 0
IsLocal {A} step = (b : ℕ) (r : Role) (f h : ℕ → A) → ((p : ℕ) → parent_of r ≡ Some p → f p ≡ h p) → step b r f ≡ step b r h

place_local : (g : List Node) → IsLocal (place_step g)
place_local g b First f h same = refl
place_local g b (MergeOf p) f h same = same p refl
place_local g b (Continue p) f h same = ap (λ ps. Cont p ∷ ps) (same p refl)
place_local g b (CaseOf p) f h same = ap (λ ps. Case p b ∷ ps) (same p refl)
place_local g b (Inside p) f h same = ap (λ ps. own_part g p ++ ps) (same p refl)

nesting_local : (g : List Node) → IsLocal (nesting_step g)
nesting_local g b First f h same = refl
nesting_local g b (MergeOf p) f h same = same p refl
nesting_local g b (Continue p) f h same = ap (λ n. 1 + n) (same p refl)
nesting_local g b (CaseOf p) f h same = ap (λ n. 1 + n) (same p refl)
nesting_local g b (Inside p) f h same = ap (λ n. deeper g p + n) (same p refl)

outward_same : {A : Type 0} (step : ℕ → Role → (ℕ → A) → A) (none : A) (g : List Node) → IsLocal step → IsGrounded g → (n m b : ℕ) → (nth g b).reached ≡ true → b < n → b < m → outward step none g n b ≡ outward step none g m b
unfolding outward
outward_same step none g local grounded zero m b here bn bm = absurd (omega (arith, bn))
outward_same step none g local grounded (suc n) zero b here bn bm = absurd (omega (arith, bm))
outward_same step none g local grounded (suc n) (suc m) b here bn bm =
    local b (role g b) (outward step none g n) (outward step none g m) (λ p is.
    let up = grounded.up b p here is in
    let less : p < b = up.0 in
    outward_same step none g local grounded n m p up.1 (omega (arith, less, bn)) (omega (arith, less, bm)))

pub outward_is : {A : Type 0} (step : ℕ → Role → (ℕ → A) → A) (none : A) (g : List Node) → IsLocal step → IsGrounded g → (b : ℕ) → (nth g b).reached ≡ true → outward step none g (suc b) b ≡ step b (role g b) (λ p. outward step none g (suc p) p)
unfolding outward
outward_is step none g local grounded b here =
    local b (role g b) (outward step none g b) (λ p. outward step none g (suc p) p) (λ p is.
    let up = grounded.up b p here is in
    let less : p < b = up.0 in
    let self : p < suc p = omega arith in
    outward_same step none g local grounded b (suc p) p up.1 less self)

-- a block stands where its role and its parent's place put it
pub place_is : (g : List Node) (b : ℕ) → IsGrounded g → (nth g b).reached ≡ true → place g b ≡ place_step g b (role g b) (place g)
place_is g b grounded here = outward_is (place_step g) [] g (place_local g) grounded b here

pub nesting_is : (g : List Node) (b : ℕ) → IsGrounded g → (nth g b).reached ≡ true → nesting g b ≡ nesting_step g b (role g b) (nesting g)
nesting_is g b grounded here = outward_is (nesting_step g) 0 g (nesting_local g) grounded b here

pub named_parent : (g : List Node) (t h : ℕ) → parent_of (named_role g t h) ≡ Some h
named_parent g t h = by_test (is_value t (merge_block g h))
  where
    by_test : (b : Bool) → parent_of (if b then MergeOf h else Continue h) ≡ Some h
    by_test true = refl
    by_test false = refl

pub other_first : (t h : ℕ) (o : Option ℕ) → other_than t o ≡ Some h → o ≡ Some h
other_first t h None e = cc
other_first t h (Some k) e = by_test (k == t) e
  where
    by_test : (b : Bool) → (if b then None else Some k) ≡ Some h → Some k ≡ Some h
    by_test true e = cc
    by_test false e = e

-- the header of a block is reached
pub header_reached : (g : List Node) (t h : ℕ) → header_of g t ≡ Some h → (nth g h).reached ≡ true
header_reached g t h e = (name_from g t h (has_first (name_links g) t h (other_first t h (first_of (name_links g) t) e))).1

parent_by : (g : List Node) (t p : ℕ) (h s e : Option ℕ) → header_of g t ≡ h → switch_of g t ≡ s → first_of (entry_links g) t ≡ e → parent_of (role_by g t h s e) ≡ Some p → (nth g p).reached ≡ true
parent_by g t p (Some h) s e hi si ei is =
    let same : Some h ≡ Some p = sym (named_parent g t h) ∙ is in
    let equal : h ≡ p = cc in
    subst (λ q. (nth g q).reached ≡ true) equal (header_reached g t h hi)
parent_by g t p None (Some s) e hi si ei is =
    let equal : s ≡ p = cc in
    subst (λ q. (nth g q).reached ≡ true) equal (edge_if (nth g s) t (case_from g t s (has_first (case_links g) t s si)).2).0
parent_by g t p None None (Some e) hi si ei is =
    let equal : e ≡ p = cc in
    subst (λ q. (nth g q).reached ≡ true) equal (edge_if (nth g e) t (entry_from g t e (has_first (entry_links g) t e ei)).2).0
parent_by g t p None None None hi si ei is = cc

-- the parent of a block is reached
pub parent_reached : (g : List Node) (t p : ℕ) → parent_of (role g t) ≡ Some p → (nth g p).reached ≡ true
unfolding role
parent_reached g t p is = parent_by g t p (header_of g t) (switch_of g t) (first_of (entry_links g) t) refl refl refl is

-- a reached block is one
pub reached_inside : (g : List Node) (b : ℕ) → (nth g b).reached ≡ true → b < length g
reached_inside [] b e = cc
reached_inside (n ∷ g) zero e = omega arith
reached_inside (n ∷ g) (suc b) e = let later : b < length g = reached_inside g b e in omega (arith, later)

before : (t p : ℕ) → (t ≤ p → ⊥) → p < t
before t p apart = elim (cases_lt p t) [ inl w ↦ w | inr w ↦ absurd (apart w) ]

pub grounded : (g : List Node) → IsUnbroken g K5 → IsGrounded g
grounded g order = record { up = λ t p here is. (before t p (λ late. order (nth g t).at (t, reached_inside g t here, here, ((p, is, late), refl))), parent_reached g t p is) }
