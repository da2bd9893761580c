-- The parents of blocks.
use Rattle.std.proofs.Common.{◌≡◌, ◌≢◌, ◌<◌, ◌≤◌, ◌==◌, ◌&&◌, ◌||◌, nat_lt, ℕ, Bool, true, false, List, [], ◌∷◌, length, filter, if◌then◌else◌, Option, Some, None, is_none, cond, refl, ap, sym, ◌∙◌, subst, inl, inr, arith}
use Rattle.std.specs.List.{list_any, find}
use Rattle.std.specs.Option.{option_map}
use Rattle.spv_words.specs.declared.rule.Rule.TheVariants.{K4, K5}
use Rattle.std.proofs.lemmas.Bool.{or_cases, and_parts, or_left, or_right}
use Rattle.list_law.proofs.Options.{none_by}
use Rattle.list_law.proofs.Numbers.{less_of}
use Rattle.structure_rules.specs.declared.graph.Node.{Node}
use Rattle.structure_rules.specs.declared.graph.Role.TheVariants.{First, Merge as MergeOf, Continue}
use Rattle.structure_rules.specs.Graph.{nth, edges, is_value, is_switch, merge_block}
use Rattle.structure_rules.specs.Nesting.{Links, has_link, first_of, header_of, switch_of, case_targets, case_links, later_targets, entry_links, is_parent, named_role, role_by, role}
use Rattle.structure_rules.specs.Structure.{BrokenIn, IsOnlyParent, has_first, parent}
use Rattle.spv_words.specs.declared.rule.Fault.{Fault}
use Rattle.nest_place.specs.Links.{IsSingle, IsClash, IsRightEnd, AreWithin as LinksWithin}
use Rattle.nest_place.specs.declared.links.Clash.{Clash}
use Rattle.nest_place.specs.declared.links.NoTable.{NoTable}
use Rattle.nest_place.specs.declared.links.NoTable.TheVariants.{Clash as Clashed, Memory as NoMemory}
use Rattle.nest_place.specs.Steps.{IsFormed, AreParentLinks, NoneIsOrphan}
use Rattle.nest_place.specs.Checks.{IsUnbroken, IsBroken, fault_by}
use Rattle.nest_place.proofs.LinkLemmas.{same_nat, equal_nat, has_first as has_first_link}
use Rattle.nest_place.proofs.Each.{link_from, links_within, member_at, filter_has}
use Rattle.nest_place.proofs.Reading.{NoneBelow, none_start}

pub edge_if : (n : Node) (t : ℕ) → list_any (λ x. x == t) (edges n) ≡ true → (n.reached ≡ true) × (list_any (λ x. x == t) n.targets ≡ true)
edge_if n t e = by_flag n.reached e
  where
    by_flag : (b : Bool) → list_any (λ x. x == t) (if b then n.targets else []) ≡ true → (b ≡ true) × (list_any (λ x. x == t) n.targets ≡ true)
    by_flag true e = (refl, e)
    by_flag false e = cc

names_zero : (ts : List ℕ) (t : ℕ) → list_any (λ x. x == t) ts ≡ true → t ≡ 0 → has_first ts ≡ true
names_zero ts t e zero_is = ap (λ q. list_any (λ x. x == q) ts) (sym zero_is) ∙ e

-- where an edge leads
pub edge_to : (g : List Node) (p t : ℕ) → IsFormed g → p < length g → list_any (λ x. x == t) (edges (nth g p)) ≡ true → ((nth g p).reached ≡ true) × (t < length g) × ((nth g t).reached ≡ true) × (t ≢ 0)
edge_to g p t f inside e =
    let parts = edge_if (nth g p) t e in
    let at = member_at (nth g p).targets t parts.1 in (
      parts.0,
      subst (λ q. q < length g) at.2 ((f.within p inside).leads at.0 at.1),
      f.reached p t parts.0 parts.1,
      λ zero_is. f.first (nth g p).exit_at (p, inside, parts.0, inl (names_zero (nth g p).targets t parts.1 zero_is, refl)),
    )

switch_if : (g : List Node) (n : Node) (t : ℕ) → list_any (λ x. x == t) (case_targets g n) ≡ true → (is_switch n.exit ≡ true) × (list_any (λ x. x == t) (edges n) ≡ true) × (header_of g t ≡ None)
switch_if g n t e = by_test (is_switch n.exit) refl e
  where
    by_test : (b : Bool) → is_switch n.exit ≡ b → list_any (λ x. x == t) (if b then filter (λ t. is_none (header_of g t)) (edges n) else []) ≡ true → (is_switch n.exit ≡ true) × (list_any (λ x. x == t) (edges n) ≡ true) × (header_of g t ≡ None)
    by_test true is e = let parts = filter_has (λ t. is_none (header_of g t)) (edges n) t e in (is, parts.0, none_by (header_of g t) parts.1)
    by_test false is e = cc

-- a link to a switch
pub case_from : (g : List Node) (t s : ℕ) → has_link (case_links g) t s ≡ true → (s < length g) × (is_switch (nth g s).exit ≡ true) × (list_any (λ x. x == t) (edges (nth g s)) ≡ true) × (header_of g t ≡ None)
unfolding case_links
case_from g t s e =
    let at = link_from (λ s n. case_targets g n) g t s e in
    let parts = switch_if g (nth g s) t at.1 in
    (at.0, parts.0, parts.1, parts.2)

-- a link to a predecessor
pub entry_from : (g : List Node) (t p : ℕ) → has_link (entry_links g) t p ≡ true → (p < length g) × (p < t) × (list_any (λ x. x == t) (edges (nth g p)) ≡ true) × (header_of g t ≡ None) × (switch_of g t ≡ None)
unfolding entry_links
entry_from g t p e =
    let at = link_from (later_targets g) g t p e in
    let parts = filter_has (λ t. nat_lt p t && (is_none (header_of g t) && is_none (switch_of g t))) (edges (nth g p)) t at.1 in
    let tests = and_parts (nat_lt p t) (is_none (header_of g t) && is_none (switch_of g t)) parts.1 in
    let nones = and_parts (is_none (header_of g t)) (is_none (switch_of g t)) tests.1 in
    (at.0, less_of p t tests.0, parts.0, none_by (header_of g t) nones.0, none_by (switch_of g t) nones.1)

pub cases_are_parents : (g : List Node) → IsFormed g → AreParentLinks g (case_links g)
cases_are_parents g f t s e =
    let from = case_from g t s e in
    let to = edge_to g s t f from.0 from.2 in
    record { inside = to.1; reached = to.2; later = to.3; parent = or_right (is_value s (header_of g t)) _ (or_left (has_link (case_links g) t s) _ e) }

pub entries_are_parents : (g : List Node) → IsFormed g → AreParentLinks g (entry_links g)
entries_are_parents g f t p e =
    let from = entry_from g t p e in
    let to = edge_to g p t f from.0 from.2 in
    record { inside = to.1; reached = to.2; later = to.3; parent = or_right (is_value p (header_of g t)) _ (or_right (has_link (case_links g) t p) _ e) }

pub parents_within : (g : List Node) (links : Links) → AreParentLinks g links → LinksWithin (length g) links
parents_within g links all = links_within (length g) links (λ t p e. (all t p e).inside)

-- a block with two parents
pub clash_parents : (g : List Node) (links : Links) (c : Clash) → AreParentLinks g links → IsClash links c → BrokenIn g K4 (nth g c.block).at
clash_parents g links c all clash =
    let one = all c.block c.first clash.0 in
    let two = all c.block c.second clash.1 in
    (c.block, one.inside, one.reached, (one.later, (λ p only. let first : c.first ≡ p = only.1 c.first one.parent in let second : c.second ≡ p = only.1 c.second two.parent in clash.2 (first ∙ sym second)), refl))

-- links to parents that make no table
pub parents_clash : (g : List Node) (links : Links) (why : NoTable) (fault : Fault) → fault ≡ fault_by g K4 why → AreParentLinks g links → IsRightEnd links why → IsBroken g K4 fault
parents_clash g links why fault is all end = subst (IsBroken g K4) (sym is) (by_end why end)
  where
    by_end : (why : NoTable) → IsRightEnd links why → IsBroken g K4 (fault_by g K4 why)
    by_end (Clashed c) clash = (refl, clash_parents g links c all clash)
    by_end NoMemory h = tt

abbrev pub IsOrphan : List Node → ℕ → Node → Type 0
IsOrphan g t n = (t ≢ 0) × (role g t ≡ First)

pub orphans_fine : (g : List Node) (i : ℕ) → length g ≤ i → NoneBelow g i (IsOrphan g) → NoneIsOrphan g
orphans_fine g i all none t inside here later first = none t (omega (arith, all, inside)) here (later, first)

named_is : (g : List Node) (t h : ℕ) → named_role g t h ≡ First → ⊥
named_is g t h e = by_test (is_value t (merge_block g h)) e
  where
    by_test : (b : Bool) → (if b then MergeOf h else Continue h) ≡ First → ⊥
    by_test true e = cc
    by_test false e = cc

pub no_link : (links : Links) (a b : ℕ) → first_of links a ≡ None → has_link links a b ≡ true → ⊥
no_link [] a b none e = cc
no_link (l ∷ links) a b none e = by_test (l.0 == a) none e (no_link links a b)
  where
    by_test : (t : Bool) → option_map (λ (l : ℕ × ℕ). l.1) (cond t (Some l) (find (λ (m : ℕ × ℕ). m.0 == a) links)) ≡ None → ((t && (l.1 == b)) || has_link links a b) ≡ true → (first_of links a ≡ None → has_link links a b ≡ true → ⊥) → ⊥
    by_test true none e on = cc
    by_test false none e on = on none e

-- what is no parent
not_parent : (g : List Node) (t p : ℕ) → header_of g t ≡ None → switch_of g t ≡ None → first_of (entry_links g) t ≡ None → is_parent g t p ≡ true → ⊥
not_parent g t p header switch entry e =
    elim (or_cases (is_value p (header_of g t)) (has_link (case_links g) t p || has_link (entry_links g) t p) e) [
      | inl h ↦ let none : is_value p None ≡ true = ap (is_value p) (sym header) ∙ h in cc
      | inr h ↦ elim (or_cases (has_link (case_links g) t p) (has_link (entry_links g) t p) h) [
        | inl c ↦ no_link (case_links g) t p switch c
        | inr c ↦ no_link (entry_links g) t p entry c
      ]
    ]

orphan_by : (g : List Node) (t p : ℕ) (h s e : Option ℕ) → header_of g t ≡ h → switch_of g t ≡ s → first_of (entry_links g) t ≡ e → role_by g t h s e ≡ First → is_parent g t p ≡ true → ⊥
orphan_by g t p (Some h) s e hi si ei first is = named_is g t h first
orphan_by g t p None (Some s) e hi si ei first is = cc
orphan_by g t p None None (Some e) hi si ei first is = cc
orphan_by g t p None None None hi si ei first is = not_parent g t p hi si ei is

-- a block without a parent
pub orphan_bad : (g : List Node) (t : ℕ) → t < length g → (nth g t).reached ≡ true → t ≢ 0 → role g t ≡ First → BrokenIn g K4 (nth g t).at
unfolding role
orphan_bad g t inside here later first = (t, inside, here, (later, (λ p only. orphan_by g t p (header_of g t) (switch_of g t) (first_of (entry_links g) t) refl refl refl first only.0), refl))

value_is : (x y : ℕ) (o : Option ℕ) → o ≡ Some y → is_value x o ≡ true → x ≡ y
value_is x y o is e = sym (equal_nat y x (ap (is_value x) (sym is) ∙ e))

value_of_some : (x : ℕ) (o : Option ℕ) → o ≡ Some x → is_value x o ≡ true
value_of_some x o is = ap (is_value x) is ∙ same_nat x

-- the one parent of a block
one_parent : (g : List Node) (t : ℕ) (h s e : Option ℕ) → IsSingle (case_links g) → IsSingle (entry_links g) → header_of g t ≡ h → switch_of g t ≡ s → first_of (entry_links g) t ≡ e → (role_by g t h s e ≡ First → ⊥) → (p : ℕ) × IsOnlyParent g t p
one_parent g t (Some h) s e cases entries hi si ei some = (
  h,
  (
    or_left (is_value h (header_of g t)) _ (value_of_some h (header_of g t) hi),
    (λ q is.
        elim (or_cases (is_value q (header_of g t)) (has_link (case_links g) t q || has_link (entry_links g) t q) is) [
          | inl named ↦ value_is q h (header_of g t) hi named
          | inr other ↦ elim (or_cases (has_link (case_links g) t q) (has_link (entry_links g) t q) other) [
            | inl c ↦ let none : header_of g t ≡ None = (case_from g t q c).3 in let clash : Some h ≡ None = sym hi ∙ none in cc
            | inr c ↦ let none : header_of g t ≡ None = (entry_from g t q c).3 in let clash : Some h ≡ None = sym hi ∙ none in cc
          ]
        ]),
  ),
)
one_parent g t None (Some s) e cases entries hi si ei some = (
  s,
  (
    or_right (is_value s (header_of g t)) _ (or_left (has_link (case_links g) t s) _ (has_first_link (case_links g) t s si)),
    (λ q is.
        elim (or_cases (is_value q (header_of g t)) (has_link (case_links g) t q || has_link (entry_links g) t q) is) [
          | inl named ↦ let none : is_value q None ≡ true = ap (is_value q) (sym hi) ∙ named in cc
          | inr other ↦ elim (or_cases (has_link (case_links g) t q) (has_link (entry_links g) t q) other) [
            | inl c ↦ let one : first_of (case_links g) t ≡ Some q = cases t q c in let same : Some q ≡ Some s = sym one ∙ si in cc
            | inr c ↦ let none : switch_of g t ≡ None = (entry_from g t q c).4 in let clash : Some s ≡ None = sym si ∙ none in cc
          ]
        ]),
  ),
)
one_parent g t None None (Some e) cases entries hi si ei some = (
  e,
  (
    or_right (is_value e (header_of g t)) _ (or_right (has_link (case_links g) t e) _ (has_first_link (entry_links g) t e ei)),
    (λ q is.
        elim (or_cases (is_value q (header_of g t)) (has_link (case_links g) t q || has_link (entry_links g) t q) is) [
          | inl named ↦ let none : is_value q None ≡ true = ap (is_value q) (sym hi) ∙ named in cc
          | inr other ↦ elim (or_cases (has_link (case_links g) t q) (has_link (entry_links g) t q) other) [
            | inl c ↦ absurd (no_link (case_links g) t q si c)
            | inr c ↦ let one : first_of (entry_links g) t ≡ Some q = entries t q c in let same : Some q ≡ Some e = sym one ∙ ei in cc
          ]
        ]),
  ),
)
one_parent g t None None None cases entries hi si ei some = absurd (some refl)

pub parents_fine : (g : List Node) → NoneIsOrphan g → IsSingle (case_links g) → IsSingle (entry_links g) → IsUnbroken g K4
unfolding role
parents_fine g none cases entries at broken =
    let t : ℕ = broken.0 in
    let bad = broken.3 in
    let one = one_parent g t (header_of g t) (switch_of g t) (first_of (entry_links g) t) cases entries refl refl refl (none t broken.1 broken.2 bad.0) in
    bad.1 one.0 one.1

pub parents_fine_of : (g a b : List Node) → a ≡ g → b ≡ g → NoneIsOrphan a → IsSingle (case_links g) → IsSingle (entry_links b) → IsUnbroken g K4
parents_fine_of g a b same_a same_b none cases entries = parents_fine g (subst NoneIsOrphan same_a none) cases (subst (λ h. IsSingle (entry_links h)) same_b entries)

abbrev pub IsEarly : List Node → ℕ → Node → Type 0
IsEarly g t n = (p : ℕ) × (parent g t ≡ Some p) × (t ≤ p)

pub order_fine : (g : List Node) (i : ℕ) → length g ≤ i → NoneBelow g i (IsEarly g) → IsUnbroken g K5
order_fine g i all none at broken = let inside : broken.0 < length g = broken.1 in none broken.0 (omega (arith, all, inside)) broken.2 broken.3.0

pub ruleset table_rules = (parents_within, parents_clash)

pub ruleset orphan_rules = (none_start, orphans_fine, orphan_bad)

pub ruleset order_rules = (none_start, order_fine)
