-- The blocks that merge instructions name.
use Rattle.std.proofs.Common.{◌≡◌, ◌≢◌, ◌<◌, ◌≤◌, ◌==◌, ◌&&◌, ◌||◌, not, ℕ, Bool, true, false, List, [], ◌∷◌, length, if◌then◌else◌, Some, refl, ap, sym, ◌∙◌, subst, inl, inr, arith}
use Rattle.std.specs.List.{list_any}
use Rattle.std.proofs.lemmas.Bool.Decides.{eqb_tells}
use Rattle.spv_words.specs.declared.rule.Rule.TheVariants.{K3}
use Rattle.std.proofs.lemmas.Bool.{or_cases, and_parts, or_left, or_right, and_from}
use Rattle.structure_rules.specs.declared.graph.Node.{Node}
use Rattle.structure_rules.specs.Graph.{nth, named, names, is_value, merge_named}
use Rattle.structure_rules.specs.Nesting.{Links, has_link, first_of, name_links}
use Rattle.structure_rules.specs.Structure.{BrokenIn, names_twice, names_badly, is_shared}
use Rattle.block_graph.specs.Within.{AreWithin}
use Rattle.nest_place.specs.Links.{IsSingle, IsClash, AreWithin as LinksWithin}
use Rattle.nest_place.specs.declared.links.Clash.{Clash}
use Rattle.nest_place.specs.Steps.{names_itself, NoneNamesItself}
use Rattle.nest_place.specs.Checks.{IsUnbroken}
use Rattle.nest_place.proofs.LinkLemmas.{same_nat, equal_nat}
use Rattle.nest_place.proofs.Each.{link_from, link_to, links_within, member_at}
use Rattle.nest_place.proofs.Reading.{NoneBelow, none_start}

abbrev pub NamesItself : ℕ → Node → Type 0
NamesItself h n = names_itself h n ≡ true

pub itself_fine : (g : List Node) (i : ℕ) → length g ≤ i → NoneBelow g i NamesItself → NoneNamesItself g
itself_fine g i all none h inside here bad = none h (omega (arith, all, inside)) here bad

-- a merge instruction that names itself names badly
pub itself_bad : (g : List Node) (h : ℕ) (n : Node) → names_itself h n ≡ true → names_badly g h n ≡ true
itself_bad g h n bad =
    elim (or_cases (is_value h (merge_named n.merge)) (names_twice n.merge) bad) [
      | inl own ↦ or_left _ _ own
      | inr twice ↦ or_right (is_value h (merge_named n.merge)) _ (or_left (names_twice n.merge) _ twice)
    ]

names_if : (n : Node) (t : ℕ) → list_any (λ x. x == t) (names n) ≡ true → (n.reached ≡ true) × (list_any (λ x. x == t) (named n.merge) ≡ true)
names_if n t e = by_flag n.reached e
  where
    by_flag : (b : Bool) → list_any (λ x. x == t) (if b then named n.merge else []) ≡ true → (b ≡ true) × (list_any (λ x. x == t) (named n.merge) ≡ true)
    by_flag true e = (refl, e)
    by_flag false e = cc

if_names : (n : Node) (t : ℕ) → n.reached ≡ true → list_any (λ x. x == t) (named n.merge) ≡ true → list_any (λ x. x == t) (names n) ≡ true
if_names n t here e = by_flag n.reached here
  where
    by_flag : (b : Bool) → b ≡ true → list_any (λ x. x == t) (if b then named n.merge else []) ≡ true
    by_flag true h = e
    by_flag false h = cc

-- a block that a header names
pub name_from : (g : List Node) (t h : ℕ) → has_link (name_links g) t h ≡ true → (h < length g) × ((nth g h).reached ≡ true) × (list_any (λ x. x == t) (named (nth g h).merge) ≡ true)
unfolding name_links
name_from g t h e =
    let at = link_from (λ h n. names n) g t h e in
    let parts = names_if (nth g h) t at.1 in
    (at.0, parts.0, parts.1)

pub name_to : (g : List Node) (t h : ℕ) → h < length g → (nth g h).reached ≡ true → list_any (λ x. x == t) (named (nth g h).merge) ≡ true → has_link (name_links g) t h ≡ true
unfolding name_links
name_to g t h inside here e = link_to (λ h n. names n) g t h inside (if_names (nth g h) t here e)

pub names_within : (g : List Node) → AreWithin g → LinksWithin (length g) (name_links g)
names_within g within = links_within (length g) (name_links g) (λ t h e.
    let from = name_from g t h e in
    let at = member_at (named (nth g h).merge) t from.2 in
    subst (λ q. q < length g) at.2 ((within h from.0).tells at.0 at.1))

pub other_link : (t h : ℕ) (links : Links) (k : ℕ) → has_link links t k ≡ true → (k ≢ h) → list_any (λ (l : ℕ × ℕ). (l.0 == t) && not (l.1 == h)) links ≡ true
other_link t h [] k e apart = cc
other_link t h (l ∷ links) k e apart =
    elim (or_cases ((l.0 == t) && (l.1 == k)) (has_link links t k) e) [
      | inl here ↦
          let parts = and_parts (l.0 == t) (l.1 == k) here in
          let differs : not (l.1 == h) ≡ true = elim (eqb_tells l.1 h) [
            | inl w ↦ absurd (apart (sym (equal_nat l.1 k parts.1) ∙ w.1))
            | inr w ↦ ap not w.0
          ] in
          or_left _ _ (and_from (l.0 == t) (not (l.1 == h)) parts.0 differs)
      | inr there ↦ or_right ((l.0 == t) && not (l.1 == h)) _ (other_link t h links k there apart)
    ]

link_other : (t h : ℕ) (links : Links) → list_any (λ (l : ℕ × ℕ). (l.0 == t) && not (l.1 == h)) links ≡ true → (k : ℕ) × (has_link links t k ≡ true) × (k ≢ h)
link_other t h [] e = cc
link_other t h (l ∷ links) e =
    elim (or_cases ((l.0 == t) && not (l.1 == h)) (list_any (λ (m : ℕ × ℕ). (m.0 == t) && not (m.1 == h)) links) e) [
      | inl here ↦
          let parts = and_parts (l.0 == t) (not (l.1 == h)) here in
          (l.1, or_left _ _ (and_from (l.0 == t) (l.1 == l.1) parts.0 (same_nat l.1)), (λ same. let yes : (l.1 == h) ≡ true = ap (λ q. q == h) same ∙ same_nat h in let no : not true ≡ true = ap not (sym yes) ∙ parts.1 in cc))
      | inr there ↦ let later = link_other t h links there in (later.0, or_right ((l.0 == t) && (l.1 == later.0)) _ later.1, later.2)
    ]

pub shared_any : (g : List Node) (h t : ℕ) (ts : List ℕ) → list_any (λ x. x == t) ts ≡ true → is_shared g h t ≡ true → list_any (is_shared g h) ts ≡ true
shared_any g h t [] e shared = cc
shared_any g h t (x ∷ ts) e shared =
    elim (or_cases (x == t) (list_any (λ y. y == t) ts) e) [
      | inl here ↦ or_left _ _ (ap (is_shared g h) (equal_nat x t here) ∙ shared)
      | inr there ↦ or_right (is_shared g h x) _ (shared_any g h t ts there shared)
    ]

any_shared : (g : List Node) (h : ℕ) (ts : List ℕ) → list_any (is_shared g h) ts ≡ true → (t : ℕ) × (list_any (λ x. x == t) ts ≡ true) × (is_shared g h t ≡ true)
any_shared g h [] e = cc
any_shared g h (x ∷ ts) e =
    elim (or_cases (is_shared g h x) (list_any (is_shared g h) ts) e) [
      | inl here ↦ (x, or_left _ _ (same_nat x), here)
      | inr there ↦ let later = any_shared g h ts there in (later.0, or_right (x == later.0) _ later.1, later.2)
    ]

-- a block that two headers name
pub clash_names : (g : List Node) (c : Clash) → IsClash (name_links g) c → BrokenIn g K3 (nth g c.second).merge_at
clash_names g c clash =
    let second = name_from g c.block c.second clash.1 in
    let shared : is_shared g c.second c.block ≡ true = other_link c.block c.second (name_links g) c.first clash.0 clash.2 in
    let badly : names_badly g c.second (nth g c.second) ≡ true =
    or_right (is_value c.second (merge_named (nth g c.second).merge)) _ (or_right (names_twice (nth g c.second).merge) _ (shared_any g c.second c.block (named (nth g c.second).merge) second.2 shared)) in
    (c.second, second.0, second.1, (badly, refl))

pub clash_inside : (g : List Node) (c : Clash) → IsClash (name_links g) c → c.second < length g
clash_inside g c clash = (name_from g c.block c.second clash.1).0

-- no header names badly
pub names_fine : (g : List Node) → NoneNamesItself g → IsSingle (name_links g) → IsUnbroken g K3
names_fine g itself single at broken =
    let h : ℕ = broken.0 in
    let bad = broken.3 in
    elim (or_cases (is_value h (merge_named (nth g h).merge)) (names_twice (nth g h).merge || list_any (is_shared g h) (named (nth g h).merge)) bad.0) [
      | inl own ↦ itself h broken.1 broken.2 (or_left _ _ own)
      | inr rest ↦ elim (or_cases (names_twice (nth g h).merge) (list_any (is_shared g h) (named (nth g h).merge)) rest) [
        | inl twice ↦ itself h broken.1 broken.2 (or_right (is_value h (merge_named (nth g h).merge)) _ twice)
        | inr shared ↦
            let t = any_shared g h (named (nth g h).merge) shared in
            let other = link_other t.0 h (name_links g) t.2 in
            let one : first_of (name_links g) t.0 ≡ Some h = single t.0 h (name_to g t.0 h broken.1 broken.2 t.1) in
            let two : first_of (name_links g) t.0 ≡ Some other.0 = single t.0 other.0 other.1 in
            other.2 (let same : Some other.0 ≡ Some h = sym two ∙ one in cc)
      ]
    ]

pub ruleset itself_rules = (none_start, itself_fine, itself_bad)

pub ruleset namer_rules = (names_within, clash_names, clash_inside)
