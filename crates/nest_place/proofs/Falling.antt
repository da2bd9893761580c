-- Falls from one case construct into another.
use Rattle.std.proofs.Common.{◌≡◌, ◌<◌, ◌≤◌, ◌+◌, ◌==◌, ◌&&◌, ◌||◌, ℕ, suc, Bool, true, false, List, [], ◌∷◌, ◌++◌, length, drop, get_or, if◌then◌else◌, Option, Some, None, refl, ap, sym, ◌∙◌, subst, inl, inr, arith, append_assoc}
use Rattle.std.specs.List.{list_any, filter_map, slice_get, cons_option}
use Rattle.std.specs.Option.{option_map, option_and_then}
use Rattle.std.proofs.lemmas.List.{drop_more, drop_all, append-nil}
use Rattle.spv_words.specs.declared.rule.Rule.TheVariants.{K9, K10, K11}
use Rattle.std.proofs.lemmas.Bool.{or_cases, and_parts, or_left, or_right}
use Rattle.std.proofs.Math.Bool.{and_comm}
use Rattle.structure_rules.specs.declared.graph.Node.{Node}
use Rattle.structure_rules.specs.declared.graph.Part.{Part}
use Rattle.structure_rules.specs.declared.graph.Part.TheVariants.{If, Loop, Cont, Case}
use Rattle.structure_rules.specs.Graph.{nth, edges, is_switch}
use Rattle.structure_rules.specs.Nesting.{Links, has_link, first_of, inner}
use Rattle.structure_rules.specs.EdgeKinds.{innermost, case_target, is_fall}
use Rattle.structure_rules.specs.Structure.{BrokenIn, fall_link, fall_links, falls_from, after_falls}
use Rattle.block_graph.specs.Within.{AreWithin}
use Rattle.spv_words.specs.declared.rule.Fault.{Fault}
use Rattle.nest_place.specs.declared.links.Clash.{Clash}
use Rattle.nest_place.specs.declared.links.NoTable.{NoTable}
use Rattle.nest_place.specs.declared.links.NoTable.TheVariants.{Clash as Clashed, Memory as NoMemory}
use Rattle.nest_place.specs.Checks.{IsUnbroken, IsBroken, fault_by}
use Rattle.nest_place.specs.Links.{IsSingle, IsClash, IsRightEnd, IsTable, turned_links, AreWithin as LinksWithin}
use Rattle.nest_place.specs.Spots.{IsGrounded}
use Rattle.nest_place.proofs.LinkLemmas.{equal_nat, no_item, no_table, no_clash}
use Rattle.nest_place.proofs.Each.{each_has, links_within, member_at}
use Rattle.nest_place.proofs.Parenthood.{edge_if}
use Rattle.nest_place.proofs.Outward.{reached_inside}
use Rattle.nest_place.proofs.Around.{IsNested, inner_nested}

pub edges_reached : (n : Node) → n.reached ≡ true → edges n ≡ n.targets
edges_reached n here = by_flag n.reached here
  where
    by_flag : (b : Bool) → b ≡ true → (if b then n.targets else []) ≡ n.targets
    by_flag true e = refl
    by_flag false e = cc

pub edges_none : (n : Node) → n.reached ≡ false → edges n ≡ []
edges_none n never = by_flag n.reached never
  where
    by_flag : (b : Bool) → b ≡ false → (if b then n.targets else []) ≡ []
    by_flag true e = cc
    by_flag false e = refl

fall_more : (g : List Node) (b i : ℕ) (ts : List ℕ) (o : Option ℕ) (done : Links) → i < length ts → falls_from g b (get_or ts i 0) ≡ o → done ++ filter_map (fall_link g b) (drop i ts) ≡ done ++ cons_option (option_map (λ u. (u, get_or ts i 0)) o) (filter_map (fall_link g b) (drop (i + 1) ts))
fall_more g b i ts o done inside is =
    let rest : List (ℕ × ℕ) = filter_map (fall_link g b) (drop (i + 1) ts) in
    ap (λ xs. done ++ filter_map (fall_link g b) xs) (drop_more ts i 0 inside)
    ∙ ap (λ q. done ++ cons_option (option_map (λ u. (u, get_or ts i 0)) q) rest) is

-- an edge that is no fall, and one that is
pub fall_none : (g : List Node) (b i : ℕ) (ts : List ℕ) (done : Links) → i < length ts → falls_from g b (get_or ts i 0) ≡ None → done ++ filter_map (fall_link g b) (drop i ts) ≡ done ++ filter_map (fall_link g b) (drop (i + 1) ts)
fall_none g b i ts done inside is = fall_more g b i ts None done inside is

pub fall_some : (g : List Node) (b i u : ℕ) (ts : List ℕ) (done : Links) → i < length ts → falls_from g b (get_or ts i 0) ≡ Some u → done ++ filter_map (fall_link g b) (drop i ts) ≡ (done ++ (u, get_or ts i 0) ∷ []) ++ filter_map (fall_link g b) (drop (i + 1) ts)
fall_some g b i u ts done inside is = fall_more g b i ts (Some u) done inside is ∙ sym (append_assoc done ((u, get_or ts i 0) ∷ []) (filter_map (fall_link g b) (drop (i + 1) ts)))

pub fall_end : (g : List Node) (b i : ℕ) (ts : List ℕ) (done : Links) → length ts ≤ i → done ++ filter_map (fall_link g b) (drop i ts) ≡ done
fall_end g b i ts done all = ap (λ xs. done ++ filter_map (fall_link g b) xs) (drop_all i ts all) ∙ append-nil done

link_in : (g : List Node) (b u t : ℕ) (ts : List ℕ) → has_link (filter_map (fall_link g b) ts) u t ≡ true → (list_any (λ x. x == t) ts ≡ true) × (falls_from g b t ≡ Some u)
link_in g b u t [] e = cc
link_in g b u t (x ∷ ts) e = by_fall (falls_from g b x) refl e (link_in g b u t ts)
  where
    by_fall : (o : Option ℕ) → falls_from g b x ≡ o → has_link (cons_option (option_map (λ v. (v, x)) o) (filter_map (fall_link g b) ts)) u t ≡ true → (has_link (filter_map (fall_link g b) ts) u t ≡ true → (list_any (λ y. y == t) ts ≡ true) × (falls_from g b t ≡ Some u)) → (((x == t) || list_any (λ y. y == t) ts) ≡ true) × (falls_from g b t ≡ Some u)
    by_fall None is h on = let later = on h in (or_right (x == t) _ later.0, later.1)
    by_fall (Some v) is h on =
        elim (or_cases ((v == u) && (x == t)) (has_link (filter_map (fall_link g b) ts) u t) h) [
          | inl here ↦
              let parts = and_parts (v == u) (x == t) here in
              let same : x ≡ t = equal_nat x t parts.1 in
              (or_left _ _ parts.1, ap (falls_from g b) (sym same) ∙ (is ∙ ap (λ q. Some q) (equal_nat v u parts.0)))
          | inr there ↦ let later = on there in (or_right (x == t) _ later.0, later.1)
        ]

-- the block from which an edge falls
pub fall_from : (g : List Node) (u t : ℕ) → has_link (fall_links g) u t ≡ true → (b : ℕ) × (b < length g) × ((nth g b).reached ≡ true) × (list_any (λ x. x == t) (nth g b).targets ≡ true) × (falls_from g b t ≡ Some u)
unfolding fall_links
fall_from g u t e =
    let at = each_has (λ b n. filter_map (fall_link g b) (edges n)) 0 g u t e in
    let zero_plus : 0 + at.0 ≡ at.0 = omega arith in
    let here = link_in g at.0 u t (edges (nth g at.0)) (subst (λ q. has_link (filter_map (fall_link g q) (edges (nth g at.0))) u t ≡ true) zero_plus at.2) in
    let edge = edge_if (nth g at.0) t here.0 in
    (at.0, at.1, edge.0, edge.1, here.1)

if_some : (b : Bool) (o : Option ℕ) (u : ℕ) → (if b then o else None) ≡ Some u → o ≡ Some u
if_some true o u e = e
if_some false o u e = cc

case_by : (o : Option Part) (u : ℕ) → option_and_then case_target o ≡ Some u → (s : ℕ) × (o ≡ Some (Case s u))
case_by None u e = cc
case_by (Some (If h)) u e = cc
case_by (Some (Loop h)) u e = cc
case_by (Some (Cont h)) u e = cc
case_by (Some (Case s t)) u e = (s, (let same : t ≡ u = cc in ap (λ q. Some (Case s q)) same))

first_part : (ps : List Part) (p : Part) → slice_get ps 0 ≡ Some p → (rest : List Part) × (ps ≡ p ∷ rest)
first_part [] p e = cc
first_part (q ∷ ps) p e = (ps, (let same : q ≡ p = cc in ap (λ x. x ∷ ps) same))

pub innermost_is : (g : List Node) (b : ℕ) (p : Part) → innermost g b ≡ Some p → (rest : List Part) × (inner g b ≡ p ∷ rest)
innermost_is g b p e = by_test (is_switch (nth g b).exit) e
  where
    by_test : (s : Bool) → (if s then None else slice_get (inner g b) 0) ≡ Some p → (rest : List Part) × (inner g b ≡ p ∷ rest)
    by_test true e = cc
    by_test false e = first_part (inner g b) p e

-- a case target from whose construct an edge falls is reached
pub fall_reached : (g : List Node) (b t u : ℕ) → IsGrounded g → (nth g b).reached ≡ true → falls_from g b t ≡ Some u → (nth g u).reached ≡ true
fall_reached g b t u grounded here falls =
    let part = case_by (innermost g b) u (if_some (is_fall g b t) (option_and_then case_target (innermost g b)) u falls) in
    let first = innermost_is g b (Case part.0 u) part.1 in
    let nested : IsNested g (suc b) (Case part.0 u ∷ first.0) = subst (λ ps. IsNested g (suc b) ps) first.1 (inner_nested g b grounded here) in
    nested.2.2

pub falls_within : (g : List Node) (links : Links) → links ≡ fall_links g → IsGrounded g → LinksWithin (length g) links
falls_within g links is grounded = links_within (length g) links (λ u t e.
    let from = fall_from g u t (ap (λ ls. has_link ls u t) (sym is) ∙ e) in
    reached_inside g u (fall_reached g from.0 t u grounded from.2 from.4))

pub turned_has : (links : Links) (a b : ℕ) → has_link (turned_links links) a b ≡ has_link links b a
turned_has [] a b = refl
turned_has (l ∷ links) a b =
    let swap : ((l.1 == a) && (l.0 == b)) ≡ ((l.0 == b) && (l.1 == a)) = and_comm (l.1 == a) (l.0 == b) in
    ap (λ q. q || has_link (turned_links links) a b) swap ∙ ap (λ q. ((l.0 == b) && (l.1 == a)) || q) (turned_has links a b)

pub turned_within : (g : List Node) (links turned : Links) → turned ≡ turned_links links → links ≡ fall_links g → AreWithin g → LinksWithin (length g) turned
turned_within g links turned now is within = links_within (length g) turned (λ t u e.
    let link : has_link (fall_links g) u t ≡ true = sym (ap (λ ls. has_link ls t u) now ∙ turned_has links t u ∙ ap (λ ls. has_link ls u t) is) ∙ e in
    let from = fall_from g u t link in
    let at = member_at (nth g from.0).targets t from.3 in
    subst (λ q. q < length g) at.2 ((within from.0 from.1).leads at.0 at.1))

-- a case target that falls into two others
pub two_next : (g : List Node) (links : Links) (c : Clash) → links ≡ fall_links g → IsClash links c → BrokenIn g K9 (nth g c.block).at
two_next g links c is clash = (c.block, c.first, c.second, ap (λ ls. has_link ls c.block c.first) (sym is) ∙ clash.0, ap (λ ls. has_link ls c.block c.second) (sym is) ∙ clash.1, clash.2, refl)

pub next_fine : (g : List Node) (links : Links) → links ≡ fall_links g → IsSingle links → IsUnbroken g K9
next_fine g links is single at broken =
    let u : ℕ = broken.0 in
    let one : first_of links u ≡ Some broken.1 = single u broken.1 (ap (λ ls. has_link ls u broken.1) is ∙ broken.3) in
    let two : first_of links u ≡ Some broken.2 = single u broken.2 (ap (λ ls. has_link ls u broken.2) is ∙ broken.4) in
    broken.5 (let same : Some broken.1 ≡ Some broken.2 = sym one ∙ two in cc)

turned_link : (g : List Node) (links turned : Links) (t u : ℕ) → turned ≡ turned_links links → links ≡ fall_links g → has_link turned t u ≡ has_link (fall_links g) u t
turned_link g links turned t u now is = ap (λ ls. has_link ls t u) now ∙ turned_has links t u ∙ ap (λ ls. has_link ls u t) is

-- a case target that is fallen into from two cases
pub two_last : (g : List Node) (links turned : Links) (c : Clash) → turned ≡ turned_links links → links ≡ fall_links g → IsClash turned c → BrokenIn g K10 (nth g c.block).at
two_last g links turned c now is clash = (c.block, c.first, c.second, sym (turned_link g links turned c.block c.first now is) ∙ clash.0, sym (turned_link g links turned c.block c.second now is) ∙ clash.1, clash.2, refl)

pub last_fine : (g : List Node) (links turned : Links) → turned ≡ turned_links links → links ≡ fall_links g → IsSingle turned → IsUnbroken g K10
last_fine g links turned now is single at broken =
    let t : ℕ = broken.0 in
    let one : first_of turned t ≡ Some broken.1 = single t broken.1 (turned_link g links turned t broken.1 now is ∙ broken.3) in
    let two : first_of turned t ≡ Some broken.2 = single t broken.2 (turned_link g links turned t broken.2 now is ∙ broken.4) in
    broken.5 (let same : Some broken.1 ≡ Some broken.2 = sym one ∙ two in cc)

-- the table of links that are the falls
pub same_table : (links : Links) (g : List Node) (table : List (Option ℕ)) → links ≡ fall_links g → IsTable links table → IsTable (fall_links g) table
same_table links g table is all a = all a ∙ ap (λ ls. first_of ls a) is

pub same_turned : (links turned : Links) (g : List Node) (table : List (Option ℕ)) → turned ≡ turned_links links → links ≡ fall_links g → IsTable turned table → IsTable (turned_links (fall_links g)) table
same_turned links turned g table now is all a = all a ∙ (ap (λ ls. first_of ls a) now ∙ ap (λ ls. first_of (turned_links ls) a) is)

pub same_single : (links : Links) (g : List Node) → links ≡ fall_links g → IsSingle links → IsSingle (fall_links g)
same_single links g is single = subst IsSingle is single

-- where no case target falls into another
no_falls : (links : Links) (g : List Node) → links ≡ fall_links g → (length links == 0) ≡ true → (length (fall_links g) == 0) ≡ true
no_falls links g is none = ap (λ (ls : Links). length ls == 0) (sym is) ∙ none

pub no_next : (links : Links) (g : List Node) (table : List (Option ℕ)) → links ≡ fall_links g → (length links == 0) ≡ true → table ≡ [] → IsTable (fall_links g) table
no_next links g table is none empty = no_table (fall_links g) table (no_falls links g is none) empty

turned_none : (links : Links) → (length links == 0) ≡ true → (length (turned_links links) == 0) ≡ true
turned_none links none = ap (λ (ls : Links). length (turned_links ls) == 0) (no_item links none)

pub no_last : (links : Links) (g : List Node) (table : List (Option ℕ)) → links ≡ fall_links g → (length links == 0) ≡ true → table ≡ [] → IsTable (turned_links (fall_links g)) table
no_last links g table is none empty = no_table (turned_links (fall_links g)) table (turned_none (fall_links g) (no_falls links g is none)) empty

pub none_next : (links : Links) (g : List Node) → links ≡ fall_links g → (length links == 0) ≡ true → IsUnbroken g K9
none_next links g is none = next_fine g links is (no_clash links none)

pub none_last : (links : Links) (g : List Node) → links ≡ fall_links g → (length links == 0) ≡ true → IsUnbroken g K10
none_last links g is none = last_fine g links (turned_links links) refl is (no_clash (turned_links links) (turned_none links none))

leads_nowhere : (n u : ℕ) → after_falls [] (suc n) u ≡ Some u → ⊥
unfolding after_falls
leads_nowhere n u e = to_none (after_falls [] n) e
  where
    to_none : (f : ℕ → Option ℕ) → option_and_then f None ≡ Some u → ⊥
    to_none f h = cc

pub none_cyclic : (links : Links) (g : List Node) → links ≡ fall_links g → (length links == 0) ≡ true → IsUnbroken g K11
none_cyclic links g is none at broken =
    let cycle = broken.3.0 in
    let nothing : fall_links g ≡ [] = no_item (fall_links g) (no_falls links g is none) in
    leads_nowhere cycle.4.0 cycle.1 (subst (λ (ls : Links). after_falls ls (suc cycle.4.0) cycle.1 ≡ Some cycle.1) nothing cycle.4.2)

-- falls that make no table, and falls the other way round that make none
pub next_clash : (g : List Node) (links : Links) (why : NoTable) (fault : Fault) → fault ≡ fault_by g K9 why → links ≡ fall_links g → IsRightEnd links why → IsBroken g K9 fault
next_clash g links why fault made is end = subst (IsBroken g K9) (sym made) (by_end why end)
  where
    by_end : (why : NoTable) → IsRightEnd links why → IsBroken g K9 (fault_by g K9 why)
    by_end (Clashed c) clash = (refl, two_next g links c is clash)
    by_end NoMemory h = tt

pub last_clash : (g : List Node) (links turned : Links) (why : NoTable) (fault : Fault) → fault ≡ fault_by g K10 why → turned ≡ turned_links links → links ≡ fall_links g → IsRightEnd turned why → IsBroken g K10 fault
last_clash g links turned why fault made now is end = subst (IsBroken g K10) (sym made) (by_end why end)
  where
    by_end : (why : NoTable) → IsRightEnd turned why → IsBroken g K10 (fault_by g K10 why)
    by_end (Clashed c) clash = (refl, two_last g links turned c now is clash)
    by_end NoMemory h = tt

pub ruleset add_rules = (fall_none, fall_some, fall_end)

pub ruleset block_rules = (edges_reached, edges_none)

pub ruleset next_rules = (falls_within, next_clash, next_fine, same_table)

pub ruleset last_rules = (turned_within, last_clash, last_fine, same_turned)
