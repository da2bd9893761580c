-- The blocks at which control goes on are reached, and stand behind.
use Rattle.std.proofs.Common.{◌≡◌, ◌<◌, ◌≤◌, ◌==◌, ◌||◌, ℕ, zero, suc, true, false, List, [], ◌∷◌, length, get_or, if◌then◌else◌, Some, refl, ap, sym, ◌∙◌, subst, inl, inr, arith}
use Rattle.std.specs.List.{list_any, slice_get}
use Rattle.std.proofs.lemmas.Bool.Decides.{eqb_tells}
use Rattle.std.proofs.lemmas.Bool.{false_from_ne_true}
use Rattle.std.proofs.Math.Bool.{or-true}
use Rattle.spv_module.specs.declared.inst.Function.{Function}
use Rattle.structure_rules.specs.declared.graph.Exit.TheVariants.{Conditional}
use Rattle.structure_rules.specs.declared.graph.Node.{Node}
use Rattle.structure_recover.specs.declared.region.Exit.TheVariants.{Closed}
use Rattle.structure_recover.specs.declared.edges.Next.{Next}
use Rattle.structure_recover.specs.declared.edges.Next.TheVariants.{Stop}
use Rattle.structure_recover.specs.Follows.{merged, IsAfter}
use Rattle.structure_rules.specs.declared.graph.EdgeKind.{EdgeKind}
use Rattle.structure_rules.specs.declared.graph.EdgeKind.TheVariants.{Enter}
use Rattle.structure_rules.specs.Graph.{nth, leads_to, merge_block, continue_target, is_selection}
use Rattle.structure_rules.specs.Nesting.{name_links, has_link, header_of, role, role_by, named_role, switch_of, first_of, entry_links, parent_of}
use Rattle.structure_rules.specs.EdgeKinds.{has_kind, is_enter}
use Rattle.nest_place.specs.Nests.{IsSound}
use Rattle.nest_place.proofs.Outward.{reached_inside, named_parent}
use Rattle.nest_place.proofs.OneKind.{not_own, merge_link, target_link, header_is, enter_view}

pub node_read : (nodes g : List Node) (b : ℕ) (n : Node) → nodes ≡ g → b < length g → n ≡ get_or nodes b n → n ≡ nth g b
node_read nodes [] b n same h e = absurd (omega (arith, h))
node_read nodes (m ∷ g) zero n same h e = e ∙ ap (λ q. get_or q zero n) same
node_read nodes (m ∷ g) (suc b) n same h e = e ∙ ap (λ q. get_or q (suc b) n) same ∙ within g b n (omega (arith, h))
  where
    within : (g : List Node) (b : ℕ) (n : Node) → b < length g → get_or g b n ≡ nth g b
    within [] b n h = absurd (omega (arith, h))
    within (m ∷ g) zero n h = refl
    within (m ∷ g) (suc b) n h = within g b n (omega (arith, h))

pub outside : (g : List Node) (b : ℕ) → length g ≤ b → (nth g b).reached ≡ false
outside [] b h = refl
outside (m ∷ g) zero h = absurd (omega (arith, h))
outside (m ∷ g) (suc b) h = outside g b (omega (arith, h))

pub enter_later : (g : List Node) (b t : ℕ) → IsSound g → (nth g b).reached ≡ true → leads_to t (nth g b) ≡ true → is_enter g b t ≡ true → (b < t) × ((nth g t).reached ≡ true)
enter_later g b t sound here leads enters =
    let there = sound.reached b t here leads in
    let parent : parent_of (role g t) ≡ Some b = elim (enter_view g sound b here t enters) [ inl r ↦ ap parent_of r | inr r ↦ ap parent_of r ] in
    ((sound.grounded.up t b there parent).0, there)

pub not_enter : (g : List Node) (b t : ℕ) (k : EdgeKind) → ((j : EdgeKind) → has_kind g b t j ≡ true → j ≡ k) → (k ≡ Enter → ⊥) → is_enter g b t ≡ false
not_enter g b t k only other = false_from_ne_true (is_enter g b t) (λ e. other (sym (only Enter e)))

pub target_leads : (n : Node) (k t : ℕ) → slice_get n.targets k ≡ Some t → leads_to t n ≡ true
target_leads n k t e = by_list n.targets k e
  where
    head_same : (x : ℕ) (ts : List ℕ) → x ≡ t → list_any (λ q. q == t) (x ∷ ts) ≡ true
    head_same x ts same = elim (eqb_tells x t) [ inl w ↦ ap (λ b. b || list_any (λ q. q == t) ts) w.0 | inr w ↦ absurd (w.1 same) ]

    by_list : (ts : List ℕ) (k : ℕ) → slice_get ts k ≡ Some t → list_any (λ q. q == t) ts ≡ true
    by_list [] k e = cc
    by_list (x ∷ ts) zero e = head_same x ts (let same : x ≡ t = cc in same)
    by_list (x ∷ ts) (suc k) e = ap (λ b. (x == t) || b) (by_list ts k e) ∙ or-true (x == t)

pub named_role_is : (g : List Node) (t h : ℕ) → header_of g t ≡ Some h → role g t ≡ named_role g t h
unfolding role
named_role_is g t h e = ap (λ o. role_by g t o (switch_of g t) (first_of (entry_links g) t)) e

-- a reached block that a header names stands behind the header
pub named_later : (g : List Node) (h t : ℕ) → IsSound g → has_link (name_links g) t h ≡ true → (h ≡ t → ⊥) → (nth g t).reached ≡ true → h < t
named_later g h t sound link apart there =
    let header : header_of g t ≡ Some h = header_is g sound t h link apart in
    (sound.grounded.up t h there (ap parent_of (named_role_is g t h header) ∙ named_parent g t h)).0

pub merge_later : (g : List Node) (h t : ℕ) → IsSound g → (nth g h).reached ≡ true → merge_block g h ≡ Some t → (nth g t).reached ≡ true → h < t
merge_later g h t sound here is there = named_later g h t sound (merge_link g t h here is) (λ same. not_own g sound h here (is ∙ ap (λ q. Some q) (sym same))) there

pub continue_later : (g : List Node) (h t : ℕ) → IsSound g → (nth g h).reached ≡ true → continue_target g h ≡ Some t → (t ≡ h → ⊥) → (nth g t).reached ≡ true → h < t
continue_later g h t sound here is apart there = named_later g h t sound (target_link g t h here is) (λ same. apart (sym same)) there

pub after_selection : (f : Function) (g : List Node) (b : ℕ) (n : Next) → (nth g b).exit ≡ Conditional → is_selection (nth g b).merge ≡ true → n ≡ merged g b → IsAfter f g b (nth g b).exit n
after_selection f g b n exit sel is = subst (λ x. IsAfter f g b x n) (sym exit) (is ∙ sym (ap (λ q. if q then merged g b else Stop Closed) sel))

pub after_loose : (f : Function) (g : List Node) (b : ℕ) (n : Next) → (nth g b).exit ≡ Conditional → is_selection (nth g b).merge ≡ false → n ≡ Stop Closed → IsAfter f g b (nth g b).exit n
after_loose f g b n exit sel is = subst (λ x. IsAfter f g b x n) (sym exit) (is ∙ sym (ap (λ q. if q then merged g b else Stop Closed) sel))

pub ruleset node_rules = (reached_inside, node_read)

pub ruleset reached_rules = (outside)

pub ruleset edge_rules = (enter_later, not_enter)

pub ruleset target_rules = (target_leads)

pub ruleset merge_rules = (merge_later)

pub ruleset continue_rules = (continue_later)

pub ruleset after_rules = (after_selection, after_loose)
