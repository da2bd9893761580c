-- A break that is found in a region is an edge of the graph that leaves the nearest loop.
use Rattle.std.proofs.Common.{◌≡◌, ◌==◌, ℕ, Bool, true, List, [], ◌∷◌, length, Option, Some, None, is_some, inl, inr, refl, ap, sym, ◌∙◌, subst, arith, if◌then◌else◌}
use Rattle.std.specs.List.{list_any, range_with_len}
use Rattle.std.specs.Option.{option_and_then}
use Rattle.std.proofs.lemmas.Bool.{and_from, or_cases, or_left, or_right, and_right}
use Rattle.spv_module.specs.declared.inst.Function.{Function}
use Rattle.structure_rules.specs.declared.graph.Node.{Node}
use Rattle.structure_rules.specs.declared.graph.Part.{Part}
use Rattle.structure_rules.specs.declared.graph.Part.TheVariants.{If, Case}
use Rattle.structure_rules.specs.declared.graph.EdgeKind.TheVariants.{Enter, Merge, SwitchBreak, Break, Continue, Back, Fall}
use Rattle.structure_rules.specs.Graph.{nth, leads_to, edges, is_conditional, is_switch, is_selection, is_value}
use Rattle.structure_rules.specs.Nesting.{place}
use Rattle.structure_rules.specs.EdgeKinds.{loop_header, nearest_loop, innermost_switch, is_break}
use Rattle.nest_place.specs.Nests.{IsSound}
use Rattle.nest_place.proofs.LinkLemmas.{same_nat}
use Rattle.nest_place.proofs.Outward.{reached_inside}
use Rattle.nest_place.proofs.Falling.{edges_reached}
use Rattle.nest_place.proofs.OneKind.{switch_selects}
use Rattle.structure_recover.specs.declared.region.Exit.{Exit}
use Rattle.structure_recover.specs.declared.region.Exit.TheVariants.{Edge, Return, Lost, Closed}
use Rattle.structure_recover.specs.declared.edges.Next.{Next}
use Rattle.structure_recover.specs.declared.edges.Next.TheVariants.{At, Stop}
use Rattle.structure_recover.specs.Tree.{Region, ends, item, Item, plain, choose, loose, loop, loop_on, switch, Groups, none, group, head, is_loop as is_loop_item, targets}
use Rattle.structure_recover.specs.Follows.{Follows, FollowsItem, FollowsGroups}
use Rattle.structure_recover.proofs.Rounds.{AllLead, filter_leads, conditional_no_switch}
use Rattle.switch_ladder.specs.Flags.{left_loop, leaves, needs_leave}
use Rattle.control_text.specs.Statements.{has_break, item_has_break, groups_have_break, is_break as is_break_exit}
use Rattle.region_law.specs.Leads.{In}
use Rattle.tree_law.specs.Serves.{nearest, switch_in}
use Rattle.tree_law.specs.Placed.{IsPlaced, IsPlacedItem}
use Rattle.tree_law.specs.Leaving.{Leaves}
use Rattle.tree_law.proofs.SwitchOrder.{in_list, in_range}
use Rattle.tree_law.proofs.Placing.{item_placed, inside_placed, case_placed, behind_placed, plain_inner, chosen_inner, selected_place}

any_in : (p : ℕ → Bool) (xs : List ℕ) (x : ℕ) → In x xs → p x ≡ true → list_any p xs ≡ true
any_in p [] x i e = absurd i
any_in p (y ∷ xs) x (inl same) e = or_left (p y) (list_any p xs) (ap p (sym same) ∙ e)
any_in p (y ∷ xs) x (inr i) e = or_right (p y) (list_any p xs) (any_in p xs x i e)

-- such an edge asks for a flag
pub needs_at : (g : List Node) (b t h : ℕ) → (nth g b).reached ≡ true → leads_to t (nth g b) ≡ true → is_break g b t ≡ true → is_some (innermost_switch g b) ≡ true → option_and_then loop_header (nearest_loop g b) ≡ Some h → needs_leave g h ≡ true
needs_at g b t h here leads breaks through near =
    let inside = reached_inside g b here in
    let left : left_loop g b t ≡ Some h = ap (λ q. if q then option_and_then loop_header (nearest_loop g b) else None) (and_from (is_break g b t) (is_some (innermost_switch g b)) breaks through) ∙ near in
    let one : leaves g h b ≡ true =
    any_in (λ t. is_value h (left_loop g b t)) (edges (nth g b)) t
    (in_list t (edges (nth g b)) (subst (λ ts. list_any (λ x. x == t) ts ≡ true) (sym (edges_reached (nth g b) here)) leads))
    (ap (λ o. is_value h o) left ∙ same_nat h) in
    any_in (leaves g h) (range_with_len 0 (length g)) b (in_range 0 (length g) b (omega arith) (omega (arith, inside))) one

exit_leaves : (g : List Node) (e : Exit) (ps : List Part) → IsPlaced g (Stop e) ps → is_break_exit e ≡ true → Leaves g (nearest ps) (is_some (switch_in ps))
exit_leaves g (Edge b t Break) ps pl br = record {
  from = b;
  to = t;
  here = pl.here;
  leads = pl.leads;
  breaks = pl.kind;
  nearest_is = pl.sees.near;
  through = λ e. ap is_some pl.sees.switch ∙ e;
}
exit_leaves g (Edge b t Enter) ps pl br = cc
exit_leaves g (Edge b t Merge) ps pl br = cc
exit_leaves g (Edge b t SwitchBreak) ps pl br = cc
exit_leaves g (Edge b t Continue) ps pl br = cc
exit_leaves g (Edge b t Back) ps pl br = cc
exit_leaves g (Edge b t Fall) ps pl br = cc
exit_leaves g (Return b) ps pl br = cc
exit_leaves g (Lost b) ps pl br = cc
exit_leaves g Closed ps pl br = cc

case_leaves : (g : List Node) (near : Option Part) (switched : Bool) → Leaves g near true → Leaves g near switched
case_leaves g near switched l = record {
  from = l.from;
  to = l.to;
  here = l.here;
  leads = l.leads;
  breaks = l.breaks;
  nearest_is = l.nearest_is;
  through = λ e. l.through refl;
}

module _ (f : Function) (g : List Node) (sound : IsSound g) where
  mutual
    region_leaves : (r : Region) (n : Next) (ps : List Part) → Follows f g r n → IsPlaced g n ps → has_break r ≡ true → Leaves g (nearest ps) (is_some (switch_in ps))
    region_leaves (ends e) n ps fo pl br = exit_leaves g e ps (subst (λ m. IsPlaced g m ps) fo pl) br
    region_leaves (item i r) (Stop e) ps fo pl br = absurd fo
    region_leaves (item i r) (At s) ps fo pl br = elim (or_cases (item_has_break i) (has_break r) br) [
      | inl here ↦ item_leaves i ps fo.1 (item_placed g i s ps fo.0 pl) here
      | inr later ↦ region_leaves r fo.2.0 ps fo.2.2 (behind_placed f g sound s fo.2.0 ps pl fo.2.1) later
    ]

    item_leaves : (i : Item) (ps : List Part) → FollowsItem f g i → IsPlacedItem g (is_loop_item i) (head i) ps → item_has_break i ≡ true → Leaves g (nearest ps) (is_some (switch_in ps))
    item_leaves (plain b) ps fo pl br = cc
    item_leaves (choose h x y) ps fo pl br =
        let round = chosen_inner f g sound h ps fo.0 fo.1 pl.1 in
        let off = conditional_no_switch (nth g h).exit fo.0 in
        elim (or_cases (has_break x) (has_break y) br) [
          | inl one ↦ region_leaves x fo.2.0 (If h ∷ ps) fo.2.2 (inside_placed f g sound h 0 fo.2.0 (If h ∷ ps) pl.0 off round fo.2.1) one
          | inr two ↦ region_leaves y fo.3.0 (If h ∷ ps) fo.3.2 (inside_placed f g sound h 1 fo.3.0 (If h ∷ ps) pl.0 off round fo.3.1) two
        ]
    item_leaves (loose h x y) ps fo pl br =
        let round = plain_inner f g sound h ps (and_right (is_conditional (nth g h).exit) (is_selection (nth g h).merge) fo.1) pl.1 in
        let off = conditional_no_switch (nth g h).exit fo.0 in
        elim (or_cases (has_break x) (has_break y) br) [
          | inl one ↦ region_leaves x fo.2.0 ps fo.2.2 (inside_placed f g sound h 0 fo.2.0 ps pl.0 off round fo.2.1) one
          | inr two ↦ region_leaves y fo.3.0 ps fo.3.2 (inside_placed f g sound h 1 fo.3.0 ps pl.0 off round fo.3.1) two
        ]
    item_leaves (loop h x) ps fo pl br = cc
    item_leaves (loop_on h z x) ps fo pl br = cc
    item_leaves (switch h gs) ps fo pl br =
        let sel = switch_selects g sound h pl.0 fo.0 in
        case_leaves g (nearest ps) (is_some (switch_in ps)) (groups_leave gs h ps pl.0 fo.0 (selected_place f g sound h ps sel pl.1) (subst (AllLead g h) (sym fo.1) (filter_leads g h (range_with_len 0 (length g)))) fo.2 br)

    pub groups_leave : (gs : Groups) (h : ℕ) (ps : List Part) → (nth g h).reached ≡ true → is_switch (nth g h).exit ≡ true → place g h ≡ ps → AllLead g h (targets gs) → FollowsGroups f g gs h → groups_have_break gs ≡ true → Leaves g (nearest ps) true
    groups_leave none h ps here on round all fo br = cc
    groups_leave (group t labels default x gs) h ps here on round all fo br = elim (or_cases (has_break x) (groups_have_break gs) br) [
      | inl one ↦ region_leaves x fo.2.0 (Case h t ∷ ps) fo.2.2 (case_placed f g sound h t fo.2.0 ps here on all.0 round fo.2.1) one
      | inr later ↦ groups_leave gs h ps here on round all.1 fo.3 later
    ]
