-- No loop and no case inside a construct has a flag of the construct itself.
use Rattle.std.proofs.Common.{◌≡◌, ◌<◌, ◌≢◌, ◌⊎◌, ℕ, true, List, [], ◌∷◌, length, Option, Some, None, is_some, inl, inr, refl, ap, sym, ◌∙◌, subst, arith}
use Rattle.std.specs.List.{range_with_len}
use Rattle.std.proofs.lemmas.Bool.{and_right}
use Rattle.spv_module.specs.declared.inst.Function.{Function}
use Rattle.structure_rules.specs.declared.graph.Node.{Node}
use Rattle.structure_rules.specs.declared.graph.Role.TheVariants.{Case as CaseOf}
use Rattle.structure_rules.specs.declared.graph.Part.{Part}
use Rattle.structure_rules.specs.declared.graph.Part.TheVariants.{If, Loop, Cont, Case}
use Rattle.structure_rules.specs.Graph.{nth, leads_to, is_conditional, is_switch, is_selection}
use Rattle.structure_rules.specs.Nesting.{role, place, place_step}
use Rattle.nest_place.specs.Nests.{IsSound}
use Rattle.nest_place.proofs.Outward.{place_is}
use Rattle.nest_place.proofs.Around.{header, IsNested, place_nested}
use Rattle.nest_place.proofs.OneKind.{switch_selects}
use Rattle.structure_recover.specs.declared.edges.Start.TheVariants.{Block, Body}
use Rattle.structure_recover.specs.declared.edges.Next.{Next}
use Rattle.structure_recover.specs.declared.edges.Next.TheVariants.{At, Stop}
use Rattle.structure_recover.specs.Tree.{Region, ends, item, Item, plain, choose, loose, loop, loop_on, switch, Groups, none, group, head, is_loop as is_loop_item, targets}
use Rattle.structure_recover.specs.Follows.{continue_block, Follows, FollowsItem, FollowsGroups}
use Rattle.structure_recover.proofs.Rounds.{AllLead, filter_leads, conditional_no_switch, continue_facts, continue_role}
use Rattle.switch_ladder.specs.Ladder.{fallen_from}
use Rattle.glsl_ast.specs.Tree.{Text}
use Rattle.control_text.specs.Statements.{Blocks}
use Rattle.region_law.specs.Leads.{Term, Fresh, FreshItem, FreshGroups, FreshIf, FreshBodies, FellFresh}
use Rattle.tree_law.specs.Placed.{IsPlaced, IsPlacedItem}
use Rattle.tree_law.specs.Written.{IsWritten}
use Rattle.tree_law.proofs.SwitchOrder.{fall_is, back, switch_own}
use Rattle.tree_law.proofs.Placing.{item_placed, inside_placed, case_placed, behind_placed, plain_inner, chosen_inner, selected_place}

-- one of these constructs has this header
abbrev pub IsUnder : ℕ → List Part → Type 0
IsUnder a [] = ⊥
IsUnder a (p ∷ ps) = (header p ≡ a) ⊎ IsUnder a ps

under_below : (g : List Node) (n a : ℕ) (ps : List Part) → IsNested g n ps → IsUnder a ps → a < n
under_below g n a [] is u = absurd u
under_below g n a (p ∷ ps) is (inl e) = subst (λ k. k < n) e is.0
under_below g n a (p ∷ ps) is (inr u) = let low = under_below g (header p) a ps is.4 u in let less : header p < n = is.0 in omega (arith, low, less)

-- what stands round a header stands before it
pub under_place : (g : List Node) (sound : IsSound g) (h a : ℕ) (ps : List Part) → (nth g h).reached ≡ true → place g h ≡ ps → IsUnder a ps → a < h
under_place g sound h a ps here round u = under_below g h a ps (subst (IsNested g h) round (place_nested g h sound.grounded here)) u

-- where a loop goes on by a continue construct
pub continue_placed : (g : List Node) (sound : IsSound g) (h c : ℕ) (ps : List Part) → (nth g h).reached ≡ true → place g h ≡ ps → continue_block g h ≡ Some c → IsPlaced g (At (Block c)) (Cont h ∷ ps)
continue_placed g sound h c ps here round is =
    let facts = continue_facts g h c is in
    (facts.reached, place_is g c sound.grounded facts.reached ∙ (ap (λ r. place_step g c r (place g)) (continue_role g h c sound here facts) ∙ ap (λ qs. Cont h ∷ qs) round))

module _ (f : Function) (g : List Node) (sound : IsSound g) (w : Blocks) (term : ℕ → Term) (falls : ℕ → Option ℕ) (Cases : ℕ → Groups → Type 0) (x : Text) (a : ℕ) (loops : (h : ℕ) → a < h → (w.again h ≢ Some x) × (w.leave h ≢ Some x))
    (cases : (s t : ℕ) → a < s → (nth g s).reached ≡ true → is_switch (nth g s).exit ≡ true → leads_to t (nth g s) ≡ true → w.fell t ≢ Some x) where
  mutual
    pub region_fresh : (r : Region) (n : Next) (ps : List Part) → Follows f g r n → IsPlaced g n ps → IsUnder a ps → Fresh w term falls Cases x r
    region_fresh (ends e) n ps fo pl u = tt
    region_fresh (item i r) (Stop e) ps fo pl u = absurd fo
    region_fresh (item i r) (At s) ps fo pl u = (item_fresh i ps fo.1 (item_placed g i s ps fo.0 pl) u, region_fresh r fo.2.0 ps fo.2.2 (behind_placed f g sound s fo.2.0 ps pl fo.2.1) u)

    item_fresh : (i : Item) (ps : List Part) → FollowsItem f g i → IsPlacedItem g (is_loop_item i) (head i) ps → IsUnder a ps → FreshItem w term falls Cases x i
    item_fresh (plain b) ps fo pl u = tt
    item_fresh (choose h y z) ps fo pl u =
        let round = chosen_inner f g sound h ps fo.0 fo.1 pl.1 in
        let off = conditional_no_switch (nth g h).exit fo.0 in (
          region_fresh y fo.2.0 (If h ∷ ps) fo.2.2 (inside_placed f g sound h 0 fo.2.0 (If h ∷ ps) pl.0 off round fo.2.1) (inr u),
          region_fresh z fo.3.0 (If h ∷ ps) fo.3.2 (inside_placed f g sound h 1 fo.3.0 (If h ∷ ps) pl.0 off round fo.3.1) (inr u),
        )
    item_fresh (loose h y z) ps fo pl u =
        let round = plain_inner f g sound h ps (and_right (is_conditional (nth g h).exit) (is_selection (nth g h).merge) fo.1) pl.1 in
        let off = conditional_no_switch (nth g h).exit fo.0 in (
          region_fresh y fo.2.0 ps fo.2.2 (inside_placed f g sound h 0 fo.2.0 ps pl.0 off round fo.2.1) u,
          region_fresh z fo.3.0 ps fo.3.2 (inside_placed f g sound h 1 fo.3.0 ps pl.0 off round fo.3.1) u,
        )
    item_fresh (loop h y) ps fo pl u =
        let above = loops h (under_place g sound h a ps pl.0 pl.1 u) in
        (above.1, region_fresh y (At (Body h)) (Loop h ∷ ps) fo.1 (pl.0, ap (λ qs. Loop h ∷ qs) pl.1, pl.2) (inr u))
    item_fresh (loop_on h z y) ps fo pl u =
        let above = loops h (under_place g sound h a ps pl.0 pl.1 u) in (
          above.0,
          above.1,
          region_fresh z (At (Block fo.0.0)) (Cont h ∷ ps) fo.0.2 (continue_placed g sound h fo.0.0 ps pl.0 pl.1 fo.0.1) (inr u),
          region_fresh y (At (Body h)) (Loop h ∷ ps) fo.1 (pl.0, ap (λ qs. Loop h ∷ qs) pl.1, pl.2) (inr u),
        )
    item_fresh (switch h gs) ps fo pl u =
        let round = selected_place f g sound h ps (switch_selects g sound h pl.0 fo.0) pl.1 in
        groups_fresh gs h ps pl.0 fo.0 round (subst (AllLead g h) (sym fo.1) (filter_leads g h (range_with_len 0 (length g)))) fo.2 u

    groups_fresh : (gs : Groups) (h : ℕ) (ps : List Part) → (nth g h).reached ≡ true → is_switch (nth g h).exit ≡ true → place g h ≡ ps → AllLead g h (targets gs) → FollowsGroups f g gs h → IsUnder a ps → FreshGroups w term falls Cases x gs
    groups_fresh none h ps here on round all fo u = tt
    groups_fresh (group t labels default y gs) h ps here on round all fo u = (
      cases h t (under_place g sound h a ps here round u) here on all.0,
      region_fresh y fo.2.0 (Case h t ∷ ps) fo.2.2 (case_placed f g sound h t fo.2.0 ps here on all.0 round fo.2.1) (inr u),
      groups_fresh gs h ps here on round all.1 fo.3 u,
    )

  -- the bodies of a switch with this header
  pub bodies_fresh : (gs : Groups) (ps : List Part) → (nth g a).reached ≡ true → is_switch (nth g a).exit ≡ true → place g a ≡ ps → AllLead g a (targets gs) → FollowsGroups f g gs a → FreshBodies w term falls Cases x gs
  bodies_fresh none ps here on round all fo = tt
  bodies_fresh (group t labels default y gs) ps here on round all fo = (
    region_fresh y fo.2.0 (Case a t ∷ ps) fo.2.2 (case_placed f g sound a t fo.2.0 ps here on all.0 round fo.2.1) (inl refl),
    bodies_fresh gs ps here on round all.1 fo.3,
  )

later_other : (a h : ℕ) → a < h → h ≡ a → ⊥
later_other a h less same = omega (arith, less, same)

module _ (f : Function) (g : List Node) (sound : IsSound g) (w : Blocks) (term : ℕ → Term) (falls : ℕ → Option ℕ) (Cases : ℕ → Groups → Type 0) (is : IsWritten f g w term Cases) where
  pub leave_fresh : (h : ℕ) (l : Text) (r : Region) (n : Next) (ps : List Part) → w.leave h ≡ Some l → Follows f g r n → IsPlaced g n ps → IsUnder h ps → Fresh w term falls Cases l r
  leave_fresh h l r n ps e fo pl u =
      region_fresh f g sound w term falls Cases l h
      (λ k less. ((λ again. is.flags.again_leave k h l again e), (λ leave. later_other h k less (is.flags.leave_once k h l leave e))))
      (λ s t less here on leads fell. is.flags.leave_fell h t l e fell) r n ps fo pl u

  pub again_fresh : (h : ℕ) (l : Text) (r : Region) (n : Next) (ps : List Part) → w.again h ≡ Some l → Follows f g r n → IsPlaced g n ps → IsUnder h ps → Fresh w term falls Cases l r
  again_fresh h l r n ps e fo pl u =
      region_fresh f g sound w term falls Cases l h
      (λ k less. ((λ again. later_other h k less (is.flags.again_once k h l again e)), (λ leave. is.flags.again_leave h k l e leave)))
      (λ s t less here on leads fell. is.flags.again_fell h t l e fell) r n ps fo pl u

  pub fresh_if : (h : ℕ) (o : Option Text) (r : Region) (n : Next) (ps : List Part) → w.leave h ≡ o → Follows f g r n → IsPlaced g n ps → IsUnder h ps → FreshIf w term falls Cases o r
  fresh_if h None r n ps e fo pl u = tt
  fresh_if h (Some l) r n ps e fo pl u = leave_fresh h l r n ps e fo pl u

  -- a case that is fallen into is one of its switch
  pub fell_role : (h t : ℕ) (l : Text) → (nth g h).reached ≡ true → is_switch (nth g h).exit ≡ true → leads_to t (nth g h) ≡ true → w.fell t ≡ Some l → role g t ≡ CaseOf h
  fell_role h t l here on leads e = by_from (fallen_from g t) refl (is.fell t l e)
    where
      by_from : (o : Option ℕ) → fallen_from g t ≡ o → is_some o ≡ true → role g t ≡ CaseOf h
      by_from None from some = cc
      by_from (Some u) from some =
          let fall = fall_is g sound u t (back g sound u t from) in
          fall.to ∙ ap (λ q. CaseOf q) (switch_own g sound t h fall.switch here on leads fall.to)

  pub fell_fresh : (all gs : Groups) (h : ℕ) (ps : List Part) → (nth g h).reached ≡ true → is_switch (nth g h).exit ≡ true → place g h ≡ ps → AllLead g h (targets all) → FollowsGroups f g all h → AllLead g h (targets gs) → FellFresh w term falls Cases all gs
  fell_fresh all none h ps here on round leads fo own = tt
  fell_fresh all (group t labels default y gs) h ps here on round leads fo own = (
    (λ l e.
        bodies_fresh f g sound w term falls Cases l h
        (λ k less. ((λ again. is.flags.again_fell k t l again e), (λ leave. is.flags.leave_fell k t l leave e)))
        (λ s u less there switch goes fell.
        let same : u ≡ t = is.flags.fell_once u t l fell e in
        let one : role g u ≡ CaseOf s = fell_role s u l there switch goes fell in
        let two : role g t ≡ CaseOf h = fell_role h t l here on own.0 e in
        let roles : CaseOf s ≡ CaseOf h = sym one ∙ (ap (role g) same ∙ two) in
        later_other h s less (cc))
        all ps here on round leads fo),
    fell_fresh all gs h ps here on round leads fo own.1,
  )
