-- A recovered tree leads where the edges of its blocks lead.
use Rattle.std.proofs.Common.{◌≡◌, ◌<◌, ◌==◌, ◌&&◌, not, ℕ, Bool, true, false, List, [], ◌∷◌, length, slice_get, if◌then◌else◌, Option, Some, None, is_some, inl, inr, ◌⊎◌, refl, ap, sym, ◌∙◌, subst, arith}
use Rattle.std.specs.List.{range_with_len}
use Rattle.std.specs.Option.{option_and_then}
use Rattle.std.proofs.lemmas.Bool.{or_left, or_right, and_right}
use Rattle.std.proofs.lemmas.Bool.Decides.{eqb_tells}
use Rattle.std.proofs.lemmas.Option.{same_Some}
use Rattle.spv_ops.specs.Opcode.{is}
use Rattle.spv_ops.specs.declared.Op.TheVariants as code
use Rattle.spv_module.specs.declared.inst.Inst.{Inst}
use Rattle.spv_module.specs.declared.inst.Function.{Function}
use Rattle.structure_rules.specs.declared.graph.Exit.{Exit as Terminator}
use Rattle.structure_rules.specs.declared.graph.Exit.TheVariants as terminator
use Rattle.structure_rules.specs.declared.graph.Node.{Node}
use Rattle.structure_rules.specs.declared.graph.Role.{Role}
use Rattle.structure_rules.specs.declared.graph.Role.TheVariants.{First, Merge as MergeOf, Continue, Case as CaseOf, Inside}
use Rattle.structure_rules.specs.declared.graph.Part.{Part}
use Rattle.structure_rules.specs.declared.graph.Part.TheVariants.{If, Loop, Cont, Case}
use Rattle.structure_rules.specs.Graph.{nth, graph, leads_to, merge_block, continue_target, is_conditional, is_switch, is_selection}
use Rattle.structure_rules.specs.Nesting.{role, parent_of, place, place_step, first_of}
use Rattle.structure_rules.specs.EdgeKinds.{loop_header, nearest_loop, is_enter}
use Rattle.structure_rules.specs.Structure.{fall_links}
use Rattle.nest_place.specs.Nests.{IsSound}
use Rattle.nest_place.proofs.Outward.{place_is}
use Rattle.nest_place.proofs.OneKind.{switch_selects}
use Rattle.structure_recover.specs.declared.region.Exit.{Exit}
use Rattle.structure_recover.specs.declared.region.Exit.TheVariants.{Edge, Return, Lost, Closed}
use Rattle.structure_recover.specs.declared.edges.Start.{Start}
use Rattle.structure_recover.specs.declared.edges.Start.TheVariants.{Block, Body}
use Rattle.structure_recover.specs.declared.edges.Next.{Next}
use Rattle.structure_recover.specs.declared.edges.Next.TheVariants.{At, Stop}
use Rattle.structure_recover.specs.Tree.{Region, ends, item, Item, plain, choose, loose, loop, loop_on, switch, Groups, none, group, head, is_loop as is_loop_item, targets}
use Rattle.structure_recover.specs.Follows.{is_plain, Carries, CarriesTo, if_reached, merged, left_by, last_inst, left, IsAfter, IsBehind, StandsAt, other_block, continue_block, switch_targets, Follows, FollowsItem, FollowsGroups, first, IsTree}
use Rattle.structure_recover.proofs.Rounds.{AllLead, filter_leads, conditional_no_switch, continue_facts}
use Rattle.switch_ladder.specs.Flags.{needs_again}
use Rattle.glsl_ast.specs.Tree.{Text}
use Rattle.control_text.specs.Statements.{Blocks, has_break, item_has_break, groups_have_break, is_break as is_break_exit}
use Rattle.region_law.specs.Leads.{Term, Ways, if_there as if_some, IsBlock, IsItem, IsEdge, IsOrder, PlainLeads, OutLeads, in_case, Leads, GroupsLead}
use Rattle.tree_law.specs.Serves.{nearest, place_of, Serves, if_there, behind, in_choice, in_body, in_continue, no_ways}
use Rattle.tree_law.specs.Placed.{IsPlaced, IsPlacedItem, Starts}
use Rattle.tree_law.specs.Written.{IsWritten}
use Rattle.tree_law.proofs.Serving.{merges, exit_leads, choice_serves, body_serves, continue_serves, case_serves}
use Rattle.tree_law.proofs.SwitchOrder.{fall_links_are, enters_own, order_is}
use Rattle.tree_law.proofs.Placing.{starts_carried, head_at, starts_at, item_placed, inside_placed, case_placed, behind_placed, plain_inner, chosen_inner, selected_place, after_item, merged_item}
use Rattle.tree_law.proofs.Leaving.{needs_at, groups_leave}
use Rattle.tree_law.proofs.Fresh.{continue_placed, again_fresh, fresh_if, fell_role, fell_fresh}

item_of : (f : Function) (g : List Node) (r : Region) (s : Start) → Follows f g r (At s) → IsItem r
item_of f g (ends e) s fo = cc
item_of f g (item i r) s fo = tt

ends_is : (f : Function) (g : List Node) (r : Region) (e : Exit) → Follows f g r (Stop e) → r ≡ ends e
ends_is f g (ends x) e fo = let same : e ≡ x = cc in ap (λ q. ends q) (sym same)
ends_is f g (item i r) e fo = absurd fo

-- an edge leads to the region that it is, or that it enters
edge_is : (f : Function) (g : List Node) (b t : ℕ) (r : Region) (n : Next) → Follows f g r n → Carries g b t n → IsEdge b t r
edge_is f g b t (item i r) n fo c = tt
edge_is f g b t (ends e) n fo c = by_exit e (subst (λ m. Carries g b t m) fo c)
  where
    by_exit : (e : Exit) → Carries g b t (Stop e) → IsEdge b t (ends e)
    by_exit (Edge a u k) c = (c.0, c.1)
    by_exit (Return a) c = absurd c
    by_exit (Lost a) c = absurd c
    by_exit Closed c = absurd c

body_block : (f : Function) (g : List Node) (h : ℕ) (r : Region) → Follows f g r (At (Body h)) → IsBlock r
body_block f g h (ends e) fo = cc
body_block f g h (item (plain b) r) fo = tt
body_block f g h (item (choose b x y) r) fo = tt
body_block f g h (item (loose b x y) r) fo = tt
body_block f g h (item (switch b gs) r) fo = tt
body_block f g h (item (loop b x) r) fo = let never : true ≡ false = fo.0.1 in cc
body_block f g h (item (loop_on b z x) r) fo = let never : true ≡ false = fo.0.1 in cc

-- behind a construct stands its merge block, where that is reached
merged_rest : (f : Function) (g : List Node) (h : ℕ) (r : Region) (n : Next) (X : ℕ → Type 0) → n ≡ merged g h → Follows f g r n → ((q : ℕ) → Starts n q → X q) → if_some (behind g h) (λ q. IsItem r × X q)
merged_rest f g h r n X is fo rest = by_merge (merge_block g h) (subst (Follows f g r) is fo) (λ q s. rest q (subst (λ m. Starts m q) (sym is) s))
  where
    by_reached : (m : ℕ) (b : Bool) → Follows f g r (if b then At (Block m) else Stop Closed) → ((q : ℕ) → Starts (if b then At (Block m) else Stop Closed) q → X q) → if_some (elim b as (λ x. Option ℕ) [ true ↦ Some m | false ↦ None ]) (λ q. IsItem r × X q)
    by_reached m true fo rest = (item_of f g r (Block m) fo, rest m refl)
    by_reached m false fo rest = tt

    by_merge : (o : Option ℕ) → Follows f g r (if_reached g o) → ((q : ℕ) → Starts (if_reached g o) q → X q) → if_some (if_there g o) (λ q. IsItem r × X q)
    by_merge None fo rest = tt
    by_merge (Some m) fo rest = by_reached m (nth g m).reached fo rest

pub conditional_is : (x : Terminator) → is_conditional x ≡ true → x ≡ terminator.Conditional
conditional_is terminator.Branch e = cc
conditional_is terminator.Conditional e = refl
conditional_is terminator.Switch e = cc
conditional_is terminator.Leave e = cc

pub switch_is : (x : Terminator) → is_switch x ≡ true → x ≡ terminator.Switch
switch_is terminator.Branch e = cc
switch_is terminator.Conditional e = cc
switch_is terminator.Switch e = refl
switch_is terminator.Leave e = cc

lefts : (b : ℕ) (o : Option Inst) → (left_by b o ≡ Return b) ⊎ (left_by b o ≡ Lost b)
lefts b None = inl refl
lefts b (Some i) = elim (is i.op code.Unreachable) as (λ q. ((if q then Lost b else Return b) ≡ Return b) ⊎ ((if q then Lost b else Return b) ≡ Lost b)) [ true ↦ inr refl | false ↦ inl refl ]

-- a loop without another continue block goes on at its header
no_other : (g : List Node) (h t : ℕ) → continue_block g h ≡ None → continue_target g h ≡ Some t → (nth g t).reached ≡ true → t ≡ h
no_other g h t lacks is there = by_same (t == h) refl (sym (ap (other_block g h) is) ∙ lacks)
  where
    same_if : (t == h) ≡ true → t ≡ h
    same_if e = elim (eqb_tells t h) [ inl w ↦ w.1 | inr w ↦ let never : true ≡ false = sym e ∙ w.0 in cc ]

    by_same : (b : Bool) → (t == h) ≡ b → other_block g h (Some t) ≡ None → t ≡ h
    by_same true e o = same_if e
    by_same false e o =
        let some : other_block g h (Some t) ≡ Some t = ap (λ q. if q && not (t == h) then Some t else None) there ∙ ap (λ q. if not q then Some t else None) e in
        let never : Some t ≡ None = sym some ∙ o in cc

module _ (f : Function) (g : List Node) (sound : IsSound g) (w : Blocks) (term : ℕ → Term) (Cases : ℕ → Groups → Type 0) (written : IsWritten f g w term Cases) where
  abbrev falls : ℕ → Option ℕ
  falls = first_of (fall_links g)

  abbrev L : Region → List Part → Ways → ℕ → Type 0
  L r ps v at = Leads w term falls Cases r (place_of ps) v at

  exit_at : (e : Exit) (ps : List Part) (v : Ways) (breaks : Bool) (at : ℕ) → IsPlaced g (Stop e) ps → Starts (Stop e) at → Serves w.leave g ps v breaks → (is_break_exit e ≡ true → breaks ≡ true) → L (ends e) ps v at
  exit_at (Edge b t k) ps v breaks at pl st se br = (
    st,
    exit_leads w term falls Cases g b t ps v breaks se pl.here pl.leads (sound.reached b t pl.here pl.leads) pl.sees
        (λ s h in_switch near breaks_is. written.leave h (needs_at g b t h pl.here pl.leads breaks_is (ap is_some (pl.sees.switch ∙ in_switch)) (ap (λ o. option_and_then loop_header o) pl.sees.near ∙ near))) k pl.kind pl.outward
        (λ e. br (subst (λ q. is_break_exit (Edge b t q) ≡ true) (sym e) refl)),
  )
  exit_at (Return b) ps v breaks at pl st se br = absurd st
  exit_at (Lost b) ps v breaks at pl st se br = absurd st
  exit_at Closed ps v breaks at pl st se br = absurd st

  plain_leads : (b : ℕ) (r : Region) (n : Next) (X : ℕ → Type 0) → (nth g b).reached ≡ true → is_plain (nth g b).exit ≡ true → IsAfter f g b (nth g b).exit n → Follows f g r n → ((q : ℕ) → Starts n q → X q) → PlainLeads w term falls Cases (term b) b r X
  plain_leads b r n X here is_plain_is a fo rest = by_exit (nth g b).exit refl is_plain_is a
    where
      by_left : (nth g b).exit ≡ terminator.Leave → n ≡ Stop (left f b) → PlainLeads w term falls Cases (term b) b r X
      by_left exit a =
          let own = ends_is f g r (left f b) (subst (Follows f g r) a fo) in
          elim (lefts b (last_inst (slice_get f.blocks b))) [
            | inl e ↦ subst (λ q. PlainLeads w term falls Cases q b r X) (sym (written.returns b here exit e)) (own ∙ ap (λ q. ends q) e)
            | inr e ↦ subst (λ q. PlainLeads w term falls Cases q b r X) (sym (written.loses b here exit e)) (own ∙ ap (λ q. ends q) e)
          ]

      by_exit : (x : Terminator) → (nth g b).exit ≡ x → is_plain x ≡ true → IsAfter f g b x n → PlainLeads w term falls Cases (term b) b r X
      by_exit terminator.Branch exit p a =
          let j = written.jumps b here exit in
          let c : Carries g b j.0 n = subst (λ o. CarriesTo g b o n) j.1 a in
          subst (λ q. PlainLeads w term falls Cases q b r X) (sym j.2) (written.target_is b 0 j.0 here j.1, edge_is f g b j.0 r n fo c, rest j.0 (starts_carried g b j.0 n c))
      by_exit terminator.Leave exit p a = by_left exit a
      by_exit terminator.Conditional exit p a = cc
      by_exit terminator.Switch exit p a = cc

  -- behind a conditional with a merge block, and without
  behind_chosen : (h : ℕ) (n : Next) → (nth g h).exit ≡ terminator.Conditional → is_selection (nth g h).merge ≡ true → IsAfter f g h (nth g h).exit n → n ≡ merged g h
  behind_chosen h n exit sel a = subst (λ x. IsAfter f g h x n) exit a ∙ ap (λ q. if q then merged g h else Stop Closed) sel

  behind_loose : (h : ℕ) (n : Next) → (nth g h).exit ≡ terminator.Conditional → is_selection (nth g h).merge ≡ false → IsAfter f g h (nth g h).exit n → n ≡ Stop Closed
  behind_loose h n exit sel a = subst (λ x. IsAfter f g h x n) exit a ∙ ap (λ q. if q then merged g h else Stop Closed) sel

  behind_switch : (h : ℕ) (n : Next) → (nth g h).exit ≡ terminator.Switch → IsAfter f g h (nth g h).exit n → n ≡ merged g h
  behind_switch h n exit a = subst (λ x. IsAfter f g h x n) exit a

  out_leads : (gs : Groups) (h : ℕ) (ps : List Part) (v : Ways) (breaks : Bool) → (nth g h).reached ≡ true → is_switch (nth g h).exit ≡ true → place g h ≡ ps → AllLead g h (targets gs) → FollowsGroups f g gs h → Serves w.leave g ps v breaks → (groups_have_break gs ≡ true → breaks ≡ true)
      → (b : Bool) → groups_have_break gs ≡ b → OutLeads w term falls Cases (place_of ps) v b
  out_leads gs h ps v breaks here on round all fo se br false e = tt
  out_leads gs h ps v breaks here on round all fo se br true e =
      let l = groups_leave f g sound gs h ps here on round all fo e in
      let m = merges g l.to (option_and_then loop_header (nearest_loop g l.from)) l.breaks in
      let near : option_and_then loop_header (nearest ps) ≡ Some m.0 = ap (λ o. option_and_then loop_header o) (sym l.nearest_is) ∙ m.1 in
      let flag = written.leave m.0 (needs_at g l.from l.to m.0 l.here l.leads l.breaks (l.through refl) m.1) in
      (m.0, flag.0, l.to, near, flag.1, se.out (br e) m.0 l.to flag.0 near flag.1 m.2 (sound.reached l.from l.to l.here l.leads))

  -- a case that is fallen into begins with a block
  fell_item : (h t : ℕ) (x : Region) (n : Next) → (nth g h).reached ≡ true → is_switch (nth g h).exit ≡ true → leads_to t (nth g h) ≡ true → Carries g h t n → Follows f g x n → (y : Text) → w.fell t ≡ Some y → IsItem x
  fell_item h t x n here on leads c fo y e = by_next n c fo
    where
      enters : is_enter g h t ≡ true
      enters = enters_own g sound t h (fell_role f g sound w term falls Cases written h t y here on leads e)

      by_next : (n : Next) → Carries g h t n → Follows f g x n → IsItem x
      by_next (At s) c fo = item_of f g x s fo
      by_next (Stop (Edge b u k)) c fo = let never : true ≡ false = sym enters ∙ c.3 in cc
      by_next (Stop (Return b)) c fo = absurd c
      by_next (Stop (Lost b)) c fo = absurd c
      by_next (Stop Closed) c fo = absurd c

  mutual
    pub region_leads : (r : Region) (n : Next) (ps : List Part) (v : Ways) (breaks : Bool) (at : ℕ) → Follows f g r n → IsPlaced g n ps → Starts n at → Serves w.leave g ps v breaks → (has_break r ≡ true → breaks ≡ true) → L r ps v at
    region_leads (ends e) n ps v breaks at fo pl st se br = exit_at e ps v breaks at (subst (λ m. IsPlaced g m ps) fo pl) (subst (λ m. Starts m at) fo st) se br
    region_leads (item i r) (Stop e) ps v breaks at fo pl st se br = absurd fo
    region_leads (item i r) (At s) ps v breaks at fo pl st se br =
        item_leads i s r fo.2.0 ps v breaks at fo.0 fo.1 fo.2.1 fo.2.2 (item_placed g i s ps fo.0 pl) (head_at g i s fo.0 ∙ starts_at s at st)
        (λ q begins. region_leads r fo.2.0 ps v breaks q fo.2.2 (behind_placed f g sound s fo.2.0 ps pl fo.2.1) begins se (λ e. br (or_right (item_has_break i) (has_break r) e)))
        se (λ e. br (or_left (item_has_break i) (has_break r) e))

    item_leads : (i : Item) (s : Start) (r : Region) (n : Next) (ps : List Part) (v : Ways) (breaks : Bool) (at : ℕ) → StandsAt g i s → FollowsItem f g i → IsBehind f g s n → Follows f g r n → IsPlacedItem g (is_loop_item i) (head i) ps → head i ≡ at
        → ((q : ℕ) → Starts n q → L r ps v q) → Serves w.leave g ps v breaks → (item_has_break i ≡ true → breaks ≡ true) → L (item i r) ps v at
    item_leads (plain b) s r n ps v breaks at sa fi be fo pl here rest se br =
        (here, plain_leads b r n (L r ps v) pl.0 fi (after_item f g sound (plain b) s n refl sa be) fo rest)
    item_leads (choose h x y) s r n ps v breaks at sa fi be fo pl here rest se br =
        let exit = conditional_is (nth g h).exit fi.0 in
        let off = conditional_no_switch (nth g h).exit fi.0 in
        let round = chosen_inner f g sound h ps fi.0 fi.1 pl.1 in
        let b = written.branches h pl.0 exit in
        let cx : Carries g h b.0 fi.2.0 = subst (λ o. CarriesTo g h o fi.2.0) b.2 fi.2.1 in
        let cy : Carries g h b.1 fi.3.0 = subst (λ o. CarriesTo g h o fi.3.0) b.3 fi.3.1 in
        let se_in = choice_serves w.leave g ps h v breaks breaks (λ e. e) se in (
          here,
          (
            b.0,
            b.1,
            b.4,
            written.target_is h 0 b.0 pl.0 b.2,
            written.target_is h 1 b.1 pl.0 b.3,
            edge_is f g h b.0 x fi.2.0 fi.2.2 cx,
            edge_is f g h b.1 y fi.3.0 fi.3.2 cy,
            (
              behind g h,
              region_leads x fi.2.0 (If h ∷ ps) (in_choice g h v) breaks b.0 fi.2.2 (inside_placed f g sound h 0 fi.2.0 (If h ∷ ps) pl.0 off round fi.2.1) (starts_carried g h b.0 fi.2.0 cx) se_in (λ e. br (or_left (has_break x) (has_break y) e)),
              region_leads y fi.3.0 (If h ∷ ps) (in_choice g h v) breaks b.1 fi.3.2 (inside_placed f g sound h 1 fi.3.0 (If h ∷ ps) pl.0 off round fi.3.1) (starts_carried g h b.1 fi.3.0 cy) se_in (λ e. br (or_right (has_break x) (has_break y) e)),
              merged_rest f g h r n (L r ps v) (behind_chosen h n exit fi.1 (after_item f g sound (choose h x y) s n refl sa be)) fo rest,
            ),
          ),
        )
    item_leads (loose h x y) s r n ps v breaks at sa fi be fo pl here rest se br =
        let exit = conditional_is (nth g h).exit fi.0 in
        let off = conditional_no_switch (nth g h).exit fi.0 in
        let round = plain_inner f g sound h ps (and_right (is_conditional (nth g h).exit) (is_selection (nth g h).merge) fi.1) pl.1 in
        let b = written.branches h pl.0 exit in
        let cx : Carries g h b.0 fi.2.0 = subst (λ o. CarriesTo g h o fi.2.0) b.2 fi.2.1 in
        let cy : Carries g h b.1 fi.3.0 = subst (λ o. CarriesTo g h o fi.3.0) b.3 fi.3.1 in (
          here,
          (
            b.0,
            b.1,
            b.4,
            written.target_is h 0 b.0 pl.0 b.2,
            written.target_is h 1 b.1 pl.0 b.3,
            edge_is f g h b.0 x fi.2.0 fi.2.2 cx,
            edge_is f g h b.1 y fi.3.0 fi.3.2 cy,
            region_leads x fi.2.0 ps v breaks b.0 fi.2.2 (inside_placed f g sound h 0 fi.2.0 ps pl.0 off round fi.2.1) (starts_carried g h b.0 fi.2.0 cx) se (λ e. br (or_left (has_break x) (has_break y) e)),
            region_leads y fi.3.0 ps v breaks b.1 fi.3.2 (inside_placed f g sound h 1 fi.3.0 ps pl.0 off round fi.3.1) (starts_carried g h b.1 fi.3.0 cy) se (λ e. br (or_right (has_break x) (has_break y) e)),
            ends_is f g r Closed (subst (Follows f g r) (behind_loose h n exit fi.1 (after_item f g sound (loose h x y) s n refl sa be)) fo),
          ),
        )
    item_leads (loop h x) s r n ps v breaks at sa fi be fo pl here rest se br =
        let body : IsPlaced g (At (Body h)) (Loop h ∷ ps) = (pl.0, ap (λ qs. Loop h ∷ qs) pl.1, pl.2) in (
          here,
          body_block f g h x fi.1,
          written.no_again h (ap (λ o. (nth g h).reached && is_some o) fi.0 ∙ and_right (nth g h).reached false refl),
          fresh_if f g sound w term falls Cases written h (w.leave h) x (At (Body h)) (Loop h ∷ ps) refl fi.1 body (inl refl),
          (
            behind g h,
            region_leads x (At (Body h)) (Loop h ∷ ps) (in_body w.leave g h h) true h fi.1 body refl (body_serves w.leave g ps h h true (λ t is there. no_other g h t fi.0 is there)) (λ e. refl),
            merged_rest f g h r n (L r ps v) (merged_item f g sound (loop h x) s n refl sa be) fo rest,
          ),
        )
    item_leads (loop_on h z x) s r n ps v breaks at sa fi be fo pl here rest se br =
        let c : ℕ = fi.0.0 in
        let facts = continue_facts g h c fi.0.1 in
        let body : IsPlaced g (At (Body h)) (Loop h ∷ ps) = (pl.0, ap (λ qs. Loop h ∷ qs) pl.1, pl.2) in
        let cont : IsPlaced g (At (Block c)) (Cont h ∷ ps) = continue_placed g sound h c ps pl.0 pl.1 fi.0.1 in
        let needs : needs_again g h ≡ true = ap (λ q. q && is_some (continue_block g h)) pl.0 ∙ ap (λ o. is_some o) fi.0.1 in
        let a = written.again h needs in (
          here,
          body_block f g h x fi.1,
          (
            a.0,
            a.1,
            (λ leave. written.flags.again_leave h h a.0 a.1 leave),
            again_fresh f g sound w term falls Cases written h a.0 z (At (Block c)) (Cont h ∷ ps) a.1 fi.0.2 cont (inl refl),
            again_fresh f g sound w term falls Cases written h a.0 x (At (Body h)) (Loop h ∷ ps) a.1 fi.1 body (inl refl),
            fresh_if f g sound w term falls Cases written h (w.leave h) z (At (Block c)) (Cont h ∷ ps) refl fi.0.2 cont (inl refl),
            fresh_if f g sound w term falls Cases written h (w.leave h) x (At (Body h)) (Loop h ∷ ps) refl fi.1 body (inl refl),
            (
              behind g h,
              c,
              item_of f g z (Block c) fi.0.2,
              region_leads z (At (Block c)) (Cont h ∷ ps) (in_continue w.leave g h) true c fi.0.2 cont refl (continue_serves w.leave g ps h true (λ own. facts.apart (same_Some c h (sym facts.target ∙ own)))) (λ e. refl),
              region_leads x (At (Body h)) (Loop h ∷ ps) (in_body w.leave g h c) true h fi.1 body refl (body_serves w.leave g ps h c true (λ t is there. same_Some t c (sym is ∙ facts.target))) (λ e. refl),
              merged_rest f g h r n (L r ps v) (merged_item f g sound (loop_on h z x) s n refl sa be) fo rest,
            ),
          ),
        )
    item_leads (switch h gs) s r n ps v breaks at sa fi be fo pl here rest se br =
        let exit = switch_is (nth g h).exit fi.0 in
        let sel = switch_selects g sound h pl.0 fi.0 in
        let round = selected_place f g sound h ps sel pl.1 in
        let all : AllLead g h (targets gs) = subst (AllLead g h) (sym fi.1) (filter_leads g h (range_with_len 0 (length g))) in (
          here,
          written.tables h pl.0 fi.0,
          out_leads gs h ps v breaks pl.0 fi.0 round all fi.2 se br (groups_have_break gs) refl,
          fell_fresh f g sound w term falls Cases written gs gs h ps pl.0 fi.0 round all fi.2 all,
          subst (λ ts. IsOrder falls (w.order h) ts) (sym fi.1) (subst (λ ts. IsOrder falls ts (switch_targets g h)) (sym (written.order_is h pl.0 fi.0)) (order_is g sound h pl.0 fi.0)),
          written.cases_are h gs pl.0 fi.0 fi.1 fi.2,
          (
            behind g h,
            groups_lead gs h ps v breaks (groups_have_break gs) pl.0 fi.0 round all fi.2 se br (λ e. e),
            merged_rest f g h r n (L r ps v) (behind_switch h n exit (after_item f g sound (switch h gs) s n refl sa be)) fo rest,
          ),
        )

    groups_lead : (gs : Groups) (h : ℕ) (ps : List Part) (v : Ways) (breaks all : Bool) → (nth g h).reached ≡ true → is_switch (nth g h).exit ≡ true → place g h ≡ ps → AllLead g h (targets gs) → FollowsGroups f g gs h → Serves w.leave g ps v breaks → (all ≡ true → breaks ≡ true) → (groups_have_break gs ≡ true → all ≡ true)
        → GroupsLead w term falls Cases gs h (place_of ps) v all (behind g h)
    groups_lead none h ps v breaks all here on round leads fo se most more = tt
    groups_lead (group t labels default x gs) h ps v breaks all here on round leads fo se most more = (
      edge_is f g h t x fo.2.0 fo.2.2 fo.2.1,
      fell_item h t x fo.2.0 here on leads.0 fo.2.1 fo.2.2,
      region_leads x fo.2.0 (Case h t ∷ ps) (in_case w term falls Cases v all (behind g h) t) all t fo.2.2 (case_placed f g sound h t fo.2.0 ps here on leads.0 round fo.2.1) (starts_carried g h t fo.2.0 fo.2.1)
          (case_serves w term falls Cases g ps h t v breaks all most (λ b u there goes e. fall_links_are g sound b u t there goes e) se) (λ e. more (or_left (has_break x) (groups_have_break gs) e)),
      groups_lead gs h ps v breaks all here on round leads.1 fo.3 se most (λ e. more (or_right (has_break x) (groups_have_break gs) e)),
    )

top_serves : (leave : ℕ → Option Text) (g : List Node) → Serves leave g [] no_ways true
top_serves leave g = record {
  merge = λ h t e m there. let never = e in cc;
  switched = λ s t e m there. let never = e in cc;
  left = λ h t lacks e m there. let never = e in cc;
  out = λ b h t l e f m there. let never = e in cc;
  again = λ h t e m there. let never = e in cc;
  other = λ h e m. let never = e in cc;
  back = λ h e. let never = e in cc;
  fall = λ b t u here leads f e. let never = e in cc;
}

-- nothing stands round the first block
first_place : (g : List Node) → IsSound g → (nth g 0).reached ≡ true → place g 0 ≡ []
first_place g sound here = place_is g 0 sound.grounded here ∙ by_role (role g 0) refl
  where
    low : (p : ℕ) → parent_of (role g 0) ≡ Some p → ⊥
    low p is = let less : p < 0 = (sound.grounded.up 0 p here is).0 in omega (arith, less)

    by_role : (x : Role) → role g 0 ≡ x → place_step g 0 x (place g) ≡ []
    by_role First is = refl
    by_role (MergeOf h) is = absurd (low h (ap parent_of is))
    by_role (Continue h) is = absurd (low h (ap parent_of is))
    by_role (CaseOf s) is = absurd (low s (ap parent_of is))
    by_role (Inside p) is = absurd (low p (ap parent_of is))

-- the tree of a function leads where its blocks lead, from its first block on
pub tree_leads : (f : Function) (w : Blocks) (term : ℕ → Term) (Cases : ℕ → Groups → Type 0) (r : Region) → IsSound (graph f) → (nth (graph f) 0).reached ≡ true → IsWritten f (graph f) w term Cases → IsTree f r
    → Leads w term (first_of (fall_links (graph f))) Cases r (record { in_loop = None; continues = false; in_switch = false }) no_ways 0
tree_leads f w term Cases r sound here written tree = by_graph (graph f) sound here written tree
  where
    by_graph : (g : List Node) → IsSound g → (nth g 0).reached ≡ true → IsWritten f g w term Cases → Follows f g r (first g) → Leads w term (first_of (fall_links g)) Cases r (place_of []) no_ways 0
    by_graph [] sound here written fo = let never : false ≡ true = here in cc
    by_graph (n ∷ g) sound here written fo =
        region_leads f (n ∷ g) sound w term Cases written r (At (Block 0)) [] no_ways true 0 fo (here, first_place (n ∷ g) sound here) refl (top_serves w.leave (n ∷ g)) (λ e. refl)
