-- Blocks stand in a tree that follows the edges within what is round them.
use Rattle.std.proofs.Common.{◌≡◌, ◌==◌, ◌&&◌, not, ℕ, Bool, true, false, List, [], ◌∷◌, ◌++◌, length, map, if◌then◌else◌, Option, Some, None, is_none, filter, refl, ap, sym, ◌∙◌, subst, inl, inr}
use Rattle.std.specs.List.{list_any, range_with_len}
use Rattle.std.proofs.lemmas.Bool.Decides.{eqb_tells}
pub use Rattle.std.proofs.lemmas.Bool.{false_from_ne_true as not_true}
use Rattle.spv_module.specs.declared.inst.Function.{Function}
use Rattle.structure_rules.specs.declared.graph.Merge.{Merge}
use Rattle.structure_rules.specs.declared.graph.Merge.TheVariants.{Absent, Selection, Loop as LoopMerge}
use Rattle.structure_rules.specs.declared.graph.Exit.{Exit as Terminator}
use Rattle.structure_rules.specs.declared.graph.Exit.TheVariants as terminator
use Rattle.structure_rules.specs.declared.graph.Node.{Node}
use Rattle.structure_rules.specs.declared.graph.Role.{Role}
use Rattle.structure_rules.specs.declared.graph.Role.TheVariants.{First, Merge as MergeOf, Continue, Case as CaseOf, Inside}
use Rattle.structure_rules.specs.declared.graph.Part.TheVariants.{If, Loop, Cont, Case}
use Rattle.structure_rules.specs.Graph.{nth, leads_to, edges, merge_block, continue_target, is_conditional, is_switch, is_selection, is_value}
use Rattle.structure_rules.specs.Nesting.{role, case_links, case_targets, has_link, header_of, opened}
use Rattle.structure_rules.specs.EdgeKinds.{is_enter}
use Rattle.nest_place.specs.Nests.{IsSound}
use Rattle.nest_place.specs.Spots.{IsGrounded}
use Rattle.nest_place.proofs.Each.{link_to, has_filter}
use Rattle.nest_place.proofs.Falling.{edges_reached}
use Rattle.nest_place.proofs.Parenthood.{no_link}
use Rattle.nest_place.proofs.Outward.{reached_inside, IsLocal, outward_is}
use Rattle.nest_place.proofs.Around.{role_facts, case_switch_is}
use Rattle.nest_place.proofs.OneKind.{not_own, not_twice, merge_link, target_link, header_is, enter_view, role_merge, switch_selects, value_some}
use Rattle.structure_recover.specs.declared.region.Exit.TheVariants.{Closed}
use Rattle.structure_recover.specs.declared.edges.Start.{Start}
use Rattle.structure_recover.specs.declared.edges.Start.TheVariants.{Block, Body}
use Rattle.structure_recover.specs.declared.edges.Next.{Next}
use Rattle.structure_recover.specs.declared.edges.Next.TheVariants.{At, Stop}
use Rattle.structure_recover.specs.Tree.{Region, ends, item, Item, plain, choose, loose, loop, loop_on, switch, Groups, none, group, head, is_loop, targets}
use Rattle.structure_recover.specs.Follows.{is_loop_merge, heads_loop, target, Carries, CarriesTo, if_reached, merged, IsAfter, IsBehind, IsBehindBlock, StandsAt, other_block, continue_block, Follows, FollowsItem, FollowsGroups}
use Rattle.structure_recover.specs.Once.{Around, within, branch, own_around, round_step, round, around, stands, item_stands, group_stands}
use Rattle.structure_recover.proofs.Onward.{enter_later, target_leads, named_role_is}

round_local : (g : List Node) → IsLocal (round_step g)
round_local g b First f h same = refl
round_local g b (MergeOf p) f h same = same p refl
round_local g b (Continue p) f h same = ap (λ ps. within (Cont p) ∷ ps) (same p refl)
round_local g b (CaseOf p) f h same = ap (λ ps. within (Case p b) ∷ ps) (same p refl)
round_local g b (Inside p) f h same = ap (λ ps. own_around g p ++ ps) (same p refl)

pub round_is : (g : List Node) (b : ℕ) (r : Role) → IsGrounded g → (nth g b).reached ≡ true → role g b ≡ r → round g b ≡ round_step g b r (round g)
round_is g b r grounded here is = outward_is (round_step g) [] g (round_local g) grounded b here ∙ ap (λ q. round_step g b q (round g)) is

pub not_case : (g : List Node) (h t : ℕ) → is_switch (nth g h).exit ≡ false → role g t ≡ CaseOf h → ⊥
not_case g h t off is = let on = case_switch_is g t h is in let never : true ≡ false = sym on ∙ off in cc

-- an edge of a block that is no switch enters a block inside it
pub enters_inside : (g : List Node) (h t : ℕ) → IsSound g → (nth g h).reached ≡ true → is_switch (nth g h).exit ≡ false → is_enter g h t ≡ true → role g t ≡ Inside h
enters_inside g h t sound here off e = elim (enter_view g sound h here t e) [ inl r ↦ absurd (not_case g h t off r) | inr r ↦ r ]

case_to : (g : List Node) (t s : ℕ) → (nth g s).reached ≡ true → is_switch (nth g s).exit ≡ true → leads_to t (nth g s) ≡ true → header_of g t ≡ None → has_link (case_links g) t s ≡ true
unfolding case_links
case_to g t s here is leads nameless =
    link_to (λ s n. case_targets g n) g t s (reached_inside g s here)
    (subst (λ b. list_any (λ x. x == t) (if b then filter (λ q. is_none (header_of g q)) (edges (nth g s)) else []) ≡ true) (sym is)
    (has_filter (λ q. is_none (header_of g q)) (edges (nth g s)) t (subst (λ ts. list_any (λ x. x == t) ts ≡ true) (sym (edges_reached (nth g s) here)) leads) (ap is_none nameless)))

-- an edge of a switch enters a case target
pub enters_case : (g : List Node) (h t : ℕ) → IsSound g → (nth g h).reached ≡ true → is_switch (nth g h).exit ≡ true → leads_to t (nth g h) ≡ true → is_enter g h t ≡ true → role g t ≡ CaseOf h
enters_case g h t sound here is leads e =
    elim (enter_view g sound h here t e) [
      | inl r ↦ r
      | inr r ↦ let facts = (role_facts g t).entered h r in absurd (no_link (case_links g) t h facts.1 (case_to g t h here is leads facts.0))
    ]

-- a merge block has its header's place
pub merge_role : (g : List Node) (h m : ℕ) → IsSound g → (nth g h).reached ≡ true → merge_block g h ≡ Some m → role g m ≡ MergeOf h
merge_role g h m sound here is =
    role_merge g sound h here m h (header_is g sound m h (merge_link g m h here is) (λ same. not_own g sound h here (is ∙ ap (λ q. Some q) (sym same)))) is

-- the block in which a loop continues
pub record IsContinue (g : List Node) (h c : ℕ) : Type 0 where
  pub reached : (nth g c).reached ≡ true
  pub apart : c ≡ h → ⊥
  pub target : continue_target g h ≡ Some c

pub continue_facts : (g : List Node) (h c : ℕ) → continue_block g h ≡ Some c → IsContinue g h c
continue_facts g h c e = by_target (continue_target g h) refl e
  where
    by_tests : (k : ℕ) (a b : Bool) → continue_target g h ≡ Some k → (nth g k).reached ≡ a → (k == h) ≡ b → (if a && not b then Some k else None) ≡ Some c → IsContinue g h c
    by_tests k true false target there apart e =
        let same : k ≡ c = cc in
        subst (IsContinue g h) same (record { reached = there; apart = λ own. let on : (k == h) ≡ true = eqb_same own in let never : true ≡ false = sym on ∙ apart in cc; target = target })
      where
        eqb_same : k ≡ h → (k == h) ≡ true
        eqb_same own = elim (eqb_tells k h) [ inl w ↦ w.0 | inr w ↦ absurd (w.1 own) ]
    by_tests k true true target there apart e = cc
    by_tests k false b target there apart e = cc

    by_target : (o : Option ℕ) → continue_target g h ≡ o → other_block g h o ≡ Some c → IsContinue g h c
    by_target None target e = cc
    by_target (Some k) target e = by_tests k (nth g k).reached (k == h) target refl refl e

pub continue_role : (g : List Node) (h c : ℕ) → IsSound g → (nth g h).reached ≡ true → IsContinue g h c → role g c ≡ Continue h
continue_role g h c sound here is =
    let named = named_role_is g c h (header_is g sound c h (target_link g c h here is.target) (λ same. is.apart (sym same))) in
    named ∙ ap (λ b. if b then MergeOf h else Continue h) (not_true (is_value c (merge_block g h)) (λ e. not_twice g sound h c here (value_some c (merge_block g h) e) is.target))

abbrev own_rest : ℕ → List Around → Bool → Merge → List Around
own_rest h rest c m = (if c && not (is_selection m) then branch h ∷ map within (opened c m h) else map within (opened c m h)) ++ rest

abbrev head_rest : ℕ → List Around → Merge → List Around
head_rest h rest m = if is_loop_merge m then within (Loop h) ∷ rest else rest

plain_own : (h : ℕ) (rest : List Around) (c : Bool) (m : Merge) → c ≡ false → own_rest h rest c m ≡ head_rest h rest m
plain_own h rest true m e = cc
plain_own h rest false Absent e = refl
plain_own h rest false (Selection m) e = refl
plain_own h rest false (LoopMerge m c) e = refl

choose_own : (h : ℕ) (rest : List Around) (c : Bool) (m : Merge) → c ≡ true → is_selection m ≡ true → own_rest h rest c m ≡ within (If h) ∷ head_rest h rest m
choose_own h rest false m e f = cc
choose_own h rest true Absent e f = cc
choose_own h rest true (Selection m) e f = refl
choose_own h rest true (LoopMerge m c) e f = cc

loose_own : (h : ℕ) (rest : List Around) (c : Bool) (m : Merge) → c ≡ true → is_selection m ≡ false → own_rest h rest c m ≡ branch h ∷ head_rest h rest m
loose_own h rest false m e f = cc
loose_own h rest true Absent e f = refl
loose_own h rest true (Selection m) e f = cc
loose_own h rest true (LoopMerge m c) e f = refl

pub selection_no_loop : (m : Merge) → is_selection m ≡ true → is_loop_merge m ≡ false
selection_no_loop Absent e = refl
selection_no_loop (Selection m) e = refl
selection_no_loop (LoopMerge m c) e = cc

pub conditional_no_switch : (x : Terminator) → is_conditional x ≡ true → is_switch x ≡ false
conditional_no_switch terminator.Branch e = cc
conditional_no_switch terminator.Conditional e = refl
conditional_no_switch terminator.Switch e = cc
conditional_no_switch terminator.Leave e = cc

-- control goes on where this stands round
abbrev pub IsRound : List Node → Next → List Around → Type 0
IsRound g (At (Block b)) ps = ((nth g b).reached ≡ true) × (round g b ≡ ps)
IsRound g (At (Body h)) ps = ((nth g h).reached ≡ true) × (around g h ≡ ps) × (heads_loop g h ≡ true)
IsRound g (Stop e) ps = Unit {0}

-- this stands round the header of a loop, or round a block in its loop
abbrev pub IsRoundItem : List Node → Bool → ℕ → List Around → Type 0
IsRoundItem g true h ps = ((nth g h).reached ≡ true) × (round g h ≡ ps) × (heads_loop g h ≡ true)
IsRoundItem g false h ps = ((nth g h).reached ≡ true) × (around g h ≡ ps)

-- all these are reached, and stand within what is round them
abbrev pub AllStand : List Node → List (ℕ × List Around) → Type 0
AllStand g [] = Unit {0}
AllStand g (s ∷ ss) = ((nth g s.0).reached ≡ true) × (s.1 ≡ around g s.0) × AllStand g ss

all_both : (g : List Node) (xs ys : List (ℕ × List Around)) → AllStand g xs → AllStand g ys → AllStand g (xs ++ ys)
all_both g [] ys a b = b
all_both g (x ∷ xs) ys a b = (a.0, a.1, all_both g xs ys a.2 b)

pub round_item : (g : List Node) (i : Item) (s : Start) (ps : List Around) → StandsAt g i s → IsRound g (At s) ps → IsRoundItem g (is_loop i) (head i) ps
round_item g i (Block b) ps at ro =
    subst (λ q. IsRoundItem g q (head i) ps) (sym at.1) (subst (λ q. IsRoundItem g (heads_loop g b) q ps) (sym at.0) (by_test (heads_loop g b) refl))
  where
    by_test : (x : Bool) → heads_loop g b ≡ x → IsRoundItem g x b ps
    by_test true is = (ro.0, ro.1, is)
    by_test false is = (ro.0, ap (λ q. if q then within (Loop b) ∷ round g b else round g b) is ∙ ro.1)
round_item g i (Body h) ps at ro = subst (λ q. IsRoundItem g q (head i) ps) (sym at.1) (subst (λ q. IsRoundItem g false q ps) (sym at.0) (ro.0, ro.1))

-- edges of the block lead to all of these
abbrev pub AllLead : List Node → ℕ → List ℕ → Type 0
AllLead g h [] = Unit {0}
AllLead g h (t ∷ ts) = (leads_to t (nth g h) ≡ true) × AllLead g h ts

pub filter_leads : (g : List Node) (h : ℕ) (ts : List ℕ) → AllLead g h (filter (λ t. leads_to t (nth g h)) ts)
filter_leads g h [] = tt
filter_leads g h (t ∷ ts) = by_test (filter_leads g h ts) (leads_to t (nth g h)) refl
  where
    by_test : AllLead g h (filter (λ t. leads_to t (nth g h)) ts) → (b : Bool) → leads_to t (nth g h) ≡ b → AllLead g h (if b then t ∷ filter (λ t. leads_to t (nth g h)) ts else filter (λ t. leads_to t (nth g h)) ts)
    by_test rest true is = (is, rest)
    by_test rest false is = rest

module _ (f : Function) (g : List Node) (sound : IsSound g) where
  pub carried : (h t : ℕ) (n : Next) (qs : List Around) → (nth g h).reached ≡ true → leads_to t (nth g h) ≡ true → Carries g h t n → (is_enter g h t ≡ true → round g t ≡ qs) → IsRound g n qs
  carried h t (At (Block u)) qs here leads c enters = subst (λ q. IsRound g (At (Block q)) qs) (sym c.0) ((enter_later g h t sound here leads c.1).1, enters c.1)
  carried h t (At (Body u)) qs here leads c enters = absurd c
  carried h t (Stop e) qs here leads c enters = tt

  body_around : (h : ℕ) (ps : List Around) → heads_loop g h ≡ true → round g h ≡ ps → around g h ≡ within (Loop h) ∷ ps
  body_around h ps is ro = ap (λ q. if q then within (Loop h) ∷ round g h else round g h) is ∙ ap (λ qs. within (Loop h) ∷ qs) ro

  -- by the edge to a target of a block that is no switch
  pub inside : (h k : ℕ) (n : Next) (qs : List Around) → (nth g h).reached ≡ true → is_switch (nth g h).exit ≡ false → own_around g h ++ round g h ≡ qs → CarriesTo g h (target g h k) n → IsRound g n qs
  inside h k n qs here off own c = by_target (target g h k) refl c
    where
      by_target : (o : Option ℕ) → target g h k ≡ o → CarriesTo g h o n → IsRound g n qs
      by_target None is c = subst (λ q. IsRound g q qs) (sym c) tt
      by_target (Some t) is c =
          let leads = target_leads (nth g h) k t is in
          carried h t n qs here leads c (λ e.
          round_is g t (Inside h) sound.grounded (enter_later g h t sound here leads e).1 (enters_inside g h t sound here off e) ∙ own)

  merged_round : (h : ℕ) → (nth g h).reached ≡ true → IsRound g (merged g h) (round g h)
  merged_round h here = by_merge (merge_block g h) refl
    where
      by_reached : (m : ℕ) (b : Bool) → merge_block g h ≡ Some m → (nth g m).reached ≡ b → IsRound g (if b then At (Block m) else Stop Closed) (round g h)
      by_reached m true is there = (there, round_is g m (MergeOf h) sound.grounded there (merge_role g h m sound here is))
      by_reached m false is there = tt

      by_merge : (o : Option ℕ) → merge_block g h ≡ o → IsRound g (if_reached g o) (round g h)
      by_merge None is = tt
      by_merge (Some m) is = by_reached m (nth g m).reached is refl

  -- no loop stands round the merge block of a selection alone
  selected : (h : ℕ) (ps : List Around) → (nth g h).reached ≡ true → is_selection (nth g h).merge ≡ true → around g h ≡ ps → IsRound g (merged g h) ps
  selected h ps here is ro =
      let same : round g h ≡ around g h = sym (ap (λ q. if q then within (Loop h) ∷ round g h else round g h) (selection_no_loop (nth g h).merge is)) in
      subst (IsRound g (merged g h)) (same ∙ ro) (merged_round h here)

  after_round : (b : ℕ) (n : Next) (ps : List Around) → (nth g b).reached ≡ true → around g b ≡ ps → IsAfter f g b (nth g b).exit n → IsRound g n ps
  after_round b n ps here ro a = by_exit (nth g b).exit refl a
    where
      by_exit : (x : Terminator) → (nth g b).exit ≡ x → IsAfter f g b x n → IsRound g n ps
      by_exit terminator.Branch is a = inside b 0 n ps here (ap is_switch is) (plain_own b (round g b) (is_conditional (nth g b).exit) (nth g b).merge (ap is_conditional is) ∙ ro) a
      by_exit terminator.Leave is a = subst (λ q. IsRound g q ps) (sym a) tt
      by_exit terminator.Switch is a = subst (λ q. IsRound g q ps) (sym a) (selected b ps here (switch_selects g sound b here (ap is_switch is)) ro)
      by_exit terminator.Conditional is a = subst (λ q. IsRound g q ps) (sym a) (by_selection (is_selection (nth g b).merge) refl)
        where
          by_selection : (y : Bool) → is_selection (nth g b).merge ≡ y → IsRound g (if y then merged g b else Stop Closed) ps
          by_selection true sel = selected b ps here sel ro
          by_selection false sel = tt

  pub behind_round : (s : Start) (n : Next) (ps : List Around) → IsRound g (At s) ps → IsBehind f g s n → IsRound g n ps
  behind_round (Body h) n ps ro a = after_round h n ps ro.0 ro.1 a
  behind_round (Block b) n ps ro a = by_test (heads_loop g b) refl a
    where
      by_test : (x : Bool) → heads_loop g b ≡ x → IsBehindBlock f g b n x → IsRound g n ps
      by_test true is a = subst (λ q. IsRound g q ps) (sym a) (subst (IsRound g (merged g b)) ro.1 (merged_round b ro.0))
      by_test false is a = after_round b n ps ro.0 (ap (λ q. if q then within (Loop b) ∷ round g b else round g b) is ∙ ro.1) a

  mutual
    pub regions_stand : (r : Region) (n : Next) (ps : List Around) → Follows f g r n → IsRound g n ps → AllStand g (stands ps r)
    regions_stand (ends e) n ps fo ro = tt
    regions_stand (item i r) (Stop e) ps fo ro = absurd fo
    regions_stand (item i r) (At s) ps fo ro =
        all_both g (item_stands ps i) (stands ps r) (items_stand i ps fo.1 (round_item g i s ps fo.0 ro)) (regions_stand r fo.2.0 ps fo.2.2 (behind_round s fo.2.0 ps ro fo.2.1))

    items_stand : (i : Item) (ps : List Around) → FollowsItem f g i → IsRoundItem g (is_loop i) (head i) ps → AllStand g (item_stands ps i)
    items_stand (plain b) ps fo ro = (ro.0, sym ro.1, tt)
    items_stand (choose h x y) ps fo ro =
        let own : own_around g h ++ round g h ≡ within (If h) ∷ ps = choose_own h (round g h) (is_conditional (nth g h).exit) (nth g h).merge fo.0 fo.1 ∙ ap (λ qs. within (If h) ∷ qs) ro.1 in
        let off = conditional_no_switch (nth g h).exit fo.0 in (
          ro.0,
          sym ro.1,
          all_both g (stands (within (If h) ∷ ps) x) (stands (within (If h) ∷ ps) y)
              (regions_stand x fo.2.0 (within (If h) ∷ ps) fo.2.2 (inside h 0 fo.2.0 (within (If h) ∷ ps) ro.0 off own fo.2.1))
              (regions_stand y fo.3.0 (within (If h) ∷ ps) fo.3.2 (inside h 1 fo.3.0 (within (If h) ∷ ps) ro.0 off own fo.3.1)),
        )
    items_stand (loose h x y) ps fo ro =
        let own : own_around g h ++ round g h ≡ branch h ∷ ps = loose_own h (round g h) (is_conditional (nth g h).exit) (nth g h).merge fo.0 fo.1 ∙ ap (λ qs. branch h ∷ qs) ro.1 in
        let off = conditional_no_switch (nth g h).exit fo.0 in (
          ro.0,
          sym ro.1,
          all_both g (stands (branch h ∷ ps) x) (stands (branch h ∷ ps) y)
              (regions_stand x fo.2.0 (branch h ∷ ps) fo.2.2 (inside h 0 fo.2.0 (branch h ∷ ps) ro.0 off own fo.2.1))
              (regions_stand y fo.3.0 (branch h ∷ ps) fo.3.2 (inside h 1 fo.3.0 (branch h ∷ ps) ro.0 off own fo.3.1)),
        )
    items_stand (loop h x) ps fo ro = regions_stand x (At (Body h)) (within (Loop h) ∷ ps) fo.1 (ro.0, body_around h ps ro.2 ro.1, ro.2)
    items_stand (loop_on h z x) ps fo ro =
        let c = continue_facts g h fo.0.0 fo.0.1 in
        let is : round g fo.0.0 ≡ within (Cont h) ∷ ps = round_is g fo.0.0 (Continue h) sound.grounded c.reached (continue_role g h fo.0.0 sound ro.0 c) ∙ ap (λ qs. within (Cont h) ∷ qs) ro.1 in
        all_both g (stands (within (Cont h) ∷ ps) z) (stands (within (Loop h) ∷ ps) x)
        (regions_stand z (At (Block fo.0.0)) (within (Cont h) ∷ ps) fo.0.2 (c.reached, is))
        (regions_stand x (At (Body h)) (within (Loop h) ∷ ps) fo.1 (ro.0, body_around h ps ro.2 ro.1, ro.2))
    items_stand (switch h gs) ps fo ro =
        let sel : is_loop_merge (nth g h).merge ≡ false = selection_no_loop (nth g h).merge (switch_selects g sound h ro.0 fo.0) in
        let same : round g h ≡ ps = sym (ap (λ q. if q then within (Loop h) ∷ round g h else round g h) sel) ∙ ro.1 in
        (ro.0, sym ro.1, groups_stand gs h ps ro.0 fo.0 (subst (AllLead g h) (sym fo.1) (filter_leads g h (range_with_len 0 (length g)))) fo.2 same)

    groups_stand : (gs : Groups) (h : ℕ) (ps : List Around) → (nth g h).reached ≡ true → is_switch (nth g h).exit ≡ true → AllLead g h (targets gs) → FollowsGroups f g gs h → round g h ≡ ps → AllStand g (group_stands ps h gs)
    groups_stand none h ps here is all fo ro = tt
    groups_stand (group t labels default x gs) h ps here is all fo ro =
        let enters : is_enter g h t ≡ true → round g t ≡ within (Case h t) ∷ ps = λ e.
        (round_is g t (CaseOf h) sound.grounded (enter_later g h t sound here all.0 e).1 (enters_case g h t sound here is all.0 e) ∙ ap (λ qs. within (Case h t) ∷ qs) ro) in
        all_both g (stands (within (Case h t) ∷ ps) x) (group_stands ps h gs)
        (regions_stand x fo.2.0 (within (Case h t) ∷ ps) fo.2.2 (carried h t fo.2.0 (within (Case h t) ∷ ps) here all.0 fo.2.1 enters))
        (groups_stand gs h ps here is all.1 fo.3 ro)
