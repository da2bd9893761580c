-- What stands round the regions of a tree that follows the edges of a graph.
use Rattle.std.proofs.Common.{◌≡◌, ◌&&◌, not, ℕ, Bool, true, false, List, [], ◌∷◌, ◌++◌, find, slice_get, if◌then◌else◌, Option, Some, None, refl, ap, sym, ◌∙◌, subst}
use Rattle.std.specs.Option.{option_and_then}
use Rattle.spv_module.specs.declared.inst.Inst.{Inst}
use Rattle.spv_module.specs.declared.inst.Function.{Function}
use Rattle.spv_ops.specs.Opcode.{is}
use Rattle.spv_ops.specs.declared.Op.TheVariants as code
use Rattle.structure_rules.specs.declared.graph.Merge.{Merge}
use Rattle.structure_rules.specs.declared.graph.Merge.TheVariants.{Absent, Selection, Loop as LoopMerge}
use Rattle.structure_rules.specs.declared.graph.Exit.{Exit as Terminator}
use Rattle.structure_rules.specs.declared.graph.Exit.TheVariants as terminator
use Rattle.structure_rules.specs.declared.graph.Node.{Node}
use Rattle.structure_rules.specs.declared.graph.Part.{Part}
use Rattle.structure_rules.specs.declared.graph.Part.TheVariants.{If, Loop, Case}
use Rattle.structure_rules.specs.Graph.{nth, leads_to, merge_block, is_conditional, is_switch, is_selection}
use Rattle.structure_rules.specs.Nesting.{opened, own_part, place, place_step, inner}
use Rattle.structure_rules.specs.EdgeKinds.{is_if, is_loop, case_switch, is_enter}
use Rattle.nest_place.specs.Nests.{IsSound}
use Rattle.nest_place.proofs.Outward.{place_is}
use Rattle.nest_place.proofs.OneKind.{switch_selects}
use Rattle.structure_recover.specs.declared.region.Exit.TheVariants.{Edge, Return, Lost, Closed}
use Rattle.structure_recover.specs.declared.edges.Start.{Start}
use Rattle.structure_recover.specs.declared.edges.Start.TheVariants.{Block, Body}
use Rattle.structure_recover.specs.declared.edges.Next.{Next}
use Rattle.structure_recover.specs.declared.edges.Next.TheVariants.{At, Stop}
use Rattle.structure_recover.specs.Tree.{Item, head, is_loop as is_loop_item}
use Rattle.structure_recover.specs.Follows.{is_loop_merge, heads_loop, target, Carries, CarriesTo, if_reached, merged, last_inst, left_by, IsAfter, IsBehind, IsBehindBlock, StandsAt}
use Rattle.structure_recover.specs.Later.{block_of}
use Rattle.structure_recover.proofs.Onward.{enter_later, target_leads}
use Rattle.structure_recover.proofs.Rounds.{enters_inside, enters_case, merge_role, selection_no_loop}
use Rattle.tree_law.specs.Serves.{Sees}
use Rattle.tree_law.specs.Placed.{IsExit, held, IsPlaced, IsPlacedItem, Starts}

-- what a block opens stands round what is inside it
plain_opened : (c : Bool) (m : Merge) (b : ℕ) (ps : List Part) → (c && is_selection m) ≡ false → opened c m b ++ ps ≡ (if is_loop_merge m then Loop b ∷ ps else ps)
plain_opened c Absent b ps e = refl
plain_opened true (Selection m) b ps e = cc
plain_opened false (Selection m) b ps e = refl
plain_opened c (LoopMerge m t) b ps e = refl

chosen_opened : (c : Bool) (m : Merge) (b : ℕ) (ps : List Part) → c ≡ true → is_selection m ≡ true → opened c m b ++ ps ≡ If b ∷ (if is_loop_merge m then Loop b ∷ ps else ps)
chosen_opened false m b ps e s = cc
chosen_opened true Absent b ps e s = cc
chosen_opened true (Selection m) b ps e s = refl
chosen_opened true (LoopMerge m t) b ps e s = cc

switch_opened : (x : Terminator) (m : Merge) (b : ℕ) → is_switch x ≡ true → is_selection m ≡ true → opened (is_conditional x) m b ≡ []
switch_opened terminator.Branch m b e s = cc
switch_opened terminator.Conditional m b e s = cc
switch_opened terminator.Leave m b e s = cc
switch_opened terminator.Switch Absent b e s = cc
switch_opened terminator.Switch (Selection m) b e s = refl
switch_opened terminator.Switch (LoopMerge m t) b e s = cc

not_loop : (g : List Node) (h : ℕ) → is_selection (nth g h).merge ≡ true → held g h ≡ place g h
not_loop g h s = ap (λ q. if q then Loop h ∷ place g h else place g h) (selection_no_loop (nth g h).merge s)

-- a block of which the edges are told by what stands round it; and a switch
pub sees_inner : (g : List Node) (b : ℕ) (ps : List Part) → inner g b ≡ ps → is_switch (nth g b).exit ≡ false → Sees g b ps
sees_inner g b ps round plain = record {
  near = ap (λ qs. find is_loop qs) round;
  switch =
      ap (λ q. if q then Some b else option_and_then case_switch (find (λ p. not (is_if p)) (inner g b))) plain
      ∙ ap (λ qs. option_and_then case_switch (find (λ p. not (is_if p)) qs)) round;
  first = λ p e. sym (ap (λ qs. slice_get qs 0) round) ∙ (sym (ap (λ q. if q then None else slice_get (inner g b) 0) plain) ∙ e);
}

pub sees_switch : (g : List Node) (h t : ℕ) (ps : List Part) → place g h ≡ ps → own_part g h ≡ [] → is_switch (nth g h).exit ≡ true → Sees g h (Case h t ∷ ps)
sees_switch g h t ps round none on = record {
  near = ap (λ qs. find is_loop (qs ++ place g h)) none ∙ ap (λ qs. find is_loop qs) round;
  switch = ap (λ q. if q then Some h else option_and_then case_switch (find (λ p. not (is_if p)) (inner g h))) on;
  first = λ p e. let never : None ≡ Some p = sym (ap (λ q. if q then None else slice_get (inner g h) 0) on) ∙ e in cc;
}

pub starts_carried : (g : List Node) (h t : ℕ) (n : Next) → Carries g h t n → Starts n t
starts_carried g h t (At (Block u)) c = c.0
starts_carried g h t (At (Body u)) c = absurd c
starts_carried g h t (Stop (Edge b u k)) c = c.1
starts_carried g h t (Stop (Return b)) c = absurd c
starts_carried g h t (Stop (Lost b)) c = absurd c
starts_carried g h t (Stop Closed) c = absurd c

pub head_at : (g : List Node) (i : Item) (s : Start) → StandsAt g i s → head i ≡ block_of s
head_at g i (Block b) at = at.0
head_at g i (Body h) at = at.0

pub starts_at : (s : Start) (t : ℕ) → Starts (At s) t → block_of s ≡ t
starts_at (Block b) t e = e
starts_at (Body h) t e = e

pub item_placed : (g : List Node) (i : Item) (s : Start) (ps : List Part) → StandsAt g i s → IsPlaced g (At s) ps → IsPlacedItem g (is_loop_item i) (head i) ps
item_placed g i (Block b) ps at pl =
    subst (λ q. IsPlacedItem g q (head i) ps) (sym at.1) (subst (λ q. IsPlacedItem g (heads_loop g b) q ps) (sym at.0) (by_test (heads_loop g b) refl))
  where
    by_test : (x : Bool) → heads_loop g b ≡ x → IsPlacedItem g x b ps
    by_test true is = (pl.0, pl.1, is)
    by_test false is = (pl.0, ap (λ q. if q then Loop b ∷ place g b else place g b) is ∙ pl.1)
item_placed g i (Body h) ps at pl =
    subst (λ q. IsPlacedItem g q (head i) ps) (sym at.1) (subst (λ q. IsPlacedItem g false q ps) (sym at.0) (pl.0, ap (λ q. if q then Loop h ∷ place g h else place g h) pl.2 ∙ pl.1))

module _ (f : Function) (g : List Node) (sound : IsSound g) where
  pub carried_placed : (h t : ℕ) (n : Next) (ps : List Part) → (nth g h).reached ≡ true → leads_to t (nth g h) ≡ true → Carries g h t n → (is_enter g h t ≡ true → place g t ≡ ps) → Sees g h ps → IsPlaced g n ps
  carried_placed h t (At (Block u)) ps here leads c enters sees = subst (λ q. IsPlaced g (At (Block q)) ps) (sym c.0) ((enter_later g h t sound here leads c.1).1, enters c.1)
  carried_placed h t (At (Body u)) ps here leads c enters sees = absurd c
  carried_placed h t (Stop (Edge b u k)) ps here leads c enters sees =
      subst (λ q. IsExit g q u k ps) (sym c.0) (subst (λ q. IsExit g h q k ps) (sym c.1) (record { here = here; leads = leads; kind = c.2; outward = c.3; sees = sees }))
  carried_placed h t (Stop (Return b)) ps here leads c enters sees = tt
  carried_placed h t (Stop (Lost b)) ps here leads c enters sees = tt
  carried_placed h t (Stop Closed) ps here leads c enters sees = tt

  -- by the edge to a target of a block that is no switch
  pub inside_placed : (h k : ℕ) (n : Next) (ps : List Part) → (nth g h).reached ≡ true → is_switch (nth g h).exit ≡ false → inner g h ≡ ps → CarriesTo g h (target g h k) n → IsPlaced g n ps
  inside_placed h k n ps here off round c = by_target (target g h k) refl c
    where
      by_target : (o : Option ℕ) → target g h k ≡ o → CarriesTo g h o n → IsPlaced g n ps
      by_target None is c = subst (λ q. IsPlaced g q ps) (sym c) tt
      by_target (Some t) is c =
          let leads = target_leads (nth g h) k t is in
          carried_placed h t n ps here leads c (λ e.
          place_is g t sound.grounded (enter_later g h t sound here leads e).1 ∙ (ap (λ r. place_step g t r (place g)) (enters_inside g h t sound here off e) ∙ round)) (sees_inner g h ps round off)

  -- by the edge from a switch to a case
  pub case_placed : (h t : ℕ) (n : Next) (ps : List Part) → (nth g h).reached ≡ true → is_switch (nth g h).exit ≡ true → leads_to t (nth g h) ≡ true → place g h ≡ ps → Carries g h t n → IsPlaced g n (Case h t ∷ ps)
  case_placed h t n ps here on leads round c =
      carried_placed h t n (Case h t ∷ ps) here leads c
      (λ e. place_is g t sound.grounded (enter_later g h t sound here leads e).1 ∙ (ap (λ r. place_step g t r (place g)) (enters_case g h t sound here on leads e) ∙ ap (λ qs. Case h t ∷ qs) round))
      (sees_switch g h t ps round (switch_opened (nth g h).exit (nth g h).merge h on (switch_selects g sound h here on)) on)

  pub merged_placed : (h : ℕ) (ps : List Part) → (nth g h).reached ≡ true → place g h ≡ ps → IsPlaced g (merged g h) ps
  merged_placed h ps here round = by_merge (merge_block g h) refl
    where
      by_reached : (m : ℕ) (b : Bool) → merge_block g h ≡ Some m → (nth g m).reached ≡ b → IsPlaced g (if b then At (Block m) else Stop Closed) ps
      by_reached m true is there = (there, place_is g m sound.grounded there ∙ (ap (λ r. place_step g m r (place g)) (merge_role g h m sound here is) ∙ round))
      by_reached m false is there = tt

      by_merge : (o : Option ℕ) → merge_block g h ≡ o → IsPlaced g (if_reached g o) ps
      by_merge None is = tt
      by_merge (Some m) is = by_reached m (nth g m).reached is refl

  pub plain_inner : (b : ℕ) (ps : List Part) → (is_conditional (nth g b).exit && is_selection (nth g b).merge) ≡ false → held g b ≡ ps → inner g b ≡ ps
  plain_inner b ps e round = plain_opened (is_conditional (nth g b).exit) (nth g b).merge b (place g b) e ∙ round

  pub chosen_inner : (b : ℕ) (ps : List Part) → is_conditional (nth g b).exit ≡ true → is_selection (nth g b).merge ≡ true → held g b ≡ ps → inner g b ≡ If b ∷ ps
  chosen_inner b ps c s round = chosen_opened (is_conditional (nth g b).exit) (nth g b).merge b (place g b) c s ∙ ap (λ qs. If b ∷ qs) round

  pub selected_place : (h : ℕ) (ps : List Part) → is_selection (nth g h).merge ≡ true → held g h ≡ ps → place g h ≡ ps
  selected_place h ps s round = sym (not_loop g h s) ∙ round

  left_placed : (b : ℕ) (o : Option Inst) (ps : List Part) → IsPlaced g (Stop (left_by b o)) ps
  left_placed b None ps = tt
  left_placed b (Some i) ps = elim (is i.op code.Unreachable) as (λ q. IsPlaced g (Stop (if q then Lost b else Return b)) ps) [ true ↦ tt | false ↦ tt ]

  after_placed : (b : ℕ) (n : Next) (ps : List Part) → (nth g b).reached ≡ true → held g b ≡ ps → IsAfter f g b (nth g b).exit n → IsPlaced g n ps
  after_placed b n ps here round a = by_exit (nth g b).exit refl a
    where
      by_exit : (x : Terminator) → (nth g b).exit ≡ x → IsAfter f g b x n → IsPlaced g n ps
      by_exit terminator.Branch is a = inside_placed b 0 n ps here (ap is_switch is) (plain_inner b ps (ap (λ x. is_conditional x && is_selection (nth g b).merge) is) round) a
      by_exit terminator.Leave is a = subst (λ q. IsPlaced g q ps) (sym a) (left_placed b (last_inst (slice_get f.blocks b)) ps)
      by_exit terminator.Switch is a = subst (λ q. IsPlaced g q ps) (sym a) (merged_placed b ps here (selected_place b ps (switch_selects g sound b here (ap is_switch is)) round))
      by_exit terminator.Conditional is a = subst (λ q. IsPlaced g q ps) (sym a) (by_selection (is_selection (nth g b).merge) refl)
        where
          by_selection : (y : Bool) → is_selection (nth g b).merge ≡ y → IsPlaced g (if y then merged g b else Stop Closed) ps
          by_selection true sel = merged_placed b ps here (selected_place b ps sel round)
          by_selection false sel = tt

  pub behind_placed : (s : Start) (n : Next) (ps : List Part) → IsPlaced g (At s) ps → IsBehind f g s n → IsPlaced g n ps
  behind_placed (Body h) n ps pl a = after_placed h n ps pl.0 (ap (λ q. if q then Loop h ∷ place g h else place g h) pl.2 ∙ pl.1) a
  behind_placed (Block b) n ps pl a = by_test (heads_loop g b) refl a
    where
      by_test : (x : Bool) → heads_loop g b ≡ x → IsBehindBlock f g b n x → IsPlaced g n ps
      by_test true is a = subst (λ q. IsPlaced g q ps) (sym a) (merged_placed b ps pl.0 pl.1)
      by_test false is a = after_placed b n ps pl.0 (ap (λ q. if q then Loop b ∷ place g b else place g b) is ∙ pl.1) a

  -- behind a block that stands in its loop, or heads none; and behind a loop
  pub after_item : (i : Item) (s : Start) (n : Next) → is_loop_item i ≡ false → StandsAt g i s → IsBehind f g s n → IsAfter f g (head i) (nth g (head i)).exit n
  after_item i (Body h) n off at a = subst (λ q. IsAfter f g q (nth g q).exit n) (sym at.0) a
  after_item i (Block b) n off at a = subst (λ q. IsAfter f g q (nth g q).exit n) (sym at.0) (subst (λ q. IsBehindBlock f g b n q) (sym at.1 ∙ off) a)

  pub merged_item : (i : Item) (s : Start) (n : Next) → is_loop_item i ≡ true → StandsAt g i s → IsBehind f g s n → n ≡ merged g (head i)
  merged_item i (Body h) n on at a = let never : true ≡ false = sym on ∙ at.1 in cc
  merged_item i (Block b) n on at a = subst (λ q. n ≡ merged g q) (sym at.0) (subst (λ q. IsBehindBlock f g b n q) (sym at.1 ∙ on) a)
