-- How often the statements of a tree declare a name: as often as what is written of its blocks, and of the edges that leave them.
use Rattle.std.proofs.Common.{◌≡◌, ◌+◌, ℕ, Bool, true, false, List, [], ◌∷◌, ◌++◌, length, Option, Some, None, refl, ap, sym, ◌∙◌, subst, arith, if◌then◌else◌}
use Rattle.std.specs.Prelude.{is_some, slice_get}
use Rattle.std.specs.Option.{option_map_or}
use Rattle.std.specs.List.{range_with_len}
use Rattle.spv_ops.specs.Opcode.{is}
use Rattle.spv_ops.specs.declared.Op.TheVariants as code
use Rattle.spv_module.specs.declared.inst.Inst.{Inst}
use Rattle.spv_module.specs.declared.inst.Function.{Function}
use Rattle.structure_rules.specs.declared.graph.EdgeKind.{EdgeKind}
use Rattle.structure_rules.specs.declared.graph.EdgeKind.TheVariants.{Enter, Merge, SwitchBreak, Break, Continue, Back, Fall}
use Rattle.structure_rules.specs.declared.graph.Exit.{Exit as Terminator}
use Rattle.structure_rules.specs.declared.graph.Exit.TheVariants as terminator
use Rattle.structure_rules.specs.declared.graph.Node.{Node}
use Rattle.structure_rules.specs.Graph.{nth, merge_block, is_conditional, is_switch, is_selection}
use Rattle.nest_place.specs.Nests.{IsSound}
use Rattle.structure_recover.specs.declared.region.Exit.{Exit}
use Rattle.structure_recover.specs.declared.region.Exit.TheVariants.{Edge, Return, Lost, Closed}
use Rattle.structure_recover.specs.declared.edges.Start.{Start}
use Rattle.structure_recover.specs.declared.edges.Start.TheVariants.{Block, Body}
use Rattle.structure_recover.specs.declared.edges.Next.{Next}
use Rattle.structure_recover.specs.declared.edges.Next.TheVariants.{At, Stop}
use Rattle.structure_recover.specs.Tree.{Region, ends, item, Item, plain, choose, loose, loop, loop_on, switch, Groups, none, group, head, is_loop, targets}
use Rattle.structure_recover.specs.Follows.{heads_loop, is_plain, target, Carries, CarriesTo, if_reached, merged, left, left_by, last_inst, IsAfter, IsBehind, IsBehindBlock, StandsAt, continue_block, switch_targets, Follows, FollowsItem, FollowsGroups}
use Rattle.structure_recover.specs.Once.{Around, within, branch, own_around, round, around, stands, item_stands, group_stands}
use Rattle.structure_recover.proofs.Rounds.{IsRound, IsRoundItem, AllLead, round_item, filter_leads, inside, carried, behind_round, continue_facts, conditional_no_switch}
use Rattle.structure_recover.proofs.Counting.{kid_sum}
use Rattle.region_law.specs.Leads.{In, AreApart, IsOrder}
use Rattle.structure_rules.specs.declared.graph.Part.TheVariants.{If, Loop, Cont, Case}
use Rattle.tree_law.proofs.Leading.{conditional_is, switch_is}
use Rattle.tree_law.proofs.Placing.{after_item, merged_item}
use Rattle.glsl_ast.specs.Tree as text
use Rattle.glsl_ast.specs.Tree.{Text, stmts_in, arms_in}
use Rattle.control_text.specs.declared.place.Place.{Place}
use Rattle.control_text.specs.Statements.{Blocks, declare_flag, flags, conditional, turn, inside_loop, inside_switch, groups_have_break, plain_block, leave_loop, edge_text, exit_text, entering, onward, entering_case, behind_switch, fell_flags, loop_flags, loop_text, region_text, item_text, groups_text, in_order, by_target}
use Rattle.text_law.specs.Declarations.{valued, declared_in, occurs}
use Rattle.text_law.proofs.Variables.Texts.{occurs_both, times_in, times_both, set_none, conditional_times, unless_times, leave_none, turn_times, loop_times}
use Rattle.text_law.proofs.Variables.Sums.{all_values, group_values, group_targets, ordered_values}

-- what is written of blocks and edges, as the tree asks for it: targets, the flags of loops that have a continue construct, and the order of the groups of a switch
pub record IsTold (f : Function) (g : List Node) (w : Blocks) : Type 0 where
  pub target_is : (b k t : ℕ) → (nth g b).reached ≡ true → target g b k ≡ Some t → w.target b k ≡ t
  pub again_is : (h c : ℕ) → (nth g h).reached ≡ true → continue_block g h ≡ Some c → (flag : Text) × (w.again h ≡ Some flag)
  pub falls : ℕ → Option ℕ
  pub order_is : (h : ℕ) → (nth g h).reached ≡ true → is_switch (nth g h).exit ≡ true → IsOrder falls (w.order h) (switch_targets g h)

module _ (x : Text) (f : Function) (g : List Node) (w : Blocks) where
  -- of the statements of a block, the copies of an edge, and the flags
  abbrev pub of_block : ℕ → ℕ
  of_block b = times_in x (w.statements b)

  abbrev pub of_edge : ℕ → ℕ → ℕ
  of_edge b t = times_in x (w.copies b t)

  abbrev pub of_flag : Option Text → ℕ
  of_flag o = times_in x (flags (λ flag. declare_flag flag ∷ []) o)

  abbrev pub of_fell : ℕ → ℕ
  of_fell t = of_flag (w.fell t)

  abbrev pub to_target : ℕ → Option ℕ → ℕ
  to_target b None = 0
  to_target b (Some t) = of_edge b t

  -- the edges that leave a block
  abbrev pub of_exit : ℕ → Terminator → ℕ
  of_exit b terminator.Branch = to_target b (target g b 0)
  of_exit b terminator.Conditional = to_target b (target g b 0) + to_target b (target g b 1)
  of_exit b terminator.Switch = kid_sum (of_edge b) (switch_targets g b) + kid_sum of_fell (switch_targets g b)
  of_exit b terminator.Leave = 0

  abbrev pub of_loop : ℕ → ℕ
  of_loop b = if heads_loop g b then of_flag (w.again b) + of_flag (w.leave b) else 0

  abbrev pub weight : ℕ → ℕ
  weight b = of_block b + (of_exit b (nth g b).exit + of_loop b)

  abbrev pub weights : List (ℕ × List Around) → ℕ
  weights [] = 0
  weights (s ∷ ss) = weight s.0 + weights ss

  weights_both : (xs ys : List (ℕ × List Around)) → weights (xs ++ ys) ≡ weights xs + weights ys
  weights_both [] ys = omega arith
  weights_both (s ∷ xs) ys = let rest = weights_both xs ys in omega (arith, rest)

  -- the body of a loop counts its flags, which stand before it
  abbrev of_start : Next → ℕ
  of_start (At (Block b)) = 0
  of_start (At (Body h)) = of_loop h
  of_start (Stop e) = 0

  -- an edge that leaves the region is written at its end
  abbrev of_end : Next → ℕ
  of_end (At s) = 0
  of_end (Stop (Edge b t k)) = of_edge b t
  of_end (Stop (Return b)) = 0
  of_end (Stop (Lost b)) = 0
  of_end (Stop Closed) = 0

  break_none : (p : Place) → times_in x (edge_text w p 0 Break) ≡ 0
  break_none p = by_switch p.in_switch p.in_loop
    where
      by_switch : (b : Bool) (o : Option ℕ) → times_in x ((if b then leave_loop w o else []) ++ (text.leave ∷ [])) ≡ 0
      by_switch true None = refl
      by_switch true (Some h) = let a = times_both x (leave_loop w (Some h)) (text.leave ∷ []) in let b = set_none x (w.leave h) true in omega (arith, a, b)
      by_switch false o = refl

  edge_none : (p : Place) (t : ℕ) (k : EdgeKind) → times_in x (edge_text w p t k) ≡ 0
  edge_none p t Enter = refl
  edge_none p t Merge = refl
  edge_none p t SwitchBreak = refl
  edge_none p t Break = break_none p
  edge_none p t Continue = refl
  edge_none p t Back = by_place p.continues
    where
      by_place : (b : Bool) → times_in x (if b then [] else text.again ∷ []) ≡ 0
      by_place true = refl
      by_place false = refl
  edge_none p t Fall = set_none x (w.fell t) true

  exit_times : (p : Place) (e : Exit) → times_in x (exit_text w p e) ≡ of_end (Stop e)
  exit_times p (Edge b t k) = let a = times_both x (w.copies b t) (edge_text w p t k) in let b = edge_none p t k in omega (arith, a, b)
  exit_times p (Return b) = refl
  exit_times p (Lost b) = refl
  exit_times p Closed = refl

  -- the edge is written where the region is entered, or at its end
  entered : (b t : ℕ) (r : Region) (n : Next) → Carries g b t n → Follows f g r n → times_in x (entering w b t r) + of_end n ≡ of_edge b t
  entered b t (ends e) (At s) c fo = let never : At s ≡ Stop e = fo in cc
  entered b t (item i r) (At (Block u)) c fo = omega arith
  entered b t (item i r) (At (Body u)) c fo = absurd c
  entered b t r (Stop (Edge s u k)) c fo =
      let a : times_in x (entering w b t r) ≡ 0 = by_region r fo in
      let same : of_edge s u ≡ of_edge b t = ap (λ (q : ℕ). of_edge q u) c.0 ∙ ap (of_edge b) c.1 in
      omega (arith, a, same)
    where
      by_region : (r : Region) → Follows f g r (Stop (Edge s u k)) → times_in x (entering w b t r) ≡ 0
      by_region (ends e) fo = refl
      by_region (item i r) fo = absurd fo
  entered b t r (Stop (Return s)) c fo = absurd c
  entered b t r (Stop (Lost s)) c fo = absurd c
  entered b t r (Stop Closed) c fo = absurd c

  start_none : (b t : ℕ) (n : Next) → Carries g b t n → of_start n ≡ 0
  start_none b t (At (Block u)) c = refl
  start_none b t (At (Body u)) c = absurd c
  start_none b t (Stop e) c = refl

  start_to_none : (b : ℕ) (o : Option ℕ) (n : Next) → CarriesTo g b o n → of_start n ≡ 0
  start_to_none b None n c = ap of_start c
  start_to_none b (Some t) n c = start_none b t n c

  closed_none : (b t : ℕ) (r : Region) → Follows f g r (Stop Closed) → times_in x (entering w b t r) ≡ 0
  closed_none b t (ends e) fo = refl
  closed_none b t (item i r) fo = absurd fo

  merged_end : (h : ℕ) → (of_end (merged g h) ≡ 0) × (of_start (merged g h) ≡ 0)
  merged_end h = by_merge (merge_block g h)
    where
      by_reached : (m : ℕ) (b : Bool) → (of_end (if b then At (Block m) else Stop Closed) ≡ 0) × (of_start (if b then At (Block m) else Stop Closed) ≡ 0)
      by_reached m true = (refl, refl)
      by_reached m false = (refl, refl)

      by_merge : (o : Option ℕ) → (of_end (if_reached g o) ≡ 0) × (of_start (if_reached g o) ≡ 0)
      by_merge None = (refl, refl)
      by_merge (Some m) = by_reached m (nth g m).reached

  left_end : (b : ℕ) (o : Option Inst) → (of_end (Stop (left_by b o)) ≡ 0)
  left_end b None = refl
  left_end b (Some i) = by_test (is i.op code.Unreachable)
    where
      by_test : (q : Bool) → of_end (Stop (if q then Lost b else Return b)) ≡ 0
      by_test true = refl
      by_test false = refl

  after_start : (b : ℕ) (n : Next) (e : Terminator) → IsAfter f g b e n → of_start n ≡ 0
  after_start b n terminator.Branch a = start_to_none b (target g b 0) n a
  after_start b n terminator.Leave a = ap of_start a
  after_start b n terminator.Switch a = ap of_start a ∙ (merged_end b).1
  after_start b n terminator.Conditional a = ap of_start a ∙ by_merge (is_selection (nth g b).merge)
    where
      by_merge : (q : Bool) → of_start (if q then merged g b else Stop Closed) ≡ 0
      by_merge true = (merged_end b).1
      by_merge false = refl

  -- no body begins behind an item
  behind_start : (s : Start) (n : Next) → IsBehind f g s n → of_start n ≡ 0
  behind_start (Body h) n a = after_start h n (nth g h).exit a
  behind_start (Block b) n a = by_loop (heads_loop g b) a
    where
      by_loop : (q : Bool) → IsBehindBlock f g b n q → of_start n ≡ 0
      by_loop true a = ap of_start a ∙ (merged_end b).1
      by_loop false a = after_start b n (nth g b).exit a

  -- behind a selection nothing is written of an edge
  selection_end : (h : ℕ) (n : Next) → is_conditional (nth g h).exit ≡ true → IsAfter f g h (nth g h).exit n → of_end n ≡ 0
  selection_end h n con a = ap of_end (subst (λ (e : Terminator). IsAfter f g h e n) (conditional_is (nth g h).exit con) a) ∙ by_merge (is_selection (nth g h).merge)
    where
      by_merge : (q : Bool) → of_end (if q then merged g h else Stop Closed) ≡ 0
      by_merge true = (merged_end h).0
      by_merge false = refl

  switch_end : (h : ℕ) (n : Next) → is_switch (nth g h).exit ≡ true → IsAfter f g h (nth g h).exit n → of_end n ≡ 0
  switch_end h n on a = ap of_end (subst (λ (e : Terminator). IsAfter f g h e n) (switch_is (nth g h).exit on) a) ∙ (merged_end h).0

  -- an item that is no loop stands for a block that heads none, or begins the body of the loop
  item_start : (i : Item) (s : Start) → is_loop i ≡ false → StandsAt g i s → of_start (At s) ≡ of_loop (head i)
  item_start i (Body h) off at = ap of_loop (sym at.0)
  item_start i (Block b) off at =
      sym (ap of_loop at.0 ∙ ap (λ (q : Bool). if q then of_flag (w.again b) + of_flag (w.leave b) else 0) (sym at.1 ∙ off))

  loop_start : (i : Item) (s : Start) → is_loop i ≡ true → StandsAt g i s → of_start (At s) ≡ 0
  loop_start i (Body h) on at = let never : true ≡ false = sym on ∙ at.1 in cc
  loop_start i (Block b) on at = refl

  loop_is : (h : ℕ) → heads_loop g h ≡ true → of_loop h ≡ of_flag (w.again h) + of_flag (w.leave h)
  loop_is h on = ap (λ (q : Bool). if q then of_flag (w.again h) + of_flag (w.leave h) else 0) on

  -- a loop: its flags, and what is inside
  whole_loop : (h : ℕ) (inner : List text.Stmt) → times_in x (loop_text w h inner) ≡ of_flag (w.again h) + (of_flag (w.leave h) + times_in x inner)
  whole_loop h inner =
      let a = times_both x (loop_flags w h) (text.loop (stmts_in inner) ∷ []) in
      let b = times_both x (flags (λ flag. declare_flag flag ∷ []) (w.again h)) (flags (λ flag. declare_flag flag ∷ []) (w.leave h)) in
      let c = loop_times x inner in
      omega (arith, a, b, c)

  -- the arms of a switch
  abbrev of_arm : text.Arm → ℕ
  of_arm (text.group labels body) = occurs x (valued body)

  arms_times : (as' : List text.Arm) → occurs x (declared_in is_some (arms_in as')) ≡ all_values of_arm as'
  arms_times [] = refl
  arms_times (text.group labels body ∷ as') = let a = occurs_both x (valued body) (declared_in is_some (arms_in as')) in let b = arms_times as' in omega (arith, a, b)

  flags_times : (gs : Groups) → times_in x (fell_flags w gs) ≡ kid_sum of_fell (targets gs)
  flags_times none = refl
  flags_times (group t labels default r gs) = let a = times_both x (flags (λ flag. declare_flag flag ∷ []) (w.fell t)) (fell_flags w gs) in let b = flags_times gs in omega (arith, a, b)

  targets_are : (p : Place) (h : ℕ) (gs : Groups) → group_targets of_arm (groups_text w p h gs) ≡ targets gs
  targets_are p h none = refl
  targets_are p h (group t labels default r gs) = ap (λ (ts : List ℕ). t ∷ ts) (targets_are p h gs)

  behind_none : (p : Place) (q : Bool) → times_in x (behind_switch w p q) ≡ 0
  behind_none p true = leave_none x (option_map_or w.leave p.in_loop None)
  behind_none p false = refl

  module _ (sound : IsSound g) (told : IsTold f g w) where
    to_times : (b k : ℕ) (r : Region) (n : Next) → (nth g b).reached ≡ true → CarriesTo g b (target g b k) n → Follows f g r n → times_in x (entering w b (w.target b k) r) + of_end n ≡ to_target b (target g b k)
    to_times b k r n here c fo = by_target (target g b k) refl c
      where
        by_target : (o : Option ℕ) → target g b k ≡ o → CarriesTo g b o n → times_in x (entering w b (w.target b k) r) + of_end n ≡ to_target b o
        by_target None at c =
            let a : times_in x (entering w b (w.target b k) r) ≡ 0 = closed_none b (w.target b k) r (subst (Follows f g r) c fo) in
            let e : of_end n ≡ 0 = ap of_end c in
            omega (arith, a, e)
        by_target (Some t) at c =
            subst (λ (u : ℕ). times_in x (entering w b u r) + of_end n ≡ of_edge b t) (sym (told.target_is b k t here at)) (entered b t r n c fo)

    onward_times : (b : ℕ) (r : Region) (n : Next) → (nth g b).reached ≡ true → is_plain (nth g b).exit ≡ true → IsAfter f g b (nth g b).exit n → Follows f g r n → times_in x (onward w (Some b) r) + of_end n ≡ of_exit b (nth g b).exit
    onward_times b r n here is a fo = by_exit (nth g b).exit is a
      where
        by_exit : (e : Terminator) → is_plain e ≡ true → IsAfter f g b e n → times_in x (onward w (Some b) r) + of_end n ≡ of_exit b e
        by_exit terminator.Branch is a = to_times b 0 r n here a fo
        by_exit terminator.Conditional is a = cc
        by_exit terminator.Switch is a = cc
        by_exit terminator.Leave is a =
            let none : times_in x (entering w b (w.target b 0) r) ≡ 0 = by_region r (subst (Follows f g r) a fo) in
            let e : of_end n ≡ 0 = ap of_end a ∙ left_end b (last_inst (slice_get f.blocks b)) in
            omega (arith, none, e)
          where
            by_region : (r : Region) → Follows f g r (Stop (left f b)) → times_in x (entering w b (w.target b 0) r) ≡ 0
            by_region (ends e) fo = refl
            by_region (item i r) fo = absurd fo

    -- a conditional: its two sides, each with the edge that leads there
    abbrev IsSide : ℕ → ℕ → Region → Type 0
    IsSide h k y = (n : Next) × CarriesTo g h (target g h k) n × Follows f g y n

    choice_times : (p : Place) (h : ℕ) (y z : Region) (qs os : List Around) → (nth g h).reached ≡ true → is_conditional (nth g h).exit ≡ true → (u : IsSide h 0 y) (v : IsSide h 1 z)
        → times_in x (region_text w p y) + of_start u.0 ≡ of_end u.0 + weights (stands os y) → times_in x (region_text w p z) + of_start v.0 ≡ of_end v.0 + weights (stands os z)
        → times_in x (w.statements h ++ (conditional (w.condition h) (entering w h (w.target h 0) y ++ region_text w p y) (entering w h (w.target h 1) z ++ region_text w p z) ∷ [])) + of_loop h ≡ weights ((h, qs) ∷ stands os y ++ stands os z)
    choice_times p h y z qs os here con u v a b =
        let a1 = start_to_none h (target g h 0) u.0 u.1 in
        let b1 = start_to_none h (target g h 1) v.0 v.1 in
        let c = to_times h 0 y u.0 here u.1 u.2 in
        let d = to_times h 1 z v.0 here v.1 v.2 in
        let exit : of_exit h (nth g h).exit ≡ to_target h (target g h 0) + to_target h (target g h 1) = ap (of_exit h) (conditional_is (nth g h).exit con) in
        let e1 = times_both x (w.statements h) (conditional (w.condition h) (entering w h (w.target h 0) y ++ region_text w p y) (entering w h (w.target h 1) z ++ region_text w p z) ∷ []) in
        let e2 = conditional_times x (w.condition h) (entering w h (w.target h 0) y ++ region_text w p y) (entering w h (w.target h 1) z ++ region_text w p z) in
        let e3 = times_both x (entering w h (w.target h 0) y) (region_text w p y) in
        let e4 = times_both x (entering w h (w.target h 1) z) (region_text w p z) in
        let e5 = weights_both (stands os y) (stands os z) in
        omega (arith, a, b, a1, b1, c, d, exit, e1, e2, e3, e4, e5)

    mutual
      pub region_times : (p : Place) (r : Region) (n : Next) (ps qs : List Around) → Follows f g r n → IsRound g n ps → times_in x (region_text w p r) + of_start n ≡ of_end n + weights (stands qs r)
      region_times p (ends e) n ps qs fo ro =
          let a = exit_times p e in
          let b : of_start n ≡ 0 = ap of_start fo in
          let c : of_end n ≡ of_end (Stop e) = ap of_end fo in
          omega (arith, a, b, c)
      region_times p (item i r) (Stop e) ps qs fo ro = absurd fo
      region_times p (item i r) (At s) ps qs fo ro =
          let here = round_item g i s ps fo.0 ro in
          let rest = region_times p r fo.2.0 ps qs fo.2.2 (behind_round f g sound s fo.2.0 ps ro fo.2.1) in
          let none : of_start fo.2.0 ≡ 0 = behind_start s fo.2.0 fo.2.1 in
          let first = item_times p i s fo.2.0 r ps qs fo.0 fo.1 fo.2.1 fo.2.2 here in
          let a = times_both x (item_text w p i) (onward w (plain_block i) r ++ region_text w p r) in
          let b = times_both x (onward w (plain_block i) r) (region_text w p r) in
          let c = weights_both (item_stands qs i) (stands qs r) in
          omega (arith, rest, none, first, a, b, c)

      item_times : (p : Place) (i : Item) (s : Start) (n : Next) (r : Region) (ps qs : List Around) → StandsAt g i s → FollowsItem f g i → IsBehind f g s n → Follows f g r n → IsRoundItem g (is_loop i) (head i) ps
          → times_in x (item_text w p i) + (times_in x (onward w (plain_block i) r) + (of_end n + of_start (At s))) ≡ weights (item_stands qs i)
      item_times p (plain b) s n r ps qs at fo be on ro =
          let a = onward_times b r n ro.0 fo (after_item f g sound (plain b) s n refl at be) on in
          let c = item_start (plain b) s refl at in
          omega (arith, a, c)
      item_times p (choose h y z) s n r ps qs at fo be on ro =
          let off = conditional_no_switch (nth g h).exit fo.0 in
          let b1 = region_times p y fo.2.0 (own_around g h ++ round g h) (within (If h) ∷ qs) fo.2.2 (inside f g sound h 0 fo.2.0 (own_around g h ++ round g h) ro.0 off refl fo.2.1) in
          let b2 = region_times p z fo.3.0 (own_around g h ++ round g h) (within (If h) ∷ qs) fo.3.2 (inside f g sound h 1 fo.3.0 (own_around g h ++ round g h) ro.0 off refl fo.3.1) in
          let a = choice_times p h y z qs (within (If h) ∷ qs) ro.0 fo.0 fo.2 fo.3 b1 b2 in
          let c = item_start (choose h y z) s refl at in
          let d = selection_end h n fo.0 (after_item f g sound (choose h y z) s n refl at be) in
          omega (arith, a, c, d)
      item_times p (loose h y z) s n r ps qs at fo be on ro =
          let off = conditional_no_switch (nth g h).exit fo.0 in
          let b1 = region_times p y fo.2.0 (own_around g h ++ round g h) (branch h ∷ qs) fo.2.2 (inside f g sound h 0 fo.2.0 (own_around g h ++ round g h) ro.0 off refl fo.2.1) in
          let b2 = region_times p z fo.3.0 (own_around g h ++ round g h) (branch h ∷ qs) fo.3.2 (inside f g sound h 1 fo.3.0 (own_around g h ++ round g h) ro.0 off refl fo.3.1) in
          let a = choice_times p h y z qs (branch h ∷ qs) ro.0 fo.0 fo.2 fo.3 b1 b2 in
          let c = item_start (loose h y z) s refl at in
          let d = selection_end h n fo.0 (after_item f g sound (loose h y z) s n refl at be) in
          omega (arith, a, c, d)
      item_times p (loop h y) s n r ps qs at fo be on ro =
          let a = region_times (inside_loop h false) y (At (Body h)) (around g h) (within (Loop h) ∷ qs) fo.1 (ro.0, refl, ro.2) in
          let b = whole_loop h (region_text w (inside_loop h false) y) in
          let c = loop_is h ro.2 in
          let d : of_end n ≡ 0 = ap of_end (merged_item f g sound (loop h y) s n refl at be) ∙ (merged_end h).0 in
          let e = loop_start (loop h y) s refl at in
          omega (arith, a, b, c, d, e)
      item_times p (loop_on h z y) s n r ps qs at fo be on ro =
          let at_c = continue_facts g h fo.0.0 fo.0.1 in
          let flag = told.again_is h fo.0.0 ro.0 fo.0.1 in
          let inner = region_times (inside_loop h true) z (At (Block fo.0.0)) (round g fo.0.0) (within (Cont h) ∷ qs) fo.0.2 (at_c.reached, refl) in
          let a = region_times (inside_loop h false) y (At (Body h)) (around g h) (within (Loop h) ∷ qs) fo.1 (ro.0, refl, ro.2) in
          let t : times_in x (turn (w.again h) (region_text w (inside_loop h true) z)) ≡ times_in x (region_text w (inside_loop h true) z)
          = ap (λ (o : Option Text). times_in x (turn o (region_text w (inside_loop h true) z))) flag.1 ∙ turn_times x flag.0 (region_text w (inside_loop h true) z) in
          let b = whole_loop h (turn (w.again h) (region_text w (inside_loop h true) z) ++ region_text w (inside_loop h false) y) in
          let u = times_both x (turn (w.again h) (region_text w (inside_loop h true) z)) (region_text w (inside_loop h false) y) in
          let c = loop_is h ro.2 in
          let d : of_end n ≡ 0 = ap of_end (merged_item f g sound (loop_on h z y) s n refl at be) ∙ (merged_end h).0 in
          let e = loop_start (loop_on h z y) s refl at in
          let v = weights_both (stands (within (Cont h) ∷ qs) z) (stands (within (Loop h) ∷ qs) y) in
          omega (arith, inner, a, t, b, u, c, d, e, v)
      item_times p (switch h gs) s n r ps qs at fo be on ro =
          let arms = in_order (w.order h) (by_target (groups_text w (inside_switch p) h gs)) in
          let order = told.order_is h ro.0 fo.0 in
          let own : AreApart (group_targets of_arm (groups_text w (inside_switch p) h gs)) = subst AreApart (sym (targets_are (inside_switch p) h gs ∙ fo.1)) order.all_apart in
          let there : (t : ℕ) → In t (group_targets of_arm (groups_text w (inside_switch p) h gs)) → In t (w.order h)
          = λ t i. order.in_order t (subst (In t) (targets_are (inside_switch p) h gs ∙ fo.1) i) in
          let a = arms_times arms in
          let b = ordered_values of_arm (w.order h) (groups_text w (inside_switch p) h gs) order.apart own there in
          let c = groups_times (inside_switch p) gs h qs ro.0 (subst (AllLead g h) (sym fo.1) (filter_leads g h (range_with_len 0 (length g)))) fo.2 in
          let d = flags_times gs in
          let rows : (kid_sum (of_edge h) (targets gs) ≡ kid_sum (of_edge h) (switch_targets g h)) × (kid_sum of_fell (targets gs) ≡ kid_sum of_fell (switch_targets g h)) = (ap (kid_sum (of_edge h)) fo.1, ap (kid_sum of_fell) fo.1) in
          let rows_of = rows.0 in
          let rows_fell = rows.1 in
          let exit : of_exit h (nth g h).exit ≡ kid_sum (of_edge h) (switch_targets g h) + kid_sum of_fell (switch_targets g h) = ap (of_exit h) (switch_is (nth g h).exit fo.0) in
          let e1 = times_both x (w.statements h) (fell_flags w gs ++ (text.switch (w.condition h) (arms_in arms) ∷ behind_switch w p (groups_have_break gs))) in
          let e2 = times_both x (fell_flags w gs) (text.switch (w.condition h) (arms_in arms) ∷ behind_switch w p (groups_have_break gs)) in
          let e3 = occurs_both x (declared_in is_some (arms_in arms)) (valued (stmts_in (behind_switch w p (groups_have_break gs)))) in
          let e4 = behind_none p (groups_have_break gs) in
          let k = item_start (switch h gs) s refl at in
          let l = switch_end h n fo.0 (after_item f g sound (switch h gs) s n refl at be) in
          omega (arith, a, b, c, d, rows_of, rows_fell, exit, e1, e2, e3, e4, k, l)

      groups_times : (p : Place) (gs : Groups) (h : ℕ) (qs : List Around) → (nth g h).reached ≡ true → AllLead g h (targets gs) → FollowsGroups f g gs h → group_values of_arm (groups_text w p h gs) ≡ kid_sum (of_edge h) (targets gs) + weights (group_stands qs h gs)
      groups_times p none h qs here all fo = refl
      groups_times p (group t labels default y gs) h qs here all fo =
          let a = region_times p y fo.2.0 (round g t) (within (Case h t) ∷ qs) fo.2.2 (carried f g sound h t fo.2.0 (round g t) here all.0 fo.2.1 (λ e. refl)) in
          let a1 = start_none h t fo.2.0 fo.2.1 in
          let b = groups_times p gs h qs here all.1 fo.3 in
          let c = entered h t y fo.2.0 fo.2.1 fo.2.2 in
          let d = unless_times x (entering w h t y) (w.fell t) in
          let e = times_both x (entering_case w h t y) (region_text w p y) in
          let v = weights_both (stands (within (Case h t) ∷ qs) y) (group_stands qs h gs) in
          omega (arith, a, a1, b, c, d, e, v)
