-- Each reached block stands in the tree once.
use Rattle.std.proofs.Common.{◌≡◌, ◌<◌, ◌+◌, ◌==◌, ℕ, zero, suc, Bool, true, false, List, [], ◌∷◌, ◌++◌, length, if◌then◌else◌, Option, Some, None, filter, refl, ap, sym, ◌∙◌, subst, inl, inr, arith}
use Rattle.std.proofs.lemmas.Bool.Decides.{eqb_tells}
use Rattle.list_law.proofs.Numbers.{number_other, turned}
use Rattle.list_law.proofs.Tests.{not_both}
use Rattle.spv_module.specs.declared.inst.Function.{Function}
use Rattle.structure_rules.specs.declared.graph.Exit.{Exit as Terminator}
use Rattle.structure_rules.specs.declared.graph.Exit.TheVariants as terminator
use Rattle.structure_rules.specs.declared.graph.Node.{Node}
use Rattle.structure_rules.specs.declared.graph.Role.{Role}
use Rattle.structure_rules.specs.declared.graph.Role.TheVariants.{First, Merge as MergeOf, Continue, Case as CaseOf, Inside}
use Rattle.structure_rules.specs.declared.graph.Part.TheVariants.{If, Loop, Cont, Case}
use Rattle.structure_rules.specs.Graph.{graph, nth, merge_block}
use Rattle.structure_rules.specs.Nesting.{role, parent_of}
use Rattle.nest_place.specs.Nests.{IsSound}
use Rattle.nest_place.proofs.LinkLemmas.{equal_nat}
use Rattle.nest_place.proofs.Parenthood.{orphan_bad}
use Rattle.nest_place.proofs.Outward.{reached_inside}
use Rattle.structure_recover.specs.declared.region.Exit.TheVariants.{Closed}
use Rattle.structure_recover.specs.declared.edges.Start.TheVariants.{Block, Body}
use Rattle.structure_recover.specs.declared.edges.Next.{Next}
use Rattle.structure_recover.specs.declared.edges.Next.TheVariants.{At, Stop}
use Rattle.structure_recover.specs.Tree.{Region, ends, item, Item, plain, choose, loose, loop, loop_on, switch, Groups, none, group, head, is_loop}
use Rattle.structure_recover.specs.Follows.{heads_loop, is_plain, Carries, CarriesTo, if_reached, merged, IsAfter, switch_targets, Follows, first, IsTree}
use Rattle.structure_recover.specs.Once.{Around, within, branch, round, around, stands, item_stands, group_stands, standing, StandsOnce}
use Rattle.structure_recover.proofs.Rounds.{AllStand, regions_stand, round_is}
use Rattle.structure_recover.proofs.Counting.{one, hits, kid_sum, times, inner_times, group_times, IsStep, times_follow}
use Rattle.structure_recover.proofs.Shape.{IsShaped, graph_shaped, first_reached}
use Rattle.structure_recover.proofs.Kids.{same, up, at_block, block_hits, block_step}

-- the body of a loop begins where the loop stands
module _ (f : Function) (g : List Node) (k : ℕ) (loops : heads_loop g k ≡ true) where
  body_apart : (u : ℕ) → same false k (heads_loop g u) u ≡ false
  body_apart u = elim (eqb_tells k u) [ inl w ↦ ap (λ x. same false k x u) (ap (heads_loop g) (sym w.1) ∙ loops) | inr w ↦ by_test (heads_loop g u) w.0 ]
    where
      by_test : (x : Bool) → (k == u) ≡ false → same false k x u ≡ false
      by_test true e = refl
      by_test false e = e

  carried_none : (h t : ℕ) (n : Next) → Carries g h t n → hits g (same false k) n ≡ 0
  carried_none h t (At (Block u)) c = ap one (body_apart u)
  carried_none h t (At (Body u)) c = absurd c
  carried_none h t (Stop e) c = refl

  to_none : (h : ℕ) (o : Option ℕ) (n : Next) → CarriesTo g h o n → hits g (same false k) n ≡ 0
  to_none h None n c = ap (hits g (same false k)) c
  to_none h (Some t) n c = carried_none h t n c

  merged_none : (h : ℕ) → hits g (same false k) (merged g h) ≡ 0
  merged_none h = by_merge (merge_block g h)
    where
      by_reached : (m : ℕ) (b : Bool) → hits g (same false k) (if b then At (Block m) else Stop Closed) ≡ 0
      by_reached m true = ap one (body_apart m)
      by_reached m false = refl

      by_merge : (o : Option ℕ) → hits g (same false k) (if_reached g o) ≡ 0
      by_merge None = refl
      by_merge (Some m) = by_reached m (nth g m).reached

  plain_none : (b : ℕ) (n : Next) (x : Terminator) → is_plain x ≡ true → IsAfter f g b x n → hits g (same false k) n ≡ 0
  plain_none b n terminator.Branch is a = to_none b _ n a
  plain_none b n terminator.Leave is a = ap (hits g (same false k)) a
  plain_none b n terminator.Conditional is a = cc
  plain_none b n terminator.Switch is a = cc

  no_kids : (ts : List ℕ) → kid_sum (λ t. 0) ts ≡ 0
  no_kids [] = refl
  no_kids (t ∷ ts) = let rest = no_kids ts in omega (arith, rest)

  body_step : IsStep f g (same false k) (same true k)
  body_step = record {
    plain_step = λ b n here is a. plain_none b n (nth g b).exit is a;
    choose_step = λ h n m here con sel c d. (let x = to_none h _ n c in let y = to_none h _ m d in let z = merged_none h in omega (arith, x, y, z));
    loose_step = λ h n m here con sel c d. (let x = to_none h _ n c in let y = to_none h _ m d in omega (arith, x, y));
    loop_step = λ h here is gone. (let z = merged_none h in omega (arith, z));
    loop_on_step = λ h c here is on. (let z = merged_none h in let x : hits g (same false k) (At (Block c)) ≡ 0 = ap one (body_apart c) in omega (arith, x, z));
    kid = λ h t. 0;
    kid_step = λ h t n here leads c. carried_none h t n c;
    switch_step = λ h here is. (let z = merged_none h in let x = no_kids (switch_targets g h) in omega (arith, x, z));
  }

mutual
  times_none : (r : Region) → times (λ y b. false) r ≡ 0
  times_none (ends e) = refl
  times_none (item i r) = let x = inner_none i in let y = times_none r in omega (arith, x, y)

  inner_none : (i : Item) → inner_times (λ y b. false) i ≡ 0
  inner_none (plain b) = refl
  inner_none (choose h x y) = let a = times_none x in let b = times_none y in omega (arith, a, b)
  inner_none (loose h x y) = let a = times_none x in let b = times_none y in omega (arith, a, b)
  inner_none (loop h x) = times_none x
  inner_none (loop_on h z x) = let a = times_none z in let b = times_none x in omega (arith, a, b)
  inner_none (switch h gs) = groups_none gs

  groups_none : (gs : Groups) → group_times (λ y b. false) gs ≡ 0
  groups_none none = refl
  groups_none (group t labels default x gs) = let a = times_none x in let b = groups_none gs in omega (arith, a, b)

module _ (f : Function) (g : List Node) (sound : IsSound g) (shaped : IsShaped g) (here : (nth g 0).reached ≡ true) (role_is : role g 0 ≡ First) (r : Region) (follows : Follows f g r (At (Block 0))) where
  round_first : round g 0 ≡ []
  round_first = round_is g 0 First sound.grounded here role_is

  body_once : (k : ℕ) → times (at_block g k) r ≡ 1 → times (same false k) r ≡ 1
  body_once k once = by_loop (heads_loop g k) refl
    where
      by_loop : (x : Bool) → heads_loop g k ≡ x → times (same false k) r ≡ 1
      by_loop false is = ap (λ x. times (same x k) r) (sym is) ∙ once
      by_loop true is =
          let a : times (same false k) r ≡ one (same false k (heads_loop g 0) 0) + times (same true k) r = times_follow f g sound (same false k) (same true k) (body_step f g k is) r (At (Block 0)) [] follows (here, round_first) in
          let b : one (same false k (heads_loop g 0) 0) ≡ 0 = ap one (body_apart f g k is 0) in
          let c : times (same true k) r ≡ 1 = ap (λ x. times (same x k) r) (sym is) ∙ once in
          omega (arith, a, b, c)

  once : (n t : ℕ) → t < n → (nth g t).reached ≡ true → times (at_block g t) r ≡ 1
  once zero t less there = absurd (omega (arith, less))
  once (suc n) t less there = by_role (λ p low above. once n p (omega (arith, low, less)) above) (role g t) refl
    where
      all : times (at_block g t) r ≡ one (same (heads_loop g t) t (heads_loop g 0) 0) + times (up g (role g t)) r
      all = times_follow f g sound (at_block g t) (up g (role g t)) (block_step f g sound shaped t there) r (At (Block 0)) [] follows (here, round_first)

      start : one (same (heads_loop g t) t (heads_loop g 0) 0) ≡ one (t == 0)
      start = ap one (block_hits g t 0)

      parented : (p : ℕ) → parent_of (role g t) ≡ Some p → times (up g (role g t)) r ≡ 1 → times (at_block g t) r ≡ 1
      parented p is up_once =
          let low : p < t = (sound.grounded.up t p there is).0 in
          let zero_is : one (t == 0) ≡ 0 = ap one (number_other t 0 (λ e. omega (arith, e, low))) in
          omega (arith, all, start, zero_is, up_once)

      Earlier : Type 0
      Earlier = (p : ℕ) → p < t → (nth g p).reached ≡ true → times (at_block g p) r ≡ 1

      before : Earlier → (p : ℕ) → parent_of (role g t) ≡ Some p → times (at_block g p) r ≡ 1
      before earlier p is = let above = sound.grounded.up t p there is in earlier p above.0 above.1

      by_role : Earlier → (x : Role) → role g t ≡ x → times (at_block g t) r ≡ 1
      by_role earlier First is = elim (eqb_tells t 0) [
        | inl w ↦
            let one_is : one (t == 0) ≡ 1 = ap one w.0 in
            let none : times (up g (role g t)) r ≡ 0 = ap (λ x. times (up g x) r) is ∙ times_none r in
            omega (arith, all, start, one_is, none)
        | inr w ↦ absurd (sound.fine.1.1.1.0 (nth g t).at (orphan_bad g t (reached_inside g t there) there w.1 is))
      ]
      by_role earlier (MergeOf h) is = parented h (ap parent_of is) (ap (λ x. times (up g x) r) is ∙ before earlier h (ap parent_of is))
      by_role earlier (Continue h) is = parented h (ap parent_of is) (ap (λ x. times (up g x) r) is ∙ before earlier h (ap parent_of is))
      by_role earlier (CaseOf s) is = parented s (ap parent_of is) (ap (λ x. times (up g x) r) is ∙ body_once s (before earlier s (ap parent_of is)))
      by_role earlier (Inside p) is = parented p (ap parent_of is) (ap (λ x. times (up g x) r) is ∙ body_once p (before earlier p (ap parent_of is)))

  block_once : (t : ℕ) → (nth g t).reached ≡ true → times (same false t) r ≡ 1
  block_once t there = body_once t (once (suc t) t (omega arith) there)

-- how many of these are about the block
abbrev about : ℕ → List (ℕ × List Around) → ℕ
about b [] = 0
about b (s ∷ ss) = one (s.0 == b) + about b ss

about_both : (b : ℕ) (xs ys : List (ℕ × List Around)) → about b (xs ++ ys) ≡ about b xs + about b ys
about_both b [] ys = omega arith
about_both b (x ∷ xs) ys = let rest = about_both b xs ys in omega (arith, rest)

module _ (b : ℕ) where
  mutual
    about_times : (r : Region) (ps : List Around) → about b (stands ps r) ≡ times (same false b) r
    about_times (ends e) ps = refl
    about_times (item i r) ps =
        let x = about_both b (item_stands ps i) (stands ps r) in let y = item_times i ps in let z = about_times r ps in omega (arith, x, y, z)

    item_times : (i : Item) (ps : List Around) → about b (item_stands ps i) ≡ one (same false b (is_loop i) (head i)) + inner_times (same false b) i
    item_times (plain h) ps = let e : one (h == b) ≡ one (b == h) = ap one (turned h b) in omega (arith, e)
    item_times (choose h x y) ps =
        let e : one (h == b) ≡ one (b == h) = ap one (turned h b) in
        let c = about_both b (stands (within (If h) ∷ ps) x) (stands (within (If h) ∷ ps) y) in
        let d = about_times x (within (If h) ∷ ps) in let a = about_times y (within (If h) ∷ ps) in
        omega (arith, e, c, d, a)
    item_times (loose h x y) ps =
        let e : one (h == b) ≡ one (b == h) = ap one (turned h b) in
        let c = about_both b (stands (branch h ∷ ps) x) (stands (branch h ∷ ps) y) in
        let d = about_times x (branch h ∷ ps) in let a = about_times y (branch h ∷ ps) in
        omega (arith, e, c, d, a)
    item_times (loop h x) ps = let d = about_times x (within (Loop h) ∷ ps) in omega (arith, d)
    item_times (loop_on h z x) ps =
        let c = about_both b (stands (within (Cont h) ∷ ps) z) (stands (within (Loop h) ∷ ps) x) in
        let d = about_times z (within (Cont h) ∷ ps) in let a = about_times x (within (Loop h) ∷ ps) in
        omega (arith, c, d, a)
    item_times (switch h gs) ps =
        let e : one (h == b) ≡ one (b == h) = ap one (turned h b) in
        let a = groups_times gs h ps in
        omega (arith, e, a)

    groups_times : (gs : Groups) (h : ℕ) (ps : List Around) → about b (group_stands ps h gs) ≡ group_times (same false b) gs
    groups_times none h ps = refl
    groups_times (group t labels default x gs) h ps =
        let c = about_both b (stands (within (Case h t) ∷ ps) x) (group_stands ps h gs) in
        let d = about_times x (within (Case h t) ∷ ps) in let a = groups_times gs h ps in
        omega (arith, c, d, a)

abbrev chosen : ℕ → List (ℕ × List Around) → List (ℕ × List Around)
chosen b ss = filter (λ (s : ℕ × List Around). s.0 == b) ss

chosen_none : (b : ℕ) (ss : List (ℕ × List Around)) → about b ss ≡ 0 → chosen b ss ≡ []
chosen_none b [] e = refl
chosen_none b (s ∷ ss) e = by_test (chosen_none b ss) (s.0 == b) refl
  where
    by_test : (about b ss ≡ 0 → chosen b ss ≡ []) → (x : Bool) → (s.0 == b) ≡ x → (if x then s ∷ chosen b ss else chosen b ss) ≡ []
    by_test rest true is = let first : one (s.0 == b) ≡ 1 = ap one is in absurd (omega (arith, e, first))
    by_test rest false is = let first : one (s.0 == b) ≡ 0 = ap one is in rest (omega (arith, e, first))

chosen_one : (g : List Node) (b : ℕ) (ss : List (ℕ × List Around)) → AllStand g ss → about b ss ≡ 1 → chosen b ss ≡ (b, around g b) ∷ []
chosen_one g b [] all e = absurd (omega (arith, e))
chosen_one g b (s ∷ ss) all e = by_test (chosen_one g b ss all.2) (s.0 == b) refl
  where
    by_test : (about b ss ≡ 1 → chosen b ss ≡ (b, around g b) ∷ []) → (x : Bool) → (s.0 == b) ≡ x → (if x then s ∷ chosen b ss else chosen b ss) ≡ (b, around g b) ∷ []
    by_test later true is =
        let first : one (s.0 == b) ≡ 1 = ap one is in
        let rest : chosen b ss ≡ [] = chosen_none b ss (omega (arith, e, first)) in
        let own : s.0 ≡ b = equal_nat s.0 b is in
        ap (λ q. s ∷ q) rest ∙ (ap (λ p. (s.0, p) ∷ []) all.1 ∙ ap (λ k. (k, around g k) ∷ []) own)
    by_test later false is = let first : one (s.0 == b) ≡ 0 = ap one is in later (omega (arith, e, first))

unreached_none : (g : List Node) (b : ℕ) (ss : List (ℕ × List Around)) → AllStand g ss → (nth g b).reached ≡ false → chosen b ss ≡ []
unreached_none g b [] all off = refl
unreached_none g b (s ∷ ss) all off = by_test (unreached_none g b ss all.2 off) (s.0 == b) refl
  where
    by_test : chosen b ss ≡ [] → (x : Bool) → (s.0 == b) ≡ x → (if x then s ∷ chosen b ss else chosen b ss) ≡ []
    by_test rest true is = absurd (not_both (nth g s.0).reached all.0 (ap (λ k. (nth g k).reached) (equal_nat s.0 b is) ∙ off))
    by_test rest false is = rest

-- the first block has no parent
first_role : (g : List Node) → IsSound g → (nth g 0).reached ≡ true → role g 0 ≡ First
first_role g sound here = by_role (role g 0) refl
  where
    low : (p : ℕ) → parent_of (role g 0) ≡ Some p → ⊥
    low p is = let less : p < 0 = (sound.grounded.up 0 p here is).0 in omega (arith, less)

    by_role : (x : Role) → role g 0 ≡ x → x ≡ First
    by_role First is = refl
    by_role (MergeOf h) is = absurd (low h (ap parent_of is))
    by_role (Continue h) is = absurd (low h (ap parent_of is))
    by_role (CaseOf s) is = absurd (low s (ap parent_of is))
    by_role (Inside p) is = absurd (low p (ap parent_of is))

pub stands_once : (f : Function) (g : List Node) (r : Region) → IsSound g → IsShaped g → (nth g 0).reached ≡ true → Follows f g r (At (Block 0)) → StandsOnce g r
stands_once f g r sound shaped here follows b = by_reached (nth g b).reached refl
  where
    role_is : role g 0 ≡ First
    role_is = first_role g sound here

    all : AllStand g (stands [] r)
    all = regions_stand f g sound r (At (Block 0)) [] follows (here, round_is g 0 First sound.grounded here role_is)

    by_reached : (x : Bool) → (nth g b).reached ≡ x → standing r b ≡ (if x then (b, around g b) ∷ [] else [])
    by_reached true is = chosen_one g b (stands [] r) all (about_times b r [] ∙ block_once f g sound shaped here role_is r follows b is)
    by_reached false is = unreached_none g b (stands [] r) all is

pub tree_once : (f : Function) (g : List Node) (r : Region) → IsSound g → g ≡ graph f → Follows f g r (first g) → StandsOnce (graph f) r
tree_once f g r sound is follows = subst (λ q. StandsOnce q r) is (by_graph g sound is follows)
  where
    none_stand : (r : Region) → Follows f [] r (Stop Closed) → StandsOnce [] r
    none_stand (ends e) follows b = refl
    none_stand (item i r) follows b = absurd follows

    by_graph : (g : List Node) → IsSound g → g ≡ graph f → Follows f g r (first g) → StandsOnce g r
    by_graph [] sound is follows = none_stand r follows
    by_graph (n ∷ ns) sound is follows =
        let some : 0 < length (graph f) = subst (λ q. 0 < length q) is (omega arith) in
        stands_once f (n ∷ ns) r sound (subst IsShaped (sym is) (graph_shaped f)) (subst (λ q. (nth q 0).reached ≡ true) (sym is) (first_reached f some)) follows

pub tree_follows : (f : Function) (g : List Node) (r : Region) → g ≡ graph f → Follows f g r (first g) → IsTree f r
tree_follows f g r is follows = subst (λ q. Follows f q r (first q)) is follows

pub ruleset tree_rules = (tree_once, tree_follows)
