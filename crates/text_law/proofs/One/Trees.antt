-- The graph and its rules determine the tree of a function: two trees that follow its edges are one.
use Rattle.std.proofs.Common.{◌≡◌, ◌<◌, ℕ, suc, Bool, true, false, List, [], ◌∷◌, length, Option, Some, None, refl, ap, sym, ◌∙◌, subst, inl, inr, if◌then◌else◌, arith}
use Rattle.std.specs.Prelude.{◌⊎◌}
use Rattle.std.specs.List.{range_with_len}
use Rattle.std.proofs.lemmas.Option.{same_Some}
use Rattle.spv_module.specs.declared.inst.Function.{Function}
use Rattle.structure_rules.specs.declared.graph.Exit.{Exit as Terminator}
use Rattle.structure_rules.specs.declared.graph.Exit.TheVariants as terminator
use Rattle.structure_rules.specs.declared.graph.EdgeKind.{EdgeKind}
use Rattle.structure_rules.specs.declared.graph.Node.{Node}
use Rattle.structure_rules.specs.Graph.{graph, nth, leads_to, merge_block, is_conditional, is_switch, is_selection}
use Rattle.structure_rules.specs.EdgeKinds.{has_kind, is_enter}
use Rattle.nest_place.specs.Nests.{IsSound}
use Rattle.nest_place.proofs.OneKind.{one_kind}
use Rattle.structure_recover.specs.declared.region.Exit.{Exit}
use Rattle.structure_recover.specs.declared.region.Exit.TheVariants.{Edge, Return, Lost, Closed}
use Rattle.structure_recover.specs.declared.edges.Start.{Start}
use Rattle.structure_recover.specs.declared.edges.Start.TheVariants.{Block, Body}
use Rattle.structure_recover.specs.declared.edges.Next.{Next}
use Rattle.structure_recover.specs.declared.edges.Next.TheVariants.{At, Stop}
use Rattle.structure_recover.specs.Tree.{Region, ends, item, Item, plain, choose, loose, loop, loop_on, switch, Groups, none, group, head, is_loop, targets}
use Rattle.structure_recover.specs.Follows.{is_plain, heads_loop, target, Carries, CarriesTo, if_reached, merged, IsAfter, IsBehindBlock, IsBehind, StandsAt, continue_block, Follows, FollowsItem, FollowsGroups, first, IsTree}
use Rattle.structure_recover.specs.Later.{block_of, IsReached}
use Rattle.structure_recover.proofs.Onward.{target_leads}
use Rattle.structure_recover.proofs.Rounds.{AllLead, filter_leads, conditional_no_switch, continue_facts}
use Rattle.structure_recover.proofs.Shape.{first_reached}
use Rattle.tree_law.proofs.Placing.{head_at}

-- a block ends in one way
plain_conditional : (x : Terminator) → is_plain x ≡ true → is_conditional x ≡ true → ⊥
plain_conditional terminator.Branch e d = cc
plain_conditional terminator.Conditional e d = cc
plain_conditional terminator.Switch e d = cc
plain_conditional terminator.Leave e d = cc

plain_switch : (x : Terminator) → is_plain x ≡ true → is_switch x ≡ true → ⊥
plain_switch terminator.Branch e d = cc
plain_switch terminator.Conditional e d = cc
plain_switch terminator.Switch e d = cc
plain_switch terminator.Leave e d = cc

conditional_switch : (x : Terminator) → is_conditional x ≡ true → is_switch x ≡ true → ⊥
conditional_switch x e d = let never : true ≡ false = sym d ∙ conditional_no_switch x e in cc

same_stop : (e d : Exit) → Stop e ≡ Stop d → e ≡ d
same_stop e d same = cc

module _ (g : List Node) where
  -- an edge enters its block, or is an end
  abbrev Way : ℕ → ℕ → Next → Type 0
  Way b t n = ((n ≡ At (Block t)) × (is_enter g b t ≡ true)) ⊎ ((k : EdgeKind) × (n ≡ Stop (Edge b t k)) × (has_kind g b t k ≡ true) × (is_enter g b t ≡ false))

  way : (b t : ℕ) (n : Next) → Carries g b t n → Way b t n
  way b t (At (Block u)) c = inl (ap (λ q. At (Block q)) c.0, c.1)
  way b t (At (Body h)) c = absurd c
  way b t (Stop (Edge a u k)) c = inr (k, ap (λ q. Stop (Edge q u k)) c.0 ∙ ap (λ q. Stop (Edge b q k)) c.1, c.2, c.3)
  way b t (Stop (Return a)) c = absurd c
  way b t (Stop (Lost a)) c = absurd c
  way b t (Stop Closed) c = absurd c

  module _ (sound : IsSound g) where
    carried_one : (b t : ℕ) (n m : Next) → (nth g b).reached ≡ true → leads_to t (nth g b) ≡ true → Carries g b t n → Carries g b t m → n ≡ m
    carried_one b t n m here leads c d = by_ways (way b t n c) (way b t m d)
      where
        by_ways : Way b t n → Way b t m → n ≡ m
        by_ways (inl v) (inl w) = v.0 ∙ sym w.0
        by_ways (inl v) (inr w) = let never : true ≡ false = sym v.1 ∙ w.3 in cc
        by_ways (inr v) (inl w) = let never : true ≡ false = sym w.1 ∙ v.3 in cc
        by_ways (inr v) (inr w) = v.1 ∙ (ap (λ k. Stop (Edge b t k)) (one_kind g sound b t here (sound.reached b t here leads) v.0 w.0 v.2 w.2) ∙ sym w.1)

    carried_reached : (b t : ℕ) (n : Next) → (nth g b).reached ≡ true → leads_to t (nth g b) ≡ true → Carries g b t n → IsReached g n
    carried_reached b t n here leads c = by_way (way b t n c)
      where
        by_way : Way b t n → IsReached g n
        by_way (inl v) = subst (IsReached g) (sym v.0) (sound.reached b t here leads)
        by_way (inr v) = subst (IsReached g) (sym v.1) tt

    -- so it is by the edge to a target that may be missing
    target_one : (b k : ℕ) (n m : Next) → (nth g b).reached ≡ true → CarriesTo g b (target g b k) n → CarriesTo g b (target g b k) m → n ≡ m
    target_one b k n m here c d = by_target (target g b k) refl c d
      where
        by_target : (o : Option ℕ) → target g b k ≡ o → CarriesTo g b o n → CarriesTo g b o m → n ≡ m
        by_target None is c d = c ∙ sym d
        by_target (Some t) is c d = carried_one b t n m here (target_leads (nth g b) k t is) c d

    target_reached : (b k : ℕ) (n : Next) → (nth g b).reached ≡ true → CarriesTo g b (target g b k) n → IsReached g n
    target_reached b k n here c = by_target (target g b k) refl c
      where
        by_target : (o : Option ℕ) → target g b k ≡ o → CarriesTo g b o n → IsReached g n
        by_target None is c = subst (IsReached g) (sym c) tt
        by_target (Some t) is c = carried_reached b t n here (target_leads (nth g b) k t is) c

    merged_reached : (h : ℕ) → IsReached g (merged g h)
    merged_reached h = by_merge (merge_block g h)
      where
        by_test : (m : ℕ) (b : Bool) → (nth g m).reached ≡ b → IsReached g (if b then At (Block m) else Stop Closed)
        by_test m true is = is
        by_test m false is = tt

        by_merge : (o : Option ℕ) → IsReached g (if_reached g o)
        by_merge None = tt
        by_merge (Some m) = by_test m (nth g m).reached refl

    module _ (f : Function) where
      -- behind an item control goes on in one way
      after_one : (b : ℕ) (x : Terminator) (n m : Next) → (nth g b).reached ≡ true → IsAfter f g b x n → IsAfter f g b x m → n ≡ m
      after_one b terminator.Branch n m here c d = target_one b 0 n m here c d
      after_one b terminator.Leave n m here c d = c ∙ sym d
      after_one b terminator.Switch n m here c d = c ∙ sym d
      after_one b terminator.Conditional n m here c d = c ∙ sym d

      after_reached : (b : ℕ) (x : Terminator) (n : Next) → (nth g b).reached ≡ true → IsAfter f g b x n → IsReached g n
      after_reached b terminator.Branch n here c = target_reached b 0 n here c
      after_reached b terminator.Leave n here c = subst (IsReached g) (sym c) tt
      after_reached b terminator.Switch n here c = subst (IsReached g) (sym c) (merged_reached b)
      after_reached b terminator.Conditional n here c = subst (IsReached g) (sym c) (by_test (is_selection (nth g b).merge))
        where
          by_test : (y : Bool) → IsReached g (if y then merged g b else Stop Closed)
          by_test true = merged_reached b
          by_test false = tt

      behind_one : (s : Start) (n m : Next) → (nth g (block_of s)).reached ≡ true → IsBehind f g s n → IsBehind f g s m → n ≡ m
      behind_one (Body h) n m here c d = after_one h (nth g h).exit n m here c d
      behind_one (Block b) n m here c d = by_test (heads_loop g b) c d
        where
          by_test : (x : Bool) → IsBehindBlock f g b n x → IsBehindBlock f g b m x → n ≡ m
          by_test true c d = c ∙ sym d
          by_test false c d = after_one b (nth g b).exit n m here c d

      behind_reached : (s : Start) (n : Next) → (nth g (block_of s)).reached ≡ true → IsBehind f g s n → IsReached g n
      behind_reached (Body h) n here c = after_reached h (nth g h).exit n here c
      behind_reached (Block b) n here c = by_test (heads_loop g b) c
        where
          by_test : (x : Bool) → IsBehindBlock f g b n x → IsReached g n
          by_test true c = subst (IsReached g) (sym c) (merged_reached b)
          by_test false c = after_reached b (nth g b).exit n here c

      -- what begins a region is a loop or is none
      same_loops : (i j : Item) (s : Start) → StandsAt g i s → StandsAt g j s → is_loop i ≡ is_loop j
      same_loops i j (Block b) at to = at.1 ∙ sym to.1
      same_loops i j (Body h) at to = at.1 ∙ sym to.1

      apart_loops : (h k : ℕ) → h ≡ k → continue_block g h ≡ None → (c : ℕ) → continue_block g k ≡ Some c → ⊥
      apart_loops h k same off c on = let never : None ≡ Some c = sym off ∙ (ap (continue_block g) same ∙ on) in cc

      apart_merges : (h k : ℕ) → h ≡ k → is_selection (nth g h).merge ≡ true → is_selection (nth g k).merge ≡ false → ⊥
      apart_merges h k same on off = let never : true ≡ false = sym on ∙ (ap (λ q. is_selection (nth g q).merge) same ∙ off) in cc

      arms_one : (h c : ℕ) (x z : Region) → (nth g h).reached ≡ true → ((n : Next) × CarriesTo g h (target g h c) n × Follows f g x n) → ((n : Next) × CarriesTo g h (target g h c) n × Follows f g z n)
          → ((n : Next) → IsReached g n → Follows f g x n → Follows f g z n → x ≡ z) → x ≡ z
      arms_one h c x z here v w one =
          one v.0 (target_reached h c v.0 here v.1) v.2 (subst (Follows f g z) (sym (target_one h c v.0 w.0 here v.1 w.1)) w.2)

      mutual
        regions_one : (r q : Region) (n : Next) → IsReached g n → Follows f g r n → Follows f g q n → r ≡ q
        regions_one (ends e) (ends d) n here v w = ap ends (same_stop e d (sym v ∙ w))
        regions_one (ends e) (item j q) n here v w = absurd (subst (Follows f g (item j q)) v w)
        regions_one (item i r) (ends d) n here v w = absurd (subst (Follows f g (item i r)) w v)
        regions_one (item i r) (item j q) (Stop e) here v w = absurd v
        regions_one (item i r) (item j q) (At s) here v w =
            let begun = head_at g i s v.0 in
            let one = items_one i j (begun ∙ sym (head_at g j s w.0)) (same_loops i j s v.0 w.0) (subst (λ b. (nth g b).reached ≡ true) (sym begun) here) v.1 w.1 in
            let later = behind_one s v.2.0 w.2.0 here v.2.1 w.2.1 in
            let rest = regions_one r q v.2.0 (behind_reached s v.2.0 here v.2.1) v.2.2 (subst (Follows f g q) (sym later) w.2.2) in
            λ k. item (one k) (rest k)

        items_one : (i j : Item) → head i ≡ head j → is_loop i ≡ is_loop j → (nth g (head i)).reached ≡ true → FollowsItem f g i → FollowsItem f g j → i ≡ j
        items_one (plain b) (plain c) same loops here v w = ap plain same
        items_one (plain b) (choose k p q) same loops here v w = absurd (plain_conditional (nth g b).exit v (ap (λ q. is_conditional (nth g q).exit) same ∙ w.0))
        items_one (plain b) (loose k p q) same loops here v w = absurd (plain_conditional (nth g b).exit v (ap (λ q. is_conditional (nth g q).exit) same ∙ w.0))
        items_one (plain b) (loop k p) same loops here v w = cc
        items_one (plain b) (loop_on k p q) same loops here v w = cc
        items_one (plain b) (switch k ks) same loops here v w = absurd (plain_switch (nth g b).exit v (ap (λ q. is_switch (nth g q).exit) same ∙ w.0))
        items_one (choose h x y) (plain c) same loops here v w = absurd (plain_conditional (nth g h).exit (ap (λ q. is_plain (nth g q).exit) same ∙ w) v.0)
        items_one (choose h x y) (choose k p q) same loops here v w =
            let back = subst (λ b. FollowsItem f g (choose b p q)) (sym same) w in
            let one = arms_one h 0 x p here v.2 back.2 (regions_one x p) in
            let other = arms_one h 1 y q here v.3 back.3 (regions_one y q) in
            λ i. choose (same i) (one i) (other i)
        items_one (choose h x y) (loose k p q) same loops here v w = absurd (apart_merges h k same v.1 w.1)
        items_one (choose h x y) (loop k p) same loops here v w = cc
        items_one (choose h x y) (loop_on k p q) same loops here v w = cc
        items_one (choose h x y) (switch k ks) same loops here v w = absurd (conditional_switch (nth g h).exit v.0 (ap (λ q. is_switch (nth g q).exit) same ∙ w.0))
        items_one (loose h x y) (plain c) same loops here v w = absurd (plain_conditional (nth g h).exit (ap (λ q. is_plain (nth g q).exit) same ∙ w) v.0)
        items_one (loose h x y) (choose k p q) same loops here v w = absurd (apart_merges k h (sym same) w.1 v.1)
        items_one (loose h x y) (loose k p q) same loops here v w =
            let back = subst (λ b. FollowsItem f g (loose b p q)) (sym same) w in
            let one = arms_one h 0 x p here v.2 back.2 (regions_one x p) in
            let other = arms_one h 1 y q here v.3 back.3 (regions_one y q) in
            λ i. loose (same i) (one i) (other i)
        items_one (loose h x y) (loop k p) same loops here v w = cc
        items_one (loose h x y) (loop_on k p q) same loops here v w = cc
        items_one (loose h x y) (switch k ks) same loops here v w = absurd (conditional_switch (nth g h).exit v.0 (ap (λ q. is_switch (nth g q).exit) same ∙ w.0))
        items_one (loop h x) (plain c) same loops here v w = cc
        items_one (loop h x) (choose k p q) same loops here v w = cc
        items_one (loop h x) (loose k p q) same loops here v w = cc
        items_one (loop h x) (loop k p) same loops here v w =
            let back = subst (λ b. FollowsItem f g (loop b p)) (sym same) w in
            let one = regions_one x p (At (Body h)) here v.1 back.1 in
            λ i. loop (same i) (one i)
        items_one (loop h x) (loop_on k p q) same loops here v w = absurd (apart_loops h k same v.0 w.0.0 w.0.1)
        items_one (loop h x) (switch k ks) same loops here v w = cc
        items_one (loop_on h x y) (plain c) same loops here v w = cc
        items_one (loop_on h x y) (choose k p q) same loops here v w = cc
        items_one (loop_on h x y) (loose k p q) same loops here v w = cc
        items_one (loop_on h x y) (loop k p) same loops here v w = absurd (apart_loops k h (sym same) w.0 v.0.0 v.0.1)
        items_one (loop_on h x y) (loop_on k p q) same loops here v w =
            let back = subst (λ b. FollowsItem f g (loop_on b p q)) (sym same) w in
            let at : v.0.0 ≡ back.0.0 = same_Some v.0.0 back.0.0 (sym v.0.1 ∙ back.0.1) in
            let before = regions_one x p (At (Block v.0.0)) (continue_facts g h v.0.0 v.0.1).reached v.0.2 (subst (λ c. Follows f g p (At (Block c))) (sym at) back.0.2) in
            let one = regions_one y q (At (Body h)) here v.1 back.1 in
            λ i. loop_on (same i) (before i) (one i)
        items_one (loop_on h x y) (switch k ks) same loops here v w = cc
        items_one (switch h gs) (plain c) same loops here v w = absurd (plain_switch (nth g h).exit (ap (λ q. is_plain (nth g q).exit) same ∙ w) v.0)
        items_one (switch h gs) (choose k p q) same loops here v w = absurd (conditional_switch (nth g h).exit (ap (λ q. is_conditional (nth g q).exit) same ∙ w.0) v.0)
        items_one (switch h gs) (loose k p q) same loops here v w = absurd (conditional_switch (nth g h).exit (ap (λ q. is_conditional (nth g q).exit) same ∙ w.0) v.0)
        items_one (switch h gs) (loop k p) same loops here v w = cc
        items_one (switch h gs) (loop_on k p q) same loops here v w = cc
        items_one (switch h gs) (switch k ks) same loops here v w =
            let back = subst (λ b. FollowsItem f g (switch b ks)) (sym same) w in
            let all = groups_one gs ks h here (subst (AllLead g h) (sym v.1) (filter_leads g h (range_with_len 0 (length g)))) (v.1 ∙ sym back.1) v.2 back.2 in
            λ i. switch (same i) (all i)

        groups_one : (gs ks : Groups) (h : ℕ) → (nth g h).reached ≡ true → AllLead g h (targets gs) → targets gs ≡ targets ks → FollowsGroups f g gs h → FollowsGroups f g ks h → gs ≡ ks
        groups_one none none h here all same v w = refl
        groups_one none (group u ms e z ks) h here all same v w = cc
        groups_one (group t ls d x gs) none h here all same v w = cc
        groups_one (group t ls d x gs) (group u ms e z ks) h here all same v w =
            let at : t ≡ u = cc in
            let behind : targets gs ≡ targets ks = cc in
            let back = subst (λ q. FollowsGroups f g (group q ms e z ks) h) (sym at) w in
            let labels : ls ≡ ms = v.0 ∙ sym back.0 in
            let default : d ≡ e = v.1 ∙ sym back.1 in
            let there = carried_one h t v.2.0 back.2.0 here all.0 v.2.1 back.2.1 in
            let body = regions_one x z v.2.0 (carried_reached h t v.2.0 here all.0 v.2.1) v.2.2 (subst (Follows f g z) (sym there) back.2.2) in
            let rest = groups_one gs ks h here all.1 behind v.3 back.3 in
            λ k. group (at k) (labels k) (default k) (body k) (rest k)

-- two trees of a function are one
pub tree_one : (f : Function) → IsSound (graph f) → (r q : Region) → IsTree f r → IsTree f q → r ≡ q
tree_one f sound r q v w = regions_one (graph f) sound f r q (first (graph f)) (begins (graph f) (first_reached f)) v w
  where
    begins : (g : List Node) → (0 < length g → (nth g 0).reached ≡ true) → IsReached g (first g)
    begins [] here = tt
    begins (n ∷ g) here = here (let some : 0 < suc (length g) = omega arith in some)
