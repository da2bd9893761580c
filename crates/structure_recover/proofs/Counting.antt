-- In a tree that follows the edges a block or a loop stands as often as its parent.
use Rattle.std.proofs.Common.{◌≡◌, ◌+◌, ℕ, Bool, true, false, List, [], ◌∷◌, ◌++◌, length, if◌then◌else◌, Some, None, refl, ap, sym, ◌∙◌, subst, arith}
use Rattle.std.specs.List.{range_with_len}
use Rattle.spv_module.specs.declared.inst.Function.{Function}
use Rattle.structure_rules.specs.declared.graph.Exit.{Exit as Terminator}
use Rattle.structure_rules.specs.declared.graph.Exit.TheVariants as terminator
use Rattle.structure_rules.specs.declared.graph.Node.{Node}
use Rattle.structure_rules.specs.Graph.{nth, leads_to, is_conditional, is_switch, is_selection}
use Rattle.nest_place.specs.Nests.{IsSound}
use Rattle.structure_recover.specs.declared.region.Exit.TheVariants.{Closed}
use Rattle.structure_recover.specs.declared.edges.Start.{Start}
use Rattle.structure_recover.specs.declared.edges.Start.TheVariants.{Block, Body}
use Rattle.structure_recover.specs.declared.edges.Next.{Next}
use Rattle.structure_recover.specs.declared.edges.Next.TheVariants.{At, Stop}
use Rattle.structure_recover.specs.Tree.{Region, ends, item, Item, plain, choose, loose, loop, loop_on, switch, Groups, none, group, head, is_loop, targets}
use Rattle.structure_recover.specs.Follows.{heads_loop, is_plain, target, Carries, CarriesTo, merged, IsAfter, IsBehind, IsBehindBlock, StandsAt, continue_block, switch_targets, Follows, FollowsItem, FollowsGroups}
use Rattle.structure_recover.specs.Once.{Around, own_around, round, around}
use Rattle.structure_recover.proofs.Rounds.{IsRound, IsRoundItem, AllLead, round_item, filter_leads, inside, carried, behind_round, continue_facts, conditional_no_switch}

-- a test on items, by whether they are loops and by their head
abbrev pub Test : Type 0
Test = Bool → ℕ → Bool

abbrev pub one : Bool → ℕ
one b = if b then 1 else 0

-- the item at which control goes on passes
abbrev pub hits : List Node → Test → Next → ℕ
hits g q (At (Block b)) = one (q (heads_loop g b) b)
hits g q (At (Body h)) = one (q false h)
hits g q (Stop e) = 0

-- how many items pass
module _ (q : Test) where
  abbrev mutual
    pub times : Region → ℕ
    times (ends e) = 0
    times (item i r) = one (q (is_loop i) (head i)) + inner_times i + times r

    pub inner_times : Item → ℕ
    inner_times (plain b) = 0
    inner_times (choose h x y) = times x + times y
    inner_times (loose h x y) = times x + times y
    inner_times (loop h x) = times x
    inner_times (loop_on h z x) = times z + times x
    inner_times (switch h gs) = group_times gs

    pub group_times : Groups → ℕ
    group_times none = 0
    group_times (group t labels default x gs) = times x + group_times gs

abbrev pub kid_sum : (ℕ → ℕ) → List ℕ → ℕ
kid_sum kid [] = 0
kid_sum kid (t ∷ ts) = kid t + kid_sum kid ts

-- of the items to which one leads, as many pass q as the item itself passes p
pub record IsStep (f : Function) (g : List Node) (q p : Test) : Type 0 where
  pub plain_step : (b : ℕ) (n : Next) → (nth g b).reached ≡ true → is_plain (nth g b).exit ≡ true → IsAfter f g b (nth g b).exit n → hits g q n ≡ one (p false b)
  pub choose_step : (h : ℕ) (n m : Next) → (nth g h).reached ≡ true → is_conditional (nth g h).exit ≡ true → is_selection (nth g h).merge ≡ true → CarriesTo g h (target g h 0) n → CarriesTo g h (target g h 1) m → hits g q n + hits g q m + hits g q (merged g h) ≡ one (p false h)
  pub loose_step : (h : ℕ) (n m : Next) → (nth g h).reached ≡ true → is_conditional (nth g h).exit ≡ true → is_selection (nth g h).merge ≡ false → CarriesTo g h (target g h 0) n → CarriesTo g h (target g h 1) m → hits g q n + hits g q m ≡ one (p false h)
  pub loop_step : (h : ℕ) → (nth g h).reached ≡ true → heads_loop g h ≡ true → continue_block g h ≡ None → one (q false h) + hits g q (merged g h) ≡ one (p true h)
  pub loop_on_step : (h c : ℕ) → (nth g h).reached ≡ true → heads_loop g h ≡ true → continue_block g h ≡ Some c → hits g q (At (Block c)) + one (q false h) + hits g q (merged g h) ≡ one (p true h)
  pub kid : ℕ → ℕ → ℕ
  pub kid_step : (h t : ℕ) (n : Next) → (nth g h).reached ≡ true → leads_to t (nth g h) ≡ true → Carries g h t n → hits g q n ≡ kid h t
  pub switch_step : (h : ℕ) → (nth g h).reached ≡ true → is_switch (nth g h).exit ≡ true → kid_sum (kid h) (switch_targets g h) + hits g q (merged g h) ≡ one (p false h)

-- an item passes where it stands
start_hits : (g : List Node) (q : Test) (i : Item) (s : Start) → StandsAt g i s → one (q (is_loop i) (head i)) ≡ hits g q (At s)
start_hits g q i (Block b) at = ap (λ h. one (q (is_loop i) h)) at.0 ∙ ap (λ x. one (q x b)) at.1
start_hits g q i (Body h) at = ap (λ k. one (q (is_loop i) k)) at.0 ∙ ap (λ x. one (q x h)) at.1

conditional_is : (x : Terminator) → is_conditional x ≡ true → x ≡ terminator.Conditional
conditional_is terminator.Branch e = cc
conditional_is terminator.Conditional e = refl
conditional_is terminator.Switch e = cc
conditional_is terminator.Leave e = cc

switch_is : (x : Terminator) → is_switch x ≡ true → x ≡ terminator.Switch
switch_is terminator.Branch e = cc
switch_is terminator.Conditional e = cc
switch_is terminator.Switch e = refl
switch_is terminator.Leave e = cc

module _ (f : Function) (g : List Node) where
  behind_loop : (i : Item) (s : Start) (n : Next) → StandsAt g i s → is_loop i ≡ true → IsBehind f g s n → n ≡ merged g (head i)
  behind_loop i (Block b) n at is a =
      let loops : heads_loop g b ≡ true = sym at.1 ∙ is in
      subst (IsBehindBlock f g b n) loops a ∙ ap (merged g) (sym at.0)
  behind_loop i (Body h) n at is a = let never : true ≡ false = sym is ∙ at.1 in cc

  behind_block : (i : Item) (s : Start) (n : Next) → StandsAt g i s → is_loop i ≡ false → IsBehind f g s n → IsAfter f g (head i) (nth g (head i)).exit n
  behind_block i (Block b) n at is a =
      let loops : heads_loop g b ≡ false = sym at.1 ∙ is in
      subst (λ h. IsAfter f g h (nth g h).exit n) (sym at.0) (subst (IsBehindBlock f g b n) loops a)
  behind_block i (Body h) n at is a = subst (λ h. IsAfter f g h (nth g h).exit n) (sym at.0) a

  after_selection : (h : ℕ) (n : Next) → is_conditional (nth g h).exit ≡ true → is_selection (nth g h).merge ≡ true → IsAfter f g h (nth g h).exit n → n ≡ merged g h
  after_selection h n con sel a =
      subst (λ x. IsAfter f g h x n) (conditional_is (nth g h).exit con) a ∙ ap (λ b. if b then merged g h else Stop Closed) sel

  after_loose : (h : ℕ) (n : Next) → is_conditional (nth g h).exit ≡ true → is_selection (nth g h).merge ≡ false → IsAfter f g h (nth g h).exit n → n ≡ Stop Closed
  after_loose h n con sel a =
      subst (λ x. IsAfter f g h x n) (conditional_is (nth g h).exit con) a ∙ ap (λ b. if b then merged g h else Stop Closed) sel

  after_switch : (h : ℕ) (n : Next) → is_switch (nth g h).exit ≡ true → IsAfter f g h (nth g h).exit n → n ≡ merged g h
  after_switch h n is a = subst (λ x. IsAfter f g h x n) (switch_is (nth g h).exit is) a

module _ (f : Function) (g : List Node) (sound : IsSound g) (q p : Test) (step : IsStep f g q p) where
  mutual
    pub times_follow : (r : Region) (n : Next) (ps : List Around) → Follows f g r n → IsRound g n ps → times q r ≡ hits g q n + times p r
    times_follow (ends e) n ps fo ro = sym (ap (λ m. hits g q m + 0) fo)
    times_follow (item i r) (Stop e) ps fo ro = absurd fo
    times_follow (item i r) (At s) ps fo ro =
        let here = round_item g i s ps fo.0 ro in
        let n = fo.2.0 in
        let rest : times q r ≡ hits g q n + times p r = times_follow r n ps fo.2.2 (behind_round f g sound s n ps ro fo.2.1) in
        let all : inner_times q i + hits g q n ≡ one (p (is_loop i) (head i)) + inner_times p i = item_follows i s n ps fo.0 fo.1 fo.2.1 here in
        let same : one (q (is_loop i) (head i)) ≡ hits g q (At s) = start_hits g q i s fo.0 in
        omega (arith, rest, all, same)

    item_follows : (i : Item) (s : Start) (n : Next) (ps : List Around) → StandsAt g i s → FollowsItem f g i → IsBehind f g s n → IsRoundItem g (is_loop i) (head i) ps → inner_times q i + hits g q n ≡ one (p (is_loop i) (head i)) + inner_times p i
    item_follows (plain b) s n ps at fo be ro =
        let e : hits g q n ≡ one (p false b) = step.plain_step b n ro.0 fo (behind_block f g (plain b) s n at refl be) in omega (arith, e)
    item_follows (choose h x y) s n ps at fo be ro =
        let off = conditional_no_switch (nth g h).exit fo.0 in
        let a : times q x ≡ hits g q fo.2.0 + times p x = times_follow x fo.2.0 (own_around g h ++ round g h) fo.2.2 (inside f g sound h 0 fo.2.0 (own_around g h ++ round g h) ro.0 off refl fo.2.1) in
        let b : times q y ≡ hits g q fo.3.0 + times p y = times_follow y fo.3.0 (own_around g h ++ round g h) fo.3.2 (inside f g sound h 1 fo.3.0 (own_around g h ++ round g h) ro.0 off refl fo.3.1) in
        let c : hits g q fo.2.0 + hits g q fo.3.0 + hits g q (merged g h) ≡ one (p false h) = step.choose_step h fo.2.0 fo.3.0 ro.0 fo.0 fo.1 fo.2.1 fo.3.1 in
        let d : hits g q n ≡ hits g q (merged g h) = ap (hits g q) (after_selection f g h n fo.0 fo.1 (behind_block f g (choose h x y) s n at refl be)) in
        omega (arith, a, b, c, d)
    item_follows (loose h x y) s n ps at fo be ro =
        let off = conditional_no_switch (nth g h).exit fo.0 in
        let a : times q x ≡ hits g q fo.2.0 + times p x = times_follow x fo.2.0 (own_around g h ++ round g h) fo.2.2 (inside f g sound h 0 fo.2.0 (own_around g h ++ round g h) ro.0 off refl fo.2.1) in
        let b : times q y ≡ hits g q fo.3.0 + times p y = times_follow y fo.3.0 (own_around g h ++ round g h) fo.3.2 (inside f g sound h 1 fo.3.0 (own_around g h ++ round g h) ro.0 off refl fo.3.1) in
        let c : hits g q fo.2.0 + hits g q fo.3.0 ≡ one (p false h) = step.loose_step h fo.2.0 fo.3.0 ro.0 fo.0 fo.1 fo.2.1 fo.3.1 in
        let d : hits g q n ≡ 0 = ap (hits g q) (after_loose f g h n fo.0 fo.1 (behind_block f g (loose h x y) s n at refl be)) in
        omega (arith, a, b, c, d)
    item_follows (loop h x) s n ps at fo be ro =
        let a : times q x ≡ one (q false h) + times p x = times_follow x (At (Body h)) (around g h) fo.1 (ro.0, refl, ro.2) in
        let c : one (q false h) + hits g q (merged g h) ≡ one (p true h) = step.loop_step h ro.0 ro.2 fo.0 in
        let d : hits g q n ≡ hits g q (merged g h) = ap (hits g q) (behind_loop f g (loop h x) s n at refl be) in
        omega (arith, a, c, d)
    item_follows (loop_on h z x) s n ps at fo be ro =
        let at_c = continue_facts g h fo.0.0 fo.0.1 in
        let a : times q z ≡ hits g q (At (Block fo.0.0)) + times p z = times_follow z (At (Block fo.0.0)) (round g fo.0.0) fo.0.2 (at_c.reached, refl) in
        let b : times q x ≡ one (q false h) + times p x = times_follow x (At (Body h)) (around g h) fo.1 (ro.0, refl, ro.2) in
        let c : hits g q (At (Block fo.0.0)) + one (q false h) + hits g q (merged g h) ≡ one (p true h) = step.loop_on_step h fo.0.0 ro.0 ro.2 fo.0.1 in
        let d : hits g q n ≡ hits g q (merged g h) = ap (hits g q) (behind_loop f g (loop_on h z x) s n at refl be) in
        omega (arith, a, b, c, d)
    item_follows (switch h gs) s n ps at fo be ro =
        let a : group_times q gs ≡ kid_sum (step.kid h) (targets gs) + group_times p gs = groups_follow gs h ro.0 (subst (AllLead g h) (sym fo.1) (filter_leads g h (range_with_len 0 (length g)))) fo.2 in
        let b : kid_sum (step.kid h) (targets gs) ≡ kid_sum (step.kid h) (switch_targets g h) = ap (kid_sum (step.kid h)) fo.1 in
        let c : kid_sum (step.kid h) (switch_targets g h) + hits g q (merged g h) ≡ one (p false h) = step.switch_step h ro.0 fo.0 in
        let d : hits g q n ≡ hits g q (merged g h) = ap (hits g q) (after_switch f g h n fo.0 (behind_block f g (switch h gs) s n at refl be)) in
        omega (arith, a, b, c, d)

    groups_follow : (gs : Groups) (h : ℕ) → (nth g h).reached ≡ true → AllLead g h (targets gs) → FollowsGroups f g gs h → group_times q gs ≡ kid_sum (step.kid h) (targets gs) + group_times p gs
    groups_follow none h here all fo = refl
    groups_follow (group t labels default x gs) h here all fo =
        let a : times q x ≡ hits g q fo.2.0 + times p x = times_follow x fo.2.0 (round g t) fo.2.2 (carried f g sound h t fo.2.0 (round g t) here all.0 fo.2.1 (λ e. refl)) in
        let b : group_times q gs ≡ kid_sum (step.kid h) (targets gs) + group_times p gs = groups_follow gs h here all.1 fo.3 in
        let c : hits g q fo.2.0 ≡ step.kid h t = step.kid_step h t fo.2.0 here all.0 fo.2.1 in
        omega (arith, a, b, c)
