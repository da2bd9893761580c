-- The statements of a tree of regions are those of its blocks, each within what stands round its block there.
use Rattle.std.proofs.Common.{◌≡◌, ◌≤◌, ◌+◌, ◌==◌, ℕ, zero, suc, Bool, true, false, List, [], ◌∷◌, ◌++◌, cond, Option, Some, None, map, filter, flat_map, nat_eq, refl, sym, ◌∙◌, ap, subst, arith, append_assoc, append-nil, inl, inr, if◌then◌else◌}
use Rattle.std.specs.Option.{option_map_or}
use Rattle.std.specs.List.{AllZip}
use Rattle.std.specs.Map.{update, update_all}
use Rattle.std.proofs.lemmas.List.Elements.{filter-append}
use Rattle.spv_module.specs.declared.inst.Function.{Function}
use Rattle.structure_rules.specs.declared.graph.Node.{Node}
use Rattle.structure_rules.specs.declared.graph.Part.TheVariants.{If, Loop, Cont, Case}
use Rattle.structure_rules.specs.declared.graph.Exit.{Exit as Terminator}
use Rattle.structure_rules.specs.declared.graph.Exit.TheVariants as terminator
use Rattle.structure_rules.specs.Graph.{nth, merge_block, is_conditional, is_switch, is_selection}
use Rattle.structure_recover.specs.declared.region.Exit.TheVariants.{Closed}
use Rattle.structure_recover.specs.declared.edges.Start.{Start}
use Rattle.structure_recover.specs.declared.edges.Start.TheVariants.{Block, Body}
use Rattle.structure_recover.specs.declared.edges.Next.{Next}
use Rattle.structure_recover.specs.declared.edges.Next.TheVariants.{At, Stop}
use Rattle.structure_recover.specs.Tree.{Region, ends, item, Item, plain, choose, loose, loop, loop_on, switch, Groups, none, group, head, is_loop, targets}
use Rattle.structure_recover.specs.Follows.{heads_loop, is_plain, target, Carries, CarriesTo, if_reached, merged, IsAfter, IsBehindBlock, IsBehind, StandsAt, continue_block, switch_targets, Follows, FollowsItem, FollowsGroups}
use Rattle.structure_recover.specs.Once.{Around, within, branch, stands, item_stands, group_stands}
use Rattle.glsl_ast.specs.Tree.{Text, Expr, name}
use Rattle.control_text.specs.declared.place.Place.{Place}
use Rattle.control_text.specs.Statements.{Blocks, groups_have_break, inside_loop, inside_switch}
use Rattle.region_law.specs.Leads.{In, AreApart}
use Rattle.claim_law.specs.Blocks.{IsWhole, IsWholeItem, AreWhole}
use Rattle.text_law.specs.Deeds.{Deed}
use Rattle.text_law.specs.Walks.{Outer}
use Rattle.text_law.specs.Pairs.{Act, repeats, branches, selects, exit_acts, with_round, Pair, turns, chooses, tests, guards, does, is_done, Site, is_of, Frame, turn, choice, test, frame_of, frames_in, Naming, is_again, AreGuards, IsPlaced}
use Rattle.text_law.specs.Quiet.{AreFlags}
use Rattle.text_law.specs.Paired.{denied}
use Rattle.text_law.proofs.Shape.Sited.{site, Sited, guard_sites, bare_sites, one_sites, arms_sites, done_sites, behind_sites, region_sites, item_sites, groups_sites}
use Rattle.text_law.proofs.Shape.Together.{one_if, count, count-both}
use Rattle.text_law.proofs.Shape.Turned.{told, in_turn, all_of, keys, AreEmpty, AtMostOne, turned}

-- control goes on in no loop's body
abbrev pub NotBody : Next → Type 0
NotBody (At (Body h)) = ⊥
NotBody (At (Block b)) = Unit {0}
NotBody (Stop e) = Unit {0}

module _ (f : Function) (g : List Node) where
  carried : (b : ℕ) (o : Option ℕ) (n : Next) → CarriesTo g b o n → NotBody n
  carried b None (At (Body h)) is = cc
  carried b (Some t) (At (Body h)) is = is
  carried b o (At (Block u)) is = tt
  carried b o (Stop e) is = tt

  carries : (b t : ℕ) (n : Next) → Carries g b t n → NotBody n
  carries b t (At (Body h)) is = is
  carries b t (At (Block u)) is = tt
  carries b t (Stop e) is = tt

  reached-off : (o : Option ℕ) (h : ℕ) → At (Body h) ≡ if_reached g o → ⊥
  reached-off None h e = cc
  reached-off (Some m) h e = by_test (nth g m).reached e
    where
      by_test : (b : Bool) → At (Body h) ≡ (if b then At (Block m) else Stop Closed) → ⊥
      by_test true e = cc
      by_test false e = cc

  after-off : (b h : ℕ) (x : Terminator) → IsAfter f g b x (At (Body h)) → ⊥
  after-off b h terminator.Branch is = carried b (target g b 0) (At (Body h)) is
  after-off b h terminator.Leave is = cc
  after-off b h terminator.Switch is = reached-off (merge_block g b) h is
  after-off b h terminator.Conditional is = by_test (is_selection (nth g b).merge) is
    where
      by_test : (t : Bool) → At (Body h) ≡ (if t then merged g b else Stop Closed) → ⊥
      by_test true e = reached-off (merge_block g b) h e
      by_test false e = cc

  behind-off : (s : Start) (n : Next) → IsBehind f g s n → NotBody n
  behind-off s (At (Block u)) is = tt
  behind-off s (Stop e) is = tt
  behind-off (Body k) (At (Body h)) is = after-off k h (nth g k).exit is
  behind-off (Block b) (At (Body h)) is = by_test (heads_loop g b) is
    where
      by_test : (t : Bool) → IsBehindBlock f g b (At (Body h)) t → ⊥
      by_test true e = reached-off (merge_block g b) h e
      by_test false e = after-off b h (nth g b).exit e

conditional-acts : (x : Terminator) → is_conditional x ≡ true → exit_acts x ≡ branches ∷ []
conditional-acts terminator.Conditional on = refl
conditional-acts x on = cc

switch-acts : (x : Terminator) → is_switch x ≡ true → exit_acts x ≡ selects ∷ []
switch-acts terminator.Switch on = refl
switch-acts x on = cc

plain-acts : (x : Terminator) → is_plain x ≡ true → exit_acts x ≡ []
plain-acts terminator.Branch on = refl
plain-acts terminator.Leave on = refl
plain-acts terminator.Conditional on = cc
plain-acts terminator.Switch on = cc

-- what stands round the first
abbrev pub behind : List Around → List Around
behind [] = []
behind (x ∷ xs) = xs

module _ (o : Outer) (found : Naming) where
  abbrev Zip : List (Act × List Around) → List Site → Type 0
  Zip xs ss = AllZip (IsPlaced o found) xs ss

  zip-both : (xs ys : List (Act × List Around)) (ss ts : List Site) → Zip xs ss → Zip ys ts → Zip (xs ++ ys) (ss ++ ts)
  zip-both [] ys [] ts p q = q
  zip-both [] ys (s ∷ ss) ts p q = absurd p
  zip-both (x ∷ xs) ys [] ts p q = absurd p
  zip-both (x ∷ xs) ys (s ∷ ss) ts p q = (p.0, zip-both xs ys ss ts p.1 q)

  -- the pairs round a statement are what stands round it
  abbrev Fits : List Pair → List Around → Type 0
  Fits round rnd = (flat_map frames_in round ≡ map frame_of rnd) × AreGuards found is_again round

  module _ (b : ℕ) where
    abbrev mine : List Site → List Site
    mine ss = filter (is_of b) ss

    own-true : (h : ℕ) (round : List Pair) (dss : List (List Deed)) (extra : List Site) → (h == b) ≡ true → mine (map (λ ds. site (does h ds) round) dss ++ extra) ≡ map (λ ds. site (does h ds) round) dss ++ mine extra
    own-true h round [] extra on = refl
    own-true h round (ds ∷ dss) extra on =
        ap (λ (t : Bool). if t then site (does h ds) round ∷ mine (map (λ ds. site (does h ds) round) dss ++ extra) else mine (map (λ ds. site (does h ds) round) dss ++ extra)) on
        ∙ ap (λ (l : List Site). site (does h ds) round ∷ l) (own-true h round dss extra on)

    own-false : (h : ℕ) (round : List Pair) (dss : List (List Deed)) (extra : List Site) → (h == b) ≡ false → mine (map (λ ds. site (does h ds) round) dss ++ extra) ≡ mine extra
    own-false h round [] extra off = refl
    own-false h round (ds ∷ dss) extra off =
        ap (λ (t : Bool). if t then site (does h ds) round ∷ mine (map (λ ds. site (does h ds) round) dss ++ extra) else mine (map (λ ds. site (does h ds) round) dss ++ extra)) off
        ∙ own-false h round dss extra off

    zip-done : (h : ℕ) (rnd : List Around) (round : List Pair) → Fits round rnd → (as' : List Act) (dss : List (List Deed)) → AllZip (λ (a : Act) (ds : List Deed). is_done o a (does h ds) ≡ true) as' dss → (more : List Act) (extra : List Site)
        → Zip (map (with_round rnd) more) extra → Zip (map (with_round rnd) (as' ++ more)) (map (λ ds. site (does h ds) round) dss ++ extra)
    zip-done h rnd round fits [] [] all more extra rest = rest
    zip-done h rnd round fits [] (ds ∷ dss) all more extra rest = absurd all
    zip-done h rnd round fits (a ∷ as') [] all more extra rest = absurd all
    zip-done h rnd round fits (a ∷ as') (ds ∷ dss) all more extra rest =
        (record { done = all.0; framed = fits.0; guarded = fits.1 }, zip-done h rnd round fits as' dss all.1 more extra rest)

    guard-none : (x : Option Text) (c : Text → Expr) (round : List Pair) → mine (guard_sites x c bare_sites round) ≡ []
    guard-none None c round = refl
    guard-none (Some t) c round = refl

    -- a loop's `for`, before what stands in its body
    loop-zip : (t heads : Bool) (x : Act × List Around) (s : Site) (xs ys : List (Act × List Around)) (ss : List Site) → heads ≡ true → IsPlaced o found x s → Zip ((if t then xs else []) ++ ys) ss
        → Zip ((if t then (if heads then x ∷ [] else []) ++ xs else []) ++ ys) (if t then s ∷ ss else ss)
    loop-zip true true x s xs ys ss on placed rest = (placed, rest)
    loop-zip true false x s xs ys ss on placed rest = cc
    loop-zip false heads x s xs ys ss on placed rest = rest

    -- and before its continue construct, which has nothing of its header
    on-zip : (t : Bool) (s : Site) (zs xs : List (Act × List Around)) (us ss : List Site) → Zip zs us → Zip xs (if t then s ∷ ss else ss) → (t ≡ true → zs ≡ []) → Zip (zs ++ xs) (if t then s ∷ us ++ ss else us ++ ss)
    on-zip false s zs xs us ss p q off = zip-both zs xs us ss p q
    on-zip true s [] xs [] ss p q off = q
    on-zip true s [] xs (u ∷ us) ss p q off = absurd p
    on-zip true s (z ∷ zs) xs us ss p q off = (let never = off refl in cc)

  module _ (f : Function) (g : List Node) (w : Blocks) (seen : ℕ → List (List Deed)) (acts : ℕ → List Act) (IsHere : ℕ → Type 0) (Chooses : ℕ → Type 0) (Leads : ℕ → ℕ → Type 0)
      (done : (h : ℕ) → IsHere h → AllZip (λ (a : Act) (ds : List Deed). is_done o a (does h ds) ≡ true) (acts h) (seen h))
      (again : (h c : ℕ) → IsHere h → continue_block g h ≡ Some c → (x : Text) × (w.again h ≡ Some x))
      (flags : AreFlags found w)
      (orders : (h : ℕ) → IsHere h → is_switch (nth g h).exit ≡ true → AreApart (switch_targets g h) × ((t : ℕ) → In t (switch_targets g h) → In t (w.order h)))
      (b : ℕ) where
    -- the statements of a block within these
    abbrev inner : ℕ → List Around → List (Act × List Around)
    inner h rnd = map (with_round rnd) (acts h ++ exit_acts (nth g h).exit)

    abbrev pub whole_of : ℕ → List Around → List (Act × List Around)
    whole_of h rnd = (if heads_loop g h then (repeats, behind rnd) ∷ [] else []) ++ inner h rnd

    -- those of the block b
    abbrev pub told_of : List (ℕ × List Around) → List (Act × List Around)
    told_of [] = []
    told_of (s ∷ ss) = (if s.0 == b then whole_of s.0 s.1 else []) ++ told_of ss

    told-both : (xs ys : List (ℕ × List Around)) → told_of (xs ++ ys) ≡ told_of xs ++ told_of ys
    told-both [] ys = refl
    told-both (x ∷ xs) ys =
        ap (λ (l : List (Act × List Around)). (if x.0 == b then whole_of x.0 x.1 else []) ++ l) (told-both xs ys)
        ∙ sym (append_assoc (if x.0 == b then whole_of x.0 x.1 else []) (told_of xs) (told_of ys))

    told-none : (xs : List (ℕ × List Around)) → count b xs ≡ 0 → told_of xs ≡ []
    told-none [] off = refl
    told-none (x ∷ xs) off = by_test (x.0 == b) off (told-none xs)
      where
        by_test : (t : Bool) → one_if t + count b xs ≡ 0 → (count b xs ≡ 0 → told_of xs ≡ []) → (if t then whole_of x.0 x.1 else []) ++ told_of xs ≡ []
        by_test true off rest = absurd (omega (arith, off))
        by_test false off rest = rest (omega (arith, off))

    abbrev Holds : List (ℕ × List Around) → List Site → Type 0
    Holds xs ss = Zip (told_of xs) (mine b ss)

    joined : (xs ys : List (ℕ × List Around)) (ss ts : List Site) → Holds xs ss → Holds ys ts → Holds (xs ++ ys) (ss ++ ts)
    joined xs ys ss ts p q =
        subst (λ l. Zip l (mine b (ss ++ ts))) (sym (told-both xs ys)) (subst (λ l. Zip (told_of xs ++ told_of ys) l) (sym (filter-append (is_of b) ss ts)) (zip-both (told_of xs) (told_of ys) (mine b ss) (mine b ts) p q))

    own : (h : ℕ) (rnd : List Around) (round : List Pair) (ex : List Act) (extra : List Site) → IsHere h → Fits round rnd → exit_acts (nth g h).exit ≡ ex → Zip (map (with_round rnd) ex) extra → ((h == b) ≡ true → mine b extra ≡ extra) → ((h == b) ≡ false → mine b extra ≡ [])
        → Zip (if h == b then inner h rnd else []) (mine b (done_sites w seen h round ++ extra))
    own h rnd round ex extra here fits ex_is placed on off = by_test (h == b) refl
      where
        by_test : (t : Bool) → (h == b) ≡ t → Zip (if t then inner h rnd else []) (mine b (done_sites w seen h round ++ extra))
        by_test true is =
            subst (λ l. Zip (inner h rnd) l) (sym (own-true b h round (seen h) extra is ∙ ap (λ (l : List Site). done_sites w seen h round ++ l) (on is)))
            (subst (λ (l : List Act). Zip (map (with_round rnd) (acts h ++ l)) (done_sites w seen h round ++ extra)) (sym ex_is) (zip-done b h rnd round fits (acts h) (seen h) (done h here) ex extra placed))
        by_test false is = subst (λ l. Zip [] l) (sym (own-false b h round (seen h) extra is ∙ off is)) tt

    -- what ends a block, and what stands inside it
    own-with : (xs ys : List (Act × List Around)) (ds : List Site) (s : Site) (ts : List Site) → Zip xs (mine b (ds ++ (s ∷ []))) → Zip ys (mine b ts) → Zip (xs ++ ys) (mine b (ds ++ (s ∷ ts)))
    own-with xs ys ds s ts p q =
        subst (λ l. Zip (xs ++ ys) l) (sym (ap (mine b) (sym (append_assoc ds (s ∷ []) ts)) ∙ filter-append (is_of b) (ds ++ (s ∷ [])) ts)) (zip-both xs ys (mine b (ds ++ (s ∷ []))) (mine b ts) p q)

    own-test : (h : ℕ) (rnd : List Around) (round : List Pair) → IsHere h → Fits round rnd → is_conditional (nth g h).exit ≡ true → Zip (if h == b then inner h rnd else []) (mine b (done_sites w seen h round ++ (site (tests h (w.condition h)) round ∷ [])))
    own-test h rnd round here fits is =
        own h rnd round (branches ∷ []) (site (tests h (w.condition h)) round ∷ []) here fits (conditional-acts (nth g h).exit is) (record { done = refl; framed = fits.0; guarded = fits.1 }, tt)
        (λ on. ap (λ (t : Bool). if t then site (tests h (w.condition h)) round ∷ [] else []) on) (λ off. ap (λ (t : Bool). if t then site (tests h (w.condition h)) round ∷ [] else []) off)

    own-choice : (h : ℕ) (rnd : List Around) (round : List Pair) → IsHere h → Fits round rnd → is_switch (nth g h).exit ≡ true → Zip (if h == b then inner h rnd else []) (mine b (done_sites w seen h round ++ (site (chooses h) round ∷ [])))
    own-choice h rnd round here fits is =
        own h rnd round (selects ∷ []) (site (chooses h) round ∷ []) here fits (switch-acts (nth g h).exit is) (record { done = refl; framed = fits.0; guarded = fits.1 }, tt)
        (λ on. ap (λ (t : Bool). if t then site (chooses h) round ∷ [] else []) on) (λ off. ap (λ (t : Bool). if t then site (chooses h) round ∷ [] else []) off)

    -- the blocks inside that for which an item stands
    abbrev kids : List Around → Item → List (ℕ × List Around)
    kids rnd (plain h) = []
    kids rnd (choose h x y) = stands (within (If h) ∷ rnd) x ++ stands (within (If h) ∷ rnd) y
    kids rnd (loose h x y) = stands (branch h ∷ rnd) x ++ stands (branch h ∷ rnd) y
    kids rnd (loop h x) = []
    kids rnd (loop_on h z x) = []
    kids rnd (switch h gs) = group_stands rnd h gs

    kids-are : (rnd : List Around) (i : Item) → is_loop i ≡ false → item_stands rnd i ≡ (head i, rnd) ∷ kids rnd i
    kids-are rnd (plain h) off = refl
    kids-are rnd (choose h x y) off = refl
    kids-are rnd (loose h x y) off = refl
    kids-are rnd (loop h x) off = cc
    kids-are rnd (loop_on h z x) off = cc
    kids-are rnd (switch h gs) off = refl

    head-here : (i : Item) → is_loop i ≡ false → IsWholeItem w IsHere Chooses Leads i → IsHere (head i)
    head-here (plain h) off whole = whole
    head-here (choose h x y) off whole = whole.0.0
    head-here (loose h x y) off whole = whole.0.0
    head-here (loop h x) off whole = cc
    head-here (loop_on h z x) off whole = cc
    head-here (switch h gs) off whole = whole.0.0

    abbrev Inside : Place → Item → List Around → List Pair → Type 0
    Inside p i rnd round = Zip ((if head i == b then inner (head i) rnd else []) ++ told_of (kids rnd i)) (mine b (item_sites w seen p i round))

    unlooped : (p : Place) (i : Item) (rnd : List Around) (round : List Pair) → is_loop i ≡ false → heads_loop g (head i) ≡ false → Inside p i rnd round → Holds (item_stands rnd i) (item_sites w seen p i round)
    unlooped p i rnd round off heads inside =
        subst (λ xs. Holds xs (item_sites w seen p i round)) (sym (kids-are rnd i off))
        (subst (λ (t : Bool). Zip ((if head i == b then (if t then (repeats, behind rnd) ∷ [] else []) ++ inner (head i) rnd else []) ++ told_of (kids rnd i)) (mine b (item_sites w seen p i round))) (sym heads) inside)

    heads-are : (i : Item) (t : ℕ) → StandsAt g i (Block t) → heads_loop g (head i) ≡ is_loop i
    heads-are i t stands_at = ap (heads_loop g) stands_at.0 ∙ sym stands_at.1

    -- the body of a loop, which begins with its header
    looped : (p : Place) (h : ℕ) (i : Item) (r : Region) (rnd : List Around) (round : List Pair) → head i ≡ h → is_loop i ≡ false → heads_loop g h ≡ true → Fits round rnd
        → Inside p i (within (Loop h) ∷ rnd) (turns h ∷ round) → Holds (stands (within (Loop h) ∷ rnd) r) (region_sites w seen p r (turns h ∷ round))
        → Holds (stands (within (Loop h) ∷ rnd) (item i r)) (site (turns h) round ∷ region_sites w seen p (item i r) (turns h ∷ round))
    looped p h i r rnd round same off heads fits inside rest =
        subst (λ xs. Zip (told_of (xs ++ stands R r)) (mine b (site (turns h) round ∷ Sites))) (sym (kids-are R i off))
        (subst (λ k. Zip ((if k == b then whole_of k R else []) ++ told_of (kids R i ++ stands R r)) (mine b (site (turns h) round ∷ Sites))) (sym same)
        (loop-zip b (h == b) (heads_loop g h) (repeats, rnd) (site (turns h) round) (inner h R) (told_of (kids R i ++ stands R r)) (mine b Sites) heads (record { done = refl; framed = fits.0; guarded = fits.1 })
        (subst (λ k. Zip ((if k == b then inner k R else []) ++ told_of (kids R i ++ stands R r)) (mine b Sites)) same
        (subst (λ l. Zip l (mine b Sites)) (append_assoc (if head i == b then inner (head i) R else []) (told_of (kids R i)) (told_of (stands R r)) ∙ ap (λ (l : List (Act × List Around)). (if head i == b then inner (head i) R else []) ++ l) (sym (told-both (kids R i) (stands R r))))
        (subst (λ l. Zip (((if head i == b then inner (head i) R else []) ++ told_of (kids R i)) ++ told_of (stands R r)) l) (sym (filter-append (is_of b) (item_sites w seen p i (turns h ∷ round)) (region_sites w seen p r (turns h ∷ round))))
        (zip-both ((if head i == b then inner (head i) R else []) ++ told_of (kids R i)) (told_of (stands R r)) (mine b (item_sites w seen p i (turns h ∷ round))) (mine b (region_sites w seen p r (turns h ∷ round))) inside rest))))))
      where
        R : List Around
        R = within (Loop h) ∷ rnd

        Sites : List Site
        Sites = region_sites w seen p (item i r) (turns h ∷ round)

    -- groups of a switch: what is told of each, and its statements
    abbrev groups_told : List Around → ℕ → Groups → List (ℕ × List (Act × List Around))
    groups_told rnd h none = []
    groups_told rnd h (group t labels default x gs) = (t, told_of (stands (within (Case h t) ∷ rnd) x)) ∷ groups_told rnd h gs

    keys-are : (rnd : List Around) (h : ℕ) (gs : Groups) → keys (Act × List Around) (groups_told rnd h gs) ≡ targets gs
    keys-are rnd h none = refl
    keys-are rnd h (group t labels default x gs) = ap (λ (l : List ℕ). t ∷ l) (keys-are rnd h gs)

    all-told : (rnd : List Around) (h : ℕ) (gs : Groups) → all_of (Act × List Around) (groups_told rnd h gs) ≡ told_of (group_stands rnd h gs)
    all-told rnd h none = refl
    all-told rnd h (group t labels default x gs) =
        ap (λ (l : List (Act × List Around)). told_of (stands (within (Case h t) ∷ rnd) x) ++ l) (all-told rnd h gs) ∙ sym (told-both (stands (within (Case h t) ∷ rnd) x) (group_stands rnd h gs))

    empty-told : (rnd : List Around) (h : ℕ) (gs : Groups) → count b (group_stands rnd h gs) ≡ 0 → AreEmpty (Act × List Around) (groups_told rnd h gs)
    empty-told rnd h none off = tt
    empty-told rnd h (group t labels default x gs) off =
        let both = count-both b (stands (within (Case h t) ∷ rnd) x) (group_stands rnd h gs) in
        (told-none (stands (within (Case h t) ∷ rnd) x) (omega (arith, off, both)), empty-told rnd h gs (omega (arith, off, both)))

    one-told : (rnd : List Around) (h : ℕ) (gs : Groups) → count b (group_stands rnd h gs) ≤ 1 → AtMostOne (Act × List Around) (groups_told rnd h gs)
    one-told rnd h none few = tt
    one-told rnd h (group t labels default x gs) few =
        by_count (count b (stands (within (Case h t) ∷ rnd) x)) refl (one-told rnd h gs (let both = count-both b (stands (within (Case h t) ∷ rnd) x) (group_stands rnd h gs) in omega (arith, few, both)))
      where
        by_count : (n : ℕ) → count b (stands (within (Case h t) ∷ rnd) x) ≡ n → AtMostOne (Act × List Around) (groups_told rnd h gs) → AtMostOne (Act × List Around) (groups_told rnd h (group t labels default x gs))
        by_count zero off rest = inl (told-none (stands (within (Case h t) ∷ rnd) x) off, rest)
        by_count (suc n) on rest = inr (empty-told rnd h gs (let both = count-both b (stands (within (Case h t) ∷ rnd) x) (group_stands rnd h gs) in omega (arith, few, both, on)))

    module _ (round : List Pair) where
      abbrev IsHeldArm : Option (List (Act × List Around)) → Option Sited → Type 0
      IsHeldArm None None = Unit {0}
      IsHeldArm None (Some s) = ⊥
      IsHeldArm (Some m) None = ⊥
      IsHeldArm (Some m) (Some s) = Zip m (mine b (s round))

      abbrev AreHeldArms : (ℕ → Option (List (Act × List Around))) → (ℕ → Option Sited) → Type 0
      AreHeldArms has sited = (t : ℕ) → IsHeldArm (has t) (sited t)

      updated-held : (has : ℕ → Option (List (Act × List Around))) (sited : ℕ → Option Sited) (t : ℕ) (m : Option (List (Act × List Around))) (s : Option Sited) → AreHeldArms has sited → IsHeldArm m s → AreHeldArms (update nat_eq has t m) (update nat_eq sited t s)
      updated-held has sited t m s each one u = by_test (nat_eq t u)
        where
          by_test : (c : Bool) → IsHeldArm (cond c m (has u)) (cond c s (sited u))
          by_test true = one
          by_test false = each u

      arms-held : (ts : List ℕ) (has : ℕ → Option (List (Act × List Around))) (sited : ℕ → Option Sited) → AreHeldArms has sited → Zip (in_turn (Act × List Around) ts has) (mine b (arms_sites ts sited round))
      arms-held [] has sited each = tt
      arms-held (t ∷ ts) has sited each =
          by_arm (has t) (sited t) (each t) (arms-held ts (update nat_eq has t None) (update nat_eq sited t None) (updated-held has sited t None None each tt))
        where
          by_arm : (m : Option (List (Act × List Around))) (s : Option Sited) → IsHeldArm m s → Zip (in_turn (Act × List Around) ts (update nat_eq has t None)) (mine b (arms_sites ts (update nat_eq sited t None) round))
              → Zip (told (Act × List Around) m ++ in_turn (Act × List Around) ts (update nat_eq has t None)) (mine b (one_sites s round ++ arms_sites ts (update nat_eq sited t None) round))
          by_arm None None is rest = rest
          by_arm None (Some s) is rest = absurd is
          by_arm (Some m) None is rest = absurd is
          by_arm (Some m) (Some s) is rest =
              subst (λ l. Zip (m ++ in_turn (Act × List Around) ts (update nat_eq has t None)) l) (sym (filter-append (is_of b) (s round) (arms_sites ts (update nat_eq sited t None) round)))
              (zip-both m (in_turn (Act × List Around) ts (update nat_eq has t None)) (mine b (s round)) (mine b (arms_sites ts (update nat_eq sited t None) round)) is rest)

    behind-none : (p : Place) (breaks : Bool) (round : List Pair) → mine b (behind_sites w seen p breaks round) ≡ []
    behind-none p true round = guard-none b (option_map_or w.leave p.in_loop None) name round
    behind-none p false round = refl

    -- what stands behind others, or before them, and has nothing of the block
    with-none : (xs : List (Act × List Around)) (ss ts : List Site) → mine b ts ≡ [] → Zip xs (mine b ss) → Zip xs (mine b (ss ++ ts))
    with-none xs ss ts off held = subst (λ l. Zip xs l) (sym (filter-append (is_of b) ss ts ∙ ap (λ (l : List Site). mine b ss ++ l) off ∙ append-nil (mine b ss))) held

    behind-held : (xs : List (Act × List Around)) (ss ts : List Site) → mine b ss ≡ [] → Zip xs (mine b ts) → Zip xs (mine b (ss ++ ts))
    behind-held xs ss ts off held = subst (λ l. Zip xs l) (sym (filter-append (is_of b) ss ts ∙ ap (λ (l : List Site). l ++ mine b ts) off)) held

    switch-held : (p : Place) (h : ℕ) (gs : Groups) (rnd : List Around) (round : List Pair) → IsHere h → is_switch (nth g h).exit ≡ true → targets gs ≡ switch_targets g h → count b (group_stands rnd h gs) ≤ 1
        → ((has : ℕ → Option (List (Act × List Around))) (sited : ℕ → Option Sited) → AreHeldArms (chooses h ∷ round) has sited → AreHeldArms (chooses h ∷ round) (update_all nat_eq has (groups_told rnd h gs)) (update_all nat_eq sited (groups_sites w seen (inside_switch p) h gs)))
        → Fits round rnd → Inside p (switch h gs) rnd round
    switch-held p h gs rnd round here is same few each fits =
        own-with (if h == b then inner h rnd else []) (told_of (group_stands rnd h gs)) (done_sites w seen h round) (site (chooses h) round) (Inner ++ behind_sites w seen p (groups_have_break gs) round)
        (own-choice h rnd round here fits is)
        (with-none (told_of (group_stands rnd h gs)) Inner (behind_sites w seen p (groups_have_break gs) round) (behind-none p (groups_have_break gs) round)
        (subst (λ l. Zip l (mine b Inner)) (turned (Act × List Around) (groups_told rnd h gs) (w.order h) (one-told rnd h gs few) (subst AreApart (sym targets_are) (orders h here is).0) (λ t in_it. (orders h here is).1 t (subst (In t) targets_are in_it)) ∙ all-told rnd h gs)
        (arms-held (chooses h ∷ round) (w.order h) (update_all nat_eq (λ t. None) (groups_told rnd h gs)) (update_all nat_eq (λ t. None) (groups_sites w seen (inside_switch p) h gs)) (each (λ t. None) (λ t. None) (λ t. tt)))))
      where
        Inner : List Site
        Inner = arms_sites (w.order h) (update_all nat_eq (λ t. None) (groups_sites w seen (inside_switch p) h gs)) (chooses h ∷ round)

        targets_are : keys (Act × List Around) (groups_told rnd h gs) ≡ switch_targets g h
        targets_are = keys-are rnd h gs ∙ same

    two-held : (p : Place) (h : ℕ) (x y : Region) (rnd part : List Around) (round : List Pair) → IsHere h → is_conditional (nth g h).exit ≡ true → Fits round rnd
        → Holds (stands part x) (region_sites w seen p x (tests h (w.condition h) ∷ round)) → Holds (stands part y) (region_sites w seen p y (tests h (w.condition h) ∷ round))
        → Zip ((if h == b then inner h rnd else []) ++ told_of (stands part x ++ stands part y))
        (mine b (done_sites w seen h round ++ (site (tests h (w.condition h)) round ∷ region_sites w seen p x (tests h (w.condition h) ∷ round) ++ region_sites w seen p y (tests h (w.condition h) ∷ round))))
    two-held p h x y rnd part round here is fits held other =
        own-with (if h == b then inner h rnd else []) (told_of (stands part x ++ stands part y)) (done_sites w seen h round) (site (tests h (w.condition h)) round) (region_sites w seen p x (tests h (w.condition h) ∷ round) ++ region_sites w seen p y (tests h (w.condition h) ∷ round))
        (own-test h rnd round here fits is)
        (joined (stands part x) (stands part y) (region_sites w seen p x (tests h (w.condition h) ∷ round)) (region_sites w seen p y (tests h (w.condition h) ∷ round)) held other)

    -- a continue construct, where its flag tells that this is no first turn
    guarded-held : (h : ℕ) (x : Option Text) → ((t : Text) → x ≡ Some t → AreGuards found is_again (guards (name t) ∷ [])) → (t : Text) → x ≡ Some t → (z : Region) (rnd : List Around) (round : List Pair)
        → ((q : Pair) → Fits (q ∷ turns h ∷ round) (within (Cont h) ∷ rnd) → Holds (stands (within (Cont h) ∷ rnd) z) (region_sites w seen (inside_loop h true) z (q ∷ turns h ∷ round))) → Fits round rnd
        → Holds (stands (within (Cont h) ∷ rnd) z) (guard_sites x name (λ qs. region_sites w seen (inside_loop h true) z qs) (turns h ∷ round))
    guarded-held h None tested t is z rnd round held fits = cc
    guarded-held h (Some u) tested t is z rnd round held fits = held (guards (name u)) (ap (λ (l : List Frame). turn h ∷ l) fits.0, ((tested u refl).0, (tt, fits.1)))

    again-tested : (h : ℕ) (t : Text) → w.again h ≡ Some t → AreGuards found is_again (guards (name t) ∷ [])
    again-tested h t is = let key = flags.again h t is in ((key.0, t, key.1, key.2, refl), tt)

    -- the header of a loop stands in its body alone
    no-header : (h : ℕ) (i : Item) (r : Region) (zs : List (ℕ × List Around)) (rnd : List Around) → head i ≡ h → is_loop i ≡ false → count b (zs ++ stands rnd (item i r)) ≤ 1 → (h == b) ≡ true → told_of zs ≡ []
    no-header h i r zs rnd same off few on = told-none zs (omega (arith, few, both, more, first))
      where
        both : count b (zs ++ stands rnd (item i r)) ≡ count b zs + count b (stands rnd (item i r))
        both = count-both b zs (stands rnd (item i r))

        more : count b (stands rnd (item i r)) ≡ one_if (head i == b) + count b (kids rnd i ++ stands rnd r)
        more = ap (λ xs. count b (xs ++ stands rnd r)) (kids-are rnd i off)

        first : one_if (head i == b) ≡ 1
        first = ap (λ k. one_if (k == b)) same ∙ ap one_if on

    on-held : (p : Place) (h : ℕ) (z : Region) (i : Item) (r : Region) (rnd : List Around) (round : List Pair) → head i ≡ h → is_loop i ≡ false → count b (stands (within (Cont h) ∷ rnd) z ++ stands (within (Loop h) ∷ rnd) (item i r)) ≤ 1
        → Holds (stands (within (Cont h) ∷ rnd) z) (guard_sites (w.again h) name (λ qs. region_sites w seen (inside_loop h true) z qs) (turns h ∷ round))
        → Holds (stands (within (Loop h) ∷ rnd) (item i r)) (site (turns h) round ∷ region_sites w seen (inside_loop h false) (item i r) (turns h ∷ round))
        → Holds (item_stands rnd (loop_on h z (item i r))) (item_sites w seen p (loop_on h z (item i r)) round)
    on-held p h z i r rnd round same off few held body =
        subst (λ l. Zip l (mine b (item_sites w seen p (loop_on h z (item i r)) round))) (sym (told-both (stands (within (Cont h) ∷ rnd) z) (stands (within (Loop h) ∷ rnd) (item i r))))
        (subst (λ l. Zip (told_of (stands (within (Cont h) ∷ rnd) z) ++ told_of (stands (within (Loop h) ∷ rnd) (item i r))) (if h == b then site (turns h) round ∷ l else l)) (sym (filter-append (is_of b) Before After))
        (on-zip b (h == b) (site (turns h) round) (told_of (stands (within (Cont h) ∷ rnd) z)) (told_of (stands (within (Loop h) ∷ rnd) (item i r))) (mine b Before) (mine b After) held body (no-header h i r (stands (within (Cont h) ∷ rnd) z) (within (Loop h) ∷ rnd) same off few)))
      where
        Before : List Site
        Before = guard_sites (w.again h) name (λ qs. region_sites w seen (inside_loop h true) z qs) (turns h ∷ round)

        After : List Site
        After = region_sites w seen (inside_loop h false) (item i r) (turns h ∷ round)

    mutual
      pub region-held : (p : Place) (r : Region) (n : Next) (rnd : List Around) (round : List Pair) → NotBody n → Follows f g r n → IsWhole w IsHere Chooses Leads r → count b (stands rnd r) ≤ 1 → Fits round rnd
          → Holds (stands rnd r) (region_sites w seen p r round)
      region-held p (ends e) n rnd round not_body follows whole few fits = tt
      region-held p (item i r) (Stop e) rnd round not_body follows whole few fits = absurd follows
      region-held p (item i r) (At (Body h)) rnd round not_body follows whole few fits = absurd not_body
      region-held p (item (plain h) r) (At (Block t)) rnd round not_body follows whole few fits =
          let both = count-both b (item_stands rnd (plain h)) (stands rnd r) in
          joined (item_stands rnd (plain h)) (stands rnd r) (item_sites w seen p (plain h) round) (region_sites w seen p r round)
          (unlooped p (plain h) rnd round refl (heads-are (plain h) t follows.0) (item-held p (plain h) rnd round refl follows.1 whole.0 (omega arith) fits))
          (region-held p r follows.2.0 rnd round (behind-off f g (Block t) follows.2.0 follows.2.1) follows.2.2 whole.2 (omega (arith, few, both)) fits)
      region-held p (item (choose h x y) r) (At (Block t)) rnd round not_body follows whole few fits =
          let both = count-both b (item_stands rnd (choose h x y)) (stands rnd r) in
          joined (item_stands rnd (choose h x y)) (stands rnd r) (item_sites w seen p (choose h x y) round) (region_sites w seen p r round)
          (unlooped p (choose h x y) rnd round refl (heads-are (choose h x y) t follows.0) (item-held p (choose h x y) rnd round refl follows.1 whole.0 (omega (arith, few, both)) fits))
          (region-held p r follows.2.0 rnd round (behind-off f g (Block t) follows.2.0 follows.2.1) follows.2.2 whole.2 (omega (arith, few, both)) fits)
      region-held p (item (loose h x y) r) (At (Block t)) rnd round not_body follows whole few fits =
          let both = count-both b (item_stands rnd (loose h x y)) (stands rnd r) in
          joined (item_stands rnd (loose h x y)) (stands rnd r) (item_sites w seen p (loose h x y) round) (region_sites w seen p r round)
          (unlooped p (loose h x y) rnd round refl (heads-are (loose h x y) t follows.0) (item-held p (loose h x y) rnd round refl follows.1 whole.0 (omega (arith, few, both)) fits))
          (region-held p r follows.2.0 rnd round (behind-off f g (Block t) follows.2.0 follows.2.1) follows.2.2 whole.2 (omega (arith, few, both)) fits)
      region-held p (item (switch h gs) r) (At (Block t)) rnd round not_body follows whole few fits =
          let both = count-both b (item_stands rnd (switch h gs)) (stands rnd r) in
          joined (item_stands rnd (switch h gs)) (stands rnd r) (item_sites w seen p (switch h gs) round) (region_sites w seen p r round)
          (unlooped p (switch h gs) rnd round refl (heads-are (switch h gs) t follows.0) (item-held p (switch h gs) rnd round refl follows.1 whole.0 (omega (arith, few, both)) fits))
          (region-held p r follows.2.0 rnd round (behind-off f g (Block t) follows.2.0 follows.2.1) follows.2.2 whole.2 (omega (arith, few, both)) fits)
      region-held p (item (loop h (ends e)) r) (At (Block t)) rnd round not_body follows whole few fits = (let never = follows.1.1 in cc)
      region-held p (item (loop h (item j q)) r) (At (Block t)) rnd round not_body follows whole few fits =
          let both = count-both b (item_stands rnd (loop h (item j q))) (stands rnd r) in
          let parts = count-both b (item_stands (within (Loop h) ∷ rnd) j) (stands (within (Loop h) ∷ rnd) q) in
          let own_count = ap (count b) (kids-are (within (Loop h) ∷ rnd) j follows.1.1.0.1) in
          let body = follows.1.1 in
          joined (item_stands rnd (loop h (item j q))) (stands rnd r) (item_sites w seen p (loop h (item j q)) round) (region_sites w seen p r round)
          (looped (inside_loop h false) h j q rnd round body.0.0 body.0.1 (heads-are (loop h (item j q)) t follows.0) fits
          (item-held (inside_loop h false) j (within (Loop h) ∷ rnd) (turns h ∷ round) body.0.1 body.1 whole.0.0 (omega (arith, few, both, parts, own_count)) (ap (λ (l : List Frame). turn h ∷ l) fits.0, (tt, fits.1)))
          (region-held (inside_loop h false) q body.2.0 (within (Loop h) ∷ rnd) (turns h ∷ round) (behind-off f g (Body h) body.2.0 body.2.1) body.2.2 whole.0.2 (omega (arith, few, both, parts)) (ap (λ (l : List Frame). turn h ∷ l) fits.0, (tt, fits.1))))
          (region-held p r follows.2.0 rnd round (behind-off f g (Block t) follows.2.0 follows.2.1) follows.2.2 whole.2 (omega (arith, few, both)) fits)
      region-held p (item (loop_on h z (ends e)) r) (At (Block t)) rnd round not_body follows whole few fits = (let never = follows.1.1 in cc)
      region-held p (item (loop_on h z (item j q)) r) (At (Block t)) rnd round not_body follows whole few fits =
          let both = count-both b (item_stands rnd (loop_on h z (item j q))) (stands rnd r) in
          let halves = count-both b (stands (within (Cont h) ∷ rnd) z) (stands (within (Loop h) ∷ rnd) (item j q)) in
          let parts = count-both b (item_stands (within (Loop h) ∷ rnd) j) (stands (within (Loop h) ∷ rnd) q) in
          let own_count = ap (count b) (kids-are (within (Loop h) ∷ rnd) j follows.1.1.0.1) in
          let body = follows.1.1 in
          let flag = again h follows.1.0.0 (subst IsHere body.0.0 (head-here j body.0.1 whole.0.1.0)) follows.1.0.1 in
          joined (item_stands rnd (loop_on h z (item j q))) (stands rnd r) (item_sites w seen p (loop_on h z (item j q)) round) (region_sites w seen p r round)
          (on-held p h z j q rnd round body.0.0 body.0.1 (omega (arith, few, both))
          (guarded-held h (w.again h) (again-tested h) flag.0 flag.1 z rnd round (λ c fit. region-held (inside_loop h true) z (At (Block follows.1.0.0)) (within (Cont h) ∷ rnd) (c ∷ turns h ∷ round) tt follows.1.0.2 whole.0.0 (omega (arith, few, both, halves)) fit) fits)
          (looped (inside_loop h false) h j q rnd round body.0.0 body.0.1 (heads-are (loop_on h z (item j q)) t follows.0) fits
          (item-held (inside_loop h false) j (within (Loop h) ∷ rnd) (turns h ∷ round) body.0.1 body.1 whole.0.1.0 (omega (arith, few, both, halves, parts, own_count)) (ap (λ (l : List Frame). turn h ∷ l) fits.0, (tt, fits.1)))
          (region-held (inside_loop h false) q body.2.0 (within (Loop h) ∷ rnd) (turns h ∷ round) (behind-off f g (Body h) body.2.0 body.2.1) body.2.2 whole.0.1.2 (omega (arith, few, both, halves, parts)) (ap (λ (l : List Frame). turn h ∷ l) fits.0, (tt, fits.1)))))
          (region-held p r follows.2.0 rnd round (behind-off f g (Block t) follows.2.0 follows.2.1) follows.2.2 whole.2 (omega (arith, few, both)) fits)

      item-held : (p : Place) (i : Item) (rnd : List Around) (round : List Pair) → is_loop i ≡ false → FollowsItem f g i → IsWholeItem w IsHere Chooses Leads i → count b (kids rnd i) ≤ 1 → Fits round rnd → Inside p i rnd round
      item-held p (plain h) rnd round off follows whole few fits =
          subst (λ l. Zip l (mine b (done_sites w seen h round))) (sym (append-nil (if h == b then inner h rnd else [])))
          (subst (λ l. Zip (if h == b then inner h rnd else []) (mine b l)) (append-nil (done_sites w seen h round))
          (own h rnd round [] [] whole fits (plain-acts (nth g h).exit follows) tt (λ on. refl) (λ away. refl)))
      item-held p (choose h x y) rnd round off follows whole few fits =
          let both = count-both b (stands (within (If h) ∷ rnd) x) (stands (within (If h) ∷ rnd) y) in
          two-held p h x y rnd (within (If h) ∷ rnd) round whole.0.0 follows.0 fits
          (region-held p x follows.2.0 (within (If h) ∷ rnd) (tests h (w.condition h) ∷ round) (carried f g h (target g h 0) follows.2.0 follows.2.1) follows.2.2 whole.2 (omega (arith, few, both)) (ap (λ (l : List Frame). test h ∷ l) fits.0, (tt, fits.1)))
          (region-held p y follows.3.0 (within (If h) ∷ rnd) (tests h (w.condition h) ∷ round) (carried f g h (target g h 1) follows.3.0 follows.3.1) follows.3.2 whole.3 (omega (arith, few, both)) (ap (λ (l : List Frame). test h ∷ l) fits.0, (tt, fits.1)))
      item-held p (loose h x y) rnd round off follows whole few fits =
          let both = count-both b (stands (branch h ∷ rnd) x) (stands (branch h ∷ rnd) y) in
          two-held p h x y rnd (branch h ∷ rnd) round whole.0.0 follows.0 fits
          (region-held p x follows.2.0 (branch h ∷ rnd) (tests h (w.condition h) ∷ round) (carried f g h (target g h 0) follows.2.0 follows.2.1) follows.2.2 whole.2 (omega (arith, few, both)) (ap (λ (l : List Frame). test h ∷ l) fits.0, (tt, fits.1)))
          (region-held p y follows.3.0 (branch h ∷ rnd) (tests h (w.condition h) ∷ round) (carried f g h (target g h 1) follows.3.0 follows.3.1) follows.3.2 whole.3 (omega (arith, few, both)) (ap (λ (l : List Frame). test h ∷ l) fits.0, (tt, fits.1)))
      item-held p (loop h x) rnd round off follows whole few fits = cc
      item-held p (loop_on h z x) rnd round off follows whole few fits = cc
      item-held p (switch h gs) rnd round off follows whole few fits =
          switch-held p h gs rnd round whole.0.0 follows.0 follows.1 few (λ has sited each. groups-held (inside_switch p) h gs rnd round follows.2 whole.2 few fits has sited each) fits

      groups-held : (p : Place) (h : ℕ) (gs : Groups) (rnd : List Around) (round : List Pair) → FollowsGroups f g gs h → AreWhole w IsHere Chooses Leads h gs → count b (group_stands rnd h gs) ≤ 1 → Fits round rnd
          → (has : ℕ → Option (List (Act × List Around))) (sited : ℕ → Option Sited) → AreHeldArms (chooses h ∷ round) has sited
          → AreHeldArms (chooses h ∷ round) (update_all nat_eq has (groups_told rnd h gs)) (update_all nat_eq sited (groups_sites w seen p h gs))
      groups-held p h none rnd round follows whole few fits has sited each = each
      groups-held p h (group t labels default x gs) rnd round follows whole few fits has sited each =
          let both = count-both b (stands (within (Case h t) ∷ rnd) x) (group_stands rnd h gs) in
          groups-held p h gs rnd round follows.3 whole.3 (omega (arith, few, both)) fits
          (update nat_eq has t (Some (told_of (stands (within (Case h t) ∷ rnd) x)))) (update nat_eq sited t (Some (λ within_it. guard_sites (w.fell t) denied bare_sites within_it ++ region_sites w seen p x within_it)))
          (updated-held (chooses h ∷ round) has sited t (Some (told_of (stands (within (Case h t) ∷ rnd) x))) (Some (λ within_it. guard_sites (w.fell t) denied bare_sites within_it ++ region_sites w seen p x within_it)) each
          (behind-held (told_of (stands (within (Case h t) ∷ rnd) x)) (guard_sites (w.fell t) denied bare_sites (chooses h ∷ round)) (region_sites w seen p x (chooses h ∷ round)) (guard-none b (w.fell t) denied (chooses h ∷ round))
          (region-held p x follows.2.0 (within (Case h t) ∷ rnd) (chooses h ∷ round) (carries f g h t follows.2.0 follows.2.1) follows.2.2 whole.2 (omega (arith, few, both)) (ap (λ (l : List Frame). choice h ∷ l) fits.0, (tt, fits.1)))))
