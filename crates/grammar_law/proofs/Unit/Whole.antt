-- In the tree of a function stand reached blocks, edges lead from one to the next, and each switch has groups with labels.
use Rattle.std.proofs.Common.{◌≡◌, ◌<◌, ◌≤◌, ◌==◌, ◌&&◌, ◌||◌, not, ℕ, zero, suc, Bool, true, false, List, [], ◌∷◌, ◌++◌, length, map, filter, drop, Option, Some, None, inl, inr, refl, sym, ap, ◌∙◌, subst, arith, if◌then◌else◌}
use Rattle.std.specs.Prelude.{slice_get, slice_index}
use Rattle.std.specs.Option.{option_map_or}
use Rattle.std.specs.List.{list_any, concat, range_with_len, zip}
use Rattle.std.proofs.lemmas.Bool.{and_from, or_left, or_right}
use Rattle.spv_ops.specs.Opcode.{is}
use Rattle.spv_ops.specs.declared.Op.TheVariants as code
use Rattle.spv_module.specs.declared.inst.Inst.{Inst}
use Rattle.spv_module.specs.declared.inst.Function.{Function}
use Rattle.structure_rules.specs.declared.graph.Exit.{Exit as Terminator}
use Rattle.structure_rules.specs.declared.graph.Exit.TheVariants as terminator
use Rattle.structure_rules.specs.declared.graph.Node.{Node}
use Rattle.structure_rules.specs.Graph.{graph, nth, leads_to, index_of, seconds, merge_block, continue_target, is_switch, is_selection}
use Rattle.nest_place.specs.Nests.{IsSound}
use Rattle.nest_place.proofs.Each.{filter_has, has_filter}
use Rattle.nest_place.proofs.Outward.{reached_inside}
use Rattle.structure_recover.specs.declared.region.Exit.{Exit}
use Rattle.structure_recover.specs.declared.region.Exit.TheVariants.{Edge, Return, Lost, Closed}
use Rattle.structure_recover.specs.declared.edges.Start.{Start}
use Rattle.structure_recover.specs.declared.edges.Start.TheVariants.{Block, Body}
use Rattle.structure_recover.specs.declared.edges.Next.{Next}
use Rattle.structure_recover.specs.declared.edges.Next.TheVariants.{At, Stop}
use Rattle.structure_recover.specs.Tree.{Region, ends, item, Item, plain, choose, loose, loop, loop_on, switch, Groups, none, group, head, targets}
use Rattle.structure_recover.specs.Follows.{heads_loop, is_plain, target, Carries, CarriesTo, if_reached, merged, left_by, last_inst, IsAfter, IsBehindBlock, IsBehind, StandsAt, other_block, switch_targets, firsts, literals_by, cases, labels_to, is_default, Follows, FollowsItem, FollowsGroups, first, IsTree}
use Rattle.structure_recover.proofs.Shape.{first_reached}
use Rattle.switch_ladder.specs.Ladder.{chains_of}
use Rattle.control_text.specs.Statements.{Blocks}
use Rattle.function_plan.specs.Orders.{order_of, order_by}
use Rattle.list_law.proofs.Numbers.{number_same}
use Rattle.region_law.specs.Leads.{In}
use Rattle.tree_law.proofs.SwitchOrder.{in_list, list_in, in_range, order_is}
use Rattle.claim_law.specs.Blocks.{IsTarget, HasLabel, FitWords, IsHereAt, IsEntered, GoesOn, IsWhole, IsWholeItem, AreWhole}
use Rattle.grammar_law.specs.Switches.{IsSwitchAt, IsReached, Chooses, Leads, by_condition, by_selector}

-- labels of the target of a case
some_labels : (index : ℕ → ℕ) (t : ℕ) (ws : List ℕ) → list_any (λ (x : ℕ). x == t) (map index (seconds ws)) ≡ true → 1 ≤ length (labels_to (zip (map index (seconds ws)) (firsts ws)) t)
some_labels index t [] on = cc
some_labels index t (w ∷ []) on = cc
some_labels index t (literal ∷ label ∷ more) on = by_test (index label == t) on (some_labels index t more)
  where
    by_test : (b : Bool) → (b || list_any (λ (x : ℕ). x == t) (map index (seconds more))) ≡ true → (list_any (λ (x : ℕ). x == t) (map index (seconds more)) ≡ true → 1 ≤ length (labels_to (zip (map index (seconds more)) (firsts more)) t))
        → 1 ≤ length (map (λ (c : ℕ × ℕ). c.1) (if b then (index label, literal) ∷ filter (λ (c : ℕ × ℕ). c.0 == t) (zip (map index (seconds more)) (firsts more)) else filter (λ (c : ℕ × ℕ). c.0 == t) (zip (map index (seconds more)) (firsts more))))
    by_test true on later = omega arith
    by_test false on later = later on

fit_labels : (index : ℕ → ℕ) (t : ℕ) (ws : List ℕ) → FitWords ws → FitWords (labels_to (zip (map index (seconds ws)) (firsts ws)) t)
fit_labels index t [] fit = tt
fit_labels index t (w ∷ []) fit = tt
fit_labels index t (literal ∷ label ∷ more) fit = by_test (index label == t) (fit_labels index t more fit.1.1)
  where
    by_test : (b : Bool) → FitWords (labels_to (zip (map index (seconds more)) (firsts more)) t)
        → FitWords (map (λ (c : ℕ × ℕ). c.1) (if b then (index label, literal) ∷ filter (λ (c : ℕ × ℕ). c.0 == t) (zip (map index (seconds more)) (firsts more)) else filter (λ (c : ℕ × ℕ). c.0 == t) (zip (map index (seconds more)) (firsts more))))
    by_test true later = (fit.0, later)
    by_test false later = later

target_in : (t : ℕ) (gs : Groups) → In t (targets gs) → IsTarget t gs
target_in t none there = absurd there
target_in t (group u labels default x gs) (inl same) = inl (sym same)
target_in t (group u labels default x gs) (inr there) = inr (target_in t gs there)

in_targets : (t : ℕ) (gs : Groups) → IsTarget t gs → In t (targets gs)
in_targets t none there = absurd there
in_targets t (group u labels default x gs) (inl same) = inl (sym same)
in_targets t (group u labels default x gs) (inr there) = inr (in_targets t gs there)

some_first : (ts : List ℕ) (t : ℕ) → In t ts → (x : ℕ) × (xs : List ℕ) × (ts ≡ x ∷ xs)
some_first [] t there = absurd there
some_first (x ∷ xs) t there = (x, xs, refl)

module _ (f : Function) (sound : IsSound (graph f)) (switches : (h : ℕ) → (nth (graph f) h).reached ≡ true → is_switch (nth (graph f) h).exit ≡ true → IsSwitchAt f (graph f) h) (w : Blocks) (written : (h : ℕ) → w.order h ≡ order_by (graph f) h) (aimed : (b k t : ℕ) → (nth (graph f) b).reached ≡ true → target (graph f) b k ≡ Some t → w.target b k ≡ t) where
  abbrev g : List Node
  g = graph f

  abbrev Here : ℕ → Type 0
  Here = IsReached (graph f)

  abbrev Asks : ℕ → Type 0
  Asks = Chooses (graph f)

  abbrev Edges : ℕ → ℕ → Type 0
  Edges = Leads (graph f)

  abbrev IsReachedNext : Next → Type 0
  IsReachedNext (At (Block b)) = Here b
  IsReachedNext (At (Body h)) = Here h
  IsReachedNext (Stop e) = IsHereAt w Here Asks Edges e

  -- edges lead to reached blocks
  leads_at : (ts : List ℕ) (k t : ℕ) → slice_get ts k ≡ Some t → list_any (λ (x : ℕ). x == t) ts ≡ true
  leads_at [] k t at = cc
  leads_at (x ∷ ts) zero t at = let same : x ≡ t = cc in or_left (x == t) (list_any (λ (y : ℕ). y == t) ts) (number_same x t same)
  leads_at (x ∷ ts) (suc k) t at = or_right (x == t) (list_any (λ (y : ℕ). y == t) ts) (leads_at ts k t at)

  carried_next : (b t : ℕ) (n : Next) → Here b → leads_to t (nth g b) ≡ true → Carries g b t n → IsReachedNext n
  carried_next b t (At (Block u)) here leads c = subst Here (sym c.0) (sound.reached b t here leads)
  carried_next b t (At (Body h)) here leads c = absurd c
  carried_next b t (Stop (Edge a u k)) here leads c = (subst Here (sym c.0) here, subst (λ (x : ℕ). Edges x u) (sym c.0) (subst (Edges b) (sym c.1) leads))
  carried_next b t (Stop (Return a)) here leads c = absurd c
  carried_next b t (Stop (Lost a)) here leads c = absurd c
  carried_next b t (Stop Closed) here leads c = absurd c

  -- a region that goes on so in a block is entered by that edge
  carried_enters : (b t : ℕ) (r : Region) (n : Next) → leads_to t (nth g b) ≡ true → Follows f g r n → Carries g b t n → IsEntered w Here Asks Edges b t r
  carried_enters b t (ends e) n leads fo c = tt
  carried_enters b t (item i r) n leads fo c = leads

  carries_enters : (b k : ℕ) (r : Region) (n : Next) → Here b → Follows f g r n → CarriesTo g b (target g b k) n → IsEntered w Here Asks Edges b (w.target b k) r
  carries_enters b k (ends e) n here fo c = tt
  carries_enters b k (item i r) (Stop e) here fo c = absurd fo
  carries_enters b k (item i r) (At s) here fo c = by_target (target g b k) refl c
    where
      by_target : (o : Option ℕ) → target g b k ≡ o → CarriesTo g b o (At s) → Edges b (w.target b k)
      by_target None at c = cc
      by_target (Some t) at c = subst (Edges b) (sym (aimed b k t here at)) (leads_at (nth g b).targets k t at)

  carries_next : (b k : ℕ) (n : Next) → Here b → CarriesTo g b (target g b k) n → IsReachedNext n
  carries_next b k n here c = by_target (target g b k) refl c
    where
      by_target : (o : Option ℕ) → target g b k ≡ o → CarriesTo g b o n → IsReachedNext n
      by_target None at c = subst IsReachedNext (sym c) tt
      by_target (Some t) at c = carried_next b t n here (leads_at (nth g b).targets k t at) c

  merged_next : (h : ℕ) → IsReachedNext (merged g h)
  merged_next h = by_merge (merge_block g h)
    where
      by_reached : (m : ℕ) (b : Bool) → (nth g m).reached ≡ b → IsReachedNext (if b then At (Block m) else Stop Closed)
      by_reached m true on = on
      by_reached m false off = tt

      by_merge : (o : Option ℕ) → IsReachedNext (if_reached g o)
      by_merge None = tt
      by_merge (Some m) = by_reached m (nth g m).reached refl

  left_next : (b : ℕ) (o : Option Inst) → Here b → IsReachedNext (Stop (left_by b o))
  left_next b None here = here
  left_next b (Some i) here = by_test (is i.op code.Unreachable)
    where
      by_test : (t : Bool) → IsReachedNext (Stop (if t then Lost b else Return b))
      by_test true = tt
      by_test false = here

  after_next : (b : ℕ) (x : Terminator) (n : Next) → Here b → IsAfter f g b x n → IsReachedNext n
  after_next b terminator.Branch n here c = carries_next b 0 n here c
  after_next b terminator.Leave n here c = subst IsReachedNext (sym c) (left_next b (last_inst (slice_get f.blocks b)) here)
  after_next b terminator.Switch n here c = subst IsReachedNext (sym c) (merged_next b)
  after_next b terminator.Conditional n here c = subst IsReachedNext (sym c) (by_test (is_selection (nth g b).merge))
    where
      by_test : (t : Bool) → IsReachedNext (if t then merged g b else Stop Closed)
      by_test true = merged_next b
      by_test false = tt

  behind_next : (s : Start) (n : Next) → IsReachedNext (At s) → IsBehind f g s n → IsReachedNext n
  behind_next (Body h) n here c = after_next h (nth g h).exit n here c
  behind_next (Block b) n here c = by_test (heads_loop g b) c
    where
      by_test : (t : Bool) → IsBehindBlock f g b n t → IsReachedNext n
      by_test true c = subst IsReachedNext (sym c) (merged_next b)
      by_test false c = after_next b (nth g b).exit n here c

  -- what stands behind a block is entered from it
  after_enters : (b : ℕ) (x : Terminator) (r : Region) (n : Next) → Here b → is_plain x ≡ true → Follows f g r n → IsAfter f g b x n → IsEntered w Here Asks Edges b (w.target b 0) r
  after_enters b x (ends e) n here on fo c = tt
  after_enters b x (item i r) (Stop e) here on fo c = absurd fo
  after_enters b terminator.Branch (item i r) (At s) here on fo c = carries_enters b 0 (item i r) (At s) here fo c
  after_enters b terminator.Leave (item i r) (At s) here on fo c = cc
  after_enters b terminator.Switch (item i r) (At s) here on fo c = cc
  after_enters b terminator.Conditional (item i r) (At s) here on fo c = cc

  plain_enters : (b : ℕ) (s : Start) (r : Region) (n : Next) → Here b → is_plain (nth g b).exit ≡ true → StandsAt g (plain b) s → Follows f g r n → IsBehind f g s n → IsEntered w Here Asks Edges b (w.target b 0) r
  plain_enters b (Body h) r n here on at fo c = after_enters b (nth g b).exit r n here on fo (subst (λ (x : ℕ). IsAfter f g x (nth g x).exit n) (sym at.0) c)
  plain_enters b (Block u) r n here on at fo c =
      after_enters b (nth g b).exit r n here on fo
      (subst (λ (x : ℕ). IsAfter f g x (nth g x).exit n) (sym at.0) (subst (IsBehindBlock f g u n) (sym at.1) c))

  goes-on : (i : Item) (s : Start) (r : Region) (n : Next) → Here (head i) → FollowsItem f g i → StandsAt g i s → Follows f g r n → IsBehind f g s n → GoesOn w Here Asks Edges i r
  goes-on (plain b) s r n here on at fo c = plain_enters b s r n here on at fo c
  goes-on (choose h x y) s r n here on at fo c = tt
  goes-on (loose h x y) s r n here on at fo c = tt
  goes-on (loop h x) s r n here on at fo c = tt
  goes-on (loop_on h z x) s r n here on at fo c = tt
  goes-on (switch h gs) s r n here on at fo c = tt

  head_reached : (i : Item) (s : Start) → StandsAt g i s → IsReachedNext (At s) → Here (head i)
  head_reached i (Block b) at here = subst Here (sym at.0) here
  head_reached i (Body h) at here = subst Here (sym at.0) here

  other_reached : (h : ℕ) (o : Option ℕ) (c : ℕ) → other_block g h o ≡ Some c → Here c
  other_reached h None c is = cc
  other_reached h (Some d) c is = by_test (nth g d).reached refl (not (d == h)) is
    where
      by_test : (a : Bool) → (nth g d).reached ≡ a → (b : Bool) → (if a && b then Some d else None) ≡ Some c → Here c
      by_test true here true is = let same : d ≡ c = cc in subst Here same here
      by_test true here false is = cc
      by_test false here b is = cc

  -- switches
  module _ (h : ℕ) (here : Here h) (on : is_switch (nth g h).exit ≡ true) where
    at : IsSwitchAt f g h
    at = switches h here on

    targets_are : (nth g h).targets ≡ index_of f at.default ∷ map (index_of f) (seconds at.words)
    targets_are = at.leads ∙ ap (λ (args : List ℕ). map (index_of f) (seconds args)) at.args

    cases_are : cases f g h ≡ zip (map (index_of f) (seconds at.words)) (firsts at.words)
    cases_are =
        ap (λ (ts : List ℕ). zip (drop 1 ts) (literals_by (last_inst (slice_get f.blocks h)))) targets_are
        ∙ (ap (λ (o : Option Inst). zip (map (index_of f) (seconds at.words)) (literals_by o)) at.last_is
        ∙ ap (λ (args : List ℕ). zip (map (index_of f) (seconds at.words)) (firsts (drop 2 args))) at.args)

    -- a target is the default, or has a literal
    labelled : (t : ℕ) → leads_to t (nth g h) ≡ true → HasLabel (labels_to (cases f g h) t) (is_default g h t)
    labelled t leads = by_default (index_of f at.default == t) refl (ap (list_any (λ (x : ℕ). x == t)) (sym targets_are) ∙ leads)
      where
        by_default : (b : Bool) → (index_of f at.default == t) ≡ b → (b || list_any (λ (x : ℕ). x == t) (map (index_of f) (seconds at.words))) ≡ true → HasLabel (labels_to (cases f g h) t) (is_default g h t)
        by_default true same leads = inr (ap (λ (ts : List ℕ). option_map_or (λ (y : ℕ). y == t) (slice_get ts 0) false) targets_are ∙ same)
        by_default false other leads = inl (subst (λ (cs : List (ℕ × ℕ)). 1 ≤ length (labels_to cs t)) (sym cases_are) (some_labels (index_of f) t at.words leads))

    fit : (t : ℕ) → FitWords (labels_to (cases f g h) t)
    fit t = subst (λ (cs : List (ℕ × ℕ)). FitWords (labels_to cs t)) (sym cases_are) (fit_labels (index_of f) t at.words at.fit)

    -- the order in which the groups are written has a first
    order_chains : w.order h ≡ concat (chains_of g h) ++ filter (λ t. not (list_any (λ u. u == t) (concat (chains_of g h)))) (switch_targets g h)
    order_chains =
        written h ∙ ap (λ (b : Bool). if b then order_of g h else []) (and_from (nth g h).reached (is_switch (nth g h).exit) here on)

    default_in : In (index_of f at.default) (switch_targets g h)
    default_in =
        let inside : h < length g = reached_inside g h here in
        let low : index_of f at.default < length g =
        subst (λ (t : ℕ). t < length g) (ap (λ (ts : List ℕ). slice_index ts 0) targets_are)
        ((sound.within h inside).leads 0 (subst (λ (ts : List ℕ). 0 < length ts) (sym targets_are) (let some : 0 < suc (length (map (index_of f) (seconds at.words))) = omega arith in some))) in
        let leads : leads_to (index_of f at.default) (nth g h) ≡ true = leads_at (nth g h).targets 0 (index_of f at.default) (ap (λ (ts : List ℕ). slice_get ts 0) targets_are) in
        in_list (index_of f at.default) (switch_targets g h)
        (has_filter (λ t. leads_to t (nth g h)) (range_with_len 0 (length g)) (index_of f at.default) (list_in (index_of f at.default) (range_with_len 0 (length g)) (in_range 0 (length g) (index_of f at.default) (omega arith) (omega (arith, low)))) leads)

    has_first : (gs : Groups) → targets gs ≡ switch_targets g h → (t : ℕ) × (ts : List ℕ) × (w.order h ≡ t ∷ ts) × IsTarget t gs
    has_first gs same =
        let order = order_is g sound h here on in
        let some = some_first _ (index_of f at.default) (order.in_order (index_of f at.default) default_in) in
        (some.0, some.1, order_chains ∙ some.2, target_in some.0 gs (subst (In some.0) (sym same) (order.in_all some.0 (subst (In some.0) (sym some.2) (inl refl)))))

    leads_of : (gs : Groups) → targets gs ≡ switch_targets g h → (t : ℕ) → IsTarget t gs → leads_to t (nth g h) ≡ true
    leads_of gs same t there =
        (filter_has (λ u. leads_to u (nth g h)) (range_with_len 0 (length g)) t (list_in t (switch_targets g h) (subst (In t) same (in_targets t gs there)))).1

  stopped : (n : Next) (e : Exit) → n ≡ Stop e → IsReachedNext n → IsHereAt w Here Asks Edges e
  stopped n e same next = subst IsReachedNext same next

  mutual
    pub region-whole : (r : Region) (n : Next) → Follows f g r n → IsReachedNext n → IsWhole w Here Asks Edges r
    region-whole (ends e) n fo next = stopped n e fo next
    region-whole (item i r) (Stop e) fo next = absurd fo
    region-whole (item i r) (At s) fo next =
        let here = head_reached i s fo.0 next in
        (item-whole i here fo.1, goes-on i s r fo.2.0 here fo.1 fo.0 fo.2.2 fo.2.1, region-whole r fo.2.0 fo.2.2 (behind_next s fo.2.0 next fo.2.1))

    item-whole : (i : Item) → Here (head i) → FollowsItem f g i → IsWholeItem w Here Asks Edges i
    item-whole (plain b) here fo = here
    item-whole (choose h x y) here fo = ((here, by_condition fo.0), (carries_enters h 0 x fo.2.0 here fo.2.2 fo.2.1, carries_enters h 1 y fo.3.0 here fo.3.2 fo.3.1), region-whole x fo.2.0 fo.2.2 (carries_next h 0 fo.2.0 here fo.2.1), region-whole y fo.3.0 fo.3.2 (carries_next h 1 fo.3.0 here fo.3.1))
    item-whole (loose h x y) here fo = ((here, by_condition fo.0), (carries_enters h 0 x fo.2.0 here fo.2.2 fo.2.1, carries_enters h 1 y fo.3.0 here fo.3.2 fo.3.1), region-whole x fo.2.0 fo.2.2 (carries_next h 0 fo.2.0 here fo.2.1), region-whole y fo.3.0 fo.3.2 (carries_next h 1 fo.3.0 here fo.3.1))
    item-whole (loop h x) here fo = region-whole x (At (Body h)) fo.1 here
    item-whole (loop_on h z x) here fo = (region-whole z (At (Block fo.0.0)) fo.0.2 (other_reached h (continue_target g h) fo.0.0 fo.0.1), region-whole x (At (Body h)) fo.1 here)
    item-whole (switch h gs) here fo = ((here, by_selector fo.0), has_first h here fo.0 gs fo.1, groups-whole h here fo.0 gs (leads_of h here fo.0 gs fo.1) fo.2)

    groups-whole : (h : ℕ) → Here h → is_switch (nth g h).exit ≡ true → (gs : Groups) → ((t : ℕ) → IsTarget t gs → leads_to t (nth g h) ≡ true) → FollowsGroups f g gs h → AreWhole w Here Asks Edges h gs
    groups-whole h here on none leads fo = tt
    groups-whole h here on (group t labels default x gs) leads fo =
        let lead = leads t (inl refl) in (
          (subst (λ (ls : List ℕ). HasLabel ls default) (sym fo.0) (subst (HasLabel (labels_to (cases f g h) t)) (sym fo.1) (labelled h here on t lead)), subst FitWords (sym fo.0) (fit h here on t)),
          carried_enters h t x fo.2.0 lead fo.2.2 fo.2.1,
          region-whole x fo.2.0 fo.2.2 (carried_next h t fo.2.0 here lead fo.2.1),
          groups-whole h here on gs (λ u there. leads u (inr there)) fo.3,
        )

  -- the law
  pub tree-whole : (r : Region) → IsTree f r → IsWhole w Here Asks Edges r
  tree-whole r tree = region-whole r (first (graph f)) tree (by_graph (graph f) (λ some. first_reached f some))
    where
      by_graph : (k : List Node) → (0 < length k → Here 0) → IsReachedNext (first k)
      by_graph [] there = tt
      by_graph (n ∷ k) there = there (let some : 0 < suc (length k) = omega arith in some)
