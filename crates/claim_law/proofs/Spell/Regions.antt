-- The statements of a tree of regions are made of the names of its blocks, edges and flags.
use Rattle.std.proofs.Common.{◌≡◌, ◌≤◌, ℕ, Bool, true, false, List, [], ◌∷◌, ◌++◌, cond, Option, Some, None, is_some, length, nat_eq, inl, inr, refl, ◌∙◌, ap, arith, if◌then◌else◌}
use Rattle.std.specs.Option.{option_map_or, option_to_list}
use Rattle.std.specs.Map.{update, update_all}
use Rattle.structure_rules.specs.declared.graph.EdgeKind.{EdgeKind}
use Rattle.structure_rules.specs.declared.graph.EdgeKind.TheVariants.{Enter, Merge, SwitchBreak, Break, Continue, Back, Fall}
use Rattle.structure_recover.specs.declared.region.Exit.{Exit}
use Rattle.structure_recover.specs.declared.region.Exit.TheVariants.{Edge, Return, Lost, Closed}
use Rattle.structure_recover.specs.Tree.{Region, ends, item, Item, plain, choose, loose, loop, loop_on, switch, Groups, none, group}
use Rattle.glsl_ast.specs.Tree as text
use Rattle.glsl_ast.specs.Tree.{Text, Expr, Stmt, name, not, when, stmts_in, arms_in}
use Rattle.glsl_grammar.specs.Spelled.{AreSpelledLabels}
use Rattle.glsl_grammar.specs.Scopes.{has_arms}
use Rattle.control_text.specs.declared.place.Place.{Place}
use Rattle.control_text.specs.Statements.{Blocks, set_flag, declare_flag, flags, conditional, unless_fallen, groups_have_break, plain_block, leave_again, by_target, in_order, turn, inside_loop, inside_switch, leave_loop, edge_text, exit_text, entering, onward, entering_case, behind_switch, labels_text, fell_flags, loop_flags, loop_text, region_text, item_text, groups_text}
use Rattle.list_law.proofs.Numbers.{number_same}
use Rattle.claim_law.specs.Uses.{Words, UsesExpr}
use Rattle.claim_law.specs.Statements.{UsesIfSome, UsesStmt, UseStmts, UseArms, EachStmt}
use Rattle.claim_law.specs.Blocks.{AreMade, IsTarget, HasLabel, FitWords, IsHereAt, IsEntered, GoesOn, IsWhole, IsWholeItem, AreWhole}
use Rattle.claim_law.proofs.Spell.Statements.{both-stmts, if-stmts}
use Rattle.claim_law.proofs.Spell.Sentences.{list-uses}

module _ (W : Words) where
  flags-made : (f : Text → List Stmt) (o : Option Text) → ((x : Text) → o ≡ Some x → W.value x) → ((x : Text) → W.value x → EachStmt W (f x)) → EachStmt W (flags f o)
  flags-made f None named each = tt
  flags-made f (Some x) named each = each x (named x refl)

  set-made : (b : Bool) (x : Text) → W.value x → EachStmt W (set_flag x b ∷ [])
  set-made b x named = (((named, tt), tt), tt)

  declared-made : (x : Text) → W.value x → EachStmt W (declare_flag x ∷ [])
  declared-made x named = (((tt, tt), named, tt), tt)

  when-made : (c : Expr) (xs : List Stmt) → UsesExpr W c → EachStmt W xs → UsesStmt W (when c (stmts_in xs))
  when-made c xs p q = (p, list-uses W xs q)

  conditional-made : (c : Expr) (xs ys : List Stmt) → UsesExpr W c → EachStmt W xs → EachStmt W ys → UsesStmt W (conditional c xs ys)
  conditional-made c xs [] p q r = when-made c xs p q
  conditional-made c xs (y ∷ ys) p q r = (p, list-uses W xs q, list-uses W (y ∷ ys) r)

  -- groups of a switch
  abbrev IsMadeArm : text.Arm → Type 0
  IsMadeArm (text.group ls b) = (1 ≤ length ls) × AreSpelledLabels ls × UseStmts W b

  abbrev AreMadeArms : List text.Arm → Type 0
  AreMadeArms [] = Unit {0}
  AreMadeArms (a ∷ as') = IsMadeArm a × AreMadeArms as'

  arms-made : (as' : List text.Arm) → AreMadeArms as' → UseArms W (arms_in as')
  arms-made [] made = tt
  arms-made (text.group ls b ∷ as') made = (made.0.0, made.0.1, made.0.2, arms-made as' made.1)

  both-arms : (xs ys : List text.Arm) → AreMadeArms xs → AreMadeArms ys → AreMadeArms (xs ++ ys)
  both-arms [] ys p q = q
  both-arms (x ∷ xs) ys p q = (p.0, both-arms xs ys p.1 q)

  abbrev AreMadeBy : (ℕ → Option text.Arm) → Type 0
  AreMadeBy arms = (t : ℕ) → AreMadeArms (option_to_list (arms t))

  updated-made : (arms : ℕ → Option text.Arm) (t : ℕ) (o : Option text.Arm) → AreMadeBy arms → AreMadeArms (option_to_list o) → AreMadeBy (update nat_eq arms t o)
  updated-made arms t o each one u = by_test (nat_eq t u)
    where
      by_test : (b : Bool) → AreMadeArms (option_to_list (cond b o (arms u)))
      by_test true = one
      by_test false = each u

  abbrev AreMadeGroups : List (ℕ × text.Arm) → Type 0
  AreMadeGroups [] = Unit {0}
  AreMadeGroups (g ∷ gs) = IsMadeArm g.1 × AreMadeGroups gs

  all-updated-made : (gs : List (ℕ × text.Arm)) (arms : ℕ → Option text.Arm) → AreMadeBy arms → AreMadeGroups gs → AreMadeBy (update_all nat_eq arms gs)
  all-updated-made [] arms each made = each
  all-updated-made (g ∷ gs) arms each made = all-updated-made gs (update nat_eq arms g.0 (Some g.1)) (updated-made arms g.0 (Some g.1) each (made.0, tt)) made.1

  in-order-made : (ts : List ℕ) (arms : ℕ → Option text.Arm) → AreMadeBy arms → AreMadeArms (in_order ts arms)
  in-order-made [] arms each = tt
  in-order-made (t ∷ ts) arms each = both-arms (option_to_list (arms t)) (in_order ts (update nat_eq arms t None)) (each t) (in-order-made ts (update nat_eq arms t None) (updated-made arms t None each tt))

-- the group of a target is found
kept-some : (gs : List (ℕ × text.Arm)) (arms : ℕ → Option text.Arm) (t : ℕ) → is_some (arms t) ≡ true → is_some (update_all nat_eq arms gs t) ≡ true
kept-some [] arms t some = some
kept-some (g ∷ gs) arms t some = kept-some gs (update nat_eq arms g.0 (Some g.1)) t (by_test (nat_eq g.0 t))
  where
    by_test : (b : Bool) → is_some (cond b (Some g.1) (arms t)) ≡ true
    by_test true = refl
    by_test false = some

module _ (w : Blocks) where
  found-target : (p : Place) (h t : ℕ) (gs : Groups) (arms : ℕ → Option text.Arm) → IsTarget t gs → is_some (update_all nat_eq arms (groups_text w p h gs) t) ≡ true
  found-target p h t none arms is = absurd is
  found-target p h t (group u labels default x gs) arms (inl same) =
      kept-some (groups_text w p h gs) (update nat_eq arms u (Some _)) t (by_test (nat_eq u t) (number_same u t same))
    where
      by_test : (b : Bool) → b ≡ true → is_some (cond b (Some (text.group (labels_text w h labels default) (stmts_in (entering_case w h u x ++ region_text w p x)))) (arms t)) ≡ true
      by_test true on = refl
      by_test false on = cc
  found-target p h t (group u labels default x gs) arms (inr is) = found-target p h t gs (update nat_eq arms u (Some (text.group (labels_text w h labels default) (stmts_in (entering_case w h u x ++ region_text w p x))))) is

  some-first : (arms : ℕ → Option text.Arm) (t : ℕ) (ts : List ℕ) → is_some (arms t) ≡ true → has_arms (arms_in (in_order (t ∷ ts) arms)) ≡ true
  some-first arms t ts some = by_arm (arms t) some
    where
      by_arm : (o : Option text.Arm) → is_some o ≡ true → has_arms (arms_in (option_to_list o ++ in_order ts (update nat_eq arms t None))) ≡ true
      by_arm None some = cc
      by_arm (Some (text.group ls b)) some = refl

module _ (W : Words) (w : Blocks) (IsHere : ℕ → Type 0) (Chooses : ℕ → Type 0) (Leads : ℕ → ℕ → Type 0) (made : AreMade W w IsHere Chooses Leads) where
  given-made : (o : Option Expr) → ((e : Expr) → o ≡ Some e → UsesExpr W e) → UsesIfSome W o
  given-made None each = tt
  given-made (Some e) each = each e refl

  left-made : (o : Option ℕ) → EachStmt W (leave_loop w o)
  left-made None = tt
  left-made (Some h) = flags-made W (λ flag. set_flag flag true ∷ []) (w.leave h) (made.leave h) (set-made W true)

  edge-made : (p : Place) (t : ℕ) (k : EdgeKind) → EachStmt W (edge_text w p t k)
  edge-made p t Enter = tt
  edge-made p t Merge = tt
  edge-made p t SwitchBreak = (tt, tt)
  edge-made p t Break = both-stmts W (if p.in_switch then leave_loop w p.in_loop else []) (text.leave ∷ []) (if-stmts W p.in_switch (leave_loop w p.in_loop) [] (left-made p.in_loop) tt) (tt, tt)
  edge-made p t Continue = (tt, tt)
  edge-made p t Back = if-stmts W p.continues [] (text.again ∷ []) tt (tt, tt)
  edge-made p t Fall = flags-made W (λ flag. set_flag flag true ∷ []) (w.fell t) (made.fell t) (set-made W true)

  exit-made : (p : Place) (e : Exit) → IsHereAt w IsHere Chooses Leads e → EachStmt W (exit_text w p e)
  exit-made p (Edge b t k) here = both-stmts W (w.copies b t) (edge_text w p t k) (made.copies b t here.0 here.1) (edge-made p t k)
  exit-made p (Return b) here = (given-made (w.value b) (λ e is. made.value b e here is), tt)
  exit-made p (Lost b) here = tt
  exit-made p Closed here = tt

  entering-made : (b t : ℕ) (r : Region) → IsHere b → IsEntered w IsHere Chooses Leads b t r → EachStmt W (entering w b t r)
  entering-made b t (ends e) here enters = tt
  entering-made b t (item i r) here enters = made.copies b t here enters

  onward-made : (i : Item) (r : Region) → IsWholeItem w IsHere Chooses Leads i → GoesOn w IsHere Chooses Leads i r → EachStmt W (onward w (plain_block i) r)
  onward-made (plain b) r here on = entering-made b (w.target b 0) r here on
  onward-made (choose h x y) r here on = tt
  onward-made (loose h x y) r here on = tt
  onward-made (loop h x) r here on = tt
  onward-made (loop_on h z x) r here on = tt
  onward-made (switch h gs) r here on = tt

  unless-made : (copies : List Stmt) (o : Option Text) → ((x : Text) → o ≡ Some x → W.value x) → EachStmt W copies → EachStmt W (unless_fallen copies o)
  unless-made copies None named p = p
  unless-made copies (Some flag) named p = (when-made W (not (name flag)) copies (named flag refl) p, tt)

  leave-made : (o : Option Text) → ((x : Text) → o ≡ Some x → W.value x) → EachStmt W (leave_again o)
  leave-made None named = tt
  leave-made (Some flag) named = ((named flag refl, (tt, tt)), tt)

  looped-made : (o : Option ℕ) → EachStmt W (leave_again (option_map_or w.leave o None))
  looped-made None = tt
  looped-made (Some h) = leave-made (w.leave h) (made.leave h)

  behind-made : (p : Place) (breaks : Bool) → EachStmt W (behind_switch w p breaks)
  behind-made p breaks = if-stmts W breaks (leave_again (option_map_or w.leave p.in_loop None)) [] (looped-made p.in_loop) tt

  fells-made : (gs : Groups) → EachStmt W (fell_flags w gs)
  fells-made none = tt
  fells-made (group t labels default x gs) = both-stmts W (flags (λ flag. declare_flag flag ∷ []) (w.fell t)) (fell_flags w gs) (flags-made W (λ flag. declare_flag flag ∷ []) (w.fell t) (made.fell t) (declared-made W)) (fells-made gs)

  loops-made : (h : ℕ) → EachStmt W (loop_flags w h)
  loops-made h =
      both-stmts W (flags (λ flag. declare_flag flag ∷ []) (w.again h)) (flags (λ flag. declare_flag flag ∷ []) (w.leave h)) (flags-made W (λ flag. declare_flag flag ∷ []) (w.again h) (made.again h) (declared-made W))
      (flags-made W (λ flag. declare_flag flag ∷ []) (w.leave h) (made.leave h) (declared-made W))

  turn-made : (o : Option Text) (cont : List Stmt) → ((x : Text) → o ≡ Some x → W.value x) → EachStmt W cont → EachStmt W (turn o cont)
  turn-made None cont named p = tt
  turn-made (Some flag) cont named p = (when-made W (name flag) cont (named flag refl) p, set-made W true flag (named flag refl))

  loop-made : (h : ℕ) (inside : List Stmt) → EachStmt W inside → EachStmt W (loop_text w h inside)
  loop-made h inside p = both-stmts W (loop_flags w h) (text.loop (stmts_in inside) ∷ []) (loops-made h) (list-uses W inside p, tt)

  choice-made : (h : ℕ) (p : Place) (x y : Region) → IsHere h × Chooses h → IsEntered w IsHere Chooses Leads h (w.target h 0) x × IsEntered w IsHere Chooses Leads h (w.target h 1) y → EachStmt W (region_text w p x) → EachStmt W (region_text w p y)
      → EachStmt W (w.statements h ++ (conditional (w.condition h) (entering w h (w.target h 0) x ++ region_text w p x) (entering w h (w.target h 1) y ++ region_text w p y) ∷ []))
  choice-made h p x y here enters made_x made_y =
      both-stmts W (w.statements h) _ (made.statements h here.0) (
        conditional-made W (w.condition h) (entering w h (w.target h 0) x ++ region_text w p x) (entering w h (w.target h 1) y ++ region_text w p y) (made.condition h here.0 here.1) (both-stmts W (entering w h (w.target h 0) x) (region_text w p x) (entering-made h (w.target h 0) x here.0 enters.0) made_x)
            (both-stmts W (entering w h (w.target h 1) y) (region_text w p y) (entering-made h (w.target h 1) y here.0 enters.1) made_y),
        tt,
      )

  -- labels
  words-made : (h : ℕ) (words : List ℕ) (default : Bool) → FitWords words → AreSpelledLabels (labels_text w h words default)
  words-made h [] true fit = tt
  words-made h [] false fit = tt
  words-made h (x ∷ words) default fit = (made.case h x fit.0, words-made h words default fit.1)

  some-label : (h : ℕ) (words : List ℕ) (default : Bool) → HasLabel words default → 1 ≤ length (labels_text w h words default)
  some-label h [] true has = omega arith
  some-label h [] false (inl some) = absurd (omega (arith, some))
  some-label h [] false (inr on) = cc
  some-label h (x ∷ words) default has = omega arith

  switch-made : (h : ℕ) (p : Place) (gs : Groups) → IsWholeItem w IsHere Chooses Leads (switch h gs) → AreMadeGroups W (groups_text w (inside_switch p) h gs) → EachStmt W (item_text w p (switch h gs))
  switch-made h p gs whole groups =
      let arms : ℕ → Option text.Arm = by_target (groups_text w (inside_switch p) h gs) in
      let some : has_arms (arms_in (in_order (w.order h) arms)) ≡ true =
      ap (λ (ts : List ℕ). has_arms (arms_in (in_order ts arms))) whole.1.2 ∙ some-first w arms whole.1.0 whole.1.1 (found-target w (inside_switch p) h whole.1.0 gs (λ t. None) whole.1.3) in
      both-stmts W (w.statements h) _ (made.statements h whole.0.0)
      (both-stmts W (fell_flags w gs) _ (fells-made gs)
      ((made.condition h whole.0.0 whole.0.1, some, arms-made W (in_order (w.order h) arms) (in-order-made W (w.order h) arms (all-updated-made W (groups_text w (inside_switch p) h gs) (λ t. None) (λ t. tt) groups))), behind-made p (groups_have_break gs)))

  mutual
    pub region-made : (p : Place) (r : Region) → IsWhole w IsHere Chooses Leads r → EachStmt W (region_text w p r)
    region-made p (ends e) whole = exit-made p e whole
    region-made p (item i r) whole = both-stmts W (item_text w p i) (onward w (plain_block i) r ++ region_text w p r) (item-made p i whole.0) (both-stmts W (onward w (plain_block i) r) (region_text w p r) (onward-made i r whole.0 whole.1) (region-made p r whole.2))

    item-made : (p : Place) (i : Item) → IsWholeItem w IsHere Chooses Leads i → EachStmt W (item_text w p i)
    item-made p (plain b) whole = made.statements b whole
    item-made p (choose h x y) whole = choice-made h p x y whole.0 whole.1 (region-made p x whole.2) (region-made p y whole.3)
    item-made p (loose h x y) whole = choice-made h p x y whole.0 whole.1 (region-made p x whole.2) (region-made p y whole.3)
    item-made p (loop h x) whole = loop-made h (region_text w (inside_loop h false) x) (region-made (inside_loop h false) x whole)
    item-made p (loop_on h z x) whole =
        loop-made h (turn (w.again h) (region_text w (inside_loop h true) z) ++ region_text w (inside_loop h false) x)
        (both-stmts W (turn (w.again h) (region_text w (inside_loop h true) z)) (region_text w (inside_loop h false) x) (turn-made (w.again h) (region_text w (inside_loop h true) z) (made.again h) (region-made (inside_loop h true) z whole.0)) (region-made (inside_loop h false) x whole.1))
    item-made p (switch h gs) whole = switch-made h p gs whole (groups-made (inside_switch p) h gs whole.0.0 whole.2)

    groups-made : (p : Place) (h : ℕ) (gs : Groups) → IsHere h → AreWhole w IsHere Chooses Leads h gs → AreMadeGroups W (groups_text w p h gs)
    groups-made p h none here whole = tt
    groups-made p h (group t labels default x gs) here whole = (
      (some-label h labels default whole.0.0, words-made h labels default whole.0.1, list-uses W (entering_case w h t x ++ region_text w p x) (both-stmts W (entering_case w h t x) (region_text w p x) (unless-made (entering w h t x) (w.fell t) (made.fell t) (entering-made h t x here whole.1)) (region-made p x whole.2))),
      groups-made p h gs here whole.3,
    )
