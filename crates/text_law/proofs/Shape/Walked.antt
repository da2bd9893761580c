-- The walk through the statements of a tree of regions meets the tokens of the tree.
use Rattle.std.proofs.Common.{◌≡◌, ℕ, Bool, true, false, List, [], ◌∷◌, ◌++◌, cond, Option, Some, None, map, nat_eq, refl, sym, ◌∙◌, ap, if◌then◌else◌}
use Rattle.std.specs.Option.{option_map_or, option_to_list}
use Rattle.std.specs.Map.{update, update_all}
use Rattle.structure_rules.specs.declared.graph.EdgeKind.{EdgeKind}
use Rattle.structure_rules.specs.declared.graph.EdgeKind.TheVariants.{Enter, Merge, SwitchBreak, Break, Continue, Back, Fall}
use Rattle.structure_recover.specs.declared.region.Exit.{Exit}
use Rattle.structure_recover.specs.declared.region.Exit.TheVariants.{Edge, Return, Lost, Closed}
use Rattle.structure_recover.specs.Tree.{Region, ends, item, Item, plain, choose, loose, loop, loop_on, switch, Groups, none, group}
use Rattle.glsl_ast.specs.Tree as text
use Rattle.glsl_ast.specs.Tree.{Text, Expr, Stmt, name, give, when, stmts_in, arms_in}
use Rattle.control_text.specs.declared.place.Place.{Place}
use Rattle.control_text.specs.Statements.{Blocks, set_flag, declare_flag, flags, conditional, unless_fallen, groups_have_break, plain_block, leave_again, by_target, in_order, turn, inside_loop, inside_switch, leave_loop, edge_text, exit_text, entering, onward, entering_case, behind_switch, labels_text, fell_flags, loop_flags, loop_text, region_text, item_text, groups_text}
use Rattle.claim_law.specs.Blocks.{IsHereAt, IsEntered, GoesOn, IsWhole, IsWholeItem, AreWhole}
use Rattle.claim_law.specs.Told.{is_among}
use Rattle.text_law.specs.Deeds.{Deed, reads, assigns}
use Rattle.text_law.specs.Walks as walks
use Rattle.text_law.specs.Walks.{Outer, Token, if_any, walk_stmt, walk, walk_arms}
use Rattle.text_law.specs.Pairs.{Pair, turns, chooses, tests, closes, does, token_of}
use Rattle.text_law.specs.Quiet.{IsQuiet, AreQuiet, AreSeen}
use Rattle.text_law.specs.Paired.{Opened, guard, bare, denied, one_arm, arms_pairs, arms_by, done_pairs, behind_pairs, region_pairs, item_pairs, groups_pairs}

module _ (o : Outer) where
  pub walk-both : (xs ys : List Stmt) (ts : List Token) → walk o (stmts_in (xs ++ ys)) ts ≡ walk o (stmts_in xs) (walk o (stmts_in ys) ts)
  walk-both [] ys ts = refl
  walk-both (x ∷ xs) ys ts = ap (walk_stmt o x) (walk-both xs ys ts)

  quiet-both : (xs ys : List Stmt) → AreQuiet o xs → AreQuiet o ys → AreQuiet o (xs ++ ys)
  quiet-both xs ys p q ts = walk-both xs ys ts ∙ (p (walk o (stmts_in ys) ts) ∙ q ts)

  none-quiet : AreQuiet o []
  none-quiet ts = refl

  if-quiet : (b : Bool) (xs ys : List Stmt) → AreQuiet o xs → AreQuiet o ys → AreQuiet o (if b then xs else ys)
  if-quiet true xs ys p q = p
  if-quiet false xs ys p q = q

  flags-quiet : (f : Text → List Stmt) (x : Option Text) → ((t : Text) → x ≡ Some t → AreQuiet o (f t)) → AreQuiet o (flags f x)
  flags-quiet f None each = none-quiet
  flags-quiet f (Some t) each = each t refl

  unseen : (b : Bool) (d : Deed) → b ≡ false → (if b then d ∷ [] else []) ≡ []
  unseen true d off = cc
  unseen false d off = refl

  name-quiet : (x : Text) → is_among o.memory x ≡ false → IsQuiet o (name x)
  name-quiet x off = unseen (is_among o.memory x) (reads x) off

  denied-quiet : (x : Text) → is_among o.memory x ≡ false → IsQuiet o (denied x)
  denied-quiet x off = unseen (is_among o.memory x) (reads x) off

  set-quiet : (b : Bool) (x : Text) → is_among o.memory x ≡ false → AreQuiet o (set_flag x b ∷ [])
  set-quiet b x off ts = ap (λ ds. if_any ds ts) (unseen (is_among o.memory x) (assigns x) off)

  declared-quiet : (x : Text) → AreQuiet o (declare_flag x ∷ [])
  declared-quiet x ts = refl

  declared-flags : (x : Option Text) → AreQuiet o (flags (λ flag. declare_flag flag ∷ []) x)
  declared-flags x = flags-quiet (λ flag. declare_flag flag ∷ []) x (λ t is. declared-quiet t)

  given-quiet : (e : Option Expr) → ((x : Expr) → e ≡ Some x → IsQuiet o x) → AreQuiet o (give e ∷ [])
  given-quiet None each ts = refl
  given-quiet (Some x) each ts = ap (λ ds. if_any ds ts) (each x refl)

  when-walked : (c : Expr) (xs : List Stmt) (ts : List Token) → IsQuiet o c → walk_stmt o (when c (stmts_in xs)) ts ≡ walks.tests c ∷ walk o (stmts_in xs) (walks.closes ∷ ts)
  when-walked c xs ts quiet = ap (λ ds. if_any ds (walks.tests c ∷ walk o (stmts_in xs) (walks.closes ∷ ts))) quiet

  conditional-walked : (c : Expr) (xs ys : List Stmt) (ts : List Token) → IsQuiet o c → walk_stmt o (conditional c xs ys) ts ≡ walks.tests c ∷ walk o (stmts_in xs) (walk o (stmts_in ys) (walks.closes ∷ ts))
  conditional-walked c xs [] ts quiet = when-walked c xs ts quiet
  conditional-walked c xs (y ∷ ys) ts quiet = ap (λ ds. if_any ds (walks.tests c ∷ walk o (stmts_in xs) (walk o (stmts_in (y ∷ ys)) (walks.closes ∷ ts)))) quiet

  -- groups of a switch, as they are written and by their tokens
  abbrev IsArm : Option text.Arm → Option Opened → Type 0
  IsArm None None = Unit {0}
  IsArm None (Some f) = ⊥
  IsArm (Some (text.group ls b)) None = ⊥
  IsArm (Some (text.group ls b)) (Some f) = (ps : List Pair) → map token_of (f ps) ≡ walk o b (map token_of ps)

  abbrev AreArms : (ℕ → Option text.Arm) → (ℕ → Option Opened) → Type 0
  AreArms written arms = (t : ℕ) → IsArm (written t) (arms t)

  updated-arms : (written : ℕ → Option text.Arm) (arms : ℕ → Option Opened) (t : ℕ) (x : Option text.Arm) (f : Option Opened) → AreArms written arms → IsArm x f → AreArms (update nat_eq written t x) (update nat_eq arms t f)
  updated-arms written arms t x f each one u = by_test (nat_eq t u)
    where
      by_test : (b : Bool) → IsArm (cond b x (written u)) (cond b f (arms u))
      by_test true = one
      by_test false = each u

  arms-walked : (ts : List ℕ) (written : ℕ → Option text.Arm) (arms : ℕ → Option Opened) → AreArms written arms → (ps : List Pair) → map token_of (arms_pairs ts arms ps) ≡ walk_arms o (arms_in (in_order ts written)) (map token_of ps)
  arms-walked [] written arms each ps = refl
  arms-walked (t ∷ ts) written arms each ps =
      by_arm (written t) (arms t) (each t) (arms-walked ts (update nat_eq written t None) (update nat_eq arms t None) (updated-arms written arms t None None each tt) ps)
    where
      by_arm : (x : Option text.Arm) (f : Option Opened) → IsArm x f
          → map token_of (arms_pairs ts (update nat_eq arms t None) ps) ≡ walk_arms o (arms_in (in_order ts (update nat_eq written t None))) (map token_of ps)
          → map token_of (one_arm f (arms_pairs ts (update nat_eq arms t None) ps)) ≡ walk_arms o (arms_in (option_to_list x ++ in_order ts (update nat_eq written t None))) (map token_of ps)
      by_arm None None is behind = behind
      by_arm None (Some f) is behind = absurd is
      by_arm (Some (text.group ls b)) None is behind = absurd is
      by_arm (Some (text.group ls b)) (Some f) is behind = is (arms_pairs ts (update nat_eq arms t None) ps) ∙ ap (walk o b) behind

done-tokens : (b : ℕ) (dss : List (List Deed)) (ps : List Pair) → map token_of (map (does b) dss ++ ps) ≡ map walks.does dss ++ map token_of ps
done-tokens b [] ps = refl
done-tokens b (ds ∷ dss) ps = ap (λ (ts : List Token). walks.does ds ∷ ts) (done-tokens b dss ps)

module _ (o : Outer) (w : Blocks) (seen : ℕ → List (List Deed)) (IsHere : ℕ → Type 0) (Chooses : ℕ → Type 0) (Leads : ℕ → ℕ → Type 0) (are : AreSeen o w seen IsHere Chooses Leads) where
  left-quiet : (x : Option ℕ) → AreQuiet o (leave_loop w x)
  left-quiet None = none-quiet o
  left-quiet (Some h) = flags-quiet o (λ flag. set_flag flag true ∷ []) (w.leave h) (λ x is. set-quiet o true x (are.leave h x is))

  jump-quiet : AreQuiet o (text.leave ∷ [])
  jump-quiet ts = refl

  turn-quiet : AreQuiet o (text.again ∷ [])
  turn-quiet ts = refl

  edge-quiet : (p : Place) (t : ℕ) (k : EdgeKind) → AreQuiet o (edge_text w p t k)
  edge-quiet p t Enter = none-quiet o
  edge-quiet p t Merge = none-quiet o
  edge-quiet p t SwitchBreak = jump-quiet
  edge-quiet p t Break = quiet-both o (if p.in_switch then leave_loop w p.in_loop else []) (text.leave ∷ []) (if-quiet o p.in_switch (leave_loop w p.in_loop) [] (left-quiet p.in_loop) (none-quiet o)) jump-quiet
  edge-quiet p t Continue = turn-quiet
  edge-quiet p t Back = if-quiet o p.continues [] (text.again ∷ []) (none-quiet o) turn-quiet
  edge-quiet p t Fall = flags-quiet o (λ flag. set_flag flag true ∷ []) (w.fell t) (λ x is. set-quiet o true x (are.fell t x is))

  exit-quiet : (p : Place) (e : Exit) → IsHereAt w IsHere Chooses Leads e → AreQuiet o (exit_text w p e)
  exit-quiet p (Edge b t k) here = quiet-both o (w.copies b t) (edge_text w p t k) (are.copies b t here.0 here.1) (edge-quiet p t k)
  exit-quiet p (Return b) here = given-quiet o (w.value b) (λ x is. are.value b x here is)
  exit-quiet p (Lost b) here = none-quiet o
  exit-quiet p Closed here = none-quiet o

  entering-quiet : (b t : ℕ) (r : Region) → IsHere b → IsEntered w IsHere Chooses Leads b t r → AreQuiet o (entering w b t r)
  entering-quiet b t (ends e) here leads = none-quiet o
  entering-quiet b t (item i r) here leads = are.copies b t here leads

  onward-quiet : (i : Item) (r : Region) → IsWholeItem w IsHere Chooses Leads i → GoesOn w IsHere Chooses Leads i r → AreQuiet o (onward w (plain_block i) r)
  onward-quiet (plain b) r here goes = entering-quiet b (w.target b 0) r here goes
  onward-quiet (choose h x y) r here goes = none-quiet o
  onward-quiet (loose h x y) r here goes = none-quiet o
  onward-quiet (loop h x) r here goes = none-quiet o
  onward-quiet (loop_on h z x) r here goes = none-quiet o
  onward-quiet (switch h gs) r here goes = none-quiet o

  fell-quiet : (gs : Groups) → AreQuiet o (fell_flags w gs)
  fell-quiet none = none-quiet o
  fell-quiet (group t labels default x gs) = quiet-both o (flags (λ flag. declare_flag flag ∷ []) (w.fell t)) (fell_flags w gs) (declared-flags o (w.fell t)) (fell-quiet gs)

  -- an `if` that tests a flag, and a bare one
  behind-walked : (p : Place) (breaks : Bool) (ps : List Pair) → map token_of (behind_pairs w seen p breaks ps) ≡ walk o (stmts_in (behind_switch w p breaks)) (map token_of ps)
  behind-walked p false ps = refl
  behind-walked p true ps = by_loop p.in_loop
    where
      by_flag : (x : Option Text) → ((t : Text) → x ≡ Some t → is_among o.memory t ≡ false) → map token_of (guard x name bare ps) ≡ walk o (stmts_in (leave_again x)) (map token_of ps)
      by_flag None off = refl
      by_flag (Some t) off = sym (when-walked o (name t) (text.leave ∷ []) (map token_of ps) (name-quiet o t (off t refl)))

      by_loop : (x : Option ℕ) → map token_of (guard (option_map_or w.leave x None) name bare ps) ≡ walk o (stmts_in (leave_again (option_map_or w.leave x None))) (map token_of ps)
      by_loop None = refl
      by_loop (Some h) = by_flag (w.leave h) (are.leave h)

  unless-walked : (xs : List Stmt) (x : Option Text) (ps : List Pair) → AreQuiet o xs → ((t : Text) → x ≡ Some t → is_among o.memory t ≡ false) → map token_of (guard x denied bare ps) ≡ walk o (stmts_in (unless_fallen xs x)) (map token_of ps)
  unless-walked xs None ps quiet off = sym (quiet (map token_of ps))
  unless-walked xs (Some t) ps quiet off =
      sym (when-walked o (denied t) xs (map token_of ps) (denied-quiet o t (off t refl)) ∙ ap (λ (ts : List Token). walks.tests (denied t) ∷ ts) (quiet (walks.closes ∷ map token_of ps)))

  done-walked : (b : ℕ) (ps : List Pair) → IsHere b → map token_of (done_pairs w seen b ps) ≡ walk o (stmts_in (w.statements b)) (map token_of ps)
  done-walked b ps here = done-tokens b (seen b) ps ∙ sym (are.statements b here (map token_of ps))

  abbrev IsWalked : Place → Region → Type 0
  IsWalked p r = (ps : List Pair) → map token_of (region_pairs w seen p r ps) ≡ walk o (stmts_in (region_text w p r)) (map token_of ps)

  branch-walked : (b t : ℕ) (p : Place) (r : Region) → IsHere b → IsEntered w IsHere Chooses Leads b t r → IsWalked p r → (ps : List Pair)
      → map token_of (region_pairs w seen p r ps) ≡ walk o (stmts_in (entering w b t r ++ region_text w p r)) (map token_of ps)
  branch-walked b t p r here leads walked ps =
      walked ps ∙ sym (walk-both o (entering w b t r) (region_text w p r) (map token_of ps) ∙ entering-quiet b t r here leads (walk o (stmts_in (region_text w p r)) (map token_of ps)))

  two-walked : (h : ℕ) (p : Place) (x y : Region) → IsHere h → IsQuiet o (w.condition h) → IsEntered w IsHere Chooses Leads h (w.target h 0) x → IsEntered w IsHere Chooses Leads h (w.target h 1) y → IsWalked p x → IsWalked p y → (ps : List Pair)
      → map token_of (done_pairs w seen h (tests h (w.condition h) ∷ region_pairs w seen p x (region_pairs w seen p y (closes ∷ ps))))
      ≡ walk o (stmts_in (w.statements h ++ (conditional (w.condition h) (entering w h (w.target h 0) x ++ region_text w p x) (entering w h (w.target h 1) y ++ region_text w p y) ∷ []))) (map token_of ps)
  two-walked h p x y here quiet enter other walked_x walked_y ps =
      done-walked h (tests h (w.condition h) ∷ region_pairs w seen p x (region_pairs w seen p y (closes ∷ ps))) here
      ∙ ap (walk o (stmts_in (w.statements h)))
      (ap (λ (ts : List Token). walks.tests (w.condition h) ∷ ts)
      (branch-walked h (w.target h 0) p x here enter walked_x (region_pairs w seen p y (closes ∷ ps))
      ∙ ap (walk o (stmts_in (entering w h (w.target h 0) x ++ region_text w p x))) (branch-walked h (w.target h 1) p y here other walked_y (closes ∷ ps)))
      ∙ sym (conditional-walked o (w.condition h) (entering w h (w.target h 0) x ++ region_text w p x) (entering w h (w.target h 1) y ++ region_text w p y) (map token_of ps) quiet))
      ∙ sym (walk-both o (w.statements h) (conditional (w.condition h) (entering w h (w.target h 0) x ++ region_text w p x) (entering w h (w.target h 1) y ++ region_text w p y) ∷ []) (map token_of ps))

  loop-walked : (h : ℕ) (inside : List Stmt) (qs : List Pair) (ps : List Pair) → map token_of qs ≡ walk o (stmts_in inside) (map token_of (closes ∷ ps)) → map token_of (turns h ∷ qs) ≡ walk o (stmts_in (loop_text w h inside)) (map token_of ps)
  loop-walked h inside qs ps same =
      ap (λ (ts : List Token). walks.turns ∷ ts) same
      ∙ sym (walk-both o (loop_flags w h) (text.loop (stmts_in inside) ∷ []) (map token_of ps)
      ∙ quiet-both o (flags (λ flag. declare_flag flag ∷ []) (w.again h)) (flags (λ flag. declare_flag flag ∷ []) (w.leave h)) (declared-flags o (w.again h)) (declared-flags o (w.leave h)) (walks.turns ∷ walk o (stmts_in inside) (walks.closes ∷ map token_of ps)))

  turn-walked : (h : ℕ) (x : Option Text) → ((t : Text) → x ≡ Some t → is_among o.memory t ≡ false) → (z : Region) → IsWalked (inside_loop h true) z → (qs : List Pair)
      → map token_of (guard x name (λ ps. region_pairs w seen (inside_loop h true) z ps) qs) ≡ walk o (stmts_in (turn x (region_text w (inside_loop h true) z))) (map token_of qs)
  turn-walked h None off z walked qs = refl
  turn-walked h (Some t) off z walked qs =
      ap (λ (ts : List Token). walks.tests (name t) ∷ ts) (walked (closes ∷ qs))
      ∙ sym (when-walked o (name t) (region_text w (inside_loop h true) z) (walk o (stmts_in (set_flag t true ∷ [])) (map token_of qs)) (name-quiet o t (off t refl))
      ∙ ap (λ (ts : List Token). walks.tests (name t) ∷ walk o (stmts_in (region_text w (inside_loop h true) z)) (walks.closes ∷ ts)) (set-quiet o true t (off t refl) (map token_of qs)))

  mutual
    pub region-walked : (p : Place) (r : Region) → IsWhole w IsHere Chooses Leads r → (ps : List Pair) → map token_of (region_pairs w seen p r ps) ≡ walk o (stmts_in (region_text w p r)) (map token_of ps)
    region-walked p (ends e) whole ps = sym (exit-quiet p e whole (map token_of ps))
    region-walked p (item i r) whole ps =
        item-walked p i whole.0 (region_pairs w seen p r ps)
        ∙ ap (walk o (stmts_in (item_text w p i))) (region-walked p r whole.2 ps ∙ sym (onward-quiet i r whole.0 whole.1 (walk o (stmts_in (region_text w p r)) (map token_of ps))) ∙ sym (walk-both o (onward w (plain_block i) r) (region_text w p r) (map token_of ps)))
        ∙ sym (walk-both o (item_text w p i) (onward w (plain_block i) r ++ region_text w p r) (map token_of ps))

    item-walked : (p : Place) (i : Item) → IsWholeItem w IsHere Chooses Leads i → (ps : List Pair) → map token_of (item_pairs w seen p i ps) ≡ walk o (stmts_in (item_text w p i)) (map token_of ps)
    item-walked p (plain b) whole ps = done-walked b ps whole
    item-walked p (choose h x y) whole ps = two-walked h p x y whole.0.0 (are.condition h whole.0.0 whole.0.1) whole.1.0 whole.1.1 (region-walked p x whole.2) (region-walked p y whole.3) ps
    item-walked p (loose h x y) whole ps = two-walked h p x y whole.0.0 (are.condition h whole.0.0 whole.0.1) whole.1.0 whole.1.1 (region-walked p x whole.2) (region-walked p y whole.3) ps
    item-walked p (loop h x) whole ps = loop-walked h (region_text w (inside_loop h false) x) (region_pairs w seen (inside_loop h false) x (closes ∷ ps)) ps (region-walked (inside_loop h false) x whole (closes ∷ ps))
    item-walked p (loop_on h z x) whole ps =
        loop-walked h (turn (w.again h) (region_text w (inside_loop h true) z) ++ region_text w (inside_loop h false) x) (guard (w.again h) name (λ qs. region_pairs w seen (inside_loop h true) z qs) (region_pairs w seen (inside_loop h false) x (closes ∷ ps))) ps
        (turn-walked h (w.again h) (are.again h) z (region-walked (inside_loop h true) z whole.0) (region_pairs w seen (inside_loop h false) x (closes ∷ ps))
        ∙ ap (walk o (stmts_in (turn (w.again h) (region_text w (inside_loop h true) z)))) (region-walked (inside_loop h false) x whole.1 (closes ∷ ps))
        ∙ sym (walk-both o (turn (w.again h) (region_text w (inside_loop h true) z)) (region_text w (inside_loop h false) x) (map token_of (closes ∷ ps))))
    item-walked p (switch h gs) whole ps =
        done-walked h (chooses h ∷ arms_pairs (w.order h) (arms_by (groups_pairs w seen (inside_switch p) h gs)) (closes ∷ behind_pairs w seen p (groups_have_break gs) ps)) whole.0.0
        ∙ ap (walk o (stmts_in (w.statements h)))
        (ap (λ (ts : List Token). walks.chooses ∷ ts)
        (arms-walked o (w.order h) (by_target (groups_text w (inside_switch p) h gs)) (arms_by (groups_pairs w seen (inside_switch p) h gs)) (groups-walked (inside_switch p) h gs whole.0.0 whole.2 (λ t. None) (λ t. None) (λ t. tt)) (closes ∷ behind_pairs w seen p (groups_have_break gs) ps)
        ∙ ap (λ (ts : List Token). walk_arms o (arms_in (in_order (w.order h) (by_target (groups_text w (inside_switch p) h gs)))) (walks.closes ∷ ts)) (behind-walked p (groups_have_break gs) ps))
        ∙ sym (walk-both o (fell_flags w gs) Choice (map token_of ps) ∙ fell-quiet gs (walk o (stmts_in Choice) (map token_of ps)) ∙ chosen))
        ∙ sym (walk-both o (w.statements h) (fell_flags w gs ++ Choice) (map token_of ps))
      where
        Arms : text.Arms
        Arms = arms_in (in_order (w.order h) (by_target (groups_text w (inside_switch p) h gs)))

        Choice : List Stmt
        Choice = text.switch (w.condition h) Arms ∷ behind_switch w p (groups_have_break gs)

        chosen : walk o (stmts_in Choice) (map token_of ps) ≡ walks.chooses ∷ walk_arms o Arms (walks.closes ∷ walk o (stmts_in (behind_switch w p (groups_have_break gs))) (map token_of ps))
        chosen = ap (λ ds. if_any ds (walks.chooses ∷ walk_arms o Arms (walks.closes ∷ walk o (stmts_in (behind_switch w p (groups_have_break gs))) (map token_of ps)))) (are.condition h whole.0.0 whole.0.1)

    groups-walked : (p : Place) (h : ℕ) (gs : Groups) → IsHere h → AreWhole w IsHere Chooses Leads h gs → (written : ℕ → Option text.Arm) (arms : ℕ → Option Opened) → AreArms o written arms
        → AreArms o (update_all nat_eq written (groups_text w p h gs)) (update_all nat_eq arms (groups_pairs w seen p h gs))
    groups-walked p h none here whole written arms each = each
    groups-walked p h (group t labels default x gs) here whole written arms each =
        groups-walked p h gs here whole.3 (update nat_eq written t (Some (text.group (labels_text w h labels default) (stmts_in (entering_case w h t x ++ region_text w p x))))) (update nat_eq arms t (Some (λ ps. guard (w.fell t) denied bare (region_pairs w seen p x ps))))
        (updated-arms o written arms t (Some (text.group (labels_text w h labels default) (stmts_in (entering_case w h t x ++ region_text w p x)))) (Some (λ ps. guard (w.fell t) denied bare (region_pairs w seen p x ps))) each (one (region-walked p x whole.2)))
      where
        one : ((ps : List Pair) → map token_of (region_pairs w seen p x ps) ≡ walk o (stmts_in (region_text w p x)) (map token_of ps))
            → (ps : List Pair) → map token_of (guard (w.fell t) denied bare (region_pairs w seen p x ps)) ≡ walk o (stmts_in (entering_case w h t x ++ region_text w p x)) (map token_of ps)
        one walked ps =
            unless-walked (entering w h t x) (w.fell t) (region_pairs w seen p x ps) (entering-quiet h t x here whole.1) (are.fell t)
            ∙ ap (walk o (stmts_in (entering_case w h t x))) (walked ps)
            ∙ sym (walk-both o (entering_case w h t x) (region_text w p x) (map token_of ps))
