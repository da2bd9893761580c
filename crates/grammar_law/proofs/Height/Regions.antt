-- The statements of a tree of regions are two higher for each construct, from those of its blocks and edges.
use Rattle.std.proofs.Common.{◌≡◌, ◌≤◌, ◌+◌, ◌*◌, ℕ, Bool, true, false, List, [], ◌∷◌, ◌++◌, cond, Option, Some, None, max, nat_eq, refl, arith, if◌then◌else◌}
use Rattle.std.specs.Option.{option_map_or, option_to_list}
use Rattle.std.specs.Map.{update, update_all}
use Rattle.structure_rules.specs.declared.graph.EdgeKind.{EdgeKind}
use Rattle.structure_rules.specs.declared.graph.EdgeKind.TheVariants.{Enter, Merge, SwitchBreak, Break, Continue, Back, Fall}
use Rattle.structure_recover.specs.declared.region.Exit.{Exit}
use Rattle.structure_recover.specs.declared.region.Exit.TheVariants.{Edge, Return, Lost, Closed}
use Rattle.structure_recover.specs.Tree.{Region, ends, item, Item, plain, choose, loose, loop, loop_on, switch, Groups, none, group}
use Rattle.glsl_ast.specs.Tree as text
use Rattle.glsl_ast.specs.Tree.{Text, Expr, Stmt, name, not, when, stmts_in, arms_in}
use Rattle.glsl_ast.specs.Height.{highest, highest_in, height, label_height, stmt_height, stmts_height, arms_height}
use Rattle.glsl_ast.specs.declared.statements.Label.{Label}
use Rattle.control_text.specs.declared.place.Place.{Place}
use Rattle.control_text.specs.Statements.{Blocks, set_flag, declare_flag, flags, conditional, unless_fallen, groups_have_break, plain_block, leave_again, by_target, in_order, turn, inside_loop, inside_switch, leave_loop, edge_text, exit_text, entering, onward, entering_case, behind_switch, labels_text, fell_flags, loop_flags, loop_text, region_text, item_text, groups_text}
use Rattle.list_law.proofs.Numbers.{le_on}
use Rattle.grammar_law.specs.Nest.{nest, item_nest, groups_nest}
use Rattle.grammar_law.specs.Written.{AreLow}
use Rattle.grammar_law.proofs.Height.Lists.{append-le, stmts-le}

-- flags
flags-le : (f : Text → List Stmt) (o : Option Text) (n : ℕ) → ((t : Text) → highest stmt_height (f t) ≤ n) → highest stmt_height (flags f o) ≤ n
flags-le f None n each = omega arith
flags-le f (Some t) n each = each t

pub if-le : (b : Bool) (xs ys : List Stmt) (n : ℕ) → highest stmt_height xs ≤ n → highest stmt_height ys ≤ n → highest stmt_height (if b then xs else ys) ≤ n
if-le true xs ys n p q = p
if-le false xs ys n p q = q

-- statements in a statement
loop-le : (xs : List Stmt) (n : ℕ) → highest stmt_height xs ≤ n → stmt_height (text.loop (stmts_in xs)) ≤ n + 1
loop-le xs n p = let inside = stmts-le xs n p in omega (arith, inside)

when-le : (c : Expr) (xs : List Stmt) (n : ℕ) → height c ≤ n → highest stmt_height xs ≤ n → stmt_height (when c (stmts_in xs)) ≤ n + 1
when-le c xs n p q = let inside = stmts-le xs n q in omega (arith, inside, p)

conditional-le : (c : Expr) (xs ys : List Stmt) (n : ℕ) → height c ≤ n → highest stmt_height xs ≤ n → highest stmt_height ys ≤ n → stmt_height (conditional c xs ys) ≤ n + 1
conditional-le c xs [] n p q r = when-le c xs n p q
conditional-le c xs (y ∷ ys) n p q r =
    let taken = stmts-le xs n q in
    let other = stmts-le (y ∷ ys) n r in
    omega (arith, taken, other, p)

-- the groups of a switch
abbrev arm_height : text.Arm → ℕ
arm_height (text.group ls b) = max (highest label_height ls) (stmts_height b)

arms-le : (as' : List text.Arm) (n : ℕ) → highest arm_height as' ≤ n → arms_height (arms_in as') ≤ n
arms-le [] n p = omega arith
arms-le (text.group ls b ∷ as') n p = let rest = arms-le as' n (omega (arith, p)) in omega (arith, rest, p)

labels-low : (ls : List Label) → highest label_height ls ≤ 1
labels-low [] = omega arith
labels-low (l ∷ ls) = let rest = labels-low ls in omega (arith, rest)

abbrev AreLowArms : ℕ → (ℕ → Option text.Arm) → Type 0
AreLowArms n arms = (t : ℕ) → highest arm_height (option_to_list (arms t)) ≤ n

updated-le : (n : ℕ) (arms : ℕ → Option text.Arm) (t : ℕ) (o : Option text.Arm) → AreLowArms n arms → highest arm_height (option_to_list o) ≤ n → AreLowArms n (update nat_eq arms t o)
updated-le n arms t o each one u = by_test (nat_eq t u)
  where
    by_test : (b : Bool) → highest arm_height (option_to_list (cond b o (arms u))) ≤ n
    by_test true = one
    by_test false = each u

abbrev pair_height : ℕ × text.Arm → ℕ
pair_height g = arm_height g.1

all-updated-le : (n : ℕ) (gs : List (ℕ × text.Arm)) (arms : ℕ → Option text.Arm) → AreLowArms n arms → highest pair_height gs ≤ n → AreLowArms n (update_all nat_eq arms gs)
all-updated-le n [] arms each low = each
all-updated-le n (g ∷ gs) arms each low = all-updated-le n gs (update nat_eq arms g.0 (Some g.1)) (updated-le n arms g.0 (Some g.1) each (omega (arith, low))) (omega (arith, low))

in-order-le : (n : ℕ) (ts : List ℕ) (arms : ℕ → Option text.Arm) → AreLowArms n arms → highest arm_height (in_order ts arms) ≤ n
in-order-le n [] arms each = omega arith
in-order-le n (t ∷ ts) arms each = append-le arm_height (option_to_list (arms t)) (in_order ts (update nat_eq arms t None)) n (each t) (in-order-le n ts (update nat_eq arms t None) (updated-le n arms t None each (omega arith)))

module _ (w : Blocks) (n : ℕ) (low : AreLow w n) where
  given-le : (o : Option Expr) → ((e : Expr) → o ≡ Some e → height e ≤ n) → highest_in height o ≤ n
  given-le None each = omega arith
  given-le (Some e) each = each e refl

  left-le : (o : Option ℕ) → highest stmt_height (leave_loop w o) ≤ n
  left-le None = omega arith
  left-le (Some h) = flags-le (λ flag. set_flag flag true ∷ []) (w.leave h) n (λ t. let some = low.some in omega (arith, some))

  edge-le : (p : Place) (t : ℕ) (k : EdgeKind) → highest stmt_height (edge_text w p t k) ≤ n
  edge-le p t Enter = omega arith
  edge-le p t Merge = omega arith
  edge-le p t SwitchBreak = let some = low.some in omega (arith, some)
  edge-le p t Break = let some = low.some in append-le stmt_height (if p.in_switch then leave_loop w p.in_loop else []) (text.leave ∷ []) n (if-le p.in_switch (leave_loop w p.in_loop) [] n (left-le p.in_loop) (omega arith)) (omega (arith, some))
  edge-le p t Continue = let some = low.some in omega (arith, some)
  edge-le p t Back = let some = low.some in if-le p.continues [] (text.again ∷ []) n (omega arith) (omega (arith, some))
  edge-le p t Fall = flags-le (λ flag. set_flag flag true ∷ []) (w.fell t) n (λ t. let some = low.some in omega (arith, some))

  exit-le : (p : Place) (e : Exit) → highest stmt_height (exit_text w p e) ≤ n + 1
  exit-le p (Edge b t k) = append-le stmt_height (w.copies b t) (edge_text w p t k) (n + 1) (le_on _ _ _ (low.copies b t) (omega arith)) (le_on _ _ _ (edge-le p t k) (omega arith))
  exit-le p (Return b) = let one = given-le (w.value b) (low.value b) in omega (arith, one)
  exit-le p (Lost b) = omega arith
  exit-le p Closed = omega arith

  entering-le : (b t : ℕ) (r : Region) → highest stmt_height (entering w b t r) ≤ n
  entering-le b t (ends e) = omega arith
  entering-le b t (item i r) = low.copies b t

  onward-le : (o : Option ℕ) (r : Region) → highest stmt_height (onward w o r) ≤ n
  onward-le None r = omega arith
  onward-le (Some b) r = entering-le b (w.target b 0) r

  unless-le : (copies : List Stmt) (o : Option Text) → highest stmt_height copies ≤ n → highest stmt_height (unless_fallen copies o) ≤ n + 1
  unless-le copies None p = omega (arith, p)
  unless-le copies (Some flag) p = let some = low.some in let one = when-le (not (name flag)) copies n (omega (arith, some)) p in omega (arith, one)

  leave-le : (o : Option Text) → highest stmt_height (leave_again o) ≤ n
  leave-le None = omega arith
  leave-le (Some flag) = let some = low.some in omega (arith, some)

  behind-le : (p : Place) (breaks : Bool) → highest stmt_height (behind_switch w p breaks) ≤ n
  behind-le p breaks = if-le breaks (leave_again (option_map_or w.leave p.in_loop None)) [] n (leave-le (option_map_or w.leave p.in_loop None)) (omega arith)

  declared-le : (t : Text) → highest stmt_height (declare_flag t ∷ []) ≤ n
  declared-le t = let some = low.some in omega (arith, some)

  loop-flags-le : (h : ℕ) → highest stmt_height (loop_flags w h) ≤ n
  loop-flags-le h = append-le stmt_height (flags (λ flag. declare_flag flag ∷ []) (w.again h)) (flags (λ flag. declare_flag flag ∷ []) (w.leave h)) n (flags-le (λ flag. declare_flag flag ∷ []) (w.again h) n declared-le) (flags-le (λ flag. declare_flag flag ∷ []) (w.leave h) n declared-le)

  fell-flags-le : (gs : Groups) → highest stmt_height (fell_flags w gs) ≤ n
  fell-flags-le none = omega arith
  fell-flags-le (group t labels default x gs) = append-le stmt_height (flags (λ flag. declare_flag flag ∷ []) (w.fell t)) (fell_flags w gs) n (flags-le (λ flag. declare_flag flag ∷ []) (w.fell t) n declared-le) (fell-flags-le gs)

  turn-le : (o : Option Text) (cont : List Stmt) (k : ℕ) → n ≤ k → highest stmt_height cont ≤ k → highest stmt_height (turn o cont) ≤ k + 1
  turn-le None cont k more p = omega arith
  turn-le (Some flag) cont k more p = let some = low.some in let one = when-le (name flag) cont k (omega (arith, some, more)) p in omega (arith, one, some, more)

  whole-loop-le : (h : ℕ) (inside : List Stmt) (k : ℕ) → n ≤ k → highest stmt_height inside ≤ k → highest stmt_height (loop_text w h inside) ≤ k + 1
  whole-loop-le h inside k more p = let one = loop-le inside k p in append-le stmt_height (loop_flags w h) (text.loop (stmts_in inside) ∷ []) (k + 1) (le_on _ _ _ (loop-flags-le h) (omega (arith, more))) (omega (arith, one))

  branch-le : (h t : ℕ) (p : Place) (x : Region) (k : ℕ) → highest stmt_height (region_text w p x) ≤ n + 1 + 2 * nest x → nest x ≤ k → highest stmt_height (entering w h t x ++ region_text w p x) ≤ n + 1 + 2 * k
  branch-le h t p x k low_x less = append-le stmt_height (entering w h t x) (region_text w p x) (n + 1 + 2 * k) (le_on _ _ _ (entering-le h t x) (omega arith)) (le_on _ _ _ low_x (omega (arith, less)))

  choice-le : (h : ℕ) (p : Place) (x y : Region) → highest stmt_height (region_text w p x) ≤ n + 1 + 2 * nest x → highest stmt_height (region_text w p y) ≤ n + 1 + 2 * nest y
      → highest stmt_height (w.statements h ++ (conditional (w.condition h) (entering w h (w.target h 0) x ++ region_text w p x) (entering w h (w.target h 1) y ++ region_text w p y) ∷ [])) ≤ n + 1 + 2 * (1 + max (nest x) (nest y))
  choice-le h p x y low_x low_y =
      let k : ℕ = max (nest x) (nest y) in
      let c = low.condition h in
      let one = conditional-le (w.condition h) (entering w h (w.target h 0) x ++ region_text w p x) (entering w h (w.target h 1) y ++ region_text w p y) (n + 1 + 2 * k) (omega (arith, c)) (branch-le h (w.target h 0) p x k low_x (omega arith)) (branch-le h (w.target h 1) p y k low_y (omega arith)) in
      append-le stmt_height (w.statements h) (conditional (w.condition h) (entering w h (w.target h 0) x ++ region_text w p x) (entering w h (w.target h 1) y ++ region_text w p y) ∷ []) (n + 1 + 2 * (1 + k)) (le_on _ _ _ (low.statements h) (omega arith)) (omega (arith, one))

  switch-le : (h : ℕ) (p : Place) (gs : Groups) → highest pair_height (groups_text w (inside_switch p) h gs) ≤ n + 1 + 2 * groups_nest gs → highest stmt_height (item_text w p (switch h gs)) ≤ n + 1 + 2 * (1 + groups_nest gs)
  switch-le h p gs low_gs =
      let k : ℕ = groups_nest gs in
      let c = low.condition h in
      let arms = arms-le (in_order (w.order h) (by_target (groups_text w (inside_switch p) h gs))) (n + 1 + 2 * k) (in-order-le (n + 1 + 2 * k) (w.order h) (by_target (groups_text w (inside_switch p) h gs)) (all-updated-le (n + 1 + 2 * k) (groups_text w (inside_switch p) h gs) (λ t. None) (λ t. omega arith) low_gs)) in
      let back = behind-le p (groups_have_break gs) in
      append-le stmt_height (w.statements h) _ (n + 1 + 2 * (1 + k)) (le_on _ _ _ (low.statements h) (omega arith))
      (append-le stmt_height (fell_flags w gs) _ (n + 1 + 2 * (1 + k)) (le_on _ _ _ (fell-flags-le gs) (omega arith)) (omega (arith, c, arms, back)))

  mutual
    pub region-le : (p : Place) (r : Region) → highest stmt_height (region_text w p r) ≤ n + 1 + 2 * nest r
    region-le p (ends e) = le_on _ _ _ (exit-le p e) (omega arith)
    region-le p (item i r) =
        append-le stmt_height (item_text w p i) (onward w (plain_block i) r ++ region_text w p r) (n + 1 + 2 * max (item_nest i) (nest r)) (le_on _ _ _ (item-le p i) (omega arith))
        (append-le stmt_height (onward w (plain_block i) r) (region_text w p r) (n + 1 + 2 * max (item_nest i) (nest r)) (le_on _ _ _ (onward-le (plain_block i) r) (omega arith)) (le_on _ _ _ (region-le p r) (omega arith)))

    item-le : (p : Place) (i : Item) → highest stmt_height (item_text w p i) ≤ n + 1 + 2 * item_nest i
    item-le p (plain b) = le_on _ _ _ (low.statements b) (omega arith)
    item-le p (choose h x y) = choice-le h p x y (region-le p x) (region-le p y)
    item-le p (loose h x y) = choice-le h p x y (region-le p x) (region-le p y)
    item-le p (loop h x) = le_on _ _ _ (whole-loop-le h (region_text w (inside_loop h false) x) (n + 1 + 2 * nest x) (omega arith) (region-le (inside_loop h false) x)) (omega arith)
    item-le p (loop_on h z x) =
        let k : ℕ = max (nest z) (nest x) in
        le_on _ _ _
        (whole-loop-le h (turn (w.again h) (region_text w (inside_loop h true) z) ++ region_text w (inside_loop h false) x) (n + 1 + 2 * k + 1) (omega arith)
        (append-le stmt_height (turn (w.again h) (region_text w (inside_loop h true) z)) (region_text w (inside_loop h false) x) (n + 1 + 2 * k + 1)
        (turn-le (w.again h) (region_text w (inside_loop h true) z) (n + 1 + 2 * k) (omega arith) (le_on _ _ _ (region-le (inside_loop h true) z) (omega arith)))
        (le_on _ _ _ (region-le (inside_loop h false) x) (omega arith))))
        (omega arith)
    item-le p (switch h gs) = switch-le h p gs (groups-le (inside_switch p) h gs)

    groups-le : (p : Place) (h : ℕ) (gs : Groups) → highest pair_height (groups_text w p h gs) ≤ n + 1 + 2 * groups_nest gs
    groups-le p h none = omega arith
    groups-le p h (group t labels default x gs) =
        let body = stmts-le (entering_case w h t x ++ region_text w p x) (n + 1 + 2 * nest x)
        (append-le stmt_height (entering_case w h t x) (region_text w p x) (n + 1 + 2 * nest x) (le_on _ _ _ (unless-le (entering w h t x) (w.fell t) (entering-le h t x)) (omega arith)) (region-le p x)) in
        let labels_low = labels-low (labels_text w h labels default) in
        let rest = groups-le p h gs in
        omega (arith, body, labels_low, rest)
