-- The statements of a tree declare nothing without a value.
use Rattle.std.proofs.Common.{◌≡◌, ℕ, Bool, true, false, cond, List, [], ◌∷◌, ◌++◌, Option, Some, None, refl, ap, ◌∙◌, if◌then◌else◌}
use Rattle.std.specs.Prelude.{nat_eq, is_none}
use Rattle.std.specs.Option.{option_map_or, option_to_list}
use Rattle.std.specs.Map.{update, update_all}
use Rattle.structure_rules.specs.declared.graph.EdgeKind.{EdgeKind}
use Rattle.structure_rules.specs.declared.graph.EdgeKind.TheVariants.{Enter, Merge, SwitchBreak, Break, Continue, Back, Fall}
use Rattle.structure_recover.specs.declared.region.Exit.{Exit}
use Rattle.structure_recover.specs.declared.region.Exit.TheVariants.{Edge, Return, Lost, Closed}
use Rattle.structure_recover.specs.Tree.{Region, ends, item, Item, plain, choose, loose, loop, loop_on, switch, Groups, none, group}
use Rattle.glsl_ast.specs.Tree as text
use Rattle.glsl_ast.specs.Tree.{Text, Expr, Stmt, stmts_in, arms_in}
use Rattle.control_text.specs.declared.place.Place.{Place}
use Rattle.control_text.specs.Statements.{Blocks, set_flag, declare_flag, flags, conditional, unless_fallen, leave_again, turn, inside_loop, inside_switch, groups_have_break, plain_block, leave_loop, edge_text, exit_text, entering, onward, entering_case, behind_switch, fell_flags, loop_flags, loop_text, region_text, item_text, groups_text, in_order, by_target}
use Rattle.text_law.specs.Declarations.{declared_in, unset}
use Rattle.text_law.proofs.Variables.Texts.{declared_both}

-- lists of statements that declare nothing so
abbrev pub IsBare : List Stmt → Type 0
IsBare ss = unset (stmts_in ss) ≡ []

pub bare_both : (a b : List Stmt) → IsBare a → IsBare b → IsBare (a ++ b)
bare_both a b x y = declared_both is_none a b ∙ (ap (λ (l : List Text). l ++ unset (stmts_in b)) x ∙ y)

-- within other statements
joined_none : (a b : List Text) → a ≡ [] → b ≡ [] → a ++ b ≡ []
joined_none a b x y = ap (λ (l : List Text). l ++ b) x ∙ y

bare_conditional : (c : Expr) (a b : List Stmt) → IsBare a → IsBare b → IsBare (conditional c a b ∷ [])
bare_conditional c a [] x y = joined_none (unset (stmts_in a)) [] x refl
bare_conditional c a (s ∷ b) x y = joined_none (unset (stmts_in a) ++ unset (stmts_in (s ∷ b))) [] (joined_none (unset (stmts_in a)) (unset (stmts_in (s ∷ b))) x y) refl

bare_set : (o : Option Text) (v : Bool) → IsBare (flags (λ flag. set_flag flag v ∷ []) o)
bare_set None v = refl
bare_set (Some flag) v = refl

bare_flag : (o : Option Text) → IsBare (flags (λ flag. declare_flag flag ∷ []) o)
bare_flag None = refl
bare_flag (Some flag) = refl

bare_unless : (copies : List Stmt) (o : Option Text) → IsBare copies → IsBare (unless_fallen copies o)
bare_unless copies None x = x
bare_unless copies (Some flag) x = joined_none (unset (stmts_in copies)) [] x refl

bare_leave : (o : Option Text) → IsBare (leave_again o)
bare_leave None = refl
bare_leave (Some flag) = refl

bare_turn : (o : Option Text) (cont : List Stmt) → IsBare cont → IsBare (turn o cont)
bare_turn None cont x = refl
bare_turn (Some flag) cont x = joined_none (unset (stmts_in cont)) [] x refl

-- arms
abbrev IsBareArm : text.Arm → Type 0
IsBareArm (text.group labels body) = unset body ≡ []

abbrev IsBareIn : Option text.Arm → Type 0
IsBareIn None = Unit {0}
IsBareIn (Some a) = IsBareArm a

abbrev AreBareArms : List (ℕ × text.Arm) → Type 0
AreBareArms [] = Unit {0}
AreBareArms (g ∷ gs) = IsBareArm g.1 × AreBareArms gs

updated : (f : ℕ → Option text.Arm) (k : ℕ) (o : Option text.Arm) → ((t : ℕ) → IsBareIn (f t)) → IsBareIn o → (t : ℕ) → IsBareIn (update nat_eq f k o t)
updated f k o all one t = elim (nat_eq k t) as (λ b. IsBareIn (cond b o (f t))) [ true ↦ one | false ↦ all t ]

collected : (gs : List (ℕ × text.Arm)) (f : ℕ → Option text.Arm) → AreBareArms gs → ((t : ℕ) → IsBareIn (f t)) → (t : ℕ) → IsBareIn (update_all nat_eq f gs t)
collected [] f bare all t = all t
collected (g ∷ gs) f bare all t = collected gs (update nat_eq f g.0 (Some g.1)) bare.1 (updated f g.0 (Some g.1) all bare.0) t

ordered : (ts : List ℕ) (f : ℕ → Option text.Arm) → ((t : ℕ) → IsBareIn (f t)) → declared_in is_none (arms_in (in_order ts f)) ≡ []
ordered [] f all = refl
ordered (t ∷ ts) f all = by_arm (f t) (all t) (ordered ts (update nat_eq f t None) (updated f t None all tt))
  where
    by_arm : (o : Option text.Arm) → IsBareIn o → declared_in is_none (arms_in (in_order ts (update nat_eq f t None))) ≡ [] → declared_in is_none (arms_in (option_to_list o ++ in_order ts (update nat_eq f t None))) ≡ []
    by_arm None bare rest = rest
    by_arm (Some (text.group labels body)) bare rest = joined_none (unset body) (declared_in is_none (arms_in (in_order ts (update nat_eq f t None)))) bare rest

module _ (w : Blocks) (statements : (b : ℕ) → IsBare (w.statements b)) (copies : (b t : ℕ) → IsBare (w.copies b t)) where
  bare_edge : (p : Place) (t : ℕ) (k : EdgeKind) → IsBare (edge_text w p t k)
  bare_edge p t Enter = refl
  bare_edge p t Merge = refl
  bare_edge p t SwitchBreak = refl
  bare_edge p t Break = by_switch p.in_switch p.in_loop
    where
      by_switch : (b : Bool) (o : Option ℕ) → IsBare ((if b then leave_loop w o else []) ++ (text.leave ∷ []))
      by_switch true None = refl
      by_switch true (Some h) = bare_both (leave_loop w (Some h)) (text.leave ∷ []) (bare_set (w.leave h) true) refl
      by_switch false o = refl
  bare_edge p t Continue = refl
  bare_edge p t Back = by_place p.continues
    where
      by_place : (b : Bool) → IsBare (if b then [] else text.again ∷ [])
      by_place true = refl
      by_place false = refl
  bare_edge p t Fall = bare_set (w.fell t) true

  bare_exit : (p : Place) (e : Exit) → IsBare (exit_text w p e)
  bare_exit p (Edge b t k) = bare_both (w.copies b t) (edge_text w p t k) (copies b t) (bare_edge p t k)
  bare_exit p (Return b) = refl
  bare_exit p (Lost b) = refl
  bare_exit p Closed = refl

  bare_entering : (b t : ℕ) (r : Region) → IsBare (entering w b t r)
  bare_entering b t (ends e) = refl
  bare_entering b t (item i r) = copies b t

  bare_onward : (o : Option ℕ) (r : Region) → IsBare (onward w o r)
  bare_onward None r = refl
  bare_onward (Some b) r = bare_entering b (w.target b 0) r

  bare_behind : (p : Place) (q : Bool) → IsBare (behind_switch w p q)
  bare_behind p true = bare_leave (option_map_or w.leave p.in_loop None)
  bare_behind p false = refl

  bare_fell : (gs : Groups) → IsBare (fell_flags w gs)
  bare_fell none = refl
  bare_fell (group t labels default r gs) = bare_both (flags (λ flag. declare_flag flag ∷ []) (w.fell t)) (fell_flags w gs) (bare_flag (w.fell t)) (bare_fell gs)

  bare_loop : (h : ℕ) (inner : List Stmt) → IsBare inner → IsBare (loop_text w h inner)
  bare_loop h inner x =
      bare_both (loop_flags w h) (text.loop (stmts_in inner) ∷ []) (bare_both (flags (λ flag. declare_flag flag ∷ []) (w.again h)) (flags (λ flag. declare_flag flag ∷ []) (w.leave h)) (bare_flag (w.again h)) (bare_flag (w.leave h)))
      (joined_none (unset (stmts_in inner)) [] x refl)

  mutual
    pub bare_region : (p : Place) (r : Region) → IsBare (region_text w p r)
    bare_region p (ends e) = bare_exit p e
    bare_region p (item i r) = bare_both (item_text w p i) (onward w (plain_block i) r ++ region_text w p r) (bare_item p i) (bare_both (onward w (plain_block i) r) (region_text w p r) (bare_onward (plain_block i) r) (bare_region p r))

    bare_item : (p : Place) (i : Item) → IsBare (item_text w p i)
    bare_item p (plain b) = statements b
    bare_item p (choose h y z) =
        bare_both (w.statements h) (conditional (w.condition h) (entering w h (w.target h 0) y ++ region_text w p y) (entering w h (w.target h 1) z ++ region_text w p z) ∷ []) (statements h)
        (bare_conditional (w.condition h) (entering w h (w.target h 0) y ++ region_text w p y) (entering w h (w.target h 1) z ++ region_text w p z)
        (bare_both (entering w h (w.target h 0) y) (region_text w p y) (bare_entering h (w.target h 0) y) (bare_region p y))
        (bare_both (entering w h (w.target h 1) z) (region_text w p z) (bare_entering h (w.target h 1) z) (bare_region p z)))
    bare_item p (loose h y z) =
        bare_both (w.statements h) (conditional (w.condition h) (entering w h (w.target h 0) y ++ region_text w p y) (entering w h (w.target h 1) z ++ region_text w p z) ∷ []) (statements h)
        (bare_conditional (w.condition h) (entering w h (w.target h 0) y ++ region_text w p y) (entering w h (w.target h 1) z ++ region_text w p z)
        (bare_both (entering w h (w.target h 0) y) (region_text w p y) (bare_entering h (w.target h 0) y) (bare_region p y))
        (bare_both (entering w h (w.target h 1) z) (region_text w p z) (bare_entering h (w.target h 1) z) (bare_region p z)))
    bare_item p (loop h y) = bare_loop h (region_text w (inside_loop h false) y) (bare_region (inside_loop h false) y)
    bare_item p (loop_on h z y) =
        bare_loop h (turn (w.again h) (region_text w (inside_loop h true) z) ++ region_text w (inside_loop h false) y)
        (bare_both (turn (w.again h) (region_text w (inside_loop h true) z)) (region_text w (inside_loop h false) y) (bare_turn (w.again h) (region_text w (inside_loop h true) z) (bare_region (inside_loop h true) z)) (bare_region (inside_loop h false) y))
    bare_item p (switch h gs) =
        let arms = in_order (w.order h) (by_target (groups_text w (inside_switch p) h gs)) in
        bare_both (w.statements h) (fell_flags w gs ++ (text.switch (w.condition h) (arms_in arms) ∷ behind_switch w p (groups_have_break gs))) (statements h)
        (bare_both (fell_flags w gs) (text.switch (w.condition h) (arms_in arms) ∷ behind_switch w p (groups_have_break gs)) (bare_fell gs)
        (joined_none (declared_in is_none (arms_in arms)) (unset (stmts_in (behind_switch w p (groups_have_break gs)))) (ordered (w.order h) (by_target (groups_text w (inside_switch p) h gs)) (collected (groups_text w (inside_switch p) h gs) (λ t. None) (bare_groups (inside_switch p) h gs) (λ t. tt))) (bare_behind p (groups_have_break gs))))

    bare_groups : (p : Place) (h : ℕ) (gs : Groups) → AreBareArms (groups_text w p h gs)
    bare_groups p h none = tt
    bare_groups p h (group t labels default y gs) =
        (bare_both (entering_case w h t y) (region_text w p y) (bare_unless (entering w h t y) (w.fell t) (bare_entering h t y)) (bare_region p y), bare_groups p h gs)
