-- The statements of a region, from what is written of its blocks and of the edges between them (SPIR-V 1.6, section 2.11; GLSL 4.60, chapter 6).
use Rattle.std.specs.Prelude.{ℕ, ◌||◌, nat_eq, Bool, true, false, List, [], ◌∷◌, ◌++◌, map, Option, Some, None, if◌then◌else◌}
use Rattle.std.specs.Option.{option_map_or, option_to_list}
use Rattle.std.specs.Map.{update, update_all}
use Rattle.structure_rules.specs.declared.graph.EdgeKind.{EdgeKind}
use Rattle.structure_rules.specs.declared.graph.EdgeKind.TheVariants.{Enter, Merge, SwitchBreak, Break, Continue, Back, Fall}
use Rattle.structure_recover.specs.declared.region.Exit.{Exit}
use Rattle.structure_recover.specs.declared.region.Exit.TheVariants.{Edge, Return, Lost, Closed}
use Rattle.structure_recover.specs.Tree.{Region, ends, item, Item, plain, choose, loose, loop, loop_on, switch, Groups, none, group}
use Rattle.glsl_ast.specs.Tree as text
use Rattle.glsl_ast.specs.Tree.{Text, Expr, Stmt, declare, assign, when, either, give, stmts_in, lvalue, type_name, boolean, literal, name, not}
use Rattle.glsl_ast.specs.declared.expressions.Literal.{Literal}
use Rattle.glsl_ast.specs.declared.expressions.Literal.TheVariants.{Truth}
use Rattle.glsl_ast.specs.declared.statements.Label.{Label}
use Rattle.glsl_ast.specs.declared.statements.Label.TheVariants.{Case, Default}
use Rattle.control_text.specs.declared.place.Place.{Place}

-- what is written of a function's blocks and edges: the statements of a block before its terminator; the condition or the selector of a terminator, and the literal of a case by its word; what a block returns; the copies of an edge; the names of the flags that are needed, of a loop by its header (whether this is its first turn; whether a switch leaves it) and of a case target that is fallen into; and in which order the targets of a switch are written
pub record Blocks : Type 0 where
  pub statements : ℕ → List Stmt
  pub condition : ℕ → Expr
  pub case : ℕ → ℕ → Literal
  pub value : ℕ → Option Expr
  pub target : ℕ → ℕ → ℕ
  pub copies : ℕ → ℕ → List Stmt
  pub again : ℕ → Option Text
  pub leave : ℕ → Option Text
  pub fell : ℕ → Option Text
  pub order : ℕ → List ℕ

-- flag = value; bool flag = value;
abbrev pub set_flag : Text → Bool → Stmt
set_flag flag value = assign (lvalue flag []) (literal (Truth value))

abbrev pub declare_flag : Text → Stmt
declare_flag flag = declare (type_name boolean []) flag (Some (literal (Truth false)))

abbrev pub flags : (Text → List Stmt) → Option Text → List Stmt
flags f None = []
flags f (Some flag) = f flag

-- a conditional, whose else part is written where it has a statement
abbrev pub conditional : Expr → List Stmt → List Stmt → Stmt
conditional c taken [] = when c (stmts_in taken)
conditional c taken (s ∷ other) = either c (stmts_in taken) (stmts_in (s ∷ other))

-- the copies of an edge from a switch to a case target, where that is fallen into: not after a fall
abbrev pub unless_fallen : List Stmt → Option Text → List Stmt
unless_fallen copies None = copies
unless_fallen copies (Some flag) = when (not (name flag)) (stmts_in copies) ∷ []

-- an edge out of a region breaks out of a loop that stands round it
abbrev pub is_break : Exit → Bool
is_break (Edge b t Break) = true
is_break _ = false

abbrev mutual
  pub has_break : Region → Bool
  has_break (ends e) = is_break e
  has_break (item i r) = item_has_break i || has_break r

  pub item_has_break : Item → Bool
  item_has_break (plain b) = false
  item_has_break (choose h x y) = has_break x || has_break y
  item_has_break (loose h x y) = has_break x || has_break y
  item_has_break (loop h x) = false
  item_has_break (loop_on h z x) = false
  item_has_break (switch h gs) = groups_have_break gs

  pub groups_have_break : Groups → Bool
  groups_have_break none = false
  groups_have_break (group t labels default x gs) = has_break x || groups_have_break gs

-- the block that a plain item is
abbrev pub plain_block : Item → Option ℕ
plain_block (plain b) = Some b
plain_block i = None

-- behind a switch by which a loop is left
abbrev pub leave_again : Option Text → List Stmt
leave_again None = []
leave_again (Some flag) = when (name flag) (stmts_in (text.leave ∷ [])) ∷ []

-- the groups of a switch by their targets
abbrev pub by_target : List (ℕ × text.Arm) → ℕ → Option text.Arm
by_target gs = update_all nat_eq (λ t. None) gs

-- the groups of a switch in an order of their targets, each of them once
abbrev pub in_order : List ℕ → (ℕ → Option text.Arm) → List text.Arm
in_order [] arms = []
in_order (t ∷ ts) arms = option_to_list (arms t) ++ in_order ts (update nat_eq arms t None)

-- the continue construct stands first in the body, and is left out in the first turn
abbrev pub turn : Option Text → List Stmt → List Stmt
turn None cont = []
turn (Some flag) cont = when (name flag) (stmts_in cont) ∷ set_flag flag true ∷ []

abbrev pub inside_loop : ℕ → Bool → Place
inside_loop h continues = record { in_loop = Some h; continues = continues; in_switch = false }

abbrev pub inside_switch : Place → Place
inside_switch p = record p { in_switch = true }

module _ (w : Blocks) where
  -- a break from inside a switch sets the flag of the loop that it leaves
  abbrev pub leave_loop : Option ℕ → List Stmt
  leave_loop None = []
  leave_loop (Some h) = flags (λ flag. set_flag flag true ∷ []) (w.leave h)

  -- what an edge does, behind its copies: a merge and a fall go on with what comes next, and so does the end of a continue construct
  abbrev pub edge_text : Place → ℕ → EdgeKind → List Stmt
  edge_text p t Enter = []
  edge_text p t Merge = []
  edge_text p t SwitchBreak = text.leave ∷ []
  edge_text p t Break = (if p.in_switch then leave_loop p.in_loop else []) ++ (text.leave ∷ [])
  edge_text p t Continue = text.again ∷ []
  edge_text p t Back = if p.continues then [] else text.again ∷ []
  edge_text p t Fall = flags (λ flag. set_flag flag true ∷ []) (w.fell t)

  abbrev pub exit_text : Place → Exit → List Stmt
  exit_text p (Edge b t kind) = w.copies b t ++ edge_text p t kind
  exit_text p (Return b) = give (w.value b) ∷ []
  exit_text p (Lost b) = []
  exit_text p Closed = []

  -- the copies of an edge that enters the first block of a region
  abbrev pub entering : ℕ → ℕ → Region → List Stmt
  entering b t (ends e) = []
  entering b t (item i r) = w.copies b t

  -- the copies of the edge from a plain block to what stands behind it
  abbrev pub onward : Option ℕ → Region → List Stmt
  onward None r = []
  onward (Some b) r = entering b (w.target b 0) r

  abbrev pub copies_from : Option ℕ → List Stmt
  copies_from None = []
  copies_from (Some b) = w.copies b (w.target b 0)

  abbrev pub entering_case : ℕ → ℕ → Region → List Stmt
  entering_case h t r = unless_fallen (entering h t r) (w.fell t)

  abbrev pub behind_switch : Place → Bool → List Stmt
  behind_switch p breaks = if breaks then leave_again (option_map_or w.leave p.in_loop None) else []

  -- the labels of a group: the default comes last
  abbrev pub labels_text : ℕ → List ℕ → Bool → List Label
  labels_text h words default = map (λ word. Case (w.case h word)) words ++ (if default then Default ∷ [] else [])

  -- the flags of the case targets of a switch, in the order in which its groups stand
  abbrev pub fell_flags : Groups → List Stmt
  fell_flags none = []
  fell_flags (group t labels default x gs) = flags (λ flag. declare_flag flag ∷ []) (w.fell t) ++ fell_flags gs

  -- the flags of a loop
  abbrev pub loop_flags : ℕ → List Stmt
  loop_flags h = flags (λ flag. declare_flag flag ∷ []) (w.again h) ++ flags (λ flag. declare_flag flag ∷ []) (w.leave h)

  -- a loop
  abbrev pub loop_text : ℕ → List Stmt → List Stmt
  loop_text h inside = loop_flags h ++ (text.loop (stmts_in inside) ∷ [])

  abbrev mutual
    pub region_text : Place → Region → List Stmt
    region_text p (ends e) = exit_text p e
    region_text p (item i r) = item_text p i ++ (onward (plain_block i) r ++ region_text p r)

    pub item_text : Place → Item → List Stmt
    item_text p (plain b) = w.statements b
    item_text p (choose h x y) = w.statements h ++ (conditional (w.condition h) (entering h (w.target h 0) x ++ region_text p x) (entering h (w.target h 1) y ++ region_text p y) ∷ [])
    item_text p (loose h x y) = w.statements h ++ (conditional (w.condition h) (entering h (w.target h 0) x ++ region_text p x) (entering h (w.target h 1) y ++ region_text p y) ∷ [])
    item_text p (loop h x) = loop_text h (region_text (inside_loop h false) x)
    item_text p (loop_on h z x) = loop_text h (turn (w.again h) (region_text (inside_loop h true) z) ++ region_text (inside_loop h false) x)
    item_text p (switch h gs) =
        w.statements h ++ (fell_flags gs ++ (text.switch (w.condition h) (text.arms_in (in_order (w.order h) (by_target (groups_text (inside_switch p) h gs))))
        ∷ behind_switch p (groups_have_break gs)))

    pub groups_text : Place → ℕ → Groups → List (ℕ × text.Arm)
    groups_text p h none = []
    groups_text p h (group t labels default x gs) =
        (t, text.group (labels_text h labels default) (stmts_in (entering_case h t x ++ region_text p x))) ∷ groups_text p h gs

-- the statements of a function's tree
abbrev pub function_text : Blocks → Region → List Stmt
function_text w r = region_text w (record { in_loop = None; continues = false; in_switch = false }) r
