-- The tokens of a tree of regions, each with what it is of the module: as the tree is written.
use Rattle.std.specs.Prelude.{ℕ, nat_eq, Bool, true, false, List, [], ◌∷◌, ◌++◌, map, Option, Some, None, if◌then◌else◌}
use Rattle.std.specs.Option.{option_map_or}
use Rattle.std.specs.Map.{update, update_all}
use Rattle.structure_recover.specs.Tree.{Region, ends, item, Item, plain, choose, loose, loop, loop_on, switch, Groups, none, group}
use Rattle.glsl_ast.specs.Tree.{Text, Expr, name, not}
use Rattle.control_text.specs.declared.place.Place.{Place}
use Rattle.control_text.specs.Statements.{Blocks, groups_have_break, inside_loop, inside_switch}
use Rattle.text_law.specs.Deeds.{Deed}
use Rattle.text_law.specs.Pairs.{Pair, turns, chooses, tests, guards, closes, does}

-- what begins with these and goes on with others
abbrev pub Opened : Type 0
Opened = List Pair → List Pair

-- an `if` that tests a flag, where there is one
abbrev pub guard : Option Text → (Text → Expr) → Opened → Opened
guard None test inside ps = ps
guard (Some x) test inside ps = guards (test x) ∷ inside (closes ∷ ps)

abbrev pub bare : Opened
bare ps = ps

abbrev pub denied : Text → Expr
denied x = not (name x)

-- the groups of a switch in the order in which they are written
abbrev pub one_arm : Option Opened → Opened
one_arm None ps = ps
one_arm (Some f) ps = f ps

abbrev pub arms_pairs : List ℕ → (ℕ → Option Opened) → Opened
arms_pairs [] arms ps = ps
arms_pairs (t ∷ ts) arms ps = one_arm (arms t) (arms_pairs ts (update nat_eq arms t None) ps)

abbrev pub arms_by : List (ℕ × Opened) → ℕ → Option Opened
arms_by gs = update_all nat_eq (λ t. None) gs

-- by what is written of blocks, and the deeds of their statements
module _ (w : Blocks) (seen : ℕ → List (List Deed)) where
  abbrev pub done_pairs : ℕ → Opened
  done_pairs b ps = map (does b) (seen b) ++ ps

  abbrev pub behind_pairs : Place → Bool → Opened
  behind_pairs p breaks ps = if breaks then guard (option_map_or w.leave p.in_loop None) name bare ps else ps

  abbrev mutual
    pub region_pairs : Place → Region → List Pair → List Pair
    region_pairs p (ends e) ps = ps
    region_pairs p (item i r) ps = item_pairs p i (region_pairs p r ps)

    pub item_pairs : Place → Item → List Pair → List Pair
    item_pairs p (plain b) ps = done_pairs b ps
    item_pairs p (choose h x y) ps = done_pairs h (tests h (w.condition h) ∷ region_pairs p x (region_pairs p y (closes ∷ ps)))
    item_pairs p (loose h x y) ps = done_pairs h (tests h (w.condition h) ∷ region_pairs p x (region_pairs p y (closes ∷ ps)))
    item_pairs p (loop h x) ps = turns h ∷ region_pairs (inside_loop h false) x (closes ∷ ps)
    item_pairs p (loop_on h z x) ps =
        turns h ∷ guard (w.again h) name (λ qs. region_pairs (inside_loop h true) z qs) (region_pairs (inside_loop h false) x (closes ∷ ps))
    item_pairs p (switch h gs) ps =
        done_pairs h (chooses h ∷ arms_pairs (w.order h) (arms_by (groups_pairs (inside_switch p) h gs)) (closes ∷ behind_pairs p (groups_have_break gs) ps))

    pub groups_pairs : Place → ℕ → Groups → List (ℕ × Opened)
    groups_pairs p h none = []
    groups_pairs p h (group t labels default x gs) = (t, λ ps. guard (w.fell t) denied bare (region_pairs p x ps)) ∷ groups_pairs p h gs
