-- The statements of a tree of regions, each with what stands round it there.
use Rattle.std.proofs.Common.{◌≡◌, ℕ, Bool, true, false, List, [], ◌∷◌, ◌++◌, cond, Option, Some, None, map, nat_eq, refl, sym, ◌∙◌, ap, append_assoc, if◌then◌else◌}
use Rattle.std.specs.Option.{option_map_or}
use Rattle.std.specs.Map.{update, update_all}
use Rattle.structure_recover.specs.Tree.{Region, ends, item, Item, plain, choose, loose, loop, loop_on, switch, Groups, none, group}
use Rattle.glsl_ast.specs.Tree.{Text, Expr, name}
use Rattle.control_text.specs.declared.place.Place.{Place}
use Rattle.control_text.specs.Statements.{Blocks, groups_have_break, inside_loop, inside_switch}
use Rattle.text_law.specs.Deeds.{Deed}
use Rattle.text_law.specs.Pairs.{Pair, turns, chooses, tests, guards, closes, does, Site, sites}
use Rattle.text_law.specs.Paired.{Opened, guard, bare, denied, one_arm, arms_pairs, arms_by, done_pairs, behind_pairs, region_pairs, item_pairs, groups_pairs}

abbrev pub site : Pair → List Pair → Site
site p round = record { what = p; round = round }

-- the statements of what is opened, by what stands round it
abbrev pub Sited : Type 0
Sited = List Pair → List Site

abbrev pub guard_sites : Option Text → (Text → Expr) → Sited → Sited
guard_sites None test inside round = []
guard_sites (Some x) test inside round = site (guards (test x)) round ∷ inside (guards (test x) ∷ round)

abbrev pub bare_sites : Sited
bare_sites round = []

abbrev pub one_sites : Option Sited → Sited
one_sites None round = []
one_sites (Some s) round = s round

abbrev pub arms_sites : List ℕ → (ℕ → Option Sited) → Sited
arms_sites [] arms round = []
arms_sites (t ∷ ts) arms round = one_sites (arms t) round ++ arms_sites ts (update nat_eq arms t None) round

module _ (w : Blocks) (seen : ℕ → List (List Deed)) where
  abbrev pub done_sites : ℕ → Sited
  done_sites b round = map (λ ds. site (does b ds) round) (seen b)

  abbrev pub behind_sites : Place → Bool → Sited
  behind_sites p breaks round = if breaks then guard_sites (option_map_or w.leave p.in_loop None) name bare_sites round else []

  abbrev mutual
    pub region_sites : Place → Region → List Pair → List Site
    region_sites p (ends e) round = []
    region_sites p (item i r) round = item_sites p i round ++ region_sites p r round

    pub item_sites : Place → Item → List Pair → List Site
    item_sites p (plain b) round = done_sites b round
    item_sites p (choose h x y) round = done_sites h round ++ (site (tests h (w.condition h)) round ∷ region_sites p x (tests h (w.condition h) ∷ round) ++ region_sites p y (tests h (w.condition h) ∷ round))
    item_sites p (loose h x y) round = done_sites h round ++ (site (tests h (w.condition h)) round ∷ region_sites p x (tests h (w.condition h) ∷ round) ++ region_sites p y (tests h (w.condition h) ∷ round))
    item_sites p (loop h x) round = site (turns h) round ∷ region_sites (inside_loop h false) x (turns h ∷ round)
    item_sites p (loop_on h z x) round =
        site (turns h) round ∷ guard_sites (w.again h) name (λ qs. region_sites (inside_loop h true) z qs) (turns h ∷ round) ++ region_sites (inside_loop h false) x (turns h ∷ round)
    item_sites p (switch h gs) round =
        done_sites h round ++ (site (chooses h) round ∷ arms_sites (w.order h) (update_all nat_eq (λ t. None) (groups_sites (inside_switch p) h gs)) (chooses h ∷ round) ++ behind_sites p (groups_have_break gs) round)

    pub groups_sites : Place → ℕ → Groups → List (ℕ × Sited)
    groups_sites p h none = []
    groups_sites p h (group t labels default x gs) = (t, λ round. guard_sites (w.fell t) denied bare_sites round ++ region_sites p x round) ∷ groups_sites p h gs

-- they stand so in the walk
abbrev IsSited : Opened → Sited → Type 0
IsSited f s = (round ps : List Pair) → sites round (f ps) ≡ s round ++ sites round ps

guard-sited : (x : Option Text) (test : Text → Expr) (f : Opened) (s : Sited) → IsSited f s → IsSited (λ ps. guard x test f ps) (guard_sites x test s)
guard-sited None test f s is round ps = refl
guard-sited (Some x) test f s is round ps = ap (λ (l : List Site). site (guards (test x)) round ∷ l) (is (guards (test x) ∷ round) (closes ∷ ps))

bare-sited : IsSited bare bare_sites
bare-sited round ps = refl

both-sited : (f g : Opened) (s t : Sited) → IsSited f s → IsSited g t → IsSited (λ ps. f (g ps)) (λ round. s round ++ t round)
both-sited f g s t is other round ps = is round (g ps) ∙ ap (λ (l : List Site). s round ++ l) (other round ps) ∙ sym (append_assoc (s round) (t round) (sites round ps))

done-sited : (b : ℕ) (dss : List (List Deed)) (round ps : List Pair) → sites round (map (does b) dss ++ ps) ≡ map (λ ds. site (does b ds) round) dss ++ sites round ps
done-sited b [] round ps = refl
done-sited b (ds ∷ dss) round ps = ap (λ (l : List Site). site (does b ds) round ∷ l) (done-sited b dss round ps)

abbrev IsSitedArm : Option Opened → Option Sited → Type 0
IsSitedArm None None = Unit {0}
IsSitedArm None (Some s) = ⊥
IsSitedArm (Some f) None = ⊥
IsSitedArm (Some f) (Some s) = IsSited f s

abbrev AreSitedArms : (ℕ → Option Opened) → (ℕ → Option Sited) → Type 0
AreSitedArms arms sited = (t : ℕ) → IsSitedArm (arms t) (sited t)

updated-sited : (arms : ℕ → Option Opened) (sited : ℕ → Option Sited) (t : ℕ) (f : Option Opened) (s : Option Sited) → AreSitedArms arms sited → IsSitedArm f s → AreSitedArms (update nat_eq arms t f) (update nat_eq sited t s)
updated-sited arms sited t f s each one u = by_test (nat_eq t u)
  where
    by_test : (b : Bool) → IsSitedArm (cond b f (arms u)) (cond b s (sited u))
    by_test true = one
    by_test false = each u

arms-sited : (ts : List ℕ) (arms : ℕ → Option Opened) (sited : ℕ → Option Sited) → AreSitedArms arms sited → IsSited (arms_pairs ts arms) (arms_sites ts sited)
arms-sited [] arms sited each round ps = refl
arms-sited (t ∷ ts) arms sited each round ps =
    by_arm (arms t) (sited t) (each t) (arms-sited ts (update nat_eq arms t None) (update nat_eq sited t None) (updated-sited arms sited t None None each tt))
  where
    by_arm : (f : Option Opened) (s : Option Sited) → IsSitedArm f s → IsSited (arms_pairs ts (update nat_eq arms t None)) (arms_sites ts (update nat_eq sited t None))
        → sites round (one_arm f (arms_pairs ts (update nat_eq arms t None) ps)) ≡ (one_sites s round ++ arms_sites ts (update nat_eq sited t None) round) ++ sites round ps
    by_arm None None is rest = rest round ps
    by_arm None (Some s) is rest = absurd is
    by_arm (Some f) None is rest = absurd is
    by_arm (Some f) (Some s) is rest = both-sited f (arms_pairs ts (update nat_eq arms t None)) s (arms_sites ts (update nat_eq sited t None)) is rest round ps

module _ (w : Blocks) (seen : ℕ → List (List Deed)) where
  behind-sited : (p : Place) (breaks : Bool) → IsSited (behind_pairs w seen p breaks) (behind_sites w seen p breaks)
  behind-sited p false round ps = refl
  behind-sited p true round ps = guard-sited (option_map_or w.leave p.in_loop None) name bare bare_sites bare-sited round ps

  two-sited : (h : ℕ) (c : Expr) (f g : Opened) (s t : Sited) → IsSited f s → IsSited g t
      → IsSited (λ ps. done_pairs w seen h (tests h c ∷ f (g (closes ∷ ps)))) (λ round. done_sites w seen h round ++ (site (tests h c) round ∷ s (tests h c ∷ round) ++ t (tests h c ∷ round)))
  two-sited h c f g s t is other round ps =
      done-sited h (seen h) round (tests h c ∷ f (g (closes ∷ ps)))
      ∙ ap (λ (l : List Site). done_sites w seen h round ++ (site (tests h c) round ∷ l)) (both-sited f g s t is other (tests h c ∷ round) (closes ∷ ps))
      ∙ sym (append_assoc (done_sites w seen h round) (site (tests h c) round ∷ s (tests h c ∷ round) ++ t (tests h c ∷ round)) (sites round ps))

  mutual
    pub region-sited : (p : Place) (r : Region) → IsSited (λ ps. region_pairs w seen p r ps) (region_sites w seen p r)
    region-sited p (ends e) round ps = refl
    region-sited p (item i r) round ps = both-sited (λ qs. item_pairs w seen p i qs) (λ qs. region_pairs w seen p r qs) (item_sites w seen p i) (region_sites w seen p r) (item-sited p i) (region-sited p r) round ps

    item-sited : (p : Place) (i : Item) → IsSited (λ ps. item_pairs w seen p i ps) (item_sites w seen p i)
    item-sited p (plain b) round ps = done-sited b (seen b) round ps
    item-sited p (choose h x y) round ps = two-sited h (w.condition h) (λ qs. region_pairs w seen p x qs) (λ qs. region_pairs w seen p y qs) (region_sites w seen p x) (region_sites w seen p y) (region-sited p x) (region-sited p y) round ps
    item-sited p (loose h x y) round ps = two-sited h (w.condition h) (λ qs. region_pairs w seen p x qs) (λ qs. region_pairs w seen p y qs) (region_sites w seen p x) (region_sites w seen p y) (region-sited p x) (region-sited p y) round ps
    item-sited p (loop h x) round ps = ap (λ (l : List Site). site (turns h) round ∷ l) (region-sited (inside_loop h false) x (turns h ∷ round) (closes ∷ ps))
    item-sited p (loop_on h z x) round ps =
        ap (λ (l : List Site). site (turns h) round ∷ l)
        (both-sited (λ qs. guard (w.again h) name (λ rs. region_pairs w seen (inside_loop h true) z rs) qs) (λ qs. region_pairs w seen (inside_loop h false) x qs)
        (guard_sites (w.again h) name (λ rs. region_sites w seen (inside_loop h true) z rs)) (region_sites w seen (inside_loop h false) x)
        (guard-sited (w.again h) name (λ rs. region_pairs w seen (inside_loop h true) z rs) (λ rs. region_sites w seen (inside_loop h true) z rs) (region-sited (inside_loop h true) z))
        (region-sited (inside_loop h false) x) (turns h ∷ round) (closes ∷ ps))
    item-sited p (switch h gs) round ps =
        done-sited h (seen h) round (chooses h ∷ Arms (closes ∷ behind_pairs w seen p (groups_have_break gs) ps))
        ∙ ap (λ (l : List Site). done_sites w seen h round ++ (site (chooses h) round ∷ l))
        (arms-sited (w.order h) (arms_by (groups_pairs w seen (inside_switch p) h gs)) (update_all nat_eq (λ t. None) (groups_sites w seen (inside_switch p) h gs)) (groups-sited (inside_switch p) h gs (λ t. None) (λ t. None) (λ t. tt)) (chooses h ∷ round) (closes ∷ behind_pairs w seen p (groups_have_break gs) ps)
        ∙ ap (λ (l : List Site). Inside ++ l) (behind-sited p (groups_have_break gs) round ps)
        ∙ sym (append_assoc Inside (behind_sites w seen p (groups_have_break gs) round) (sites round ps)))
        ∙ sym (append_assoc (done_sites w seen h round) (site (chooses h) round ∷ Inside ++ behind_sites w seen p (groups_have_break gs) round) (sites round ps))
      where
        Arms : Opened
        Arms = arms_pairs (w.order h) (arms_by (groups_pairs w seen (inside_switch p) h gs))

        Inside : List Site
        Inside = arms_sites (w.order h) (update_all nat_eq (λ t. None) (groups_sites w seen (inside_switch p) h gs)) (chooses h ∷ round)

    groups-sited : (p : Place) (h : ℕ) (gs : Groups) (arms : ℕ → Option Opened) (sited : ℕ → Option Sited) → AreSitedArms arms sited
        → AreSitedArms (update_all nat_eq arms (groups_pairs w seen p h gs)) (update_all nat_eq sited (groups_sites w seen p h gs))
    groups-sited p h none arms sited each = each
    groups-sited p h (group t labels default x gs) arms sited each =
        groups-sited p h gs (update nat_eq arms t (Some (λ ps. guard (w.fell t) denied bare (region_pairs w seen p x ps)))) (update nat_eq sited t (Some (λ round. guard_sites (w.fell t) denied bare_sites round ++ region_sites w seen p x round)))
        (updated-sited arms sited t (Some (λ ps. guard (w.fell t) denied bare (region_pairs w seen p x ps))) (Some (λ round. guard_sites (w.fell t) denied bare_sites round ++ region_sites w seen p x round)) each
        (both-sited (λ ps. guard (w.fell t) denied bare ps) (λ ps. region_pairs w seen p x ps) (guard_sites (w.fell t) denied bare_sites) (region_sites w seen p x) (guard-sited (w.fell t) denied bare bare_sites bare-sited) (region-sited p x)))
