-- Each `if` of a tree of regions that is of no conditional tests a flag.
use Rattle.std.proofs.Common.{◌≡◌, ℕ, Bool, true, false, List, [], ◌∷◌, ◌++◌, cond, Option, Some, None, map, nat_eq, refl}
use Rattle.std.specs.Option.{option_map_or}
use Rattle.std.specs.Map.{update, update_all}
use Rattle.structure_recover.specs.Tree.{Region, ends, item, Item, plain, choose, loose, loop, loop_on, switch, Groups, none, group}
use Rattle.name_alloc.specs.declared.claims.Key.{Key}
use Rattle.name_alloc.specs.declared.claims.Key.TheVariants.{Again}
use Rattle.glsl_ast.specs.Tree.{Text, Expr, name}
use Rattle.control_text.specs.declared.place.Place.{Place}
use Rattle.control_text.specs.Statements.{Blocks, groups_have_break, inside_loop, inside_switch}
use Rattle.safe_law.specs.Flags.{is_flag}
use Rattle.text_law.specs.Deeds.{Deed}
use Rattle.text_law.specs.Pairs.{Pair, tests, closes, does, tested, Naming, is_again, AreGuards}
use Rattle.text_law.specs.Quiet.{IsFlagOf, AreFlags}
use Rattle.text_law.specs.Paired.{Opened, guard, bare, denied, one_arm, arms_pairs, arms_by, behind_pairs, region_pairs, item_pairs, groups_pairs}

again-flag : (key : Key) → is_again key ≡ true → is_flag key ≡ true
again-flag (Again label) on = refl
again-flag key on = cc

module _ (found : Naming) where
  abbrev Guards : List Pair → Type 0
  Guards ps = AreGuards found is_flag ps

  abbrev Keeps : Opened → Type 0
  Keeps f = (ps : List Pair) → Guards ps → Guards (f ps)

  bare-keeps : Keeps bare
  bare-keeps ps all = all

  guard-keeps : (x : Option Text) (c : Text → Expr) (f : Opened) → ((t : Text) → x ≡ Some t → IsFlagOf found is_flag t) → ((t : Text) → tested (c t) ≡ Some t) → Keeps f → Keeps (λ ps. guard x c f ps)
  guard-keeps None c f flag tests_it keeps ps all = all
  guard-keeps (Some t) c f flag tests_it keeps ps all = (let key = flag t refl in (key.0, t, key.1, key.2, tests_it t), keeps (closes ∷ ps) (tt, all))

  done-keeps : (b : ℕ) (dss : List (List Deed)) (ps : List Pair) → Guards ps → Guards (map (does b) dss ++ ps)
  done-keeps b [] ps all = all
  done-keeps b (ds ∷ dss) ps all = (tt, done-keeps b dss ps all)

  abbrev KeepsArm : Option Opened → Type 0
  KeepsArm None = Unit {0}
  KeepsArm (Some f) = Keeps f

  abbrev KeepArms : (ℕ → Option Opened) → Type 0
  KeepArms arms = (t : ℕ) → KeepsArm (arms t)

  updated-keep : (arms : ℕ → Option Opened) (t : ℕ) (f : Option Opened) → KeepArms arms → KeepsArm f → KeepArms (update nat_eq arms t f)
  updated-keep arms t f each one u = by_test (nat_eq t u)
    where
      by_test : (b : Bool) → KeepsArm (cond b f (arms u))
      by_test true = one
      by_test false = each u

  arms-keep : (ts : List ℕ) (arms : ℕ → Option Opened) → KeepArms arms → Keeps (arms_pairs ts arms)
  arms-keep [] arms each ps all = all
  arms-keep (t ∷ ts) arms each ps all = by_arm (arms t) (each t) (arms-keep ts (update nat_eq arms t None) (updated-keep arms t None each tt) ps all)
    where
      by_arm : (f : Option Opened) → KeepsArm f → Guards (arms_pairs ts (update nat_eq arms t None) ps) → Guards (one_arm f (arms_pairs ts (update nat_eq arms t None) ps))
      by_arm None keeps rest = rest
      by_arm (Some f) keeps rest = keeps (arms_pairs ts (update nat_eq arms t None) ps) rest

  module _ (w : Blocks) (seen : ℕ → List (List Deed)) (flags : AreFlags found w) where
    again-named : (h : ℕ) (t : Text) → w.again h ≡ Some t → IsFlagOf found is_flag t
    again-named h t is = let key = flags.again h t is in (key.0, again-flag key.0 key.1, key.2)

    behind-keeps : (p : Place) (breaks : Bool) → Keeps (behind_pairs w seen p breaks)
    behind-keeps p false ps all = all
    behind-keeps p true ps all = by_loop p.in_loop
      where
        by_loop : (x : Option ℕ) → Guards (guard (option_map_or w.leave x None) name bare ps)
        by_loop None = all
        by_loop (Some h) = guard-keeps (w.leave h) name bare (flags.leave h) (λ t. refl) bare-keeps ps all

    mutual
      pub region-keeps : (p : Place) (r : Region) (ps : List Pair) → Guards ps → Guards (region_pairs w seen p r ps)
      region-keeps p (ends e) ps all = all
      region-keeps p (item i r) ps all = item-keeps p i (region_pairs w seen p r ps) (region-keeps p r ps all)

      item-keeps : (p : Place) (i : Item) (ps : List Pair) → Guards ps → Guards (item_pairs w seen p i ps)
      item-keeps p (plain b) ps all = done-keeps b (seen b) ps all
      item-keeps p (choose h x y) ps all =
          done-keeps h (seen h) (tests h (w.condition h) ∷ region_pairs w seen p x (region_pairs w seen p y (closes ∷ ps))) (tt, region-keeps p x (region_pairs w seen p y (closes ∷ ps)) (region-keeps p y (closes ∷ ps) (tt, all)))
      item-keeps p (loose h x y) ps all =
          done-keeps h (seen h) (tests h (w.condition h) ∷ region_pairs w seen p x (region_pairs w seen p y (closes ∷ ps))) (tt, region-keeps p x (region_pairs w seen p y (closes ∷ ps)) (region-keeps p y (closes ∷ ps) (tt, all)))
      item-keeps p (loop h x) ps all = (tt, region-keeps (inside_loop h false) x (closes ∷ ps) (tt, all))
      item-keeps p (loop_on h z x) ps all =
          (tt, guard-keeps (w.again h) name (λ qs. region_pairs w seen (inside_loop h true) z qs) (again-named h) (λ t. refl) (λ qs each. region-keeps (inside_loop h true) z qs each) (region_pairs w seen (inside_loop h false) x (closes ∷ ps)) (region-keeps (inside_loop h false) x (closes ∷ ps) (tt, all)))
      item-keeps p (switch h gs) ps all =
          let rest = behind-keeps p (groups_have_break gs) ps all in
          let inside = arms-keep (w.order h) (arms_by (groups_pairs w seen (inside_switch p) h gs)) (groups-keep (inside_switch p) h gs (λ t. None) (λ t. tt)) (closes ∷ behind_pairs w seen p (groups_have_break gs) ps) (tt, rest) in
          done-keeps h (seen h) _ (tt, inside)

      groups-keep : (p : Place) (h : ℕ) (gs : Groups) (arms : ℕ → Option Opened) → KeepArms arms → KeepArms (update_all nat_eq arms (groups_pairs w seen p h gs))
      groups-keep p h none arms each = each
      groups-keep p h (group t labels default x gs) arms each =
          groups-keep p h gs (update nat_eq arms t (Some (λ ps. guard (w.fell t) denied bare (region_pairs w seen p x ps))))
          (updated-keep arms t (Some (λ ps. guard (w.fell t) denied bare (region_pairs w seen p x ps))) each
          (λ ps all. guard-keeps (w.fell t) denied bare (flags.fell t) (λ t. refl) bare-keeps (region_pairs w seen p x ps) (region-keeps p x ps all)))
