-- In a tree of regions in which a block stands once, the statements of its instructions stand directly after one another.
use Rattle.std.proofs.Common.{◌≡◌, ◌⊎◌, ◌≤◌, ◌+◌, ◌==◌, ℕ, zero, suc, Bool, true, false, List, [], ◌∷◌, ◌++◌, cond, Option, Some, None, filter, map, nat_eq, inl, inr, refl, sym, ◌∙◌, ap, ap₂, subst, arith, append_assoc, append-nil, if◌then◌else◌}
use Rattle.std.specs.Option.{option_map_or}
use Rattle.std.specs.Map.{update, update_all}
use Rattle.std.proofs.lemmas.Bool.Decides.{eqb_tells}
use Rattle.std.proofs.lemmas.List.Elements.{filter-append}
use Rattle.structure_rules.specs.declared.graph.Part.TheVariants.{If, Loop, Cont, Case}
use Rattle.structure_recover.specs.Tree.{Region, ends, item, Item, plain, choose, loose, loop, loop_on, switch, Groups, none, group}
use Rattle.structure_recover.specs.Once.{Around, within, branch, stands, item_stands, group_stands}
use Rattle.glsl_ast.specs.Tree.{Text, Expr, name}
use Rattle.control_text.specs.declared.place.Place.{Place}
use Rattle.control_text.specs.Statements.{Blocks, groups_have_break, inside_loop, inside_switch}
use Rattle.text_law.specs.Deeds.{Deed}
use Rattle.text_law.specs.Pairs.{Pair, turns, chooses, tests, guards, closes, does, is_done_in, StandTogether}
use Rattle.text_law.specs.Paired.{Opened, guard, bare, denied, arms_pairs, arms_by, one_arm, done_pairs, behind_pairs, region_pairs, item_pairs, groups_pairs}

abbrev pub one_if : Bool → ℕ
one_if true = 1
one_if false = 0

module _ (b : ℕ) where
  -- how often the block stands among these
  abbrev pub count : List (ℕ × List Around) → ℕ
  count [] = 0
  count (s ∷ ss) = one_if (s.0 == b) + count ss

  pub count-both : (xs ys : List (ℕ × List Around)) → count (xs ++ ys) ≡ count xs + count ys
  count-both [] ys = omega arith
  count-both (x ∷ xs) ys = let rest = count-both xs ys in omega (arith, rest)

  abbrev mine : List Pair → List Pair
  mine xs = filter (is_done_in b) xs

  none-together : (xs : List Pair) → mine xs ≡ [] → StandTogether b xs
  none-together xs off = ([], xs, ap (λ (l : List Pair). l ++ xs) (sym off))

  before-together : (xs ys : List Pair) → mine xs ≡ [] → StandTogether b ys → StandTogether b (xs ++ ys)
  before-together xs ys off run = (
    xs ++ run.0,
    run.1,
    ap (λ (l : List Pair). xs ++ l) run.2 ∙ sym (append_assoc xs run.0 (mine ys ++ run.1))
        ∙ ap (λ (l : List Pair). (xs ++ run.0) ++ (l ++ run.1)) (sym (filter-append (is_done_in b) xs ys ∙ ap (λ (l : List Pair). l ++ mine ys) off)),
  )

  behind-together : (xs ys : List Pair) → StandTogether b xs → mine ys ≡ [] → StandTogether b (xs ++ ys)
  behind-together xs ys run off = (
    run.0,
    run.1 ++ ys,
    ap (λ (l : List Pair). l ++ ys) run.2 ∙ append_assoc run.0 (mine xs ++ run.1) ys
        ∙ ap (λ (l : List Pair). run.0 ++ l) (append_assoc (mine xs) run.1 ys ∙ ap (λ (l : List Pair). l ++ (run.1 ++ ys)) (sym (filter-append (is_done_in b) xs ys ∙ ap (λ (l : List Pair). mine xs ++ l) off ∙ append-nil (mine xs)))),
  )

  -- what is opened, in which the block stands so often, begins with these tokens
  abbrev Adds : ℕ → Opened → Type 0
  Adds n f = n ≤ 1 → (xs : List Pair) × ((ps : List Pair) → f ps ≡ xs ++ ps) × (n ≡ 0 → mine xs ≡ []) × StandTogether b xs

  adds-none : (n : ℕ) (f : Opened) (xs : List Pair) → ((ps : List Pair) → f ps ≡ xs ++ ps) → mine xs ≡ [] → Adds n f
  adds-none n f xs is off few = (xs, is, λ e. off, none-together xs off)

  recounted : (m n : ℕ) (f : Opened) → m ≡ n → Adds n f → Adds m f
  recounted m n f e adds = subst (λ k. Adds k f) (sym e) adds

  once-at-most : (f : Opened) → Adds 0 f → Adds 1 f
  once-at-most f adds few = let own = adds (omega arith) in (own.0, own.1, λ e. own.2 refl, own.3)

  both-add : (m n : ℕ) (f g : Opened) → Adds m f → Adds n g → Adds (m + n) (λ ps. f (g ps))
  both-add m n f g adds more few = (
    xs.0 ++ ys.0,
    λ ps. xs.1 (g ps) ∙ ap (λ (l : List Pair). xs.0 ++ l) (ys.1 ps) ∙ sym (append_assoc xs.0 ys.0 ps),
    λ e. filter-append (is_done_in b) xs.0 ys.0 ∙ ap₂ (λ (k l : List Pair). k ++ l) (xs.2 (omega (arith, e))) (ys.2 (omega (arith, e))),
    by_count m refl,
  )
    where
      xs : (l : List Pair) × ((ps : List Pair) → f ps ≡ l ++ ps) × (m ≡ 0 → mine l ≡ []) × StandTogether b l
      xs = adds (omega (arith, few))

      ys : (l : List Pair) × ((ps : List Pair) → g ps ≡ l ++ ps) × (n ≡ 0 → mine l ≡ []) × StandTogether b l
      ys = more (omega (arith, few))

      by_count : (k : ℕ) → m ≡ k → StandTogether b (xs.0 ++ ys.0)
      by_count zero off = before-together xs.0 ys.0 (xs.2 off) ys.3
      by_count (suc k) on = behind-together xs.0 ys.0 xs.3 (ys.2 (omega (arith, few, on)))

  pair-adds : (p : Pair) → is_done_in b p ≡ false → Adds 0 (λ ps. p ∷ ps)
  pair-adds p off = adds-none 0 (λ ps. p ∷ ps) (p ∷ []) (λ ps. refl) (ap (λ (t : Bool). if t then p ∷ [] else []) off)

  wrapped : (p : Pair) (n : ℕ) (f : Opened) → is_done_in b p ≡ false → Adds n f → Adds n (λ ps. p ∷ f (closes ∷ ps))
  wrapped p n f off adds =
      recounted n (0 + (n + 0)) (λ ps. p ∷ f (closes ∷ ps)) (omega arith) (both-add 0 (n + 0) (λ ps. p ∷ ps) (λ ps. f (closes ∷ ps)) (pair-adds p off) (both-add n 0 f (λ ps. closes ∷ ps) adds (pair-adds closes refl)))

  bare-adds : Adds 0 bare
  bare-adds = adds-none 0 bare [] (λ ps. refl) refl

  guard-adds : (x : Option Text) (c : Text → Expr) (n : ℕ) (f : Opened) → Adds n f → Adds n (λ ps. guard x c f ps)
  guard-adds None c n f adds = adds-none n bare [] (λ ps. refl) refl
  guard-adds (Some t) c n f adds = wrapped (guards (c t)) n f refl adds

  own-done : (h : ℕ) (dss : List (List Deed)) → (h == b) ≡ true → mine (map (does h) dss) ≡ map (does h) dss
  own-done h [] on = refl
  own-done h (ds ∷ dss) on = ap (λ (t : Bool). if t then does h ds ∷ mine (map (does h) dss) else mine (map (does h) dss)) on ∙ ap (λ (l : List Pair). does h ds ∷ l) (own-done h dss on)

  other-done : (h : ℕ) (dss : List (List Deed)) → (h == b) ≡ false → mine (map (does h) dss) ≡ []
  other-done h [] off = refl
  other-done h (ds ∷ dss) off = ap (λ (t : Bool). if t then does h ds ∷ mine (map (does h) dss) else mine (map (does h) dss)) off ∙ other-done h dss off

  done-adds : (h : ℕ) (dss : List (List Deed)) → Adds (one_if (h == b)) (λ ps. map (does h) dss ++ ps)
  done-adds h dss = by_test (h == b) refl
    where
      by_test : (t : Bool) → (h == b) ≡ t → Adds (one_if t) (λ ps. map (does h) dss ++ ps)
      by_test true on few = (map (does h) dss, λ ps. refl, λ e. absurd (omega (arith, e)), ([], [], sym (append-nil (mine (map (does h) dss)) ∙ own-done h dss on)))
      by_test false off few = adds-none 0 (λ ps. map (does h) dss ++ ps) (map (does h) dss) (λ ps. refl) (other-done h dss off) few

  -- groups of a switch, which are written in some order, each once
  abbrev ArmAdds : ℕ → Option Opened → Type 0
  ArmAdds n None = Unit {0}
  ArmAdds n (Some f) = Adds n f

  abbrev AreNone : (ℕ → Option Opened) → Type 0
  AreNone arms = (t : ℕ) → ArmAdds 0 (arms t)

  -- but one
  abbrev AreOthersNone : (ℕ → Option Opened) → Type 0
  AreOthersNone arms = (t : ℕ) × ((u : ℕ) → (t ≡ u → ⊥) → ArmAdds 0 (arms u)) × ArmAdds 1 (arms t)

  arm-once : (f : Option Opened) → ArmAdds 0 f → ArmAdds 1 f
  arm-once None adds = tt
  arm-once (Some f) adds = once-at-most f adds

  set-none : (arms : ℕ → Option Opened) (t : ℕ) (f : Option Opened) (u : ℕ) → ArmAdds 0 (arms u) → ArmAdds 0 f → ArmAdds 0 (update nat_eq arms t f u)
  set-none arms t f u old new = by_test (nat_eq t u)
    where
      by_test : (c : Bool) → ArmAdds 0 (cond c f (arms u))
      by_test true = new
      by_test false = old

  set-other : (arms : ℕ → Option Opened) (t : ℕ) (f : Option Opened) → AreOthersNone arms → ArmAdds 0 f → AreOthersNone (update nat_eq arms t f)
  set-other arms t f one new = (one.0, λ u other. set-none arms t f u (one.1 u other) new, by_test (nat_eq t one.0))
    where
      by_test : (c : Bool) → ArmAdds 1 (cond c f (arms one.0))
      by_test true = arm-once f new
      by_test false = one.2

  set-one : (arms : ℕ → Option Opened) (t : ℕ) (f : Option Opened) → AreNone arms → ArmAdds 1 f → AreOthersNone (update nat_eq arms t f)
  set-one arms t f off new = (t, λ u other. by_place u other (eqb_tells t u), by_test (nat_eq t t))
    where
      by_test : (c : Bool) → ArmAdds 1 (cond c f (arms t))
      by_test true = new
      by_test false = arm-once (arms t) (off t)

      kept : (u : ℕ) (c : Bool) → c ≡ false → ArmAdds 0 (cond c f (arms u))
      kept u true is = cc
      kept u false is = off u

      by_place : (u : ℕ) → (t ≡ u → ⊥) → ((nat_eq t u ≡ true) × (t ≡ u)) ⊎ ((nat_eq t u ≡ false) × (t ≡ u → ⊥)) → ArmAdds 0 (update nat_eq arms t f u)
      by_place u other (inl w) = absurd (other w.1)
      by_place u other (inr w) = kept u (nat_eq t u) w.0

  arm-both : (m n : ℕ) (f : Option Opened) (g : Opened) → ArmAdds m f → Adds n g → (f ≡ None → m ≡ 0) → Adds (m + n) (λ ps. one_arm f (g ps))
  arm-both m n None g adds more off = recounted (m + n) n g (let e = off refl in omega (arith, e)) more
  arm-both m n (Some f) g adds more off = both-add m n f g adds more

  arms-none : (ts : List ℕ) (arms : ℕ → Option Opened) → AreNone arms → Adds 0 (arms_pairs ts arms)
  arms-none [] arms off = bare-adds
  arms-none (t ∷ ts) arms off = arm-both 0 0 (arms t) (arms_pairs ts (update nat_eq arms t None)) (off t) (arms-none ts (update nat_eq arms t None) (λ u. set-none arms t None u (off u) tt)) (λ e. refl)

  arms-one : (ts : List ℕ) (arms : ℕ → Option Opened) → AreOthersNone arms → Adds 1 (arms_pairs ts arms)
  arms-one [] arms one = once-at-most bare bare-adds
  arms-one (u ∷ ts) arms one = by_place (eqb_tells one.0 u) (arms-one ts (update nat_eq arms u None))
    where
      gone : one.0 ≡ u → (v : ℕ) → ((nat_eq u v ≡ true) × (u ≡ v)) ⊎ ((nat_eq u v ≡ false) × (u ≡ v → ⊥)) → ArmAdds 0 (update nat_eq arms u None v)
      gone same v (inl w) = by_test (nat_eq u v) w.0
        where
          by_test : (c : Bool) → c ≡ true → ArmAdds 0 (cond c None (arms v))
          by_test true on = tt
          by_test false on = cc
      gone same v (inr w) = set-none arms u None v (one.1 v (λ e. w.1 (sym same ∙ e))) tt

      here : (f : Option Opened) → ArmAdds 1 f → Adds 0 (arms_pairs ts (update nat_eq arms u None)) → Adds 1 (λ ps. one_arm f (arms_pairs ts (update nat_eq arms u None) ps))
      here None adds rest = once-at-most (arms_pairs ts (update nat_eq arms u None)) rest
      here (Some f) adds rest = both-add 1 0 f (arms_pairs ts (update nat_eq arms u None)) adds rest

      by_place : ((nat_eq one.0 u ≡ true) × (one.0 ≡ u)) ⊎ ((nat_eq one.0 u ≡ false) × (one.0 ≡ u → ⊥)) → (AreOthersNone (update nat_eq arms u None) → Adds 1 (arms_pairs ts (update nat_eq arms u None))) → Adds 1 (arms_pairs (u ∷ ts) arms)
      by_place (inl w) later = here (arms u) (subst (λ v. ArmAdds 1 (arms v)) w.1 one.2) (arms-none ts (update nat_eq arms u None) (λ v. gone w.1 v (eqb_tells u v)))
      by_place (inr w) later = arm-both 0 1 (arms u) (arms_pairs ts (update nat_eq arms u None)) (one.1 u w.1) (later (set-other arms u None one tt)) (λ e. refl)

  -- the groups, in all of which the block stands so often
  abbrev AllAdd : ℕ → List (ℕ × Opened) → Type 0
  AllAdd n [] = Unit {0}
  AllAdd n (e ∷ es) = (k : ℕ) × (m : ℕ) × (n ≡ k + m) × Adds k e.1 × AllAdd m es

  all-none : (n : ℕ) (es : List (ℕ × Opened)) (arms : ℕ → Option Opened) → AllAdd n es → n ≡ 0 → AreNone arms → AreNone (update_all nat_eq arms es)
  all-none n [] arms all e off = off
  all-none n (x ∷ es) arms all e off =
      let sum = all.2 in
      let new = recounted 0 all.0 x.1 (omega (arith, e, sum)) all.3 in
      all-none all.1 es (update nat_eq arms x.0 (Some x.1)) all.4 (omega (arith, e, sum)) (λ u. set-none arms x.0 (Some x.1) u (off u) new)

  all-other : (n : ℕ) (es : List (ℕ × Opened)) (arms : ℕ → Option Opened) → AllAdd n es → n ≡ 0 → AreOthersNone arms → AreOthersNone (update_all nat_eq arms es)
  all-other n [] arms all e one = one
  all-other n (x ∷ es) arms all e one =
      let sum = all.2 in
      all-other all.1 es (update nat_eq arms x.0 (Some x.1)) all.4 (omega (arith, e, sum)) (set-other arms x.0 (Some x.1) one (recounted 0 all.0 x.1 (omega (arith, e, sum)) all.3))

  all-one : (n : ℕ) (es : List (ℕ × Opened)) (arms : ℕ → Option Opened) → AllAdd n es → n ≤ 1 → AreNone arms → AreOthersNone (update_all nat_eq arms es)
  all-one n [] arms all few off = (0, λ u other. off u, arm-once (arms 0) (off 0))
  all-one n (x ∷ es) arms all few off = by_count all.0 refl (all-one all.1 es (update nat_eq arms x.0 (Some x.1)) all.4)
    where
      sum : n ≡ all.0 + all.1
      sum = all.2

      by_count : (k : ℕ) → all.0 ≡ k → (all.1 ≤ 1 → AreNone (update nat_eq arms x.0 (Some x.1)) → AreOthersNone (update_all nat_eq (update nat_eq arms x.0 (Some x.1)) es)) → AreOthersNone (update_all nat_eq (update nat_eq arms x.0 (Some x.1)) es)
      by_count zero lacks later = later (omega (arith, few, sum)) (λ u. set-none arms x.0 (Some x.1) u (off u) (subst (λ k. Adds k x.1) lacks all.3))
      by_count (suc k) some later =
          all-other all.1 es (update nat_eq arms x.0 (Some x.1)) all.4 (omega (arith, few, sum, some)) (set-one arms x.0 (Some x.1) off (recounted 1 all.0 x.1 (omega (arith, few, sum, some)) all.3))

  arms-add : (n : ℕ) (ts : List ℕ) (es : List (ℕ × Opened)) → AllAdd n es → Adds n (arms_pairs ts (arms_by es))
  arms-add zero ts es all few = arms-none ts (arms_by es) (all-none 0 es (λ t. None) all refl (λ t. tt)) few
  arms-add (suc zero) ts es all few = arms-one ts (arms_by es) (all-one 1 es (λ t. None) all few (λ t. tt)) few
  arms-add (suc (suc n)) ts es all few = absurd (omega (arith, few))

  module _ (w : Blocks) (seen : ℕ → List (List Deed)) where
    behind-adds : (p : Place) (breaks : Bool) → Adds 0 (behind_pairs w seen p breaks)
    behind-adds p false = bare-adds
    behind-adds p true = guard-adds (option_map_or w.leave p.in_loop None) name 0 bare bare-adds

    two-add : (p : Place) (h : ℕ) (x y : Region) (rnd : List Around) → Adds (count (stands rnd x)) (λ ps. region_pairs w seen p x ps) → Adds (count (stands rnd y)) (λ ps. region_pairs w seen p y ps)
        → Adds (one_if (h == b) + count (stands rnd x ++ stands rnd y)) (λ ps. done_pairs w seen h (tests h (w.condition h) ∷ region_pairs w seen p x (region_pairs w seen p y (closes ∷ ps))))
    two-add p h x y rnd adds more =
        let m = count (stands rnd x) in
        let n = count (stands rnd y) in
        recounted (one_if (h == b) + count (stands rnd x ++ stands rnd y)) (one_if (h == b) + (m + n)) (λ ps. done_pairs w seen h (tests h (w.condition h) ∷ region_pairs w seen p x (region_pairs w seen p y (closes ∷ ps)))) (ap (λ k. one_if (h == b) + k) (count-both (stands rnd x) (stands rnd y)))
        (both-add (one_if (h == b)) (m + n) (done_pairs w seen h) (λ ps. tests h (w.condition h) ∷ region_pairs w seen p x (region_pairs w seen p y (closes ∷ ps))) (done-adds h (seen h))
        (wrapped (tests h (w.condition h)) (m + n) (λ ps. region_pairs w seen p x (region_pairs w seen p y ps)) refl (both-add m n (λ ps. region_pairs w seen p x ps) (λ ps. region_pairs w seen p y ps) adds more)))

    mutual
      region-adds : (p : Place) (r : Region) (rnd : List Around) → Adds (count (stands rnd r)) (λ ps. region_pairs w seen p r ps)
      region-adds p (ends e) rnd = bare-adds
      region-adds p (item i r) rnd =
          recounted (count (item_stands rnd i ++ stands rnd r)) (count (item_stands rnd i) + count (stands rnd r)) (λ ps. region_pairs w seen p (item i r) ps) (count-both (item_stands rnd i) (stands rnd r))
          (both-add (count (item_stands rnd i)) (count (stands rnd r)) (λ ps. item_pairs w seen p i ps) (λ ps. region_pairs w seen p r ps) (item-adds p i rnd) (region-adds p r rnd))

      item-adds : (p : Place) (i : Item) (rnd : List Around) → Adds (count (item_stands rnd i)) (λ ps. item_pairs w seen p i ps)
      item-adds p (plain h) rnd = recounted (one_if (h == b) + 0) (one_if (h == b)) (done_pairs w seen h) (omega arith) (done-adds h (seen h))
      item-adds p (choose h x y) rnd = two-add p h x y (within (If h) ∷ rnd) (region-adds p x (within (If h) ∷ rnd)) (region-adds p y (within (If h) ∷ rnd))
      item-adds p (loose h x y) rnd = two-add p h x y (branch h ∷ rnd) (region-adds p x (branch h ∷ rnd)) (region-adds p y (branch h ∷ rnd))
      item-adds p (loop h x) rnd = wrapped (turns h) (count (stands (within (Loop h) ∷ rnd) x)) (λ ps. region_pairs w seen (inside_loop h false) x ps) refl (region-adds (inside_loop h false) x (within (Loop h) ∷ rnd))
      item-adds p (loop_on h z x) rnd =
          let both = count-both (stands (within (Cont h) ∷ rnd) z) (stands (within (Loop h) ∷ rnd) x) in
          recounted (count (stands (within (Cont h) ∷ rnd) z ++ stands (within (Loop h) ∷ rnd) x)) (count (stands (within (Cont h) ∷ rnd) z) + count (stands (within (Loop h) ∷ rnd) x)) (λ ps. item_pairs w seen p (loop_on h z x) ps) both
          (wrapped (turns h) (count (stands (within (Cont h) ∷ rnd) z) + count (stands (within (Loop h) ∷ rnd) x)) (λ ps. guard (w.again h) name (λ qs. region_pairs w seen (inside_loop h true) z qs) (region_pairs w seen (inside_loop h false) x ps)) refl
          (both-add (count (stands (within (Cont h) ∷ rnd) z)) (count (stands (within (Loop h) ∷ rnd) x)) (λ ps. guard (w.again h) name (λ qs. region_pairs w seen (inside_loop h true) z qs) ps) (λ ps. region_pairs w seen (inside_loop h false) x ps)
          (guard-adds (w.again h) name (count (stands (within (Cont h) ∷ rnd) z)) (λ qs. region_pairs w seen (inside_loop h true) z qs) (region-adds (inside_loop h true) z (within (Cont h) ∷ rnd)))
          (region-adds (inside_loop h false) x (within (Loop h) ∷ rnd))))
      item-adds p (switch h gs) rnd =
          recounted (one_if (h == b) + N) (one_if (h == b) + (N + 0)) (λ ps. item_pairs w seen p (switch h gs) ps) (omega arith)
          (both-add (one_if (h == b)) (N + 0) (done_pairs w seen h) (λ ps. chooses h ∷ Arms (closes ∷ behind_pairs w seen p (groups_have_break gs) ps)) (done-adds h (seen h))
          (both-add N 0 (λ ps. chooses h ∷ Arms (closes ∷ ps)) (behind_pairs w seen p (groups_have_break gs)) (wrapped (chooses h) N Arms refl (arms-add N (w.order h) (groups_pairs w seen (inside_switch p) h gs) (groups-add (inside_switch p) h gs rnd))) (behind-adds p (groups_have_break gs))))
        where
          N : ℕ
          N = count (group_stands rnd h gs)

          Arms : Opened
          Arms = arms_pairs (w.order h) (arms_by (groups_pairs w seen (inside_switch p) h gs))

      groups-add : (p : Place) (h : ℕ) (gs : Groups) (rnd : List Around) → AllAdd (count (group_stands rnd h gs)) (groups_pairs w seen p h gs)
      groups-add p h none rnd = tt
      groups-add p h (group t labels default x gs) rnd = (
        count (stands (within (Case h t) ∷ rnd) x),
        count (group_stands rnd h gs),
        count-both (stands (within (Case h t) ∷ rnd) x) (group_stands rnd h gs),
        recounted (count (stands (within (Case h t) ∷ rnd) x)) (0 + count (stands (within (Case h t) ∷ rnd) x)) (λ ps. guard (w.fell t) denied bare (region_pairs w seen p x ps)) (omega arith) (both-add 0 (count (stands (within (Case h t) ∷ rnd) x)) (λ ps. guard (w.fell t) denied bare ps) (λ ps. region_pairs w seen p x ps) (guard-adds (w.fell t) denied 0 bare bare-adds) (region-adds p x (within (Case h t) ∷ rnd))),
        groups-add p h gs rnd,
      )

    -- The law.
    pub region-together : (p : Place) (r : Region) → count (stands [] r) ≤ 1 → StandTogether b (region_pairs w seen p r [])
    region-together p r few = let own = region-adds p r [] few in subst (StandTogether b) (sym (own.1 [] ∙ append-nil own.0)) own.3
