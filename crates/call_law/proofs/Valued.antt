-- The variables to which pointers lead have values, in each call under way.
use Rattle.std.proofs.Common.{◌≡◌, ◌≤◌, ◌⊎◌, ◌==◌, ℕ, suc, Bool, true, false, List, [], ◌∷◌, length, map, drop, Option, Some, None, inl, inr, refl, sym, ap, ◌∙◌, subst, arith}
use Rattle.std.specs.Prelude.{option_map}
use Rattle.std.proofs.lemmas.Bool.Decides.{eqb_tells}
use Rattle.std.proofs.lemmas.Option.{same_Some}
use Rattle.spv_module.specs.declared.inst.Id.{Id}
use Rattle.spv_module.specs.declared.inst.Inst.{Inst}
use Rattle.spv_types.specs.Tree.{ValueTree}
use Rattle.op_semantics.specs.Component.{each_one}
use Rattle.module_semantics.specs.Setting.{Setting, global_variable}
use Rattle.module_semantics.specs.State.{Root, global, own, lent, Held, value, pointer, Frame, put, call_at, with_call, with_variable}
use Rattle.module_semantics.specs.Operands.{of_module, held, as_pointer, pointer_at, Target}
use Rattle.module_semantics.specs.Steps.{without_based, is_based_on, passed, argument_of, entered, with_phis}
use Rattle.fits_law.proofs.Operations.{before_some}
use Rattle.agree_law.specs.Agree.{IfPointer, variable_in}
use Rattle.agree_law.proofs.Stores.{call_same, call_other}
use Rattle.call_law.specs.Known.{HasSome, LeadsToSome, IsValued}
use Rattle.call_law.specs.Frames.{IsClosed}

-- P of what an id leads to, kept where ids get values, and where chains are forgotten
module _ (P : Root → Type 0) where
  abbrev IfRoot : Option Held → Type 0
  IfRoot o = IfPointer o (λ r path. P r)

  pub put_so : (ids : ℕ → Option Held) (n : ℕ) (h : Held) → ((k : ℕ) → IfPointer (ids k) (λ r path. P r)) → IfPointer (Some h) (λ r path. P r) → (k : ℕ) → IfPointer (put ids n h k) (λ r path. P r)
  put_so ids n h all mine k = by_test (k == n) (all k)
    where
      by_test : (t : Bool) → IfRoot (ids k) → IfRoot (elim t [ true ↦ Some h | false ↦ ids k ])
      by_test true a = mine
      by_test false a = a

  pub phis_so : (is : List Inst) (vs : List ValueTree) (ids : ℕ → Option Held) → ((k : ℕ) → IfPointer (ids k) (λ r path. P r)) → (k : ℕ) → IfPointer (with_phis is vs ids k) (λ r path. P r)
  phis_so [] vs ids all = all
  phis_so (i ∷ is) [] ids all = all
  phis_so (i ∷ is) (v ∷ vs) ids all = put_so (with_phis is vs ids) i.result (value v) (phis_so is vs ids all) tt

  pub held_so : (s : Setting) (f : Frame) (n : ℕ) → ((k : ℕ) → P (global k)) → ((k : ℕ) → IfPointer (f.ids k) (λ r path. P r)) → IfPointer (held s f n) (λ r path. P r)
  held_so s f n globals all = by_own (f.ids n) (all n)
    where
      by_constant : (k : Option ValueTree) → IfRoot (option_map value k)
      by_constant None = tt
      by_constant (Some v) = tt

      by_global : (g : Option Inst) → IfRoot (elim g [ Some v ↦ Some (pointer (global n) []) | None ↦ option_map value (s.constants n) ])
      by_global (Some v) = globals n
      by_global None = by_constant (s.constants n)

      by_own : (o : Option Held) → IfRoot o → IfRoot (elim o [ Some h ↦ Some h | None ↦ of_module s n ])
      by_own (Some h) a = a
      by_own None a = by_global (global_variable s n)

  pub target_so : (s : Setting) (f : Frame) (n : ℕ) (p : Target) → IfPointer (held s f n) (λ r path. P r) → pointer_at s f n ≡ Some p → P p.0
  target_so s f n p has e = by_held (held s f n) has e
    where
      by_held : (o : Option Held) → IfRoot o → as_pointer o ≡ Some p → P p.0
      by_held None a e = cc
      by_held (Some (value v)) a e = cc
      by_held (Some (pointer r path)) a e = subst (λ (q : Target). P q.0) (same_Some (r, path) p e) a

  pub without_so : (f : Frame) (chain : ℕ) → ((k : ℕ) → IfPointer (f.ids k) (λ r path. P r)) → (k : ℕ) → IfPointer (without_based f.function chain f.ids k) (λ r path. P r)
  without_so f chain all k = by_test (is_based_on f.function chain k) (all k)
    where
      by_test : (t : Bool) → IfRoot (f.ids k) → IfRoot (elim t [ true ↦ None | false ↦ f.ids k ])
      by_test true a = tt
      by_test false a = a

  -- of arguments, and of parameters
  abbrev pub AllSo : List Held → Type 0
  AllSo [] = Unit {0}
  AllSo (h ∷ hs) = IfPointer (Some h) (λ r path. P r) × AllSo hs

  pub arguments_so : (ps : List (Id × Id)) (hs : List Held) → AllSo hs → (n : ℕ) → IfPointer (argument_of ps hs n) (λ r path. P r)
  arguments_so [] hs all n = tt
  arguments_so (p ∷ ps) [] all n = tt
  arguments_so (p ∷ ps) (h ∷ hs) all n = by_test (p.0.0 == n) (arguments_so ps hs all.1 n)
    where
      by_test : (t : Bool) → IfRoot (argument_of ps hs n) → IfRoot (elim t [ true ↦ Some h | false ↦ argument_of ps hs n ])
      by_test true later = all.0
      by_test false later = later

-- a call that is there stands below the others
pub call_below : (depth : ℕ) (ds : List (Frame × ℕ)) (g : Frame) → call_at depth ds ≡ Some g → suc depth ≤ length ds
call_below depth [] g e = cc
call_below depth (d ∷ ds) g e = by_test (length ds == depth) (eqb_tells (length ds) depth) e (call_below depth ds g)
  where
    by_test : (t : Bool) → ((t ≡ true) × (length ds ≡ depth)) ⊎ ((t ≡ false) × (length ds ≡ depth → ⊥)) → elim t as (λ t. Option Frame) [ true ↦ Some d.0 | false ↦ call_at depth ds ] ≡ Some g → (call_at depth ds ≡ Some g → suc depth ≤ length ds) → suc depth ≤ suc (length ds)
    by_test true (inl w) e later = let same = w.1 in omega (arith, same)
    by_test true (inr w) e later = cc
    by_test false w e later = let le = later e in omega (arith, le)

pub some_below : (depth n : ℕ) (ds : List (Frame × ℕ)) → HasSome (variable_in (call_at depth ds) n) → suc depth ≤ length ds
some_below depth n ds has = by_call (call_at depth ds) refl has
  where
    by_call : (o : Option Frame) → call_at depth ds ≡ o → HasSome (variable_in o n) → suc depth ≤ length ds
    by_call None e h = let none : None ≡ Some h.0 = h.1 in cc
    by_call (Some g) e h = call_below depth ds g e

-- a call below another is seen from there
pub under : (depth : ℕ) (d : Frame × ℕ) (ds : List (Frame × ℕ)) → suc depth ≤ length ds → call_at depth (d ∷ ds) ≡ call_at depth ds
under depth d ds le = by_test (length ds == depth) (eqb_tells (length ds) depth)
  where
    by_test : (t : Bool) → ((t ≡ true) × (length ds ≡ depth)) ⊎ ((t ≡ false) × (length ds ≡ depth → ⊥)) → elim t as (λ t. Option Frame) [ true ↦ Some d.0 | false ↦ call_at depth ds ] ≡ call_at depth ds
    by_test true (inl w) = let same = w.1 in absurd (omega (arith, same, le))
    by_test true (inr w) = cc
    by_test false w = refl

pub first_call : (d : Frame × ℕ) (ds : List (Frame × ℕ)) → call_at (length ds) (d ∷ ds) ≡ Some d.0
first_call d ds = by_test (length ds == length ds) (eqb_tells (length ds) (length ds))
  where
    by_test : (t : Bool) → ((t ≡ true) × (length ds ≡ length ds)) ⊎ ((t ≡ false) × (length ds ≡ length ds → ⊥)) → elim t as (λ t. Option Frame) [ true ↦ Some d.0 | false ↦ call_at (length ds) ds ] ≡ Some d.0
    by_test true w = refl
    by_test false (inl w) = cc
    by_test false (inr w) = absurd (w.1 refl)

-- a variable with a value has one also where another gets one
put_some : (variables : ℕ → Option ValueTree) (n k : ℕ) (v : ValueTree) → HasSome (variables k) → HasSome (put variables n v k)
put_some variables n k v has = by_test (k == n) has
  where
    by_test : (t : Bool) → HasSome (variables k) → HasSome (elim t as (λ t. Option ValueTree) [ true ↦ Some v | false ↦ variables k ])
    by_test true has = (v, refl)
    by_test false has = has

lent_some : (depth n height k : ℕ) (v : ValueTree) (g : Frame) (ds : List (Frame × ℕ)) → call_at depth ds ≡ Some g → HasSome (variable_in (call_at height ds) k) → HasSome (variable_in (call_at height (with_call depth (with_variable n v g) ds)) k)
lent_some depth n height k v g ds is has = by_height (eqb_tells height depth)
  where
    by_height : (((height == depth) ≡ true) × (height ≡ depth)) ⊎ (((height == depth) ≡ false) × (height ≡ depth → ⊥)) → HasSome (variable_in (call_at height (with_call depth (with_variable n v g) ds)) k)
    by_height (inl w) =
        subst (λ h. HasSome (variable_in (call_at h (with_call depth (with_variable n v g) ds)) k)) (sym w.1)
        (subst (λ o. HasSome (variable_in o k)) (sym (call_same depth ds g (with_variable n v g) is))
        (put_some g.variables n k v (subst (λ o. HasSome (variable_in o k)) (ap (λ h. call_at h ds) w.1 ∙ is) has)))
    by_height (inr w) = subst (λ o. HasSome (variable_in o k)) (sym (call_other depth height ds (with_variable n v g) w.1)) has

module _ (s : Setting) where
  with_some_root : (P Q : Root → Type 0) → ((r : Root) → P r → Q r) → (o : Option Held) → IfPointer o (λ r path. P r) → IfPointer o (λ r path. Q r)
  with_some_root P Q more None has = tt
  with_some_root P Q more (Some (value v)) has = tt
  with_some_root P Q more (Some (pointer r path)) has = more r has

  stored : (ds : List (Frame × ℕ)) (f : Frame) (n : ℕ) (v : ValueTree) (r : Root) → LeadsToSome ds f r → LeadsToSome ds (with_variable n v f) r
  stored ds f n v (global k) has = tt
  stored ds f n v (own k) has = put_some f.variables n k v has
  stored ds f n v (lent depth k) has = has

  lent_to : (ds : List (Frame × ℕ)) (f : Frame) (depth n : ℕ) (v : ValueTree) (g : Frame) → call_at depth ds ≡ Some g → (r : Root) → LeadsToSome ds f r → LeadsToSome (with_call depth (with_variable n v g) ds) f r
  lent_to ds f depth n v g is (global k) has = tt
  lent_to ds f depth n v g is (own k) has = has
  lent_to ds f depth n v g is (lent height k) has = lent_some depth n height k v g ds is has

  -- what is passed leads to the same variables from the call
  passed_some : (ds : List (Frame × ℕ)) (f g : Frame) (n : ℕ) → ((k : ℕ) → g.variables k ≡ f.variables k) → (e : Frame) (h : Held) → IfPointer (Some h) (λ r path. LeadsToSome ds f r) → IfPointer (Some (passed (length ds) h)) (λ r path. LeadsToSome ((g, n) ∷ ds) e r)
  passed_some ds f g n same e (value v) has = tt
  passed_some ds f g n same e (pointer (global k) path) has = tt
  passed_some ds f g n same e (pointer (own k) path) has = subst (λ o. HasSome (variable_in o k)) (sym (first_call (g, n) ds)) (subst HasSome (sym (same k)) has)
  passed_some ds f g n same e (pointer (lent depth k) path) has = subst (λ o. HasSome (variable_in o k)) (sym (under depth (g, n) ds (some_below depth k ds has))) has

  all_passed : (ds : List (Frame × ℕ)) (f g : Frame) (n : ℕ) → ((k : ℕ) → g.variables k ≡ f.variables k) → (e : Frame) (hs : List Held) → AllSo (LeadsToSome ds f) hs → AllSo (LeadsToSome ((g, n) ∷ ds) e) (map (passed (length ds)) hs)
  all_passed ds f g n same e [] all = tt
  all_passed ds f g n same e (h ∷ hs) all = (passed_some ds f g n same e h all.0, all_passed ds f g n same e hs all.1)

  pub all_held_so : (P : Root → Type 0) (f : Frame) → ((k : ℕ) → P (global k)) → ((k : ℕ) → IfPointer (f.ids k) (λ r path. P r)) → (ns : List ℕ) (hs : List Held) → each_one (held s f) ns ≡ Some hs → AllSo P hs
  all_held_so P f globals all [] [] e = tt
  all_held_so P f globals all [] (h ∷ hs) e = cc
  all_held_so P f globals all (n ∷ ns) hs e =
      let b = before_some (held s f n) (each_one (held s f) ns) hs e in
      subst (AllSo P) (sym b.4) (subst (λ o. IfPointer o (λ r path. P r)) b.2 (held_so P s f n globals all), all_held_so P f globals all ns b.1 b.3)

  pub valued_closed : IsClosed IsValued s
  unfolding entered
  valued_closed = record {
    passes = λ ds f i rest next at. at;
    gets = λ ds f i rest v next kind at. put_so (LeadsToSome ds f) f.ids i.result (value v) at tt;
    leads = λ ds f i rest p indexes ty next kind is have leads allowed at. put_so (LeadsToSome ds f) (without_based f.function i.result f.ids) i.result (pointer p.0 _) (without_so (LeadsToSome ds f) f i.result at) (target_so (LeadsToSome ds f) s f _ p (held_so (LeadsToSome ds f) s f _ (λ k. tt) at) is);
    declares = λ ds f i rest v next kind has at. put_so (LeadsToSome ds f) f.ids i.result (pointer (own i.result) []) at (v, has);
    stores = λ ds f n v at k. with_some_root (LeadsToSome ds f) (LeadsToSome ds (with_variable n v f)) (stored ds f n v) (f.ids k) (at k);
    lends = λ ds f depth n v g is at k. with_some_root (LeadsToSome ds f) (LeadsToSome (with_call depth (with_variable n v g) ds) f) (lent_to ds f depth n v g is) (f.ids k) (at k);
    calls = λ ds f i rest g hs next kind is have at.
        arguments_so (LeadsToSome ((record f { rest = rest }, i.result) ∷ ds) (entered s g (map (passed (length ds)) hs))) g.params (map (passed (length ds)) hs)
        (all_passed ds f (record f { rest = rest }) i.result (λ k. refl) (entered s g (map (passed (length ds)) hs)) hs (all_held_so (LeadsToSome ds f) f (λ k. tt) at (drop 1 i.args) hs have));
    goes_to = λ ds f i rest o label t b values next kind leads to is have at. phis_so (LeadsToSome ds f) _ values f.ids at;
  }
