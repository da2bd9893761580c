-- Each pointer parameter leads to a whole variable of a call below, and no two to one, as arguments of calls are whole variables and parameters, each once (M4).
use Rattle.std.proofs.Common.{◌≡◌, ◌≢◌, ◌≤◌, ◌⊎◌, ◌==◌, ◌&&◌, not, ℕ, suc, Bool, true, false, List, [], ◌∷◌, length, map, drop, Option, Some, None, cond, inl, inr, refl, sym, ap, ◌∙◌, subst, arith}
use Rattle.std.specs.Prelude.{option_map, is_some, find}
use Rattle.std.specs.List.{list_any}
use Rattle.std.proofs.lemmas.Bool.Decides.{eqb_tells}
use Rattle.spv_module.specs.declared.inst.Id.{Id}
use Rattle.spv_module.specs.declared.inst.Inst.{Inst}
use Rattle.spv_module.specs.declared.inst.Function.{Function}
use Rattle.spv_types.specs.Tree.{ValueTree}
use Rattle.op_semantics.specs.Component.{each_one}
use Rattle.profile_rules.specs.Entry.{function_of}
use Rattle.profile_rules.specs.MemoryRules.{is_pointer, is_own_memory, is_other_pointer, repeats}
use Rattle.module_semantics.specs.Setting.{Setting, global_variable}
use Rattle.module_semantics.specs.State.{Root, global, own, lent, Held, value, pointer, Frame, put, with_call, with_variable}
use Rattle.module_semantics.specs.Operands.{of_module, held, arg}
use Rattle.module_semantics.specs.Steps.{call, step_kind, without_based, is_based_on, passed, argument_of, entered, with_phis}
use Rattle.list_law.proofs.Tests.{not_both, or_left, or_right, and_off}
pub use Rattle.list_law.proofs.Tests.{not_both as no_true, or_left as left_false, or_right as right_false, and_off as and_false}
use Rattle.fits_law.proofs.Operations.{before_some}
use Rattle.agree_law.specs.Agree.{IfPointer}
use Rattle.agree_law.proofs.Stores.{length_with}
use Rattle.call_law.specs.Known.{IsFunctionOf, IsCode, is_parameter, IsOfBelow, from_call, IsLending, IsWhole, ArePointersSo, LendsWhole}
use Rattle.call_law.specs.Frames.{IsClosed}
use Rattle.call_law.proofs.CodeKept.{first_of, next_of, code_on, code_called, block_of}

-- nothing is passed to the call with which a run begins
none_passed : (P : Root → List ℕ → Type 0) (ps : List (Id × Id)) (n : ℕ) → IfPointer (argument_of ps [] n) P
none_passed P [] n = tt
none_passed P (p ∷ ps) n = tt

pub first_lending : (s : Setting) (g : Function) → IsFunctionOf g s.of.functions → IsLending s [] (entered s g [])
unfolding entered
first_lending s g is = record {
  code = record { of_module = is; of_function = first_of g.blocks };
  typed = λ n. none_passed _ g.params n;
  parameters = λ n on. none_passed _ g.params n;
  apart = λ n k on too differ. none_passed _ g.params n;
  variables = λ n on off. none_passed _ g.params n;
}

-- what is asked of a pointer, where one is there
pub if_pointer : (P : Root → List ℕ → Type 0) (o : Option Held) → ((r : Root) (path : List ℕ) → o ≡ Some (pointer r path) → P r path) → IfPointer o P
if_pointer P None on = tt
if_pointer P (Some (value v)) on = tt
if_pointer P (Some (pointer r path)) on = on r path refl

pub of_pointer : (P : Root → List ℕ → Type 0) (o : Option Held) (r : Root) (path : List ℕ) → o ≡ Some (pointer r path) → IfPointer o P → P r path
of_pointer P o r path is has = subst (λ h. IfPointer h P) is has

both_not : (a b : Bool) → (a && not b) ≡ false → a ≡ true → b ≡ true
both_not true true e on = refl
both_not true false e on = cc
both_not false b e on = cc

pub no_parameter : (f : Function) (n : ℕ) → is_own_memory f n ≡ false → is_parameter f n ≡ false
no_parameter f n off = or_left (is_parameter f n) _ off

-- what is no parameter gets no argument
pub none_given : (ps : List (Id × Id)) (hs : List Held) (n : ℕ) → is_some (option_map (λ (p : Id × Id). p.1.0) (find (λ (p : Id × Id). p.0.0 == n) ps)) ≡ false → argument_of ps hs n ≡ None
none_given [] hs n off = refl
none_given (p ∷ ps) [] n off = refl
none_given (p ∷ ps) (h ∷ hs) n off = by_test (p.0.0 == n) off (none_given ps hs n)
  where
    type_of : Option (Id × Id) → Bool
    type_of o = is_some (option_map (λ (p : Id × Id). p.1.0) o)

    by_test : (t : Bool) → type_of (cond t (Some p) (find (λ (p : Id × Id). p.0.0 == n) ps)) ≡ false → (type_of (find (λ (p : Id × Id). p.0.0 == n) ps) ≡ false → argument_of ps hs n ≡ None)
        → elim t as (λ t. Option Held) [ true ↦ Some h | false ↦ argument_of ps hs n ] ≡ None
    by_test true off later = cc
    by_test false off later = later off

module _ (s : Setting) (whole : LendsWhole s) where
  -- a pointer that was there, that of another id than a variable's or a parameter's, or that of a variable to itself
  abbrev Came : Frame → (ℕ → Option Held) → Type 0
  Came f ids = (n : ℕ) (r : Root) (path : List ℕ) → ids n ≡ Some (pointer r path)
      → (f.ids n ≡ Some (pointer r path)) ⊎ (((is_own_memory f.function n ≡ false) × (is_pointer s.of.globals f.function n ≡ true)) ⊎ ((is_parameter f.function n ≡ false) × (is_pointer s.of.globals f.function n ≡ true) × (r ≡ own n) × (path ≡ [])))

  same_came : (f : Frame) → Came f f.ids
  same_came f n r path is = inl is

  put_came : (f : Frame) (ids : ℕ → Option Held) (n : ℕ) (h : Held) → Came f ids → ((r : Root) (path : List ℕ) → h ≡ pointer r path → (f.ids n ≡ Some (pointer r path)) ⊎ (((is_own_memory f.function n ≡ false) × (is_pointer s.of.globals f.function n ≡ true)) ⊎ ((is_parameter f.function n ≡ false) × (is_pointer s.of.globals f.function n ≡ true) × (r ≡ own n) × (path ≡ [])))) → Came f (put ids n h)
  put_came f ids n h all mine k r path is = by_test (k == n) (eqb_tells k n) is
    where
      Now : ℕ → Type 0
      Now k = (f.ids k ≡ Some (pointer r path)) ⊎ (((is_own_memory f.function k ≡ false) × (is_pointer s.of.globals f.function k ≡ true)) ⊎ ((is_parameter f.function k ≡ false) × (is_pointer s.of.globals f.function k ≡ true) × (r ≡ own k) × (path ≡ [])))

      by_test : (t : Bool) → ((t ≡ true) × (k ≡ n)) ⊎ ((t ≡ false) × (k ≡ n → ⊥)) → elim t as (λ t. Option Held) [ true ↦ Some h | false ↦ ids k ] ≡ Some (pointer r path) → Now k
      by_test true (inl w) is = subst Now (sym w.1) (mine r path (let same : h ≡ pointer r path = cc in same))
      by_test true (inr w) is = cc
      by_test false w is = all k r path is

  phis_came : (f : Frame) (is : List Inst) (vs : List ValueTree) → Came f (with_phis is vs f.ids)
  phis_came f [] vs = same_came f
  phis_came f (i ∷ is) [] = same_came f
  phis_came f (i ∷ is) (v ∷ vs) = put_came f (with_phis is vs f.ids) i.result (value v) (phis_came f is vs) (λ r path is. let never : value v ≡ pointer r path = is in cc)

  without_came : (f : Frame) (chain : ℕ) → Came f (without_based f.function chain f.ids)
  without_came f chain n r path is = by_test (is_based_on f.function chain n) is
    where
      by_test : (t : Bool) → elim t as (λ t. Option Held) [ true ↦ None | false ↦ f.ids n ] ≡ Some (pointer r path)
          → (f.ids n ≡ Some (pointer r path)) ⊎ (((is_own_memory f.function n ≡ false) × (is_pointer s.of.globals f.function n ≡ true)) ⊎ ((is_parameter f.function n ≡ false) × (is_pointer s.of.globals f.function n ≡ true) × (r ≡ own n) × (path ≡ [])))
      by_test true is = cc
      by_test false is = inl is

  -- so it holds of the call still
  still_lending : (ds : List (Frame × ℕ)) (f g : Frame) → g.function ≡ f.function → IsCode s g → Came f g.ids → IsLending s ds f → IsLending s ds g
  still_lending ds f g same code came at = record {
    code = code;
    typed = λ n. if_pointer _ (g.ids n) (λ r path is. subst (λ e. is_pointer s.of.globals e n ≡ true) (sym same) (elim (came n r path is) [
      | inl was ↦ of_pointer _ (f.ids n) r path was (at.typed n)
      | inr made ↦ elim made [ inl w ↦ w.1 | inr w ↦ w.1 ]
    ]));
    parameters = λ n on. if_pointer _ (g.ids n) (λ r path is. of_pointer _ (f.ids n) r path (old n r path (turned n on) is) (at.parameters n (turned n on)));
    apart = λ n k on too other. if_pointer _ (g.ids n) (λ r path is. if_pointer _ (g.ids k) (λ q way has.
        of_pointer (λ q way. r ≢ q) (f.ids k) q way (old k q way (turned k too) has) (of_pointer (λ r path. IfPointer (f.ids k) (λ q way. r ≢ q)) (f.ids n) r path (old n r path (turned n on) is) (at.apart n k (turned n on) (turned k too) other))));
    variables = λ n on off. if_pointer _ (g.ids n) (λ r path is. elim (came n r path is) [
      | inl was ↦ of_pointer _ (f.ids n) r path was (at.variables n (subst (λ e. is_own_memory e n ≡ true) same on) (subst (λ e. is_parameter e n ≡ false) same off))
      | inr made ↦ elim made [ inl w ↦ absurd (not_both _ (subst (λ e. is_own_memory e n ≡ true) same on) w.0) | inr w ↦ (w.2, w.3) ]
    ]);
  }
    where
      turned : (n : ℕ) → is_parameter g.function n ≡ true → is_parameter f.function n ≡ true
      turned n on = subst (λ e. is_parameter e n ≡ true) same on

      old : (n : ℕ) (r : Root) (path : List ℕ) → is_parameter f.function n ≡ true → g.ids n ≡ Some (pointer r path) → f.ids n ≡ Some (pointer r path)
      old n r path on is = elim (came n r path is) [
        | inl was ↦ was
        | inr made ↦ elim made [ inl w ↦ absurd (not_both _ on (no_parameter f.function n w.0)) | inr w ↦ absurd (not_both _ on w.0) ]
      ]

  module _ (ds : List (Frame × ℕ)) (f : Frame) (at : IsLending s ds f) where
    pub argument_whole : (id : ℕ) (h : Held) → held s f id ≡ Some h → is_other_pointer s.of.globals f.function id ≡ false → IfPointer (Some h) (IsWhole s ds f id)
    argument_whole id h e fine = by_own (f.ids id) refl e
      where
        by_parameter : (t : Bool) → is_parameter f.function id ≡ t → (r : Root) (path : List ℕ) → f.ids id ≡ Some (pointer r path) → is_pointer s.of.globals f.function id ≡ true → is_own_memory f.function id ≡ true → IsWhole s ds f id r path
        by_parameter true is r path has typed mine = let q = of_pointer _ (f.ids id) r path has (at.parameters id is) in (typed, q.1, inl (is, q.0, has))
        by_parameter false is r path has typed mine = let q = of_pointer _ (f.ids id) r path has (at.variables id mine is) in (typed, q.1, inr (is, q.0))

        by_global : (g : Option Inst) → global_variable s id ≡ g → elim g [ Some v ↦ Some (pointer (global id) []) | None ↦ option_map value (s.constants id) ] ≡ Some h → IfPointer (Some h) (IsWhole s ds f id)
        by_global (Some v) is e =
            let mine : is_own_memory f.function id ≡ true = both_not (is_pointer s.of.globals f.function id) (is_own_memory f.function id) fine (whole.globals f.function at.code.of_module id v is) in
            let never : None ≡ Some v = sym (whole.own f.function at.code.of_module id mine) ∙ is in
            cc
        by_global None is e = by_constant (s.constants id) e
          where
            by_constant : (k : Option ValueTree) → option_map value k ≡ Some h → IfPointer (Some h) (IsWhole s ds f id)
            by_constant None e = cc
            by_constant (Some v) e = subst (λ g. IfPointer (Some g) (IsWhole s ds f id)) (let same : value v ≡ h = cc in same) tt

        by_own : (o : Option Held) → f.ids id ≡ o → elim o [ Some h ↦ Some h | None ↦ of_module s id ] ≡ Some h → IfPointer (Some h) (IsWhole s ds f id)
        by_own None is e = by_global (global_variable s id) refl e
        by_own (Some (value v)) is e = subst (λ g. IfPointer (Some g) (IsWhole s ds f id)) (let same : value v ≡ h = cc in same) tt
        by_own (Some (pointer r path)) is e =
            let typed : is_pointer s.of.globals f.function id ≡ true = of_pointer _ (f.ids id) r path is (at.typed id) in
            subst (λ g. IfPointer (Some g) (IsWhole s ds f id)) (let same : pointer r path ≡ h = cc in same) (by_parameter (is_parameter f.function id) refl r path is typed (both_not (is_pointer s.of.globals f.function id) (is_own_memory f.function id) fine typed))

    passed_is : (P : Root → List ℕ → Type 0) (h : Held) → IfPointer (Some h) (λ r path. P (from_call ds r) path) → IfPointer (Some (passed (length ds) h)) P
    passed_is P (value v) has = tt
    passed_is P (pointer (global k) path) has = has
    passed_is P (pointer (own k) path) has = has
    passed_is P (pointer (lent depth k) path) has = has

    mapped_if : (P Q : Root → List ℕ → Type 0) (o : Option Held) → ((r : Root) (path : List ℕ) → P r path → Q r path) → IfPointer o P → IfPointer o Q
    mapped_if P Q None more has = tt
    mapped_if P Q (Some (value v)) more has = tt
    mapped_if P Q (Some (pointer r path)) more has = more r path has

    below_call : (w : Frame × ℕ) (id : ℕ) (r : Root) (path : List ℕ) → IsWhole s ds f id r path → IsOfBelow (w ∷ ds) (from_call ds r) × (path ≡ [])
    below_call w id (global k) path (typed, none, inl is) = absurd is.1
    below_call w id (own k) path (typed, none, inl is) = absurd is.1
    below_call w id (lent depth k) path (typed, none, inl is) = let le = is.1 in (let more : suc depth ≤ suc (length ds) = omega (arith, le) in more, none)
    below_call w id r path (typed, none, inr is) = subst (λ q. IsOfBelow (w ∷ ds) (from_call ds q) × (path ≡ [])) (sym is.1) (let le : suc (length ds) ≤ suc (length ds) = omega arith in le, none)

    -- two arguments lead to two variables
    two_apart : (id other : ℕ) (r q : Root) (path way : List ℕ) → id ≢ other → IsWhole s ds f id r path → IsWhole s ds f other q way → from_call ds r ≢ from_call ds q
    two_apart id other (global k) q path way differ (typed, none, inl is) b = absurd is.1
    two_apart id other (own k) q path way differ (typed, none, inl is) b = absurd is.1
    two_apart id other (lent d k) (global j) path way differ (typed, none, inl is) (u, v, inl b) = absurd b.1
    two_apart id other (lent d k) (own j) path way differ (typed, none, inl is) (u, v, inl b) = absurd b.1
    two_apart id other (lent d k) (lent e j) path way differ (typed, none, inl is) (u, v, inl b) =
        of_pointer (λ q way. lent d k ≢ q) (f.ids other) (lent e j) way b.2 (of_pointer (λ r path. IfPointer (f.ids other) (λ q way. r ≢ q)) (f.ids id) (lent d k) path is.2 (at.apart id other is.0 b.0 differ))
    two_apart id other (lent d k) q path way differ (typed, none, inl is) (u, v, inr b) = λ same.
        let now : lent d k ≡ lent (length ds) other = same ∙ ap (from_call ds) b.1 in
        let height : d ≡ length ds = cc in
        let le = is.1 in absurd (omega (arith, le, height))
    two_apart id other r (global j) path way differ (typed, none, inr is) (u, v, inl b) = absurd b.1
    two_apart id other r (own j) path way differ (typed, none, inr is) (u, v, inl b) = absurd b.1
    two_apart id other r (lent e j) path way differ (typed, none, inr is) (u, v, inl b) = λ same.
        let now : lent (length ds) id ≡ lent e j = sym (ap (from_call ds) is.1) ∙ same in
        let height : length ds ≡ e = cc in
        let le = b.1 in absurd (omega (arith, le, height))
    two_apart id other r q path way differ (typed, none, inr is) (u, v, inr b) = λ same.
        let now : lent (length ds) id ≡ lent (length ds) other = sym (ap (from_call ds) is.1) ∙ (same ∙ ap (from_call ds) b.1) in
        differ (let one : id ≡ other = cc in one)

    module _ (g : Function) where
      abbrev Args : List Held → List Held
      Args hs = map (passed (length ds)) hs

      -- where the arguments are those of these ids
      given_so : (w : Frame × ℕ) (ps : List (Id × Id)) (ids : List ℕ) (hs : List Held) → each_one (held s f) ids ≡ Some hs → list_any (is_other_pointer s.of.globals f.function) ids ≡ false → (n : ℕ) → IfPointer (argument_of ps (Args hs) n) (λ r path. IsOfBelow (w ∷ ds) r × (path ≡ []))
      given_so w [] ids hs e fine n = tt
      given_so w (p ∷ ps) [] [] e fine n = tt
      given_so w (p ∷ ps) [] (h ∷ hs) e fine n = cc
      given_so w (p ∷ ps) (id ∷ ids) hs e fine n =
          let b = before_some (held s f id) (each_one (held s f) ids) hs e in
          subst (λ l. IfPointer (argument_of (p ∷ ps) (Args l) n) (λ r path. IsOfBelow (w ∷ ds) r × (path ≡ []))) (sym b.4)
          (by_test b.0 b.1 (p.0.0 == n) (passed_is (λ r path. IsOfBelow (w ∷ ds) r × (path ≡ [])) b.0 (mapped_if (IsWhole s ds f id) _ (Some b.0) (below_call w id) (argument_whole id b.0 b.2 (or_left (is_other_pointer s.of.globals f.function id) _ fine)))) (given_so w ps ids b.1 b.3 (or_right (is_other_pointer s.of.globals f.function id) _ fine) n))
        where
          by_test : (h : Held) (hs : List Held) (t : Bool) → IfPointer (Some (passed (length ds) h)) (λ r path. IsOfBelow (w ∷ ds) r × (path ≡ [])) → IfPointer (argument_of ps (Args hs) n) (λ r path. IsOfBelow (w ∷ ds) r × (path ≡ []))
              → IfPointer (elim t as (λ t. Option Held) [ true ↦ Some (passed (length ds) h) | false ↦ argument_of ps (Args hs) n ]) (λ r path. IsOfBelow (w ∷ ds) r × (path ≡ []))
          by_test h hs true mine later = mine
          by_test h hs false mine later = later

      typed_so : (ps : List (Id × Id)) (ids : List ℕ) (hs : List Held) → each_one (held s f) ids ≡ Some hs → list_any (is_other_pointer s.of.globals f.function) ids ≡ false → ArePointersSo s f.function g ps ids → (n : ℕ) → IfPointer (argument_of ps (Args hs) n) (λ r path. is_pointer s.of.globals g n ≡ true)
      typed_so [] ids hs e fine so n = tt
      typed_so (p ∷ ps) [] [] e fine so n = tt
      typed_so (p ∷ ps) [] (h ∷ hs) e fine so n = cc
      typed_so (p ∷ ps) (id ∷ ids) hs e fine so n =
          let b = before_some (held s f id) (each_one (held s f) ids) hs e in
          subst (λ l. IfPointer (argument_of (p ∷ ps) (Args l) n) (λ r path. is_pointer s.of.globals g n ≡ true)) (sym b.4)
          (by_test b.0 b.1 (p.0.0 == n) (eqb_tells p.0.0 n) (mapped_if (IsWhole s ds f id) (λ r path. is_pointer s.of.globals g p.0.0 ≡ true) (Some b.0) (λ r path is. so.0 is.0) (argument_whole id b.0 b.2 (or_left (is_other_pointer s.of.globals f.function id) _ fine))) (typed_so ps ids b.1 b.3 (or_right (is_other_pointer s.of.globals f.function id) _ fine) so.1 n))
        where
          by_test : (h : Held) (hs : List Held) (t : Bool) → ((t ≡ true) × (p.0.0 ≡ n)) ⊎ ((t ≡ false) × (p.0.0 ≡ n → ⊥)) → IfPointer (Some h) (λ r path. is_pointer s.of.globals g p.0.0 ≡ true) → IfPointer (argument_of ps (Args hs) n) (λ r path. is_pointer s.of.globals g n ≡ true)
              → IfPointer (elim t as (λ t. Option Held) [ true ↦ Some (passed (length ds) h) | false ↦ argument_of ps (Args hs) n ]) (λ r path. is_pointer s.of.globals g n ≡ true)
          by_test h hs true (inl w) mine later = passed_is (λ r path. is_pointer s.of.globals g n ≡ true) h (subst (λ k. IfPointer (Some h) (λ r path. is_pointer s.of.globals g k ≡ true)) w.1 mine)
          by_test h hs true (inr w) mine later = cc
          by_test h hs false w mine later = later

      -- an argument that is none of these leads elsewhere than they do
      elsewhere : (id : ℕ) (r : Root) (path : List ℕ) → IsWhole s ds f id r path → (ps : List (Id × Id)) (ids : List ℕ) (hs : List Held) → each_one (held s f) ids ≡ Some hs → list_any (is_other_pointer s.of.globals f.function) ids ≡ false → list_any (λ other. other == id) ids ≡ false
          → (n : ℕ) → IfPointer (argument_of ps (Args hs) n) (λ q way. from_call ds r ≢ q)
      elsewhere id r path is [] ids hs e fine none n = tt
      elsewhere id r path is (p ∷ ps) [] [] e fine none n = tt
      elsewhere id r path is (p ∷ ps) [] (h ∷ hs) e fine none n = cc
      elsewhere id r path is (p ∷ ps) (other ∷ ids) hs e fine none n =
          let b = before_some (held s f other) (each_one (held s f) ids) hs e in
          let differ : id ≢ other = (λ same. let on : (other == id) ≡ true = elim (eqb_tells other id) [ inl w ↦ w.0 | inr w ↦ absurd (w.1 (sym same)) ] in not_both _ on (or_left (other == id) _ none)) in
          subst (λ l. IfPointer (argument_of (p ∷ ps) (Args l) n) (λ q way. from_call ds r ≢ q)) (sym b.4)
          (by_test b.0 b.1 (p.0.0 == n) (passed_is (λ q way. from_call ds r ≢ q) b.0 (mapped_if (IsWhole s ds f other) (λ q way. from_call ds r ≢ from_call ds q) (Some b.0) (λ q way has. two_apart id other r q path way differ is has) (argument_whole other b.0 b.2 (or_left (is_other_pointer s.of.globals f.function other) _ fine))))
          (elsewhere id r path is ps ids b.1 b.3 (or_right (is_other_pointer s.of.globals f.function other) _ fine) (or_right (other == id) _ none) n))
        where
          by_test : (h : Held) (hs : List Held) (t : Bool) → IfPointer (Some (passed (length ds) h)) (λ q way. from_call ds r ≢ q) → IfPointer (argument_of ps (Args hs) n) (λ q way. from_call ds r ≢ q)
              → IfPointer (elim t as (λ t. Option Held) [ true ↦ Some (passed (length ds) h) | false ↦ argument_of ps (Args hs) n ]) (λ q way. from_call ds r ≢ q)
          by_test h hs true mine later = mine
          by_test h hs false mine later = later

      apart_so : (ps : List (Id × Id)) (ids : List ℕ) (hs : List Held) → each_one (held s f) ids ≡ Some hs → list_any (is_other_pointer s.of.globals f.function) ids ≡ false → repeats (is_pointer s.of.globals f.function) ids ≡ false
          → (n k : ℕ) → n ≢ k → IfPointer (argument_of ps (Args hs) n) (λ r path. IfPointer (argument_of ps (Args hs) k) (λ q way. r ≢ q))
      apart_so [] ids hs e fine once n k differ = tt
      apart_so (p ∷ ps) [] [] e fine once n k differ = tt
      apart_so (p ∷ ps) [] (h ∷ hs) e fine once n k differ = cc
      apart_so (p ∷ ps) (id ∷ ids) hs e fine once n k differ =
          let b = before_some (held s f id) (each_one (held s f) ids) hs e in
          let rest : list_any (is_other_pointer s.of.globals f.function) ids ≡ false = or_right (is_other_pointer s.of.globals f.function id) _ fine in
          subst (λ l. IfPointer (argument_of (p ∷ ps) (Args l) n) (λ r path. IfPointer (argument_of (p ∷ ps) (Args l) k) (λ q way. r ≢ q))) (sym b.4)
          (by_tests b.0 b.1 (p.0.0 == n) (p.0.0 == k) (eqb_tells p.0.0 n) (eqb_tells p.0.0 k)
          (λ j. passed_is (λ r path. IfPointer (argument_of ps (Args b.1) j) (λ q way. r ≢ q)) b.0 (mapped_if (IsWhole s ds f id) (λ r path. IfPointer (argument_of ps (Args b.1) j) (λ q way. from_call ds r ≢ q)) (Some b.0) (λ r path is. elsewhere id r path is ps ids b.1 b.3 rest (and_off (is_pointer s.of.globals f.function id) _ (or_left _ (repeats (is_pointer s.of.globals f.function) ids) once) is.0) j) (argument_whole id b.0 b.2 (or_left (is_other_pointer s.of.globals f.function id) _ fine))))
          (apart_so ps ids b.1 b.3 rest (or_right _ (repeats (is_pointer s.of.globals f.function) ids) once) n k differ))
        where
          turned : (o q : Option Held) → IfPointer o (λ r path. IfPointer q (λ u way. r ≢ u)) → IfPointer q (λ u way. IfPointer o (λ r path. u ≢ r))
          turned o q has = if_pointer _ q (λ u way is. if_pointer _ o (λ r path e same. of_pointer (λ u way. r ≢ u) q u way is (of_pointer (λ r path. IfPointer q (λ u way. r ≢ u)) o r path e has) (sym same)))

          by_tests : (h : Held) (hs : List Held) (t u : Bool) → ((t ≡ true) × (p.0.0 ≡ n)) ⊎ ((t ≡ false) × (p.0.0 ≡ n → ⊥)) → ((u ≡ true) × (p.0.0 ≡ k)) ⊎ ((u ≡ false) × (p.0.0 ≡ k → ⊥)) → ((j : ℕ) → IfPointer (Some (passed (length ds) h)) (λ r path. IfPointer (argument_of ps (Args hs) j) (λ q way. r ≢ q)))
              → IfPointer (argument_of ps (Args hs) n) (λ r path. IfPointer (argument_of ps (Args hs) k) (λ q way. r ≢ q))
              → IfPointer (elim t as (λ t. Option Held) [ true ↦ Some (passed (length ds) h) | false ↦ argument_of ps (Args hs) n ]) (λ r path. IfPointer (elim u as (λ t. Option Held) [ true ↦ Some (passed (length ds) h) | false ↦ argument_of ps (Args hs) k ]) (λ q way. r ≢ q))
          by_tests h hs true true (inl w) (inl v) mine later = absurd (differ (sym w.1 ∙ v.1))
          by_tests h hs true true (inr w) v mine later = cc
          by_tests h hs true true (inl w) (inr v) mine later = cc
          by_tests h hs true false w v mine later = mine k
          by_tests h hs false true w v mine later = turned (Some (passed (length ds) h)) (argument_of ps (Args hs) n) (mine n)
          by_tests h hs false false w v mine later = later

  -- so a call begins with parameters that are so
  called_lending : (ds : List (Frame × ℕ)) (f : Frame) (i : Inst) (rest : List Inst) (g : Function) (hs : List Held) → f.rest ≡ i ∷ rest → step_kind i.op ≡ call → function_of s.of.functions (arg i 0) ≡ Some g → each_one (held s f) (drop 1 i.args) ≡ Some hs → IsLending s ds f
      → IsLending s ((record f { rest = rest }, i.result) ∷ ds) (entered s g (map (passed (length ds)) hs))
  unfolding entered
  called_lending ds f i rest g hs next kind is have at =
      let fine = whole.arguments f.function at.code.of_module i (next_of s f i rest next at.code) kind in
      record {
        code = code_called s (arg i 0) g (map (passed (length ds)) hs) is;
        typed = typed_so ds f at g g.params (drop 1 i.args) hs have fine.0 (whole.parameters f.function g at.code.of_module i (next_of s f i rest next at.code) kind is);
        parameters = λ n on. given_so ds f at g (record f { rest = rest }, i.result) g.params (drop 1 i.args) hs have fine.0 n;
        apart = λ n k on too differ. apart_so ds f at g g.params (drop 1 i.args) hs have fine.0 fine.1 n k differ;
        variables = λ n on off. subst (λ o. IfPointer o (λ r path. (r ≡ own n) × (path ≡ []))) (sym (none_given g.params (map (passed (length ds)) hs) n off)) tt;
      }

  pub lending_closed : IsClosed (IsLending s) s
  lending_closed = record {
    passes = λ ds f i rest next at. still_lending ds f (record f { rest = rest }) refl (record { of_module = at.code.of_module; of_function = code_on s f i rest next at.code }) (same_came f) at;
    gets = λ ds f i rest v next kind at. still_lending ds f _ refl (record { of_module = at.code.of_module; of_function = code_on s f i rest next at.code }) (put_came f f.ids i.result (value v) (same_came f) (λ r path is. let never : value v ≡ pointer r path = is in cc)) at;
    leads = λ ds f i rest p indexes ty next kind is have leads allowed at.
        let how = whole.chains f.function at.code.of_module i (next_of s f i rest next at.code) kind in
        still_lending ds f _ refl (record { of_module = at.code.of_module; of_function = code_on s f i rest next at.code }) (put_came f (without_based f.function i.result f.ids) i.result _ (without_came f i.result) (λ r path is. inr (inl how))) at;
    declares = λ ds f i rest v next kind has at.
        let how = whole.variables f.function at.code.of_module i (next_of s f i rest next at.code) kind in
        still_lending ds f _ refl (record { of_module = at.code.of_module; of_function = code_on s f i rest next at.code })
        (put_came f f.ids i.result (pointer (own i.result) []) (same_came f) (λ r path is. inr (inr (whole.results f.function at.code.of_module i (next_of s f i rest next at.code), how, (let same : r ≡ own i.result = cc in same), (let none : path ≡ [] = cc in none))))) at;
    stores = λ ds f n v at. still_lending ds f (with_variable n v f) refl (record { of_module = at.code.of_module; of_function = at.code.of_function }) (same_came f) at;
    lends = λ ds f depth n v g is at. record {
      code = at.code;
      typed = at.typed;
      parameters = λ k on. if_pointer _ (f.ids k) (λ r path has. let q = of_pointer _ (f.ids k) r path has (at.parameters k on) in (below_with ds depth (with_variable n v g) r q.0, q.1));
      apart = at.apart;
      variables = at.variables;
    };
    calls = λ ds f i rest g hs next kind is have at. called_lending ds f i rest g hs next kind is have at;
    goes_to = λ ds f i rest o label t b values next kind leads to is have at. still_lending ds f _ refl (record { of_module = at.code.of_module; of_function = block_of f.function.blocks t b is }) (phis_came f _ values) at;
  }
    where
      below_with : (ds : List (Frame × ℕ)) (depth : ℕ) (g : Frame) (r : Root) → IsOfBelow ds r → IsOfBelow (with_call depth g ds) r
      below_with ds depth g (global k) is = is
      below_with ds depth g (own k) is = is
      below_with ds depth g (lent d k) is = subst (λ l. suc d ≤ l) (sym (length_with depth g ds)) is
