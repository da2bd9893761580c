-- The arguments of a call stand for what the module passes, where their expressions are names of variables or say values.
use Rattle.std.proofs.Common.{◌≡◌, ◌⊎◌, ◌++◌, ℕ, true, false, List, [], ◌∷◌, Option, Some, inl, inr, refl, sym, ap, ◌∙◌}
use Rattle.std.specs.Prelude.{option_and_then}
use Rattle.spv_module.specs.declared.inst.Id.{Id}
use Rattle.spv_types.specs.Tree.{ValueTree}
use Rattle.op_semantics.specs.Composite.{extracted}
use Rattle.traces.specs.Events.{Event}
use Rattle.traces.specs.Outcomes.{Result, got, cut, waits, stuck, with_before, then_get, or_stuck}
use Rattle.module_semantics.specs.Setting.{Setting}
use Rattle.module_semantics.specs.State.{Root, global, own, lent, Held, value, pointer, Conf}
use Rattle.module_semantics.specs.Operands.{held}
use Rattle.glsl_ast.specs.Tree.{Text, Expr, exprs_in, Param, param}
use Rattle.glsl_semantics.specs.Shapes.{Typed, typed}
use Rattle.glsl_semantics.specs.States as state
use Rattle.glsl_semantics.specs.States.{State, Thing, fetch}
use Rattle.glsl_semantics.specs.Expressions.{Program, Argument, denote, arguments}
use Rattle.list_law.proofs.Tests.{not_both}
use Rattle.list_law.proofs.Lists.{none_left, none_right}
use Rattle.fits_law.proofs.Parts.{extracted_none}
use Rattle.agree_law.specs.Agree.{Naming, IsFar, variable_with, target_value, Agree}
use Rattle.agree_law.proofs.Owned.{own_found}
use Rattle.agree_law.proofs.Evaluating.{named_is}
use Rattle.agree_law.proofs.Steps.{before_none}
use Rattle.call_law.specs.Known.{is_parameter, IsOfBelow, LeadsToSome, IsValued, IsWhole}
use Rattle.call_law.proofs.Valued.{held_so}
use Rattle.call_law.proofs.Lending.{of_pointer}
use Rattle.function_law.specs.Passed.{NamesMemory, IsArgument, IsPassed, ArePassed, ArgumentSays, ArgumentsSay}

before_got : {A : Type 0} (d : List Event) (g : Result A) (a : A) → with_before d g ≡ got [] a → (d ≡ []) × (g ≡ got [] a)
before_got {A} d (got e x) a is =
    let events : d ++ e ≡ [] = cc in
    let same : x ≡ a = cc in
    (none_left d e events, ap (λ l. got l x) (none_right d e events) ∙ ap (got []) same)
before_got d (cut e) a is = cc
before_got d (waits e) a is = cc
before_got d (stuck e) a is = cc

-- what went on and came to something without events had something to go on with
got_first : {A B : Type 0} (g : Result A) (f : A → Result B) (b : B) → then_get g f ≡ got [] b → (a : A) × (g ≡ got [] a) × (f a ≡ got [] b)
got_first (got e a) f b is = let q = before_got e (f a) b is in (a, ap (λ l. got l a) q.0, q.1)
got_first (cut e) f b is = cc
got_first (waits e) f b is = cc
got_first (stuck e) f b is = cc

then_known : {A B : Type 0} (g : Result A) (f : A → Result B) (a : A) → g ≡ got [] a → then_get g f ≡ f a
then_known {A} {B} g f a is = ap (λ (g : Result A). then_get g f) is ∙ before_none (f a)

module _ (p : Program) (calls : Text → List Argument → State → Result (Option Typed × State)) (m other : Naming) (s : Setting) (c : Conf) (z : State) (valued : IsValued c.below c.top) (names : NamesMemory m c.top.function) (agree : Agree m c z) where
  -- an argument stands for something, which has this value
  record Stands (e : Expr) (a : Argument) : Type 0 where
    between : State
    denotes : denote p calls e z ≡ got [] (a.0, between)
    has : fetch a.0 between ≡ got [] (a.1, z)

  leads_some : (n : ℕ) (r : Root) (path : List ℕ) → held s c.top n ≡ Some (pointer r path) → LeadsToSome c.below c.top r
  leads_some n r path have = of_pointer (λ r path. LeadsToSome c.below c.top r) (held s c.top n) r path have (held_so (LeadsToSome c.below c.top) s c.top n (λ k. tt) valued)

  root_some : (n : ℕ) (r : Root) (path : List ℕ) → IsWhole s c.below c.top n r path → LeadsToSome c.below c.top r → (v : ValueTree) × (target_value c r path ≡ Some v)
  root_some n (own k) path is has = (has.0, ap (target_value c (own k)) is.1 ∙ ap (option_and_then (extracted [])) has.1)
  root_some n (lent depth k) path is has = (has.0, ap (target_value c (lent depth k)) is.1 ∙ ap (option_and_then (extracted [])) has.1)
  root_some n (global k) path (shown, none, inl is) has = absurd is.1
  root_some n (global k) path (shown, none, inr is) has = let never : global k ≡ own n = is.1 in cc

  -- the variable of the text to which a pointer leads
  found_so : (n : ℕ) (r : Root) (path : List ℕ) (v : ValueTree) → IsWhole s c.below c.top n r path → target_value c r path ≡ Some v → (m.is_variable n ≡ true) ⊎ (m.is_lent n ≡ true) → state.found_in z.frames (m.name n) ≡ Some (variable_with (m.shape n) (Some v))
  found_so n r path v is has (inl mine) = by_kind is.2
    where
      by_kind : ((is_parameter c.top.function n ≡ true) × IsOfBelow c.below r × (c.top.ids n ≡ Some (pointer r path))) ⊎ ((is_parameter c.top.function n ≡ false) × (r ≡ own n)) → state.found_in z.frames (m.name n) ≡ Some (variable_with (m.shape n) (Some v))
      by_kind (inl q) = absurd (not_both _ q.0 (names.variables n mine).1)
      by_kind (inr q) =
          own_found z.frames (m.name n) _ (agree.variables n mine)
          ∙ ap (λ o. Some (variable_with (m.shape n) o)) (sym (extracted_none (c.top.variables n)) ∙ (sym (ap (target_value c r) is.1 ∙ ap (λ t. target_value c t []) q.1) ∙ has))
  found_so n r path v is has (inr mine) = by_kind is.2
    where
      by_kind : ((is_parameter c.top.function n ≡ true) × IsOfBelow c.below r × (c.top.ids n ≡ Some (pointer r path))) ⊎ ((is_parameter c.top.function n ≡ false) × (r ≡ own n)) → state.found_in z.frames (m.name n) ≡ Some (variable_with (m.shape n) (Some v))
      by_kind (inr q) = absurd (not_both _ (names.lents n mine) q.0)
      by_kind (inl q) =
          let l = agree.lents n mine in
          own_found z.frames (m.name n) _ l.1 ∙ ap (λ o. Some (variable_with (m.shape n) o)) ((of_pointer (λ r path. IsFar r × (l.0 ≡ target_value c r path)) (c.top.ids n) r path q.2 l.2).1 ∙ has)

  one_said : (q n : ℕ) (h : Held) (x : Param) (e : Expr) → held s c.top n ≡ Some h → ((r : Root) (path : List ℕ) → h ≡ pointer r path → IsWhole s c.below c.top n r path) → ArgumentSays p calls m other z q n h x e → (a : Argument) × Stands e a × IsPassed m other c q n h x a
  one_said q n (value v) (param true t w) e have whole says = absurd says
  one_said q n (pointer r path) (param false t w) e have whole says = absurd says
  one_said q n (value v) (param false t w) e have whole says =
      let first = got_first (denote p calls e z) (λ x. then_get (fetch x.0 x.1) (λ y. got [] (y.0, y.1))) (typed (other.shape q) v, z) says.says in
      let second = got_first (fetch first.0.0 first.0.1) (λ y. got [] (y.0, y.1)) (typed (other.shape q) v, z) first.2 in
      let same : (second.0.0, second.0.1) ≡ (typed (other.shape q) v, z) = cc in
      ((first.0.0, typed (other.shape q) v), record { between = first.0.1; denotes = first.1; has = second.1 ∙ ap (got []) same }, record { name = says.parameter; outer = says.outer; says = refl })
  one_said q n (pointer r path) (param true t w) e have whole says =
      let is : IsWhole s c.below c.top n r path = whole r path refl in
      let v = root_some n r path is (leads_some n r path have) in
      let there = found_so n r path v.0 is v.1 says.kind in (
        (state.variable (m.name n) [] (m.shape n) (Some v.0), typed (m.shape n) v.0),
        record { between = z; denotes = ap (λ e. denote p calls e z) says.is ∙ ap (λ (o : Option Thing). or_stuck o (λ x. got [] (x, z))) (named_is p z (m.name n) _ there); has = refl },
        record { name = says.parameter; lent = says.lent; shape = says.shape; kind = says.kind; old = Some v.0; place = refl; value = v.0; says = ap (λ u. typed u v.0) (sym says.shape); has = v.1 },
      )

  -- so the arguments stand for what the module passes
  pub all_said : (ps : List (Id × Id)) (ns : List ℕ) (hs : List Held) (qs : List Param) (es : List Expr) → ((n : ℕ) (h : Held) → IsArgument n h ns hs → held s c.top n ≡ Some h) → ((n : ℕ) (r : Root) (path : List ℕ) → IsArgument n (pointer r path) ns hs → IsWhole s c.below c.top n r path)
      → ArgumentsSay p calls m other z ps ns hs qs es → (as' : List Argument) × (arguments p calls (exprs_in es) z ≡ got [] (as', z)) × ArePassed m other c ps ns hs qs as'
  all_said [] [] [] [] [] have whole say = ([], refl, tt)
  all_said [] (n ∷ ns) hs qs es have whole say = absurd say
  all_said [] [] (h ∷ hs) qs es have whole say = absurd say
  all_said [] [] [] (q ∷ qs) es have whole say = absurd say
  all_said [] [] [] [] (e ∷ es) have whole say = absurd say
  all_said (x ∷ ps) [] hs qs es have whole say = absurd say
  all_said (x ∷ ps) (n ∷ ns) [] qs es have whole say = absurd say
  all_said (x ∷ ps) (n ∷ ns) (h ∷ hs) [] es have whole say = absurd say
  all_said (x ∷ ps) (n ∷ ns) (h ∷ hs) (q ∷ qs) [] have whole say = absurd say
  all_said (x ∷ ps) (n ∷ ns) (h ∷ hs) (q ∷ qs) (e ∷ es) have whole say =
      let a = one_said x.0.0 n h q e (have n h (inl (refl, refl))) (λ r path is. whole n r path (inl (refl, is))) say.0 in
      let later = all_said ps ns hs qs es (λ n h is. have n h (inr is)) (λ n r path is. whole n r path (inr is)) say.1 in (
        a.0 ∷ later.0,
        then_known (denote p calls e z) (λ x. then_get (fetch x.0 x.1) (λ v. then_get (arguments p calls (exprs_in es) v.1) (λ y. got [] ((x.0, v.0) ∷ y.0, y.1)))) (a.0.0, a.1.between) a.1.denotes
            ∙ (then_known (fetch a.0.0 a.1.between) (λ v. then_get (arguments p calls (exprs_in es) v.1) (λ y. got [] ((a.0.0, v.0) ∷ y.0, y.1))) (a.0.1, z) a.1.has
            ∙ then_known (arguments p calls (exprs_in es) z) (λ y. got [] ((a.0.0, a.0.1) ∷ y.0, y.1)) (later.0, z) later.1),
        (a.2, later.2),
      )
