-- A call begins on both sides with the same: its parameters have what the arguments have.
use Rattle.std.proofs.Common.{◌≡◌, ◌≢◌, ◌⊎◌, ◌==◌, ℕ, Bool, true, false, List, [], ◌∷◌, length, map, Option, Some, None, cond, inl, inr, refl, sym, ap, ◌∙◌, subst}
use Rattle.std.specs.Prelude.{option_and_then, option_map, is_some, find}
use Rattle.std.proofs.lemmas.Bool.Decides.{eqb_tells}
use Rattle.spv_module.specs.declared.inst.Id.{Id}
use Rattle.spv_module.specs.declared.inst.Inst.{Inst}
use Rattle.spv_module.specs.declared.inst.Function.{Function}
use Rattle.spv_types.specs.Tree.{ValueTree}
use Rattle.op_semantics.specs.Composite.{extracted}
use Rattle.module_semantics.specs.Setting.{Setting}
use Rattle.module_semantics.specs.State as module_state
use Rattle.module_semantics.specs.State.{Root, global, own, lent, Held, value, pointer, Conf, call_at}
use Rattle.module_semantics.specs.Steps.{passed, argument_of, called}
use Rattle.traces.specs.Runs.{supplied}
use Rattle.glsl_ast.specs.Tree.{Text, Param, param}
use Rattle.glsl_semantics.specs.Shapes.{Shape, Typed, typed, shape_of, tree_of_value, same_shape}
use Rattle.glsl_semantics.specs.States.{Frame, State, found, has}
use Rattle.glsl_semantics.specs.Expressions.{Program, Argument}
use Rattle.glsl_semantics.specs.Run.{parameter_if, parameters}
use Rattle.list_law.proofs.Tests.{not_both}
use Rattle.agree_law.specs.Agree.{Naming, is_named, AreApart, IfPointer, IsFar, variable_in, variable_with, target_value, Agree}
use Rattle.agree_law.proofs.Braces.{outer_named, lent_named, private_named}
use Rattle.call_law.specs.Known.{from_call, IsWhole}
use Rattle.call_law.proofs.Valued.{under, first_call}
use Rattle.function_law.specs.Passed.{NamesMemory, ShareNames, IsArgument, IsPassed, ArePassed, AreTypedParameters, parameter_frame}
use Rattle.function_law.specs.Tops.{IsEntered}
use Rattle.function_law.proofs.TopText.{found_head, found_past, has_past}

-- what an argument leads to is what its parameter leads to from the call
target_passed : (s : Setting) (c : Conf) (rest : List Inst) (i : Inst) (g : Function) (hs : List Held) (n : ℕ) (r : Root) (path : List ℕ) → IsWhole s c.below c.top n r path → target_value (called s c rest i g hs) (from_call c.below r) path ≡ target_value c r path
target_passed s c rest i g hs n (own k) path is = ap (λ (o : Option module_state.Frame). option_and_then (extracted path) (variable_in o k)) (first_call (record c.top { rest = rest }, i.result) c.below)
target_passed s c rest i g hs n (lent depth k) path (shown, none, inl is) = ap (λ (o : Option module_state.Frame). option_and_then (extracted path) (variable_in o k)) (under depth (record c.top { rest = rest }, i.result) c.below is.1)
target_passed s c rest i g hs n (lent depth k) path (shown, none, inr is) = let never : lent depth k ≡ own n = is.1 in cc
target_passed s c rest i g hs n (global k) path (shown, none, inl is) = absurd is.1
target_passed s c rest i g hs n (global k) path (shown, none, inr is) = let never : global k ≡ own n = is.1 in cc

far_from_call : (ds : List (module_state.Frame × ℕ)) (r : Root) → IsFar (from_call ds r)
far_from_call ds (global n) = tt
far_from_call ds (own n) = tt
far_from_call ds (lent depth n) = tt

pub passed_pointer : (ds : List (module_state.Frame × ℕ)) (r : Root) (path : List ℕ) → passed (length ds) (pointer r path) ≡ pointer (from_call ds r) path
passed_pointer ds (global n) path = refl
passed_pointer ds (own n) path = refl
passed_pointer ds (lent depth n) path = refl

abbrev param_name : Param → Text
param_name (param inout t w) = w

abbrev has_id : List (Id × Id) → ℕ → Bool
has_id ps n = is_some (option_map (λ (p : Id × Id). p.1.0) (find (λ (p : Id × Id). p.0.0 == n) ps))

module _ (m other : Naming) (apart : AreApart other) (s : Setting) (c : Conf) (rest : List Inst) (i : Inst) (g : Function) (all : List Held) where
  abbrev Called : Conf
  Called = called s c rest i g all

  abbrev Wholes : List ℕ → List Held → Type 0
  Wholes ns hs = (n : ℕ) (r : Root) (path : List ℕ) → IsArgument n (pointer r path) ns hs → IsWhole s c.below c.top n r path

  -- what the text's parameter has, where the module's has this
  abbrev HasAs : ℕ → Held → ValueTree → Type 0
  HasAs n (value v) w = (other.is_outer n ≡ true) × (v ≡ w)
  HasAs n (pointer r path) w = (other.is_lent n ≡ true) × IsFar r × (target_value Called r path ≡ Some w)

  has_named : (n : ℕ) (h : Held) (w : ValueTree) → HasAs n h w → is_named other n ≡ true
  has_named n (value v) w has = outer_named other n has.0
  has_named n (pointer r path) w has = lent_named other n has.0

  record IsThis (n : ℕ) (h : Held) (q : Param) (a : Argument) : Type 0 where
    name : param_name q ≡ other.name n
    value : ValueTree
    says : a.1 ≡ typed (other.shape n) value
    has : HasAs n (passed (length c.below) h) value

  this_begun : (n k : ℕ) (h : Held) (q : Param) (a : Argument) → ((r : Root) (path : List ℕ) → h ≡ pointer r path → IsWhole s c.below c.top k r path) → IsPassed m other c n k h q a → IsThis n h q a
  this_begun n k (value v) (param true t w) a whole are = absurd are
  this_begun n k (pointer r path) (param false t w) a whole are = absurd are
  this_begun n k (value v) (param false t w) a whole are = record { name = are.name; value = v; says = are.says; has = (are.outer, refl) }
  this_begun n k (pointer r path) (param true t w) a whole are = record {
    name = are.name;
    value = are.value;
    says = are.says;
    has = subst (λ h. HasAs n h are.value) (sym (passed_pointer c.below r path)) (are.lent, far_from_call c.below r, target_passed s c rest i g all k r path (whole r path refl) ∙ are.has);
  }

  pub record IsBegun (ps : List (Id × Id)) (hs : List Held) (f : Frame) (n : ℕ) : Type 0 where
    pub held : Held
    pub given : argument_of ps (map (passed (length c.below)) hs) n ≡ Some held
    pub value : ValueTree
    pub there : found f (other.name n) ≡ Some (variable_with (other.shape n) (Some value))
    pub has : HasAs n held value

  begun_in : (ps : List (Id × Id)) (ns : List ℕ) (hs : List Held) (qs : List Param) (as' : List Argument) → Wholes ns hs → ArePassed m other c ps ns hs qs as' → (n : ℕ) → has_id ps n ≡ true → IsBegun ps hs (parameter_frame qs as') n
  begun_in [] ns hs qs as' wholes are n on = cc
  begun_in (p ∷ ps) [] hs qs as' wholes are n on = absurd are
  begun_in (p ∷ ps) (k ∷ ns) [] qs as' wholes are n on = absurd are
  begun_in (p ∷ ps) (k ∷ ns) (h ∷ hs) [] as' wholes are n on = absurd are
  begun_in (p ∷ ps) (k ∷ ns) (h ∷ hs) (q ∷ qs) [] wholes are n on = absurd are
  begun_in (p ∷ ps) (k ∷ ns) (h ∷ hs) (param inout t w ∷ qs) (a ∷ as') wholes are n on =
      by_test (p.0.0 == n) refl (eqb_tells p.0.0 n) on (this_begun p.0.0 k h (param inout t w) a (λ r path is. wholes k r path (inl (refl, is))) are.0) (begun_in ps ns hs qs as' (λ n r path is. wholes n r path (inr is)) are.1 n)
    where
      given_by : Bool → Option Held
      given_by t = elim t as (λ t. Option Held) [ true ↦ Some (passed (length c.below) h) | false ↦ argument_of ps (map (passed (length c.below)) hs) n ]

      by_test : (b : Bool) → (p.0.0 == n) ≡ b → ((b ≡ true) × (p.0.0 ≡ n)) ⊎ ((b ≡ false) × (p.0.0 ≡ n → ⊥)) → is_some (option_map (λ (p : Id × Id). p.1.0) (cond b (Some p) (find (λ (p : Id × Id). p.0.0 == n) ps))) ≡ true → IsThis p.0.0 h (param inout t w) a
          → (has_id ps n ≡ true → IsBegun ps hs (parameter_frame qs as') n) → IsBegun (p ∷ ps) (h ∷ hs) (parameter_frame (param inout t w ∷ qs) (a ∷ as')) n
      by_test true is (inr v) on this later = cc
      by_test true is (inl v) on this later = record {
        held = passed (length c.below) h;
        given = ap given_by is;
        value = this.value;
        there = subst (λ j. found (parameter_frame (param inout t w ∷ qs) (a ∷ as')) (other.name j) ≡ Some (variable_with (other.shape j) (Some this.value))) v.1
            (subst (λ x. found (parameter_frame (param inout t w ∷ qs) (a ∷ as')) x ≡ Some (variable_with (other.shape p.0.0) (Some this.value))) this.name
            (found_head w (variable_with (shape_of a.1) (Some (tree_of_value a.1))) (parameter_frame qs as') ∙ ap (λ (u : Typed). Some (variable_with (shape_of u) (Some (tree_of_value u)))) this.says));
        has = subst (λ j. HasAs j (passed (length c.below) h) this.value) v.1 this.has;
      }
      by_test false is (inl v) on this later = cc
      by_test false is (inr v) on this later =
          let l : IsBegun ps hs (parameter_frame qs as') n = later on in
          record {
            held = l.held;
            given = ap given_by is ∙ l.given;
            value = l.value;
            there = found_past w (other.name n) (variable_with (shape_of a.1) (Some (tree_of_value a.1))) (parameter_frame qs as') (λ same. v.1 (apart.names p.0.0 n (has_named p.0.0 _ this.value this.has) (has_named n l.held l.value l.has) (sym this.name ∙ same))) ∙ l.there;
            has = l.has;
          }

  has_none : (ps : List (Id × Id)) (ns : List ℕ) (hs : List Held) (qs : List Param) (as' : List Argument) → Wholes ns hs → ArePassed m other c ps ns hs qs as' → (x : Text) → ((n : ℕ) (h : Held) (w : ValueTree) → HasAs n h w → other.name n ≢ x) → has (parameter_frame qs as') x ≡ false
  has_none [] [] [] [] [] wholes are x ne = refl
  has_none [] (n ∷ ns) hs qs as' wholes are x ne = absurd are
  has_none [] [] (h ∷ hs) qs as' wholes are x ne = absurd are
  has_none [] [] [] (q ∷ qs) as' wholes are x ne = absurd are
  has_none [] [] [] [] (a ∷ as') wholes are x ne = absurd are
  has_none (p ∷ ps) [] hs qs as' wholes are x ne = absurd are
  has_none (p ∷ ps) (k ∷ ns) [] qs as' wholes are x ne = absurd are
  has_none (p ∷ ps) (k ∷ ns) (h ∷ hs) [] as' wholes are x ne = absurd are
  has_none (p ∷ ps) (k ∷ ns) (h ∷ hs) (q ∷ qs) [] wholes are x ne = absurd are
  has_none (p ∷ ps) (k ∷ ns) (h ∷ hs) (param inout t w ∷ qs) (a ∷ as') wholes are x ne =
      let this : IsThis p.0.0 h (param inout t w) a = this_begun p.0.0 k h (param inout t w) a (λ r path is. wholes k r path (inl (refl, is))) are.0 in
      has_past w x (variable_with (shape_of a.1) (Some (tree_of_value a.1))) (parameter_frame qs as') (λ same. ne p.0.0 (passed (length c.below) h) this.value this.has (sym this.name ∙ same))
      ∙ has_none ps ns hs qs as' (λ n r path is. wholes n r path (inr is)) are.1 x ne

  pub parameters_are : (p : Program) (ps : List (Id × Id)) (ns : List ℕ) (hs : List Held) (qs : List Param) (as' : List Argument) → Wholes ns hs → ArePassed m other c ps ns hs qs as' → AreTypedParameters p other ps qs → parameters p qs as' ≡ Some (parameter_frame qs as')
  parameters_are p [] [] [] [] [] wholes are types = refl
  parameters_are p [] (n ∷ ns) hs qs as' wholes are types = absurd are
  parameters_are p [] [] (h ∷ hs) qs as' wholes are types = absurd are
  parameters_are p [] [] [] (q ∷ qs) as' wholes are types = absurd are
  parameters_are p [] [] [] [] (a ∷ as') wholes are types = absurd are
  parameters_are p (x ∷ ps) [] hs qs as' wholes are types = absurd are
  parameters_are p (x ∷ ps) (k ∷ ns) [] qs as' wholes are types = absurd are
  parameters_are p (x ∷ ps) (k ∷ ns) (h ∷ hs) [] as' wholes are types = absurd are
  parameters_are p (x ∷ ps) (k ∷ ns) (h ∷ hs) (q ∷ qs) [] wholes are types = absurd are
  parameters_are p (x ∷ ps) (k ∷ ns) (h ∷ hs) (param inout t w ∷ qs) (a ∷ as') wholes are types =
      let this : IsThis x.0.0 h (param inout t w) a = this_begun x.0.0 k h (param inout t w) a (λ r path is. wholes k r path (inl (refl, is))) are.0 in
      let shape : shape_of a.1 ≡ other.shape x.0.0 = ap shape_of this.says in
      ap (λ (o : Option Shape). parameter_if w a o (parameters p qs as')) types.0
      ∙ (ap (parameter_if w a (Some (other.shape x.0.0))) (parameters_are p ps ns hs qs as' (λ n r path is. wholes n r path (inr is)) are.1 types.2)
      ∙ (ap (λ (b : Bool). elim b as (λ b. Option Frame) [ true ↦ Some ((w, variable_with (other.shape x.0.0) (Some (tree_of_value a.1))) ∷ parameter_frame qs as') | false ↦ None ]) (ap (same_shape (other.shape x.0.0)) shape ∙ types.1)
      ∙ ap (λ (u : Shape). Some ((w, variable_with u (Some (tree_of_value a.1))) ∷ parameter_frame qs as')) (sym shape)))

  -- so a call begins with the same on both sides
  pub call_enters : (ns : List ℕ) (qs : List Param) (as' : List Argument) (z : State) (answers : List (List ℕ)) → Wholes ns all → ArePassed m other c g.params ns all qs as' → NamesMemory other g → ShareNames m other → Agree m c z → z.answers ≡ answers
      → IsEntered s other g (map (passed (length c.below)) all) (parameter_frame qs as') (supplied Called answers) z
  call_enters ns qs as' z answers wholes are names share agree same = record {
    at = refl;
    values = λ n is on. let b = begun_in g.params ns all qs as' wholes are n on in by_value n is b b.held refl;
    lents = λ n is. let b = begun_in g.params ns all qs as' wholes are n (names.lents n is) in by_lent n is b b.held refl;
    private = λ n is. (
      (let q = share.names n (sym (share.privates n) ∙ is) in
          subst (λ x. found z.globals x ≡ Some (variable_with (other.shape n) (c.privates n))) (sym q.0) (subst (λ t. found z.globals (m.name n) ≡ Some (variable_with t (c.privates n))) (sym q.1) (agree.privates n (sym (share.privates n) ∙ is)).0)),
      has_none g.params ns all qs as' wholes are (other.name n) (λ k h w has one. no_private k n h w has (apart.names k n (has_named k h w has) (private_named other n is) one) is),
    );
    outside = λ x is. ((agree.outside x (sym (share.outside x) ∙ is)).1, has_none g.params ns all qs as' wholes are x (λ k h w has. (apart.outside x is).0 k (has_named k h w has)));
    answers = same;
  }
    where
      no_private : (k n : ℕ) (h : Held) (w : ValueTree) → HasAs k h w → k ≡ n → other.is_private n ≡ true → ⊥
      no_private k n (value v) w has one is = not_both (other.is_outer k) has.0 ((apart.privates k (ap other.is_private one ∙ is)).0)
      no_private k n (pointer r path) w has one is = not_both (other.is_private k) (ap other.is_private one ∙ is) (apart.lents k has.0).2

      by_value : (n : ℕ) → other.is_outer n ≡ true → (b : IsBegun g.params all (parameter_frame qs as') n) → (h : Held) → b.held ≡ h → (v : ValueTree) × (argument_of g.params (map (passed (length c.below)) all) n ≡ Some (value v)) × (found (parameter_frame qs as') (other.name n) ≡ Some (variable_with (other.shape n) (Some v)))
      by_value n is b (value v) e = let has = subst (λ h. HasAs n h b.value) e b.has in (v, b.given ∙ ap (λ h. Some h) e, b.there ∙ ap (λ w. Some (variable_with (other.shape n) (Some w))) (sym has.1))
      by_value n is b (pointer r path) e = let has = subst (λ h. HasAs n h b.value) e b.has in absurd (not_both (other.is_outer n) is (apart.lents n has.0).0)

      by_lent : (n : ℕ) → other.is_lent n ≡ true → (b : IsBegun g.params all (parameter_frame qs as') n) → (h : Held) → b.held ≡ h
          → (v : ValueTree) × (found (parameter_frame qs as') (other.name n) ≡ Some (variable_with (other.shape n) (Some v))) × IfPointer (argument_of g.params (map (passed (length c.below)) all) n) (λ r path. IsFar r × (Some v ≡ target_value Called r path))
      by_lent n is b (value v) e = let has = subst (λ h. HasAs n h b.value) e b.has in absurd (not_both (other.is_outer n) has.0 (apart.lents n is).0)
      by_lent n is b (pointer r path) e =
          let has = subst (λ h. HasAs n h b.value) e b.has in
          (b.value, b.there, subst (λ o. IfPointer o (λ r path. IsFar r × (Some b.value ≡ target_value Called r path))) (sym (b.given ∙ ap (λ h. Some h) e)) (has.1, sym has.2))
