-- Where a function returns, the call has come back: its caller's state agrees, with the values that the parameters have at the end where these were lent.
use Rattle.std.proofs.Common.{◌≡◌, ◌⊎◌, ◌==◌, ℕ, Bool, true, false, List, [], ◌∷◌, length, map, drop, Option, Some, None, cond, inl, inr, refl, sym, ap, ◌∙◌, subst, arith}
use Rattle.std.specs.Prelude.{option_and_then, option_map, is_some, find}
use Rattle.std.proofs.lemmas.Bool.Decides.{eqb_tells}
use Rattle.spv_module.specs.declared.inst.Id.{Id}
use Rattle.spv_module.specs.declared.inst.Inst.{Inst}
use Rattle.spv_module.specs.declared.inst.Function.{Function}
use Rattle.spv_types.specs.Tree.{ValueTree}
use Rattle.op_semantics.specs.Component.{each_one}
use Rattle.op_semantics.specs.Composite.{extracted}
use Rattle.profile_rules.specs.Entry.{function_of}
use Rattle.traces.specs.Runs.{go, Act, Supplied, supplied}
use Rattle.traces.specs.Outcomes.{Result}
use Rattle.module_semantics.specs.Setting.{Setting}
use Rattle.module_semantics.specs.State as module_state
use Rattle.module_semantics.specs.State.{Root, global, own, lent, Held, value, pointer, Conf, put}
use Rattle.module_semantics.specs.Operands.{held, value_at, arg}
use Rattle.module_semantics.specs.Steps.{StepKind, operation, chain, array_length, variable, load, store, atomic, memory_barrier, control_barrier, call, merge, branch, return, return_value, unreachable, step_kind, passed, argument_of}
use Rattle.glsl_ast.specs.Tree.{Text, Param, param}
use Rattle.glsl_semantics.specs.Shapes.{Typed, typed, same_shape}
use Rattle.glsl_semantics.specs.States.{Variable, State, found}
use Rattle.glsl_semantics.specs.Expressions.{Program, Argument}
use Rattle.glsl_semantics.specs.Run.{last_value}
use Rattle.agree_law.specs.Answers.{move}
use Rattle.agree_law.specs.Agree.{Naming, AreApart, IsFar, variable_with, target_value, Agree}
use Rattle.agree_law.specs.Blocks.{has_outcome, IsNew, Stands}
use Rattle.agree_law.specs.Evaluates.{IsKept}
use Rattle.agree_law.specs.Outs.{Outs, IsOut, AreLent}
use Rattle.agree_law.specs.Points.{Body, GivesBy, Returns}
use Rattle.agree_law.proofs.Owned.{own_found}
use Rattle.agree_law.proofs.Machine.{machine, kind_is, return_goes, return_value_goes}
use Rattle.agree_law.proofs.Calling.{GoesBack}
use Rattle.agree_law.proofs.Called.{GivesValue, GivesNothing, Returning, goes_back, goes_back_with}
use Rattle.call_law.specs.Known.{is_parameter, LeadsToSome, from_call, IsWhole, IsLending, KeepsParameters}
use Rattle.call_law.proofs.CodeKept.{next_of}
use Rattle.call_law.proofs.Inside.{wait_length}
use Rattle.call_law.proofs.LeftBehind.{waiting, IsBack, back_there}
use Rattle.call_law.proofs.Lending.{of_pointer}
use Rattle.function_law.specs.UnderWay.{IsUnderWay, IsRuled}
use Rattle.function_law.specs.Passed.{NamesMemory, ShareNames, IsArgument, IsLentAs, ArePassed, IsNoId, AreOnceIds}
use Rattle.function_law.proofs.UnderWay.{way_kept}
use Rattle.function_law.proofs.Passing.{whole_in, AreLeft, AllEnd, are_left, are_once, is_left}
use Rattle.function_law.proofs.Beginning.{Got, InCall, way_again, way_given}
use Rattle.function_law.proofs.Entering.{passed_pointer}

-- what each parameter gets
abbrev AllGet : ℕ → (ℕ → Option Held) → List (Id × Id) → List Held → Type 0
AllGet height given (p ∷ ps) (h ∷ hs) = (given p.0.0 ≡ Some (passed height h)) × AllGet height given ps hs
AllGet height given _ _ = Unit {0}

later_get : (height : ℕ) (q : Id × Id) (x : Held) (given : ℕ → Option Held) (ps : List (Id × Id)) (hs : List Held) → IsNoId q.0.0 ps → AllGet height given ps hs → AllGet height (λ n. elim (q.0.0 == n) as (λ t. Option Held) [ true ↦ Some x | false ↦ given n ]) ps hs
later_get height q x given [] hs none all = tt
later_get height q x given (p ∷ ps) [] none all = tt
later_get height q x given (p ∷ ps) (h ∷ hs) none all = (by_test (q.0.0 == p.0.0) (eqb_tells q.0.0 p.0.0), later_get height q x given ps hs none.1 all.1)
  where
    by_test : (t : Bool) → ((t ≡ true) × (q.0.0 ≡ p.0.0)) ⊎ ((t ≡ false) × (q.0.0 ≡ p.0.0 → ⊥)) → elim t as (λ t. Option Held) [ true ↦ Some x | false ↦ given p.0.0 ] ≡ Some (passed height h)
    by_test true (inl w) = absurd (none.0 (sym w.1))
    by_test true (inr w) = cc
    by_test false w = all.0

all_get : (height : ℕ) (ps : List (Id × Id)) (hs : List Held) → AreOnceIds ps → AllGet height (argument_of ps (map (passed height) hs)) ps hs
all_get height [] hs once = tt
all_get height (p ∷ ps) [] once = tt
all_get height (p ∷ ps) (h ∷ hs) once = (by_test (p.0.0 == p.0.0) (eqb_tells p.0.0 p.0.0), later_get height p (passed height h) (argument_of ps (map (passed height) hs)) ps hs once.0 (all_get height ps hs once.1))
  where
    by_test : (t : Bool) → ((t ≡ true) × (p.0.0 ≡ p.0.0)) ⊎ ((t ≡ false) × (p.0.0 ≡ p.0.0 → ⊥)) → elim t as (λ t. Option Held) [ true ↦ Some (passed height h) | false ↦ argument_of ps (map (passed height) hs) p.0.0 ] ≡ Some (passed height h)
    by_test true w = refl
    by_test false (inl w) = cc
    by_test false (inr w) = absurd (w.1 refl)

-- parameters are parameters
abbrev has_id : List (Id × Id) → ℕ → Bool
has_id ps n = is_some (option_map (λ (p : Id × Id). p.1.0) (find (λ (p : Id × Id). p.0.0 == n) ps))

abbrev AllPass : (ℕ → Bool) → List (Id × Id) → Type 0
AllPass test [] = Unit {0}
AllPass test (p ∷ ps) = (test p.0.0 ≡ true) × AllPass test ps

later_pass : (q : Id × Id) (qs ps : List (Id × Id)) → AllPass (has_id qs) ps → AllPass (has_id (q ∷ qs)) ps
later_pass q qs [] all = tt
later_pass q qs (p ∷ ps) all = (by_test (q.0.0 == p.0.0) all.0, later_pass q qs ps all.1)
  where
    by_test : (t : Bool) → has_id qs p.0.0 ≡ true → is_some (option_map (λ (p : Id × Id). p.1.0) (cond t (Some q) (find (λ (r : Id × Id). r.0.0 == p.0.0) qs))) ≡ true
    by_test true on = refl
    by_test false on = on

all_pass : (ps : List (Id × Id)) → AllPass (has_id ps) ps
all_pass [] = tt
all_pass (p ∷ ps) = (by_test (p.0.0 == p.0.0) (eqb_tells p.0.0 p.0.0), later_pass p ps ps (all_pass ps))
  where
    by_test : (t : Bool) → ((t ≡ true) × (p.0.0 ≡ p.0.0)) ⊎ ((t ≡ false) × (p.0.0 ≡ p.0.0 → ⊥)) → is_some (option_map (λ (p : Id × Id). p.1.0) (cond t (Some p) (find (λ (r : Id × Id). r.0.0 == p.0.0) ps))) ≡ true
    by_test true w = refl
    by_test false (inl w) = cc
    by_test false (inr w) = absurd (w.1 refl)

still_get : (height : ℕ) (ids given : ℕ → Option Held) (test : ℕ → Bool) → ((n : ℕ) → test n ≡ true → ids n ≡ given n) → (ps : List (Id × Id)) (hs : List Held) → AllPass test ps → AllGet height given ps hs → AllGet height ids ps hs
still_get height ids given test same [] hs pass all = tt
still_get height ids given test same (p ∷ ps) [] pass all = tt
still_get height ids given test same (p ∷ ps) (h ∷ hs) pass all = (same p.0.0 pass.0 ∙ all.0, still_get height ids given test same ps hs pass.1 all.1)

-- what was lent has a value
root_has : (s : Setting) (c : Conf) (n : ℕ) (r : Root) (path : List ℕ) → IsWhole s c.below c.top n r path → (d : Conf) → LeadsToSome d.below d.top (from_call c.below r) → (v : ValueTree) × (target_value d (from_call c.below r) [] ≡ Some v)
root_has s c n (own k) path is d has = (has.0, ap (option_and_then (extracted [])) has.1)
root_has s c n (lent depth k) path is d has = (has.0, ap (option_and_then (extracted [])) has.1)
root_has s c n (global k) path (shown, none, inl is) d has = absurd is.1
root_has s c n (global k) path (shown, none, inr is) d has = let never : global k ≡ own n = is.1 in cc

kind_out : (m : Naming) (n : ℕ) (v : ValueTree) (os : Outs) → AreLent m os → IsOut n v os → (m.is_variable n ≡ true) ⊎ (m.is_lent n ≡ true)
kind_out m n v [] are out = absurd out
kind_out m n v (o ∷ os) are (inl same) = subst (λ j. (m.is_variable j ≡ true) ⊎ (m.is_lent j ≡ true)) (sym same.0) are.0
kind_out m n v (o ∷ os) are (inr out) = kind_out m n v os are.1 out

module _ (p : Program) (calls : Text → List Argument → State → Result (Option Typed × State)) (k : ℕ) (m other : Naming) (apart : AreApart m) (s : Setting) (More : Conf → Type 0) (ruled : IsRuled s More) (IsLent : ℕ → ℕ → Type 0) (start : List (module_state.Frame × ℕ)) (f : Function) (given : ℕ → Option Held)
    (b : ℕ) (done : List Inst) (i : Inst) (rest : List Inst) (g : Function) (body : (b : ℕ) → Option (Body g b)) where
  abbrev Holds : Conf → Type 0
  Holds = IsUnderWay s More IsLent start f given

  abbrev keeps : IsKept (machine s) Holds
  keeps = way_kept s More ruled IsLent start f given

  -- The caller is at the call of this function, and what the arguments have is what the text passes.
  pub record IsCalling (c : Supplied Conf) (z : State) (hs : List Held) (qs : List Param) (as' : List Argument) : Type 0 where
    pub stands : Stands m s Holds f b done c z
    pub next : c.at.top.rest ≡ i ∷ rest
    pub kind : step_kind i.op ≡ call
    pub function : function_of s.of.functions (arg i 0) ≡ Some g
    pub have : each_one (held s c.at.top) (drop 1 i.args) ≡ Some hs
    pub passes : ArePassed m other c.at g.params (drop 1 i.args) hs qs as'
    pub names : NamesMemory m f
    pub share : ShareNames m other
    pub shapes : (n : ℕ) → (m.is_variable n ≡ true) ⊎ (m.is_lent n ≡ true) → same_shape (m.shape n) (m.shape n) ≡ true
    pub once : AreOnceIds g.params

  module _ (c : Supplied Conf) (z : State) (hs : List Held) (qs : List Param) (as' : List Argument) (calling : IsCalling c z hs qs as') where
    -- what is known inside the call
    abbrev pub Inside : Conf → Type 0
    Inside = InCall s More ruled c.at rest i g hs

    abbrev Args : List ℕ
    Args = drop 1 i.args

    lending : IsLending s c.at.below c.at.top
    lending = calling.stands.holds.known.lending.top (omega arith)

    pub whole : (n : ℕ) (r : Root) (path : List ℕ) → IsArgument n (pointer r path) Args hs → IsWhole s c.at.below c.at.top n r path
    whole = whole_in s ruled.lends c.at.below c.at.top lending Args hs calling.have (ruled.lends.arguments c.at.top.function lending.code.of_module i (next_of s c.at.top i rest calling.next lending.code) calling.kind).0

    module _ (d : Supplied Conf) (y : State) (agree : Agree other d.at y) (inside : Inside d.at) where
      ends : (ps : List (Id × Id)) (ns : List ℕ) (hs' : List Held) (qs' : List Param) (as'' : List Argument) → ((n : ℕ) (r : Root) (path : List ℕ) → IsArgument n (pointer r path) ns hs' → IsWhole s c.at.below c.at.top n r path) → ArePassed m other c.at ps ns hs' qs' as'' → AllGet (length c.at.below) d.at.top.ids ps hs'
          → AllEnd m other c.at d.at y ps hs'
      ends [] ns hs' qs' as'' whole are get = tt
      ends (p ∷ ps) ns [] qs' as'' whole are get = tt
      ends (p ∷ ps) [] (h ∷ hs') qs' as'' whole are get = absurd are
      ends (p ∷ ps) (n ∷ ns) (h ∷ hs') [] as'' whole are get = absurd are
      ends (p ∷ ps) (n ∷ ns) (h ∷ hs') (q ∷ qs') [] whole are get = absurd are
      ends (p ∷ ps) (n ∷ ns) (value v ∷ hs') (q ∷ qs') (a ∷ as'') whole are get = (tt, ends ps ns hs' qs' as'' (λ n r path is. whole n r path (inr is)) are.1 get.1)
      ends (p ∷ ps) (n ∷ ns) (pointer r path ∷ hs') (param false t w ∷ qs') (a ∷ as'') whole are get = absurd are.0
      ends (p ∷ ps) (n ∷ ns) (pointer r path ∷ hs') (param true t w ∷ qs') (a ∷ as'') whole are get =
          let is : IsWhole s c.at.below c.at.top n r path = whole n r path (inl (refl, refl)) in
          let g : IsLentAs m other c.at p.0.0 n r path w a = are.0 in
          let has : d.at.top.ids p.0.0 ≡ Some (pointer (from_call c.at.below r) path) = get.0 ∙ ap (λ h. Some h) (passed_pointer c.at.below r path) in
          let l = agree.lents p.0.0 g.lent in
          let stands_for : l.0 ≡ target_value d.at (from_call c.at.below r) path = (of_pointer (λ r path. IsFar r × (l.0 ≡ target_value d.at r path)) (d.at.top.ids p.0.0) (from_call c.at.below r) path has l.2).1 in
          let valued : LeadsToSome d.at.below d.at.top (from_call c.at.below r) = of_pointer (λ r path. LeadsToSome d.at.below d.at.top r) (d.at.top.ids p.0.0) (from_call c.at.below r) path has (inside.known.valued.top (omega arith) p.0.0) in
          let v = root_has s c.at n r path is d.at valued in
          let same : l.0 ≡ Some v.0 = stands_for ∙ (ap (target_value d.at (from_call c.at.below r)) is.1 ∙ v.1) in (
            (is.1, (v.0, ap (λ (o : Option Variable). last_value o) (own_found y.frames (other.name p.0.0) _ l.1) ∙ ap (λ (o : Option ValueTree). last_value (Some (variable_with (other.shape p.0.0) o))) same, v.1)),
            ends ps ns hs' qs' as'' (λ n r path is. whole n r path (inr is)) are.1 get.1,
          )

      all_end : AllEnd m other c.at d.at y g.params hs
      all_end =
          let kept : KeepsParameters s (length (waiting c.at rest i)) g (argument_of g.params (map (passed (length c.at.below)) hs)) d.at.below d.at.top = inside.parameters.top (let same = inside.height in omega (arith, same)) in
          ends g.params Args hs qs as' whole calling.passes
          (still_get (length c.at.below) d.at.top.ids (argument_of g.params (map (passed (length c.at.below)) hs)) (is_parameter g) (kept.same inside.height).1 g.params hs (all_pass g.params) (all_get (length c.at.below) g.params hs calling.once))

      left : AreLeft m other c.at d.at y Args hs qs as'
      left = are_left m other c.at d.at y g.params Args hs qs as' calling.passes all_end

      back : IsBack s (Got s More ruled c.at hs) c.at d.at rest i
      back = back_there s (Got s More ruled c.at hs) c.at d.at rest i inside.inside inside.height

      heights : length back.below ≡ length c.at.below
      heights = wait_length s (Got s More ruled c.at hs) [] c.at.below back.below back.waits.2

      pub returning : y.answers ≡ d.answers → Returning p calls k m apart s Holds f b keeps done i rest c z qs as' d y
      unfolding left
      returning answers = record {
        frame = back.frame;
        below = back.below;
        is = back.is;
        function = back.waits.1.function ∙ calling.stands.function;
        block = back.waits.1.block ∙ calling.stands.block;
        next = back.waits.1.rest;
        outs = left.outs;
        left = is_left s ruled.lends m apart c.at d.at lending (subst (NamesMemory m) (sym calling.stands.function) calling.names) rest i Args hs calling.have
            (ruled.lends.arguments c.at.top.function lending.code.of_module i (next_of s c.at.top i rest calling.next lending.code) calling.kind).0 back.frame i.result back.below back.is back.waits left.outs
            (are_once m other c.at d.at y s c.at.top.function g.params Args hs qs as' calling.passes all_end (λ n r path is. (whole n r path is).0) (ruled.lends.arguments c.at.top.function lending.code.of_module i (next_of s c.at.top i rest calling.next lending.code) calling.kind).1)
            left.lent left.from left.all;
        are = left.are;
        shapes = λ n v out. calling.shapes n (kind_out m n v left.outs left.lent out);
        privates = λ n e. let q = calling.share.names n e in
            subst (λ x. found y.globals x ≡ Some (variable_with (m.shape n) (d.at.privates n))) q.0 (subst (λ t. found y.globals (other.name n) ≡ Some (variable_with t (d.at.privates n))) q.1 (agree.privates n (calling.share.privates n ∙ e)).0);
        outside = λ x e. (agree.outside x (calling.share.outside x ∙ e)).1;
        answers = answers;
      }

      outcome_none : has_outcome (step_kind i.op) ≡ false
      outcome_none = ap has_outcome calling.kind

      result_none : is_parameter c.at.top.function i.result ≡ false
      result_none = ruled.lends.results c.at.top.function lending.code.of_module i (next_of s c.at.top i rest calling.next lending.code)

      abbrev Nothing : Supplied Conf → Option Typed × State → Type 0
      Nothing = GivesNothing p calls k m apart s Holds f b keeps done i rest

      abbrev Value : Supplied Conf → Option Typed × State → Type 0
      Value = GivesValue p calls k m apart s Holds f b keeps done i rest

      -- OpReturn
      back_without : (R : Supplied Conf → Option Typed → State → Type 0) (last : Inst) → d.at.top.rest ≡ last ∷ [] → step_kind last.op ≡ return → m.is_local i.result ≡ false → y.answers ≡ d.answers → GoesBack (Supplied Conf) (machine s) p calls k Nothing R z None qs as' d None y
      back_without R last at kind none answers =
          let r : Returning p calls k m apart s Holds f b keeps done i rest c z qs as' d y = returning answers in
          let there : Conf = record d.at { top = back.frame; below = back.below } in
          let goes_on : machine s d ≡ go [] (supplied there d.answers) = kind_is s d last [] return at kind ∙ ap (λ (a : Act Conf). move a d.answers) (return_goes d.at (back.frame, i.result) back.below back.is) in
          goes_back p calls k m apart s Holds f b keeps done i rest R c z qs as' d y last calling.stands r outcome_none none at kind (λ e goes. same_state e there (sym goes_on ∙ goes)
          (way_again s More ruled IsLent start f given c.at d rest i Args hs back.frame i.result back.below calling.have back.waits heights inside.known goes_on calling.stands.holds))
        where
          same_state : (e : Supplied Conf) (there : Conf) → go [] (supplied there d.answers) ≡ go [] e → Holds there → Holds e.at
          same_state e there same has = subst (λ (q : Supplied Conf). Holds q.at) (let one : supplied there d.answers ≡ e = cc in one) has

      -- OpReturnValue
      back_with : (R : Supplied Conf → Option Typed → State → Type 0) (last : Inst) (v : ValueTree) → IsNew i done → d.at.top.rest ≡ last ∷ [] → step_kind last.op ≡ return_value → value_at s d.at.top (arg last 0) ≡ Some v → same_shape (m.shape i.result) (m.shape i.result) ≡ true → y.answers ≡ d.answers
          → GoesBack (Supplied Conf) (machine s) p calls k Value R z (Some (m.shape i.result)) qs as' d (Some (typed (m.shape i.result) v)) y
      back_with R last v new at kind has same answers =
          let r : Returning p calls k m apart s Holds f b keeps done i rest c z qs as' d y = returning answers in
          let there : Conf = record d.at { top = record back.frame { ids = put back.frame.ids i.result (value v) }; below = back.below } in
          let goes_on : machine s d ≡ go [] (supplied there d.answers) = kind_is s d last [] return_value at kind ∙ ap (λ (a : Act Conf). move a d.answers) (return_value_goes s d.at last v (back.frame, i.result) back.below has back.is) in
          goes_back_with p calls k m apart s Holds f b keeps done i rest R c z qs as' d y last v calling.stands r new outcome_none at kind has same (λ e goes. same_state e there (sym goes_on ∙ goes)
          (way_given s More ruled IsLent start f given c.at d rest i Args hs back.frame i.result back.below v calling.have back.waits heights result_none inside.known goes_on calling.stands.holds))
        where
          same_state : (e : Supplied Conf) (there : Conf) → go [] (supplied there d.answers) ≡ go [] e → Holds there → Holds e.at
          same_state e there same has = subst (λ (q : Supplied Conf). Holds q.at) (let one : supplied there d.answers ≡ e = cc in one) has

    -- so from each return of the function
    pub comes_back : (d : Supplied Conf) (r : Option Typed) (y : State) → other.result ≡ None → m.is_local i.result ≡ false → Returns other s Inside g body d r y
        → GoesBack (Supplied Conf) (machine s) p calls k (GivesNothing p calls k m apart s Holds f b keeps done i rest) (Returns other s Inside g body) z None qs as' d r y
    comes_back d r y none off at = by_kind (step_kind at.last.op) refl r at.gives
      where
        Back : Option Typed → Type 0
        Back r = GoesBack (Supplied Conf) (machine s) p calls k (GivesNothing p calls k m apart s Holds f b keeps done i rest) (Returns other s Inside g body) z None qs as' d r y

        by_kind : (q : StepKind) → step_kind at.last.op ≡ q → (r : Option Typed) → GivesBy other.result s d.at.top at.last q r → Back r
        by_kind return kind r gives = subst Back (sym gives.0) (back_without d y at.agree at.holds (Returns other s Inside g body) at.last at.rest kind off at.answers)
        by_kind return_value kind None gives = absurd gives
        by_kind return_value kind (Some (typed t v)) gives = let never : None ≡ Some t = sym none ∙ gives.0 in cc
        by_kind operation kind r gives = absurd gives
        by_kind chain kind r gives = absurd gives
        by_kind array_length kind r gives = absurd gives
        by_kind variable kind r gives = absurd gives
        by_kind load kind r gives = absurd gives
        by_kind store kind r gives = absurd gives
        by_kind (atomic o) kind r gives = absurd gives
        by_kind memory_barrier kind r gives = absurd gives
        by_kind control_barrier kind r gives = absurd gives
        by_kind call kind r gives = absurd gives
        by_kind merge kind r gives = absurd gives
        by_kind (branch o) kind r gives = absurd gives
        by_kind unreachable kind r gives = absurd gives

    pub comes_back_with : (d : Supplied Conf) (r : Option Typed) (y : State) → other.result ≡ Some (m.shape i.result) → same_shape (m.shape i.result) (m.shape i.result) ≡ true → IsNew i done → Returns other s Inside g body d r y
        → GoesBack (Supplied Conf) (machine s) p calls k (GivesValue p calls k m apart s Holds f b keeps done i rest) (Returns other s Inside g body) z (Some (m.shape i.result)) qs as' d r y
    comes_back_with d r y result same new at = by_kind (step_kind at.last.op) refl r at.gives
      where
        Back : Option Typed → Type 0
        Back r = GoesBack (Supplied Conf) (machine s) p calls k (GivesValue p calls k m apart s Holds f b keeps done i rest) (Returns other s Inside g body) z (Some (m.shape i.result)) qs as' d r y

        by_kind : (q : StepKind) → step_kind at.last.op ≡ q → (r : Option Typed) → GivesBy other.result s d.at.top at.last q r → Back r
        by_kind return kind r gives = let never : None ≡ Some (m.shape i.result) = sym gives.1 ∙ result in cc
        by_kind return_value kind None gives = absurd gives
        by_kind return_value kind (Some (typed t v)) gives =
            let one : m.shape i.result ≡ t = (let both : Some (m.shape i.result) ≡ Some t = sym result ∙ gives.0 in cc) in
            subst (λ u. Back (Some (typed u v))) one (back_with d y at.agree at.holds (Returns other s Inside g body) at.last v new at.rest kind gives.1 same at.answers)
        by_kind operation kind r gives = absurd gives
        by_kind chain kind r gives = absurd gives
        by_kind array_length kind r gives = absurd gives
        by_kind variable kind r gives = absurd gives
        by_kind load kind r gives = absurd gives
        by_kind store kind r gives = absurd gives
        by_kind (atomic o) kind r gives = absurd gives
        by_kind memory_barrier kind r gives = absurd gives
        by_kind control_barrier kind r gives = absurd gives
        by_kind call kind r gives = absurd gives
        by_kind merge kind r gives = absurd gives
        by_kind (branch o) kind r gives = absurd gives
        by_kind unreachable kind r gives = absurd gives
