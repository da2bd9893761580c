-- The text of a function's top brings a call to its first block, where its state agrees with the module's; or the module has no meaning, where a variable has no first value.
use Rattle.std.proofs.Common.{◌≡◌, ◌≢◌, ◌⊎◌, ◌++◌, ℕ, Bool, true, false, List, [], ◌∷◌, map, Option, Some, None, inl, inr, refl, sym, ap, ◌∙◌, subst}
use Rattle.spv_module.specs.declared.inst.Inst.{Inst}
use Rattle.spv_module.specs.declared.inst.Function.{Function}
use Rattle.spv_types.specs.Tree.{ValueTree}
use Rattle.traces.specs.Runs.{Act, goes, Supplied, supplied}
use Rattle.traces.specs.Outcomes.{normal, Result, got, or_stuck, then_do}
use Rattle.traces.specs.Simulation.{Fails}
use Rattle.traces.proofs.Moves.{begun_none, one_step, fails_now, fails_on}
use Rattle.module_semantics.specs.Setting.{Setting}
use Rattle.module_semantics.specs.State as module_state
use Rattle.module_semantics.specs.State.{own, Held, value, pointer, Conf}
use Rattle.module_semantics.specs.Accesses.{initial_in}
use Rattle.module_semantics.specs.Steps.{with_some, set, variable, variable_step, step_kind, argument_of, first_insts, entered}
use Rattle.module_semantics.specs.Operands.{as_value}
use Rattle.glsl_ast.specs.Tree.{Text, Expr, declare, stmts_in}
use Rattle.glsl_semantics.specs.Shapes.{Shape, Typed}
use Rattle.glsl_semantics.specs.States.{Variable, Frame, State, found, has}
use Rattle.glsl_semantics.specs.Expressions.{Program, Argument, type_of}
use Rattle.glsl_semantics.specs.Statements.{Run, with_variable, stmt_run, stmts_run}
use Rattle.region_law.proofs.Flags.{own_text, other_text}
use Rattle.agree_law.specs.Answers.{move}
use Rattle.agree_law.specs.Agree.{Naming, variable_with, value_of, IfPointer, IsFar, target_value, Agree}
use Rattle.agree_law.specs.Blocks.{IsOf}
use Rattle.agree_law.proofs.Machine.{machine, kind_is}
use Rattle.agree_law.proofs.Steps.{on_known, declare_runs}
use Rattle.agree_law.proofs.Calls.{begins}
use Rattle.call_law.specs.Known.{is_parameter}
use Rattle.call_law.proofs.Lending.{none_given}
use Rattle.function_law.specs.Tops.{Top, top_text, entries, IsTop, IsOneOf, IsNoTop, AreOnceTops, IsClear, SaysFirst, SaysTop, AllSay, AreTops, AreFirst, IsEntered}

-- what stands in the braces behind declarations
pub found_head : (x : Text) (v : Variable) (f : Frame) → found ((x, v) ∷ f) x ≡ Some v
found_head x v f = rw (own_text x, found) refl

pub found_past : (x y : Text) (v : Variable) (f : Frame) → x ≢ y → found ((x, v) ∷ f) y ≡ found f y
found_past x y v f ne = rw (other_text x y ne, found) refl

pub has_past : (x y : Text) (v : Variable) (f : Frame) → x ≢ y → has ((x, v) ∷ f) y ≡ has f y
has_past x y v f ne = rw (other_text x y ne, has) refl

found_under : (ts : List Top) (f : Frame) (x : Text) → IsNoTop x ts → found (entries ts f) x ≡ found f x
found_under [] f x none = refl
found_under (t ∷ ts) f x none = found_under ts ((t.name, variable_with t.shape t.value) ∷ f) x none.1 ∙ found_past t.name x (variable_with t.shape t.value) f none.0

has_under : (ts : List Top) (f : Frame) (x : Text) → IsNoTop x ts → has (entries ts f) x ≡ has f x
has_under [] f x none = refl
has_under (t ∷ ts) f x none = has_under ts ((t.name, variable_with t.shape t.value) ∷ f) x none.1 ∙ has_past t.name x (variable_with t.shape t.value) f none.0

found_top : (ts : List Top) (f : Frame) (x : Text) (u : Shape) (v : Option ValueTree) → AreOnceTops ts → IsTop x u v ts → found (entries ts f) x ≡ Some (variable_with u v)
found_top [] f x u v once is = absurd is
found_top (t ∷ ts) f x u v once (inl is) =
    subst (λ y. found (entries ts ((t.name, variable_with t.shape t.value) ∷ f)) y ≡ Some (variable_with u v)) is.0
    (found_under ts ((t.name, variable_with t.shape t.value) ∷ f) t.name once.0 ∙ (found_head t.name (variable_with t.shape t.value) f ∙ (ap (λ s. Some (variable_with s t.value)) is.1 ∙ ap (λ o. Some (variable_with u o)) is.2)))
found_top (t ∷ ts) f x u v once (inr is) = found_top ts ((t.name, variable_with t.shape t.value) ∷ f) x u v once.1 is

-- each declaration that has an expression has a value
abbrev HasFirst : Top → Type 0
HasFirst t = (t.first ≡ None) ⊎ ((e : Expr) × (w : ValueTree) × (t.first ≡ Some e) × (t.value ≡ Some w))

abbrev AllHave : List Top → Type 0
AllHave [] = Unit {0}
AllHave (t ∷ ts) = HasFirst t × AllHave ts

abbrev Lacks : List Top → Type 0
Lacks ts = (t : Top) × (e : Expr) × (t.first ≡ Some e) × (t.value ≡ None) × IsOneOf t ts

all_or_lacks : (ts : List Top) → AllHave ts ⊎ Lacks ts
all_or_lacks [] = inl tt
all_or_lacks (t ∷ ts) = by_first t.first refl t.value refl (all_or_lacks ts)
  where
    later : Lacks ts → Lacks (t ∷ ts)
    later l = (l.0, l.1, l.2, l.3, inr l.4)

    by_rest : HasFirst t → AllHave ts ⊎ Lacks ts → AllHave (t ∷ ts) ⊎ Lacks (t ∷ ts)
    by_rest here (inl all) = inl (here, all)
    by_rest here (inr l) = inr (later l)

    by_first : (o : Option Expr) → t.first ≡ o → (v : Option ValueTree) → t.value ≡ v → AllHave ts ⊎ Lacks ts → AllHave (t ∷ ts) ⊎ Lacks (t ∷ ts)
    by_first None none v is rest = by_rest (inl none) rest
    by_first (Some e) some (Some w) is rest = by_rest (inr (e, w, some, is)) rest
    by_first (Some e) some None is rest = inr (t, e, some, is, inl refl)

module _ (p : Program) (calls : Text → List Argument → State → Result (Option Typed × State)) (k : ℕ) (m : Naming) where
  -- the state with these braces
  abbrev In : Frame → State → State
  In f z = record z { frames = f ∷ [] }

  top_runs : (t : Top) (f : Frame) (z : State) → SaysTop p calls m t → HasFirst t → IsClear m (In f z) → stmt_run p calls k (top_text t) (In f z) ≡ normal [] (In ((t.name, variable_with t.shape t.value) ∷ f) z)
  top_runs t f z says (inl none) clear =
      let no_value : t.value ≡ None = subst (λ o. SaysFirst p calls m t.shape o t.value) none says.first in
      ap (λ o. stmt_run p calls k (declare t.type t.name o) (In f z)) none
      ∙ (on_known (or_stuck (type_of p t.type) (λ shape. got [] shape)) t.shape (λ shape. normal [] (with_variable t.name shape (In f z))) (ap (λ (o : Option Shape). or_stuck o (λ shape. got [] shape)) says.type)
      ∙ ap (λ o. normal [] (In ((t.name, variable_with t.shape o) ∷ f) z)) (sym no_value))
  top_runs t f z says (inr h) clear =
      let first = subst (λ o. SaysFirst p calls m t.shape o t.value) h.2 says.first in
      ap (λ o. stmt_run p calls k (declare t.type t.name o) (In f z)) h.2
      ∙ (declare_runs p calls k (In f z) t.name t.type h.0 t.shape h.1 says.type first.0 (first.1 h.1 h.3 (In f z) clear)
      ∙ ap (λ o. normal [] (In ((t.name, variable_with t.shape o) ∷ f) z)) (sym h.3))

  still_clear : (x : Text) (v : Variable) (f : Frame) (z : State) → ((y : Text) → m.is_outside y ≡ true → x ≢ y) → IsClear m (In f z) → IsClear m (In ((x, v) ∷ f) z)
  still_clear x v f z other clear y is = (ap (λ b. elim b as (λ t. Bool) [ true ↦ true | false ↦ false ]) (has_past x y v f (other y is)) ∙ (clear y is).0, (clear y is).1)

  tops_run : (ts : List Top) (f : Frame) (z : State) → AllSay p calls m ts → AllHave ts → IsClear m (In f z) → stmts_run p calls k (stmts_in (map top_text ts)) (In f z) ≡ normal [] (In (entries ts f) z)
  tops_run [] f z says have clear = refl
  tops_run (t ∷ ts) f z says have clear =
      ap (λ (o : Run). then_do o (stmts_run p calls k (stmts_in (map top_text ts)))) (top_runs t f z says.0 have.0 clear)
      ∙ (begun_none (stmts_run p calls k (stmts_in (map top_text ts)) (In ((t.name, variable_with t.shape t.value) ∷ f) z))
      ∙ tops_run ts ((t.name, variable_with t.shape t.value) ∷ f) z says.1 have.1 (still_clear t.name (variable_with t.shape t.value) f z says.0.inside clear))

-- a variable without a first value
module _ (s : Setting) where
  variable_is : (c : Conf) (rest : List Inst) (i : Inst) (o : Option ValueTree) → c.top.variables i.result ≡ o → variable_step s c rest i ≡ with_some o (λ v. goes [] (set c rest i (pointer (own i.result) [])))
  unfolding variable_step
  variable_is c rest i o is = ap (λ (o : Option ValueTree). with_some o (λ v. goes [] (set c rest i (pointer (own i.result) [])))) is

  lacks_fails : (is rest : List Inst) (c : Supplied Conf) (variables : ℕ → Option ValueTree) → c.at.top.variables ≡ variables → c.at.top.rest ≡ is ++ rest → ((i : Inst) → IsOf i is → step_kind i.op ≡ variable) → (j : Inst) → IsOf j is → variables j.result ≡ None → Fails (Supplied Conf) (machine s) c []
  lacks_fails [] rest c variables same next kinds j at none = absurd at
  lacks_fails (i ∷ is) rest c variables same next kinds j at none = by_value (variables i.result) refl at (λ d here there later. lacks_fails is rest d variables here there (λ q of. kinds q (inr of)) j later none)
    where
      Later : Type 0
      Later = (d : Supplied Conf) → d.at.top.variables ≡ variables → d.at.top.rest ≡ is ++ rest → IsOf j is → Fails (Supplied Conf) (machine s) d []

      acts : (o : Option ValueTree) → variables i.result ≡ o → machine s c ≡ move (with_some o (λ v. goes [] (set c.at (is ++ rest) i (pointer (own i.result) [])))) c.answers
      acts o e = kind_is s c i (is ++ rest) variable next (kinds i (inl refl)) ∙ ap (λ (a : Act Conf). move a c.answers) (variable_is c.at (is ++ rest) i o (ap (λ q. q i.result) same ∙ e))

      by_value : (o : Option ValueTree) → variables i.result ≡ o → (i ≡ j) ⊎ IsOf j is → Later → Fails (Supplied Conf) (machine s) c []
      by_value None e at later = fails_now (Supplied Conf) (machine s) c [] (acts None e)
      by_value (Some v) e (inl here) later = let never : None ≡ Some v = sym (ap (λ (q : Inst). variables q.result) here ∙ none) ∙ e in cc
      by_value (Some v) e (inr there) later =
          let d : Supplied Conf = supplied (set c.at (is ++ rest) i (pointer (own i.result) [])) c.answers in
          fails_on (Supplied Conf) (machine s) 1 c d [] [] (one_step (Supplied Conf) (machine s) c d [] (acts (Some v) e)) (later d same refl there)

module _ (p : Program) (calls : Text → List Argument → State → Result (Option Typed × State)) (k : ℕ) (s : Setting) (m : Naming) (g : Function) (tops : List Top) where
  -- where the states agree at the first moment
  pub record IsTopped (hs : List Held) (f : Frame) (d : Supplied Conf) (z : State) : Type 0 where
    pub runs : stmts_run p calls k (stmts_in (map top_text tops)) (record z { frames = f ∷ [] }) ≡ normal [] (record z { frames = entries tops f ∷ [] })
    pub agree : Agree m d.at (record z { frames = entries tops f ∷ [] })

  no_argument : (hs : List Held) (n : ℕ) → is_parameter g n ≡ false → argument_of g.params hs n ≡ None
  no_argument hs n off = none_given g.params hs n off

  ids_are : (hs : List Held) (n : ℕ) → (entered s g hs).ids n ≡ argument_of g.params hs n
  unfolding entered
  ids_are hs n = refl

  variables_are : (hs : List Held) → (entered s g hs).variables ≡ initial_in s g
  unfolding entered
  variables_are hs = refl

  rest_is : (hs : List Held) → (entered s g hs).rest ≡ first_insts g.blocks
  unfolding entered
  rest_is hs = refl

  pub tops_follow : AllSay p calls m tops → AreTops s m g tops → AreFirst s g tops → (hs : List Held) (f : Frame) (d : Supplied Conf) (z : State) → IsEntered s m g hs f d z → ((n : ℕ) → m.is_lent n ≡ true → is_parameter g n ≡ true)
      → IsTopped hs f d z ⊎ Fails (Supplied Conf) (machine s) d []
  tops_follow says tops_are first hs f d z at lents_are = by_first (all_or_lacks tops)
    where
      ids : (n : ℕ) → d.at.top.ids n ≡ argument_of g.params hs n
      ids n = ap (λ (q : module_state.Frame). q.ids n) at.at ∙ ids_are hs n

      variables : d.at.top.variables ≡ initial_in s g
      variables = ap (λ (q : module_state.Frame). q.variables) at.at ∙ variables_are hs

      clear : IsClear m (record z { frames = f ∷ [] })
      clear x is = (ap (λ b. elim b as (λ t. Bool) [ true ↦ true | false ↦ false ]) (at.outside x is).1, (at.outside x is).0)

      no_top : (ts : List Top) → AllSay p calls m ts → (x : Text) → m.is_outside x ≡ true → IsNoTop x ts
      no_top [] says x is = tt
      no_top (t ∷ ts) says x is = (says.0.inside x is, no_top ts says.1 x is)

      outer : (n : ℕ) → m.is_outer n ≡ true → found (entries tops f) (m.name n) ≡ Some (variable_with (m.shape n) (value_of d.at n))
      outer n is = elim (tops_are.outer n is) [
        | inl on ↦
            let v = at.values n is on in
            found_under tops f (m.name n) (tops_are.apart n on) ∙ (v.2 ∙ ap (λ o. Some (variable_with (m.shape n) o)) (sym (ap as_value (ids n ∙ v.1))))
        | inr top ↦ found_top tops f (m.name n) (m.shape n) None tops_are.once top.1 ∙ ap (λ o. Some (variable_with (m.shape n) o)) (sym (ap as_value (ids n ∙ no_argument hs n top.0)))
      ]

      by_first : AllHave tops ⊎ Lacks tops → IsTopped hs f d z ⊎ Fails (Supplied Conf) (machine s) d []
      by_first (inl have) = inl (record {
        runs = tops_run p calls k m tops f z says have clear;
        agree = begins m d.at (record z { frames = entries tops f ∷ [] }) (entries tops f) refl outer
            (λ n is. found_top tops f (m.name n) (m.shape n) (initial_in s g n) tops_are.once (tops_are.variables n is) ∙ ap (λ q. Some (variable_with (m.shape n) (q n))) (sym variables))
            (λ n is. let l = at.lents n is in (Some l.0, found_under tops f (m.name n) (tops_are.apart n (lents_are n is)) ∙ l.1, subst (λ o. IfPointer o (λ r path. IsFar r × (Some l.0 ≡ target_value d.at r path))) (sym (ids n)) l.2))
            (λ n is. let q = at.private n is in (q.0, ap (λ b. elim b as (λ t. Bool) [ true ↦ true | false ↦ false ]) (has_under tops f (m.name n) (tops_are.private n is) ∙ q.1)))
            (λ q j is. let t = tops_are.kept q j is in (None, found_top tops f (m.index_name q j) (m.index_shape q j) None tops_are.once t.1, ids q ∙ no_argument hs q t.0))
            (λ x is. (ap (λ b. elim b as (λ t. Bool) [ true ↦ true | false ↦ false ]) (has_under tops f x (no_top tops says x is) ∙ (at.outside x is).1), (at.outside x is).0));
      })
      by_first (inr l) =
          let i = first.all l.0 l.4 l.1 l.2 in
          inr (lacks_fails s first.variables first.rest d (initial_in s g) variables (ap (λ (q : module_state.Frame). q.rest) at.at ∙ (rest_is hs ∙ first.first)) first.kinds i.0 i.1 (i.2 ∙ l.3))
