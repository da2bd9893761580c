-- Calls of functions: as the expression of a result, and as a statement.
use Rattle.std.proofs.Common.{◌≡◌, ℕ, true, false, List, [], ◌∷◌, ◌++◌, append-nil, Option, Some, None, inl, inr, refl, sym, ap, ◌∙◌, subst}
use Rattle.spv_module.specs.declared.inst.Inst.{Inst}
use Rattle.spv_module.specs.declared.inst.Function.{Function}
use Rattle.spv_types.specs.Tree.{ValueTree}
use Rattle.traces.specs.Events.{Event}
use Rattle.traces.specs.Runs.{Act, go, Supplied, supplied}
use Rattle.traces.specs.Outcomes.{normal, cut, waits, stuck, Result, got, with_before, then_get, on_got}
use Rattle.traces.specs.Simulation.{Follows}
use Rattle.traces.proofs.Moves.{Never, NeverGives, stays}
use Rattle.module_semantics.specs.Setting.{Setting}
use Rattle.module_semantics.specs.State.{Held, value, Conf, put}
use Rattle.module_semantics.specs.State as module_state
use Rattle.module_semantics.specs.Operands.{value_at, arg}
use Rattle.module_semantics.specs.Steps.{return, return_value, step_kind}
use Rattle.glsl_ast.specs.Tree.{Text, Expr, Exprs, Stmt, Param}
use Rattle.glsl_semantics.specs.Functions.{pure_value}
use Rattle.glsl_semantics.specs.Shapes.{Typed, typed, same_shape}
use Rattle.glsl_semantics.specs.States.{State, Thing, fetch, found}
use Rattle.glsl_semantics.specs.Expressions as expressions
use Rattle.glsl_semantics.specs.Expressions.{Program, Argument, CallKind, user, atomic, pure, barrier, unknown, call_kind, then_fetch, updated, denote, values, arguments, place_and_values, evaluate}
use Rattle.glsl_semantics.specs.Statements.{Run, barrier_run, stmt_run}
use Rattle.agree_law.specs.Answers.{move}
use Rattle.agree_law.specs.Agree.{Naming, AreApart, variable_with, AgreeIn}
use Rattle.agree_law.specs.Blocks.{has_outcome, have_result, IsNew, Stands, At}
use Rattle.agree_law.specs.Evaluates.{Evaluates, IsKept, Gets}
use Rattle.agree_law.specs.Outs.{Outs, IsOut, puts, AreOuts}
use Rattle.agree_law.proofs.Steps.{on_known, before_none}
use Rattle.agree_law.proofs.InBlocks.{answers_in, before_it}
use Rattle.agree_law.proofs.Changes.{is_not}
use Rattle.agree_law.proofs.Settling.{settled_put, settled_pass}
use Rattle.agree_law.proofs.Evaluating.{got_then}
use Rattle.agree_law.proofs.Calling.{fails_then, GoesBack}
use Rattle.agree_law.proofs.Returning.{IsLeft, returns_in, returned_is}
use Rattle.agree_law.proofs.Machine.{machine, kind_is, return_goes, return_value_goes}

module _ (p : Program) (calls : Text → List Argument → State → Result (Option Typed × State)) (k : ℕ) (m : Naming) (apart : AreApart m) (s : Setting) (Holds : Conf → Type 0) (f : Function) (b : ℕ) (keeps : IsKept (machine s) Holds) (done : List Inst) (i : Inst) (rest : List Inst) where
  abbrev C : Type 0
  C = Supplied Conf

  abbrev G : C → Typed × State → Type 0
  G = Gets m s Holds f b done i rest

  abbrev Plain : C → Run → Type 0
  Plain c o = Follows C (machine s) State (Option Typed) (At m s Holds f b (i ∷ done) rest) (Never C (machine s) State (Option Typed)) (Never C (machine s) State (Option Typed)) (NeverGives C (machine s) State (Option Typed)) 0 k c o

  -- a call gives a value, which the result gets
  abbrev pub GivesValue : C → Option Typed × State → Type 0
  GivesValue d r = (u : Typed) × (r.0 ≡ Some u) × G d (u, r.1)

  -- or nothing
  abbrev pub GivesNothing : C → Option Typed × State → Type 0
  GivesNothing d r = At m s Holds f b (i ∷ done) rest d r.1

  with_value : (c : C) (g : Result (Option Typed × State)) → Evaluates C (machine s) (Option Typed × State) GivesValue k c g
      → Evaluates C (machine s) (Typed × State) G k c (then_fetch (then_get g (λ r. expressions.done r.0 r.1)) (λ v y. got [] (v, y)))
  with_value c (got e r) (inl l) =
      let u : Typed = l.holds.0 in
      let is : then_fetch (with_before e (expressions.done r.0 r.1)) (λ v y. got [] (v, y)) ≡ got e (u, r.1) =
      ap (λ (o : Option Typed). then_fetch (with_before e (expressions.done o r.1)) (λ v y. got [] (v, y))) l.holds.1 ∙ ap (λ (d : List Event). got d (u, r.1)) (ap (λ (d : List Event). d ++ []) (append-nil e) ∙ append-nil e) in
      subst (Evaluates C (machine s) (Typed × State) G k c) (sym is) (inl (record { to = l.to; comes = l.comes; holds = l.holds.2 }))
  with_value c (cut e) (inl l) = inl l
  with_value c (waits e) (inl l) = inl l
  with_value c (stuck e) (inl l) = absurd l
  with_value c g (inr b) = inr (fails_then C (machine s) c (then_get g (λ r. expressions.done r.0 r.1)) (λ x. then_get (fetch x.0 x.1) (λ (y : Typed × State). got [] (y.0, y.1))) (fails_then C (machine s) c g (λ r. expressions.done r.0 r.1) b))

  -- As an expression: the arguments stand for what they stand for and have values, without events.
  pub call_evaluates : (c : C) (z : State) (w : Text) (args : Exprs) (as' : List Argument) → call_kind p w ≡ user → arguments p calls args z ≡ got [] (as', z) → Evaluates C (machine s) (Option Typed × State) GivesValue k c (calls w as' z)
      → Evaluates C (machine s) (Typed × State) G k c (evaluate p calls (Expr.call w args) z)
  call_evaluates c z w args as' kind are follows =
      subst (Evaluates C (machine s) (Typed × State) G k c) (sym (ap (λ (g : Result (Thing × State)). then_fetch g (λ v y. got [] (v, y))) (
      ap by_kind kind ∙ ap (λ (g : Result (List Argument × State)). then_get g (λ x. then_get (calls w x.0 x.1) (λ r. expressions.done r.0 r.1))) are ∙ before_none (then_get (calls w as' z) (λ r. expressions.done r.0 r.1)))))
      (with_value c (calls w as' z) follows)
    where
      by_kind : CallKind → Result (Thing × State)
      by_kind kind = elim kind as (λ kind. Result (Thing × State)) [
        | user ↦ then_get (arguments p calls args z) (λ x. then_get (calls w x.0 x.1) (λ r. expressions.done r.0 r.1))
        | atomic a ↦ then_get (place_and_values p calls args z) (λ x. updated a x.0 x.1 x.2)
        | pure f ↦ then_get (values p calls args z) (λ x. expressions.done (pure_value f x.0) x.1)
        | barrier e ↦ stuck []
        | unknown ↦ stuck []
      ]

  -- As a statement: of a function without a result.
  pub call_done : (c : C) (z : State) (w : Text) (args : Exprs) (as' : List Argument) → call_kind p w ≡ user → arguments p calls args z ≡ got [] (as', z) → Evaluates C (machine s) (Option Typed × State) GivesNothing k c (calls w as' z) → Plain c (stmt_run p calls k (Stmt.call w args) z)
  call_done c z w args as' kind are follows =
      subst (Plain c) (sym (ap by_kind kind ∙ on_known (arguments p calls args z) (as', z) (λ x. on_got (calls w x.0 x.1) (λ r. normal [] r.1)) are))
      (got_then C (machine s) (Option Typed × State) GivesNothing State (At m s Holds f b (i ∷ done) rest) (Never C (machine s) State (Option Typed)) (Never C (machine s) State (Option Typed)) (NeverGives C (machine s) State (Option Typed)) 0 k c (calls w as' z) (λ r. normal [] r.1) follows
      (λ d r at. inl (record { to = d; comes = stays C (machine s) d; holds = at })))
    where
      by_kind : CallKind → Run
      by_kind kind = elim kind as (λ kind. Run) [
        | user ↦ on_got (arguments p calls args z) (λ x. on_got (calls w x.0 x.1) (λ r. normal [] r.1))
        | atomic a ↦ on_got (denote p calls (Expr.call w args) z) (λ x. normal [] x.1)
        | pure f ↦ on_got (denote p calls (Expr.call w args) z) (λ x. normal [] x.1)
        | barrier e ↦ barrier_run e args z
        | unknown ↦ stuck []
      ]

  -- What is known where the function that was called returns: below it stands the caller, as it was, but for what was lent.
  pub record Returning (c : C) (z : State) (ps : List Param) (as' : List Argument) (d : C) (y : State) : Type 0 where
    pub frame : module_state.Frame
    pub below : List (module_state.Frame × ℕ)
    pub is : d.at.below ≡ (frame, i.result) ∷ below
    pub function : frame.function ≡ f
    pub block : frame.block ≡ b
    pub next : frame.rest ≡ rest
    pub outs : Outs
    pub left : IsLeft m apart c.at (record d.at { top = frame; below = below }) outs
    pub are : AreOuts m y.frames ps as' outs
    pub shapes : (n : ℕ) (v : ValueTree) → IsOut n v outs → same_shape (m.shape n) (m.shape n) ≡ true
    pub privates : (n : ℕ) → m.is_private n ≡ true → found y.globals (m.name n) ≡ Some (variable_with (m.shape n) (d.at.privates n))
    pub outside : (x : Text) → m.is_outside x ≡ true → found y.globals x ≡ None
    pub answers : y.answers ≡ d.answers

  abbrev popped : C → module_state.Frame → List (module_state.Frame × ℕ) → Conf
  popped d frame below = record d.at { top = frame; below = below }

  -- the caller's state agrees, before the result is set
  back_in : (c : C) (z : State) (ps : List Param) (as' : List Argument) (d : C) (y : State) → Stands m s Holds f b done c z → (g : Returning c z ps as' d y) → AgreeIn m (have_result done) (popped d g.frame g.below) (record y { frames = puts m g.outs z.frames })
  back_in c z ps as' d y stands g = answers_in m (have_result done) (popped d g.frame g.below) (record z { frames = puts m g.outs z.frames; globals = y.globals }) y.answers (returns_in m apart (have_result done) c.at (popped d g.frame g.below) z g.outs y.globals g.left g.privates g.outside stands.agree)

  -- OpReturn
  pub goes_back : (R : C → Option Typed → State → Type 0) (c : C) (z : State) (ps : List Param) (as' : List Argument) (d : C) (y : State) (last : Inst) → Stands m s Holds f b done c z → (g : Returning c z ps as' d y) → has_outcome (step_kind i.op) ≡ false → m.is_local i.result ≡ false
      → d.at.top.rest ≡ last ∷ [] → step_kind last.op ≡ return → ((e : C) → machine s d ≡ go [] e → Holds e.at) → GoesBack C (machine s) p calls k GivesNothing R z None ps as' d None y
  goes_back R c z ps as' d y last stands g off none at kind holds =
      let e : C = supplied (popped d g.frame g.below) d.answers in
      let goes_on : machine s d ≡ go [] e = kind_is s d last [] return at kind ∙ ap (λ (a : Act Conf). move a d.answers) (return_goes d.at (g.frame, i.result) g.below g.is) in
      record {
        result = refl;
        to = e;
        goes_on = goes_on;
        after = record y { frames = puts m g.outs z.frames };
        back = returned_is m apart c.at z y ps as' g.outs None g.are g.shapes g.left.once g.left.lent stands.agree.all;
        holds = record {
          stands = record {
            function = g.function;
            block = g.block;
            agree = (let a = back_in c z ps as' d y stands g in record { all = a.all; local = λ n e l. a.local n (before_it (have_result done) i.result n (is_not m.is_local n i.result l none) e) l });
            settled = settled_pass s c.at.top g.frame i done g.left.ids off stands.settled;
            holds = holds e goes_on;
            answers = g.answers;
          };
          next = g.next;
        };
      }

  -- OpReturnValue
  pub goes_back_with : (R : C → Option Typed → State → Type 0) (c : C) (z : State) (ps : List Param) (as' : List Argument) (d : C) (y : State) (last : Inst) (v : ValueTree) → Stands m s Holds f b done c z → (g : Returning c z ps as' d y) → IsNew i done → has_outcome (step_kind i.op) ≡ false
      → d.at.top.rest ≡ last ∷ [] → step_kind last.op ≡ return_value → value_at s d.at.top (arg last 0) ≡ Some v → same_shape (m.shape i.result) (m.shape i.result) ≡ true → ((e : C) → machine s d ≡ go [] e → Holds e.at) → GoesBack C (machine s) p calls k GivesValue R z (Some (m.shape i.result)) ps as' d (Some (typed (m.shape i.result) v)) y
  goes_back_with R c z ps as' d y last v stands g new off at kind has same holds =
      let e : C = supplied (record d.at { top = record g.frame { ids = put g.frame.ids i.result (value v) }; below = g.below }) d.answers in
      let goes_on : machine s d ≡ go [] e = kind_is s d last [] return_value at kind ∙ ap (λ (a : Act Conf). move a d.answers) (return_value_goes s d.at last v (g.frame, i.result) g.below has g.is) in
      record {
        result = same;
        to = e;
        goes_on = goes_on;
        after = record y { frames = puts m g.outs z.frames };
        back = returned_is m apart c.at z y ps as' g.outs (Some (typed (m.shape i.result) v)) g.are g.shapes g.left.once g.left.lent stands.agree.all;
        holds = (
          typed (m.shape i.result) v,
          refl,
          record {
            before = popped d g.frame g.below;
            function = g.function;
            block = g.block;
            agree = back_in c z ps as' d y stands g;
            answers = g.answers;
            value = v;
            comes_to = refl;
            at = ap (λ (l : List Inst). record d.at { top = record g.frame { rest = l; ids = put g.frame.ids i.result (value v) }; below = g.below }) g.next;
            settled = settled_put s c.at.top e.at.top i done (value v) (ap (λ (ids : ℕ → Option Held). put ids i.result (value v)) (λ j n. g.left.ids n j)) new (λ on. let never : true ≡ false = sym on ∙ off in cc) stands.settled;
            holds = holds e goes_on;
          },
        );
      }
