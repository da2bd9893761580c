-- A call is followed where its function's body is: into the body, through it, and back.
use Rattle.std.proofs.Common.{◌≡◌, ◌++◌, ℕ, Bool, true, false, List, [], ◌∷◌, append-nil, Option, Some, None, inl, inr, refl, sym, ap, ◌∙◌, subst, arith}
use Rattle.traces.specs.Events.{Event}
use Rattle.traces.specs.Runs.{running, waiting, Move, go}
use Rattle.traces.specs.Outcomes.{normal, breaks, continues, returns, cut, waits, stuck, events_of, Result, got, with_before, then_get, or_stuck}
use Rattle.traces.specs.Simulation.{Comes, Fails, Follows}
use Rattle.traces.proofs.Moves.{Never, one_step, comes_on, fewer, run_on, fails_on, fails_more}
use Rattle.glsl_ast.specs.Tree.{Text, TypeName, Stmts, Param}
use Rattle.glsl_semantics.specs.Shapes.{Shape, Typed}
use Rattle.glsl_semantics.specs.States.{Frame, State}
use Rattle.glsl_semantics.specs.Expressions.{Program, Argument}
use Rattle.glsl_semantics.specs.Statements.{Run, stmts_run}
use Rattle.glsl_semantics.specs.Run.{parameters, is_result, with_result, come_back, returned, result_shape, function_run}
use Rattle.agree_law.specs.Evaluates.{as_outcome, Evaluates}

module _ (C : Type 0) (step : C → Move C) where
  -- what fails before goes on has failed behind it
  pub fails_then : {A B : Type 0} (c : C) (g : Result A) (f : A → Result B) → Fails C step c (events_of (as_outcome g)) → Fails C step c (events_of (as_outcome (then_get g f)))
  fails_then {A} {B} c (got e a) f b = by_result (f a)
    where
      by_result : (q : Result B) → Fails C step c (events_of (as_outcome (with_before e q)))
      by_result (got d x) = fails_more C step c e d b
      by_result (cut d) = fails_more C step c e d b
      by_result (waits d) = fails_more C step c e d b
      by_result (stuck d) = fails_more C step c e d b
  fails_then {A} {B} c (cut e) f b = b
  fails_then {A} {B} c (waits e) f b = b
  fails_then {A} {B} c (stuck e) f b = b

  pub come_events : (t : Option Shape) (o : Run) → events_of (as_outcome (come_back t o)) ≡ events_of o
  come_events t (normal e y) = by_test (is_result t None) e None y
    where
      by_test : (b : Bool) (e : List Event) (r : Option Typed) (y : State) → events_of (as_outcome (with_result b e r y)) ≡ e
      by_test true e r y = refl
      by_test false e r y = refl
  come_events t (breaks e y) = refl
  come_events t (continues e y) = refl
  come_events t (returns e r y) = by_test (is_result t r)
    where
      by_test : (b : Bool) → events_of (as_outcome (with_result b e r y)) ≡ e
      by_test true = refl
      by_test false = refl
  come_events t (cut e) = refl
  come_events t (waits e) = refl
  come_events t (stuck e) = refl

  module _ (p : Program) (calls : Text → List Argument → State → Result (Option Typed × State)) (k : ℕ) (P : C → Option Typed × State → Type 0) (R : C → Option Typed → State → Type 0) (z : State) (t : Option Shape) (ps : List Param) (args : List Argument) where
    -- From a return the machine goes back to the caller; the caller's variables stand as before, but for those to which the values of `inout` parameters go.
    pub record GoesBack (d : C) (r : Option Typed) (y : State) : Type 0 where
      pub result : is_result t r ≡ true
      pub to : C
      pub goes_on : step d ≡ go [] to
      pub after : State
      pub back : returned z ps args (r, y) ≡ got [] (r, after)
      pub holds : P to (r, after)

    abbrev E : C → Result (Option Typed × State) → Type 0
    E = Evaluates C step (Option Typed × State) P k

    body_then : (c d : C) (o : Run) → step c ≡ go [] d → Follows C step State (Option Typed) (Never C step State (Option Typed)) (Never C step State (Option Typed)) (Never C step State (Option Typed)) R 0 k d o → ((x : C) (r : Option Typed) (y : State) → R x r y → GoesBack x r y)
        → E c (then_get (come_back t o) (returned z ps args))
    body_then c d (normal e y) into (inl l) back = absurd l.holds
    body_then c d (breaks e y) into (inl l) back = absurd l.holds
    body_then c d (continues e y) into (inl l) back = absurd l.holds
    body_then c d (returns e r y) into (inl l) back =
        let b = back l.to r y l.holds in
        let is : then_get (with_result (is_result t r) e r y) (returned z ps args) ≡ got e (r, b.after) =
        ap (λ (q : Bool). then_get (with_result q e r y) (returned z ps args)) b.result ∙ ap (with_before e) b.back ∙ ap (λ (l : List Event). got l (r, b.after)) (append-nil e) in
        subst (E c) (sym is)
        (inl (record {
          to = b.to;
          comes = subst (λ (l : List Event). Comes C step 0 c l b.to) (append-nil e) (fewer C step 2 0 c b.to (e ++ []) (omega arith) (comes_on C step 1 1 c d b.to [] (e ++ []) (one_step C step c d [] into) (comes_on C step 0 1 d l.to b.to e [] l.comes (one_step C step l.to b.to [] b.goes_on))));
          holds = b.holds;
        }))
    body_then c d (cut e) into (inl l) back = let j = run_on C step 1 c d [] e running l.0 (one_step C step c d [] into) l.2 in inl (j.0, omega (arith, j.1, l.1), j.2)
    body_then c d (waits e) into (inl l) back = let j = run_on C step 1 c d [] e waiting l.0 (one_step C step c d [] into) l.1 in inl (j.0, j.2)
    body_then c d (stuck e) into (inl l) back = absurd l
    body_then c d o into (inr b) back =
        inr (fails_then c (come_back t o) (returned z ps args) (subst (Fails C step c) (sym (come_events t o)) (fails_on C step 1 c d [] (events_of o) (one_step C step c d [] into) b)))

    -- The step into the call, the function's body from where it begins, and the step back.
    pub call_follows : (c d : C) (result : Option TypeName) (body : Stmts) (frame : Frame) → step c ≡ go [] d → result_shape p result ≡ Some t → parameters p ps args ≡ Some frame
        → Follows C step State (Option Typed) (Never C step State (Option Typed)) (Never C step State (Option Typed)) (Never C step State (Option Typed)) R 0 k d (stmts_run p calls k body (record z { frames = frame ∷ [] }))
        → ((x : C) (r : Option Typed) (y : State) → R x r y → GoesBack x r y) → E c (function_run p k calls result ps body args z)
    call_follows c d result body frame into shape begins follows back =
        subst (E c) (sym (
        ap (λ (o : Option (Option Shape)). or_stuck o (λ t. or_stuck (parameters p ps args) (λ f. then_get (come_back t (stmts_run p calls k body (record z { frames = f ∷ [] }))) (returned z ps args)))) shape
        ∙ ap (λ (o : Option Frame). or_stuck o (λ f. then_get (come_back t (stmts_run p calls k body (record z { frames = f ∷ [] }))) (returned z ps args))) begins))
        (body_then c d (stmts_run p calls k body (record z { frames = frame ∷ [] })) into follows back)
