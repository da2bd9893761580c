-- The run of a text does what the run of its module does, where the text of the entry point's function does what its blocks do.
use Rattle.std.proofs.Common.{◌≡◌, ◌==◌, ◌++◌, ℕ, true, List, [], ◌∷◌, length, Option, Some, None, inl, inr, refl, sym, ap, ◌∙◌, subst, arith}
use Rattle.std.specs.Prelude.{is_some, option_map, find}
use Rattle.spv_module.specs.declared.inst.Id.{Id}
use Rattle.spv_module.specs.declared.inst.Function.{Function}
use Rattle.traces.specs.Runs.{ended, Run, exec, Act, stop, stops as act_stops, after, Supplied, supplied}
use Rattle.traces.specs.Outcomes.{events_of, normal, breaks, continues, returns, cut, waits, stuck, Result, got, then_get}
use Rattle.traces.specs.Preservation.{TextRun, text_made, has_ended, MatchesOrFails}
use Rattle.traces.specs.Simulation.{IsPrefix, Fails}
use Rattle.traces.proofs.Moves.{run_on}
use Rattle.module_semantics.specs.Setting.{Setting}
use Rattle.module_semantics.specs.State as module_state
use Rattle.module_semantics.specs.State.{Held, Conf}
use Rattle.module_semantics.specs.Run.{first_state}
use Rattle.module_semantics.specs.Steps.{StepKind, operation, chain, array_length, variable, load, store, atomic, memory_barrier, control_barrier, call, merge, branch, return, return_value, unreachable, step_kind, argument_of, entered, return_step}
use Rattle.glsl_ast.specs.Tree.{Text, stmts_in}
use Rattle.glsl_semantics.specs.Shapes.{Typed, typed}
use Rattle.glsl_semantics.specs.States.{Frame, State}
use Rattle.glsl_semantics.specs.Expressions.{Program, Argument}
use Rattle.glsl_semantics.specs.Statements as statements
use Rattle.glsl_semantics.specs.Statements.{stmts_run}
use Rattle.glsl_semantics.specs.Run.{come_back, returned, function_run, ended_by}
use Rattle.list_law.proofs.Tests.{not_both}
use Rattle.agree_law.specs.Answers.{move}
use Rattle.agree_law.specs.Agree.{IfPointer}
use Rattle.agree_law.specs.Evaluates.{as_outcome}
use Rattle.agree_law.specs.Points.{GivesBy, Returns}
use Rattle.agree_law.proofs.Calling.{fails_then, come_events}
use Rattle.agree_law.proofs.Machine.{machine, kind_is}
use Rattle.call_law.specs.Known.{is_parameter, IsLending}
use Rattle.call_law.proofs.Lending.{first_lending}
use Rattle.function_law.specs.UnderWay.{IsKnown, IsUnderWay, IsRuled}
use Rattle.function_law.specs.Tops.{IsEntered}
use Rattle.function_law.specs.Texts.{FunctionText}
use Rattle.function_law.specs.First.{IsFirst}
use Rattle.function_law.proofs.OneFunction.{IsWritten, Gives, function_follows}

none_passed : (ps : List (Id × Id)) (n : ℕ) → argument_of ps [] n ≡ None
none_passed [] n = refl
none_passed (p ∷ ps) n = refl

ended_events : (r : Result (Option Typed × State)) → (ended_by r).events ≡ events_of (as_outcome r)
ended_events (got e x) = refl
ended_events (cut e) = refl
ended_events (waits e) = refl
ended_events (stuck e) = refl

-- the run ends with the first call
return_stops : (c : Conf) → c.below ≡ [] → return_step c c.below ≡ act_stops
unfolding return_step
return_stops c none = ap (return_step c) none

module _ (p : Program) (k : ℕ) (s : Setting) (More : Conf → Type 0) (ruled : IsRuled s More) (globals : Frame) (t : FunctionText) (first : IsFirst s More globals t) (answers : List (List ℕ)) where
  abbrev g : Function
  g = t.function

  abbrev start : Supplied Conf
  start = supplied (first_state s g) answers

  abbrev begun : State
  begun = record { frames = []; globals = globals; answers = answers }

  abbrev NotLent : ℕ → ℕ → Type 0
  NotLent depth n = ⊥

  abbrev Way : Conf → Type 0
  Way = IsUnderWay s More NotLent [] g (argument_of g.params [])

  ids_none : (n : ℕ) → (first_state s g).top.ids n ≡ None
  unfolding entered
  ids_none n = none_passed g.params n

  none_asked : (P : module_state.Root → List ℕ → Type 0) (n : ℕ) → IfPointer ((first_state s g).top.ids n) P
  none_asked P n = subst (λ o. IfPointer o P) (sym (ids_none n)) tt

  code : IsLending s [] (first_state s g).top
  code = first_lending s g first.of_module

  known : IsKnown s More (first_state s g)
  known = record {
    fits = first.fits;
    valued = record { top = λ le n. none_asked _ n; below = tt };
    lending = record { top = λ le. code; below = tt };
    more = first.more;
  }

  function_is : (first_state s g).top.function ≡ g
  unfolding entered
  function_is = refl

  given_is : (n : ℕ) → (first_state s g).top.ids n ≡ argument_of g.params [] n
  unfolding entered
  given_is n = refl

  way : Way (first_state s g)
  way = record {
    known = known;
    inside = record { top = λ n. none_asked _ n; below = tt };
    parameters = record { top = λ le. record { code = code.code; above = le; same = λ height. (function_is, λ n on. given_is n) }; below = tt };
    height = refl;
  }

  no_parameter : (n : ℕ) → is_parameter g n ≡ true → ⊥
  no_parameter n on = not_both (is_parameter g n) on (ap (λ (ps : List (Id × Id)). is_some (option_map (λ (p : Id × Id). p.1.0) (find (λ (p : Id × Id). p.0.0 == n) ps))) first.no_parameters)

  module _ (later : Text → List Argument → State → Result (Option Typed × State)) (IsFlag : Text → Type 0) (w : IsWritten p later k s More ruled t.naming g IsFlag t.statements) where
    enters : IsEntered s t.naming g [] [] start begun
    enters = record {
      at = refl;
      values = λ n is on. absurd (no_parameter n on);
      lents = λ n is. absurd (no_parameter n (w.names.lents n is));
      private = λ n is. (first.privates n is, refl);
      outside = λ x is. (first.outside x is, refl);
      answers = refl;
    }

    Steps : ℕ → Run
    Steps n = exec (machine s) n start

    -- at a return the run has ended
    stops : (d : Supplied Conf) (r : Option Typed) (y : State) → Returns t.naming s Way g w.body d r y → (machine s d ≡ stop) × (r ≡ None)
    stops d r y at = by_kind (step_kind at.last.op) refl r at.gives
      where
        none_below : (ds : List (module_state.Frame × ℕ)) → length ds ≡ 0 → ds ≡ []
        none_below [] e = refl
        none_below (x ∷ ds) e = absurd (omega (arith, e))

        by_kind : (q : StepKind) → step_kind at.last.op ≡ q → (r : Option Typed) → GivesBy t.naming.result s d.at.top at.last q r → (machine s d ≡ stop) × (r ≡ None)
        by_kind return kind r gives = (kind_is s d at.last [] return at.rest kind ∙ ap (λ (a : Act Conf). move a d.answers) (return_stops d.at (none_below d.at.below at.holds.height)), gives.0)
        by_kind return_value kind None gives = absurd gives
        by_kind return_value kind (Some (typed u v)) gives = let never : None ≡ Some u = sym first.gives_none ∙ gives.0 in cc
        by_kind operation kind r gives = absurd gives
        by_kind chain kind r gives = absurd gives
        by_kind array_length kind r gives = absurd gives
        by_kind variable kind r gives = absurd gives
        by_kind load kind r gives = absurd gives
        by_kind store kind r gives = absurd gives
        by_kind (atomic o) kind r gives = absurd gives
        by_kind memory_barrier kind r gives = absurd gives
        by_kind control_barrier kind r gives = absurd gives
        by_kind call kind r gives = absurd gives
        by_kind merge kind r gives = absurd gives
        by_kind (branch o) kind r gives = absurd gives
        by_kind unreachable kind r gives = absurd gives

    abbrev text_of : statements.Run → TextRun
    text_of o = ended_by (then_get (come_back None o) (returned begun [] []))

    matches : (o : statements.Run) → Gives p later k s More ruled t.naming g IsFlag Way w.body start o → MatchesOrFails (λ n. exec (machine s) n start) k (text_of o)
    matches (normal e y) (inl l) = absurd l.holds
    matches (breaks e y) (inl l) = absurd l.holds
    matches (continues e y) (inl l) = absurd l.holds
    matches (returns e r y) (inl l) =
        let q = stops l.to r y l.holds in
        let over = run_on (Supplied Conf) (machine s) 0 start l.to e [] ended 1 l.comes (ap (λ m. after m (exec (machine s) 0)) q.0) in
        let is : text_of (returns e r y) ≡ text_made (e ++ []) has_ended = ap (λ (r : Option Typed). text_of (returns e r y)) q.1 in
        subst (MatchesOrFails (λ n. exec (machine s) n start) k) (sym is) (inl (over.0, over.2))
    matches (cut e) (inl l) = inl l
    matches (waits e) (inl l) = inl l
    matches (stuck e) (inl l) = absurd l
    matches o (inr b) =
        let fails : Fails (Supplied Conf) (machine s) start (events_of (as_outcome (then_get (come_back None o) (returned begun [] [])))) =
        fails_then (Supplied Conf) (machine s) start (come_back None o) (returned begun [] []) (subst (Fails (Supplied Conf) (machine s) start) (sym (come_events (Supplied Conf) (machine s) None o)) b) in
        inr (record { at = fails.at; events = fails.events; is = fails.is; no_more = subst (IsPrefix fails.events) (sym (ended_events (then_get (come_back None o) (returned begun [] [])))) fails.no_more })

    -- the run of the text with at most k turns a loop
    pub run_matches : MatchesOrFails (λ n. exec (machine s) n start) k (ended_by (function_run p k later None [] (stmts_in t.statements) [] begun))
    run_matches = matches (stmts_run p later k (stmts_in t.statements) (record begun { frames = [] ∷ [] })) (function_follows p later k s More ruled t.naming g IsFlag t.statements w NotLent [] (argument_of g.params []) [] [] start begun enters way)
