-- With more turns a run that was not cut stays as it is, and one that was cut only goes on.
use Rattle.std.proofs.Common.{◌≡◌, ℕ, zero, suc, ◌≤◌, Bool, true, false, List, [], ◌∷◌, ◌++◌, Option, Some, None, bytes_eq, refl, sym, ap, subst, arith}
use Rattle.std.specs.Prelude.{reverse, codes}
use Rattle.glsl_ast.specs.Tree.{Text, TypeName, Expr, literal, name, build, not, flip, binary, choose, length_of, Exprs, no_exprs, expr, LStep, lvalue, Stmt, declare, assign, when, either, loop, switch, leave, again, give, Stmts, no_stmts, stmt, Arms, no_arms, arm, Param, Decl, TranslationUnit, translation_unit}
use Rattle.glsl_ast.specs.Tree as tree
use Rattle.glsl_ast.specs.declared.statements.Label.{Label}
use Rattle.traces.specs.Events.{Event}
use Rattle.traces.specs.Invocations.{Invocation}
use Rattle.traces.specs.Outcomes.{Outcome, normal, breaks, continues, returns, cut, waits, stuck, events_of, begun, then_do, next_turn, turns, behind_switch, Result, got, with_before, then_get, or_stuck, on_got}
use Rattle.traces.specs.Simulation.{IsPrefix}
use Rattle.traces.specs.Preservation.{TextEnd, was_cut, TextRun, text_made}
use Rattle.traces.proofs.Moves.{prefix_under}
use Rattle.traces.proofs.Clauses.{prefix_all, prefix_trans}
use Rattle.glsl_semantics.specs.Shapes.{Shape, Typed}
use Rattle.glsl_semantics.specs.Operators.{operated}
use Rattle.glsl_semantics.specs.Functions.{PureFunction, pure_value, built}
use Rattle.glsl_semantics.specs.States.{State, pushed, Thing, value, fetch, store, member_of, element_of, length_value}
use Rattle.glsl_semantics.specs.Expressions.{Program, type_of, as_truth, named, AtomicFunction, updated, CallKind, user, atomic, pure, barrier, unknown, call_kind, settling, same_truth, done, then_fetch, Argument, denote, values, arguments, place_and_values, evaluate, steps}
use Rattle.glsl_semantics.specs.Statements.{Run, closed, in_braces, declaration, entered, is_selector, truth_then, stmt_run, stmts_run, arms_run, arms_from}
use Rattle.glsl_semantics.specs.Items.{Declared, declared_by}
use Rattle.glsl_semantics.specs.Run.{parameters, is_result, with_result, come_back, returned, result_shape, function_run, calls_of, ended_by, run_if, text_run}

abbrev pub result_events : {A : Type 0} → Result A → List Event
result_events (got e a) = e
result_events (cut e) = e
result_events (waits e) = e
result_events (stuck e) = e

-- of evaluations: what was not cut is the same, and what was cut has the first of the events
abbrev pub More : {A : Type 0} → Result A → Result A → Type 0
More (cut e) g = IsPrefix e (result_events g)
More (got e a) g = g ≡ got e a
More (waits e) g = g ≡ Result.waits e
More (stuck e) g = g ≡ Result.stuck e

-- and of statements
abbrev pub MoreRun : Run → Run → Type 0
MoreRun (cut e) o = IsPrefix e (events_of o)
MoreRun (normal e s) o = o ≡ normal e s
MoreRun (breaks e s) o = o ≡ breaks e s
MoreRun (continues e s) o = o ≡ continues e s
MoreRun (returns e v s) o = o ≡ returns e v s
MoreRun (waits e) o = o ≡ Outcome.waits e
MoreRun (stuck e) o = o ≡ Outcome.stuck e

same : {A : Type 0} (g : Result A) → More g g
same (got e a) = refl
same (cut e) = prefix_all e
same (waits e) = refl
same (stuck e) = refl

same_run : (o : Run) → MoreRun o o
same_run (normal e s) = refl
same_run (breaks e s) = refl
same_run (continues e s) = refl
same_run (returns e v s) = refl
same_run (cut e) = prefix_all e
same_run (waits e) = refl
same_run (stuck e) = refl

before_events : {A : Type 0} (d : List Event) (g : Result A) → result_events (with_before d g) ≡ d ++ result_events g
before_events d (got e a) = refl
before_events d (cut e) = refl
before_events d (waits e) = refl
before_events d (stuck e) = refl

begun_events : (d : List Event) (o : Run) → events_of (begun d o) ≡ d ++ events_of o
begun_events d (normal e s) = refl
begun_events d (breaks e s) = refl
begun_events d (continues e s) = refl
begun_events d (returns e v s) = refl
begun_events d (cut e) = refl
begun_events d (waits e) = refl
begun_events d (stuck e) = refl

more_before : {A : Type 0} (d : List Event) (g h : Result A) → More g h → More (with_before d g) (with_before d h)
more_before d (got e a) h m = ap (with_before d) m
more_before d (cut e) h m = subst (IsPrefix (d ++ e)) (sym (before_events d h)) (prefix_under d e (result_events h) m)
more_before d (waits e) h m = ap (with_before d) m
more_before d (stuck e) h m = ap (with_before d) m

more_begun : (d : List Event) (o q : Run) → MoreRun o q → MoreRun (begun d o) (begun d q)
more_begun d (normal e s) q m = ap (begun d) m
more_begun d (breaks e s) q m = ap (begun d) m
more_begun d (continues e s) q m = ap (begun d) m
more_begun d (returns e v s) q m = ap (begun d) m
more_begun d (cut e) q m = subst (IsPrefix (d ++ e)) (sym (begun_events d q)) (prefix_under d e (events_of q) m)
more_begun d (waits e) q m = ap (begun d) m
more_begun d (stuck e) q m = ap (begun d) m

-- the events of a part are the first of those of the whole
front_get : {A B : Type 0} (g : Result A) (f : A → Result B) → IsPrefix (result_events g) (result_events (then_get g f))
front_get (got e a) f = subst (IsPrefix e) (sym (before_events e (f a))) (result_events (f a), refl)
front_get (cut e) f = prefix_all e
front_get (waits e) f = prefix_all e
front_get (stuck e) f = prefix_all e

front_on : {A : Type 0} (g : Result A) (f : A → Run) → IsPrefix (result_events g) (events_of (on_got g f))
front_on (got e a) f = subst (IsPrefix e) (sym (begun_events e (f a))) (events_of (f a), refl)
front_on (cut e) f = prefix_all e
front_on (waits e) f = prefix_all e
front_on (stuck e) f = prefix_all e

front_then : (o : Run) (f : State → Run) → IsPrefix (events_of o) (events_of (then_do o f))
front_then (normal e s) f = subst (IsPrefix e) (sym (begun_events e (f s))) (events_of (f s), refl)
front_then (breaks e s) f = prefix_all e
front_then (continues e s) f = prefix_all e
front_then (returns e v s) f = prefix_all e
front_then (cut e) f = prefix_all e
front_then (waits e) f = prefix_all e
front_then (stuck e) f = prefix_all e

front_turn : (o : Run) (f : State → Run) → IsPrefix (events_of o) (events_of (next_turn o f))
front_turn (normal e s) f = subst (IsPrefix e) (sym (begun_events e (f s))) (events_of (f s), refl)
front_turn (breaks e s) f = prefix_all e
front_turn (continues e s) f = subst (IsPrefix e) (sym (begun_events e (f s))) (events_of (f s), refl)
front_turn (returns e v s) f = prefix_all e
front_turn (cut e) f = prefix_all e
front_turn (waits e) f = prefix_all e
front_turn (stuck e) f = prefix_all e

closed_events : (o : Run) → events_of (closed o) ≡ events_of o
closed_events (normal e s) = refl
closed_events (breaks e s) = refl
closed_events (continues e s) = refl
closed_events (returns e v s) = refl
closed_events (cut e) = refl
closed_events (waits e) = refl
closed_events (stuck e) = refl

behind_events : (o : Run) → events_of (behind_switch o) ≡ events_of o
behind_events (normal e s) = refl
behind_events (breaks e s) = refl
behind_events (continues e s) = refl
behind_events (returns e v s) = refl
behind_events (cut e) = refl
behind_events (waits e) = refl
behind_events (stuck e) = refl

more_get : {A B : Type 0} (g h : Result A) (f f' : A → Result B) → More g h → ((a : A) → More (f a) (f' a)) → More (then_get g f) (then_get h f')
more_get (got e a) h f f' m k = subst (λ x. More (with_before e (f a)) (then_get x f')) (sym m) (more_before e (f a) (f' a) (k a))
more_get (cut e) h f f' m k = prefix_trans e (result_events h) (result_events (then_get h f')) m (front_get h f')
more_get (waits e) h f f' m k = ap (λ x. then_get x f') m
more_get (stuck e) h f f' m k = ap (λ x. then_get x f') m

more_on : {A : Type 0} (g h : Result A) (f f' : A → Run) → More g h → ((a : A) → MoreRun (f a) (f' a)) → MoreRun (on_got g f) (on_got h f')
more_on (got e a) h f f' m k = subst (λ x. MoreRun (begun e (f a)) (on_got x f')) (sym m) (more_begun e (f a) (f' a) (k a))
more_on (cut e) h f f' m k = prefix_trans e (result_events h) (events_of (on_got h f')) m (front_on h f')
more_on (waits e) h f f' m k = ap (λ x. on_got x f') m
more_on (stuck e) h f f' m k = ap (λ x. on_got x f') m

more_option : {A B : Type 0} (o : Option A) (f f' : A → Result B) → ((a : A) → More (f a) (f' a)) → More (or_stuck o f) (or_stuck o f')
more_option None f f' k = refl
more_option (Some a) f f' k = k a

more_choice : {A : Type 0} (b : Bool) (x y x' y' : Result A) → More x x' → More y y' → More (elim b [ true ↦ x | false ↦ y ]) (elim b [ true ↦ x' | false ↦ y' ])
more_choice true x y x' y' h k = h
more_choice false x y x' y' h k = k

run_choice : (b : Bool) (x y x' y' : Run) → MoreRun x x' → MoreRun y y' → MoreRun (elim b [ true ↦ x | false ↦ y ]) (elim b [ true ↦ x' | false ↦ y' ])
run_choice true x y x' y' h k = h
run_choice false x y x' y' h k = k

more_then : (o q : Run) (f f' : State → Run) → MoreRun o q → ((s : State) → MoreRun (f s) (f' s)) → MoreRun (then_do o f) (then_do q f')
more_then (normal e s) q f f' m k = subst (λ x. MoreRun (begun e (f s)) (then_do x f')) (sym m) (more_begun e (f s) (f' s) (k s))
more_then (breaks e s) q f f' m k = ap (λ x. then_do x f') m
more_then (continues e s) q f f' m k = ap (λ x. then_do x f') m
more_then (returns e v s) q f f' m k = ap (λ x. then_do x f') m
more_then (cut e) q f f' m k = prefix_trans e (events_of q) (events_of (then_do q f')) m (front_then q f')
more_then (waits e) q f f' m k = ap (λ x. then_do x f') m
more_then (stuck e) q f f' m k = ap (λ x. then_do x f') m

more_turn : (o q : Run) (f f' : State → Run) → MoreRun o q → ((s : State) → MoreRun (f s) (f' s)) → MoreRun (next_turn o f) (next_turn q f')
more_turn (normal e s) q f f' m k = subst (λ x. MoreRun (begun e (f s)) (next_turn x f')) (sym m) (more_begun e (f s) (f' s) (k s))
more_turn (breaks e s) q f f' m k = ap (λ x. next_turn x f') m
more_turn (continues e s) q f f' m k = subst (λ x. MoreRun (begun e (f s)) (next_turn x f')) (sym m) (more_begun e (f s) (f' s) (k s))
more_turn (returns e v s) q f f' m k = ap (λ x. next_turn x f') m
more_turn (cut e) q f f' m k = prefix_trans e (events_of q) (events_of (next_turn q f')) m (front_turn q f')
more_turn (waits e) q f f' m k = ap (λ x. next_turn x f') m
more_turn (stuck e) q f f' m k = ap (λ x. next_turn x f') m

more_turns_of : (n m : ℕ) (body body' : State → Run) → n ≤ m → ((s : State) → MoreRun (body s) (body' s)) → (s : State) → MoreRun (turns n body s) (turns m body' s)
more_turns_of zero m body body' le k s = (events_of (turns m body' s), refl)
more_turns_of (suc n) zero body body' le k s = absurd (omega arith)
more_turns_of (suc n) (suc m) body body' le k s = more_turn (body s) (body' s) (turns n body) (turns m body') (k s) (more_turns_of n m body body' (omega arith) k)

more_closed : (o q : Run) → MoreRun o q → MoreRun (closed o) (closed q)
more_closed (normal e s) q m = ap closed m
more_closed (breaks e s) q m = ap closed m
more_closed (continues e s) q m = ap closed m
more_closed (returns e v s) q m = ap closed m
more_closed (cut e) q m = subst (IsPrefix e) (sym (closed_events q)) m
more_closed (waits e) q m = ap closed m
more_closed (stuck e) q m = ap closed m

more_behind : (o q : Run) → MoreRun o q → MoreRun (behind_switch o) (behind_switch q)
more_behind (normal e s) q m = ap behind_switch m
more_behind (breaks e s) q m = ap behind_switch m
more_behind (continues e s) q m = ap behind_switch m
more_behind (returns e v s) q m = ap behind_switch m
more_behind (cut e) q m = subst (IsPrefix e) (sym (behind_events q)) m
more_behind (waits e) q m = ap behind_switch m
more_behind (stuck e) q m = ap behind_switch m

abbrev pub Calls : Type 0
Calls = Text → List Argument → State → Result (Option Typed × State)

module _ (p : Program) (calls calls' : Calls) (called : (w : Text) (xs : List Argument) (s : State) → More (calls w xs s) (calls' w xs s)) where
  more_kinds : {A : Type 0} (kind : CallKind) (x x' y : Result A) (f : AtomicFunction → Result A) (f' : AtomicFunction → Result A) (g g' : PureFunction → Result A) (h : Event → Result A) → More x x' → ((a : AtomicFunction) → More (f a) (f' a)) → ((q : PureFunction) → More (g q) (g' q))
      → More (elim kind [ user ↦ x | atomic a ↦ f a | pure q ↦ g q | barrier e ↦ h e | unknown ↦ y ]) (elim kind [ user ↦ x' | atomic a ↦ f' a | pure q ↦ g' q | barrier e ↦ h e | unknown ↦ y ])
  more_kinds user x x' y f f' g g' h a b c = a
  more_kinds (atomic q) x x' y f f' g g' h a b c = b q
  more_kinds (pure q) x x' y f f' g g' h a b c = c q
  more_kinds (barrier e) x x' y f f' g g' h a b c = same (h e)
  more_kinds unknown x x' y f f' g g' h a b c = same y

  more_settled : {A : Type 0} (o : Option Bool) (f f' : Bool → Result A) (y y' : Result A) → ((t : Bool) → More (f t) (f' t)) → More y y' → More (elim o [ Some t ↦ f t | None ↦ y ]) (elim o [ Some t ↦ f' t | None ↦ y' ])
  more_settled (Some t) f f' y y' h k = h t
  more_settled None f f' y y' h k = k

  more_fetch : {A : Type 0} (g h : Result (Thing × State)) (f f' : Typed → State → Result A) → More g h → ((v : Typed) (s : State) → More (f v s) (f' v s)) → More (then_fetch g f) (then_fetch h f')
  more_fetch g h f f' m k = more_get g h _ _ m (λ x. more_get (fetch x.0 x.1) (fetch x.0 x.1) _ _ (same (fetch x.0 x.1)) (λ y. k y.0 y.1))

  mutual
    denote_more : (e : Expr) (s : State) → More (denote p calls e s) (denote p calls' e s)
    denote_more (literal l) s = refl
    denote_more (name w) s = same (denote p calls (name w) s)
    denote_more (build t args) s = more_option (type_of p t) _ _ (λ ty. more_get (values p calls args s) (values p calls' args s) _ _ (values_more args s) (λ x. same (done (built ty x.0) x.1)))
    denote_more (Expr.call w args) s =
        more_kinds (call_kind p w) _ _ _ _ _ _ _ _
        (more_get (arguments p calls args s) (arguments p calls' args s) _ _ (arguments_more args s) (λ x. more_get (calls w x.0 x.1) (calls' w x.0 x.1) _ _ (called w x.0 x.1) (λ r. same (done r.0 r.1))))
        (λ a. more_get (place_and_values p calls args s) (place_and_values p calls' args s) _ _ (place_more args s) (λ x. same (updated a x.0 x.1 x.2)))
        (λ q. more_get (values p calls args s) (values p calls' args s) _ _ (values_more args s) (λ x. same (done (pure_value q x.0) x.1)))
    denote_more (not e) s = more_fetch (denote p calls e s) (denote p calls' e s) _ _ (denote_more e s) (λ v s. same _)
    denote_more (flip e) s = more_fetch (denote p calls e s) (denote p calls' e s) _ _ (denote_more e s) (λ v s. same _)
    denote_more (binary o a b) s =
        more_fetch (denote p calls a s) (denote p calls' a s) _ _ (denote_more a s) (λ v s.
        more_settled (settling o) _ _ _ _
        (λ settled. more_option (as_truth v) _ _ (λ t. more_choice (same_truth settled t) _ _ _ _ refl
        (more_fetch (denote p calls b s) (denote p calls' b s) _ _ (denote_more b s) (λ u s. same (or_stuck (as_truth u) (λ t. got [] (value u, s)))))))
        (more_fetch (denote p calls b s) (denote p calls' b s) _ _ (denote_more b s) (λ u s. same (done (operated o v u) s))))
    denote_more (choose c a b) s =
        more_fetch (denote p calls c s) (denote p calls' c s) _ _ (denote_more c s) (λ v s. more_option (as_truth v) _ _ (λ t. more_choice t _ _ _ _
        (more_fetch (denote p calls a s) (denote p calls' a s) _ _ (denote_more a s) (λ u s. refl))
        (more_fetch (denote p calls b s) (denote p calls' b s) _ _ (denote_more b s) (λ u s. refl))))
    denote_more (Expr.member e w) s = more_get (denote p calls e s) (denote p calls' e s) _ _ (denote_more e s) (λ x. same (or_stuck (member_of x.0 w) (λ y. got [] (y, x.1))))
    denote_more (Expr.index a i) s =
        more_get (denote p calls a s) (denote p calls' a s) _ _ (denote_more a s) (λ x. more_fetch (denote p calls i x.1) (denote p calls' i x.1) _ _ (denote_more i x.1) (λ v s. same (or_stuck (element_of x.0 v) (λ y. got [] (y, s)))))
    denote_more (length_of e) s = more_get (denote p calls e s) (denote p calls' e s) _ _ (denote_more e s) (λ x. same (or_stuck (length_value p.invocation x.0) (λ y. got [] (y, x.1))))

    values_more : (es : Exprs) (s : State) → More (values p calls es s) (values p calls' es s)
    values_more no_exprs s = refl
    values_more (expr e es) s = more_fetch (denote p calls e s) (denote p calls' e s) _ _ (denote_more e s) (λ v s. more_get (values p calls es s) (values p calls' es s) _ _ (values_more es s) (λ y. refl))

    arguments_more : (es : Exprs) (s : State) → More (arguments p calls es s) (arguments p calls' es s)
    arguments_more no_exprs s = refl
    arguments_more (expr e es) s =
        more_get (denote p calls e s) (denote p calls' e s) _ _ (denote_more e s) (λ x.
        more_get (fetch x.0 x.1) (fetch x.0 x.1) _ _ (same (fetch x.0 x.1)) (λ v.
        more_get (arguments p calls es v.1) (arguments p calls' es v.1) _ _ (arguments_more es v.1) (λ y. refl)))

    place_more : (es : Exprs) (s : State) → More (place_and_values p calls es s) (place_and_values p calls' es s)
    place_more no_exprs s = refl
    place_more (expr e es) s = more_get (denote p calls e s) (denote p calls' e s) _ _ (denote_more e s) (λ x. more_get (values p calls es x.1) (values p calls' es x.1) _ _ (values_more es x.1) (λ y. refl))

  evaluate_more : (e : Expr) (s : State) → More (evaluate p calls e s) (evaluate p calls' e s)
  evaluate_more e s = more_fetch (denote p calls e s) (denote p calls' e s) _ _ (denote_more e s) (λ v s. refl)

  steps_more : (ls : List LStep) (x : Thing) (s : State) → More (steps p calls x ls s) (steps p calls' x ls s)
  steps_more [] x s = refl
  steps_more (LStep.member w ∷ r) x s = more_option (member_of x w) _ _ (λ y. steps_more r y s)
  steps_more (LStep.index e ∷ r) x s = more_get (evaluate p calls e s) (evaluate p calls' e s) _ _ (evaluate_more e s) (λ v. more_option (element_of x v.0) _ _ (λ y. steps_more r y v.1))

  run_kinds : (kind : CallKind) (x x' y : Run) (f f' : AtomicFunction → Run) (g g' : PureFunction → Run) (h : Event → Run) → MoreRun x x' → ((a : AtomicFunction) → MoreRun (f a) (f' a)) → ((q : PureFunction) → MoreRun (g q) (g' q))
      → MoreRun (elim kind [ user ↦ x | atomic a ↦ f a | pure q ↦ g q | barrier e ↦ h e | unknown ↦ y ]) (elim kind [ user ↦ x' | atomic a ↦ f' a | pure q ↦ g' q | barrier e ↦ h e | unknown ↦ y ])
  run_kinds user x x' y f f' g g' h a b c = a
  run_kinds (atomic q) x x' y f f' g g' h a b c = b q
  run_kinds (pure q) x x' y f f' g g' h a b c = c q
  run_kinds (barrier e) x x' y f f' g g' h a b c = same_run (h e)
  run_kinds unknown x x' y f f' g g' h a b c = same_run y

  truth_more : (v : Typed) (f f' : Bool → Run) → ((t : Bool) → MoreRun (f t) (f' t)) → MoreRun (truth_then v f) (truth_then v f')
  truth_more v f f' k = let g : Result Bool = or_stuck (as_truth v) (λ t. got [] t) in more_on g g f f' (same g) k

  braces_more : (f f' : State → Run) → ((s : State) → MoreRun (f s) (f' s)) → (s : State) → MoreRun (in_braces f s) (in_braces f' s)
  braces_more f f' k s = more_closed (f (pushed s)) (f' (pushed s)) (k (pushed s))

  module _ (k l : ℕ) (le : k ≤ l) where
    typed_more : (t : TypeName) (f f' : Shape → Run) → ((shape : Shape) → MoreRun (f shape) (f' shape)) → MoreRun (on_got (or_stuck (type_of p t) (λ (shape : Shape). got [] shape)) f) (on_got (or_stuck (type_of p t) (λ (shape : Shape). got [] shape)) f')
    typed_more t f f' h = let g : Result Shape = or_stuck (type_of p t) (λ shape. got [] shape) in more_on g g f f' (same g) h

    mutual
      pub stmt_more : (x : Stmt) (s : State) → MoreRun (stmt_run p calls k x s) (stmt_run p calls' l x s)
      stmt_more (declare t w None) s = typed_more t _ _ (λ shape. refl)
      stmt_more (declare t w (Some e)) s = typed_more t _ _ (λ shape. more_on (evaluate p calls e s) (evaluate p calls' e s) _ _ (evaluate_more e s) (λ v. same_run (declaration w shape v.0 v.1)))
      stmt_more (assign (lvalue w ls) e) s =
          more_on (or_stuck (named p s w) (λ x. steps p calls x ls s)) (or_stuck (named p s w) (λ x. steps p calls' x ls s)) _ _ (more_option (named p s w) _ _ (λ x. steps_more ls x s)) (λ x.
          more_on (evaluate p calls e x.1) (evaluate p calls' e x.1) _ _ (evaluate_more e x.1) (λ v. same_run (on_got (store x.0 v.0 v.1) (λ s. normal [] s))))
      stmt_more (Stmt.call w args) s =
          run_kinds (call_kind p w) _ _ _ _ _ _ _ _
          (more_on (arguments p calls args s) (arguments p calls' args s) _ _ (arguments_more args s) (λ x. more_on (calls w x.0 x.1) (calls' w x.0 x.1) _ _ (called w x.0 x.1) (λ r. refl)))
          (λ a. more_on (denote p calls (Expr.call w args) s) (denote p calls' (Expr.call w args) s) _ _ (denote_more (Expr.call w args) s) (λ x. refl))
          (λ q. more_on (denote p calls (Expr.call w args) s) (denote p calls' (Expr.call w args) s) _ _ (denote_more (Expr.call w args) s) (λ x. refl))
      stmt_more (when e a) s =
          more_on (evaluate p calls e s) (evaluate p calls' e s) _ _ (evaluate_more e s) (λ v. truth_more v.0 _ _ (λ t. run_choice t _ _ _ _ (braces_more (stmts_run p calls k a) (stmts_run p calls' l a) (stmts_more a) v.1) refl))
      stmt_more (either e a b) s =
          more_on (evaluate p calls e s) (evaluate p calls' e s) _ _ (evaluate_more e s) (λ v. truth_more v.0 _ _ (λ t. run_choice t _ _ _ _ (braces_more (stmts_run p calls k a) (stmts_run p calls' l a) (stmts_more a) v.1) (braces_more (stmts_run p calls k b) (stmts_run p calls' l b) (stmts_more b) v.1)))
      stmt_more (loop a) s = more_turns_of k l (in_braces (stmts_run p calls k a)) (in_braces (stmts_run p calls' l a)) le (braces_more (stmts_run p calls k a) (stmts_run p calls' l a) (stmts_more a)) s
      stmt_more (switch e arms) s =
          more_on (evaluate p calls e s) (evaluate p calls' e s) _ _ (evaluate_more e s) (λ v. run_choice (is_selector v.0) _ _ _ _ (more_behind (arms_run p calls k arms (entered v.0 arms) v.1) (arms_run p calls' l arms (entered v.0 arms) v.1) (arms_more arms (entered v.0 arms) v.1)) refl)
      stmt_more leave s = refl
      stmt_more again s = refl
      stmt_more (give None) s = refl
      stmt_more (give (Some e)) s = more_on (evaluate p calls e s) (evaluate p calls' e s) _ _ (evaluate_more e s) (λ v. refl)

      pub stmts_more : (xs : Stmts) (s : State) → MoreRun (stmts_run p calls k xs s) (stmts_run p calls' l xs s)
      stmts_more no_stmts s = refl
      stmts_more (stmt x r) s = more_then (stmt_run p calls k x s) (stmt_run p calls' l x s) (stmts_run p calls k r) (stmts_run p calls' l r) (stmt_more x s) (stmts_more r)

      arms_more : (as' : Arms) (q : List Label → Bool) (s : State) → MoreRun (arms_run p calls k as' q s) (arms_run p calls' l as' q s)
      arms_more no_arms q s = refl
      arms_more (arm ls b r) q s =
          run_choice (q ls) _ _ _ _
          (more_then (in_braces (stmts_run p calls k b) s) (in_braces (stmts_run p calls' l b) s) (arms_from p calls k r) (arms_from p calls' l r) (braces_more (stmts_run p calls k b) (stmts_run p calls' l b) (stmts_more b) s) (from_more r))
          (arms_more r q s)

      from_more : (as' : Arms) (s : State) → MoreRun (arms_from p calls k as' s) (arms_from p calls' l as' s)
      from_more no_arms s = refl
      from_more (arm ls b r) s = more_then (in_braces (stmts_run p calls k b) s) (in_braces (stmts_run p calls' l b) s) (arms_from p calls k r) (arms_from p calls' l r) (braces_more (stmts_run p calls k b) (stmts_run p calls' l b) (stmts_more b) s) (from_more r)

result_same : (b : Bool) (e : List Event) (v : Option Typed) (s : State) → result_events (with_result b e v s) ≡ e
result_same true e v s = refl
result_same false e v s = refl

back_events : (t : Option Shape) (o : Run) → result_events (come_back t o) ≡ events_of o
back_events t (normal e s) = result_same (is_result t None) e None s
back_events t (breaks e s) = refl
back_events t (continues e s) = refl
back_events t (returns e v s) = result_same (is_result t v) e v s
back_events t (cut e) = refl
back_events t (waits e) = refl
back_events t (stuck e) = refl

same_to : {A : Type 0} (g h : Result A) → h ≡ g → More g h
same_to g h e = subst (More g) (sym e) (same g)

more_back : (t : Option Shape) (o q : Run) → MoreRun o q → More (come_back t o) (come_back t q)
more_back t (normal e s) q m = same_to (come_back t (normal e s)) (come_back t q) (ap (come_back t) m)
more_back t (breaks e s) q m = same_to (come_back t (breaks e s)) (come_back t q) (ap (come_back t) m)
more_back t (continues e s) q m = same_to (come_back t (continues e s)) (come_back t q) (ap (come_back t) m)
more_back t (returns e v s) q m = same_to (come_back t (returns e v s)) (come_back t q) (ap (come_back t) m)
more_back t (cut e) q m = subst (IsPrefix e) (sym (back_events t q)) m
more_back t (waits e) q m = ap (come_back t) m
more_back t (stuck e) q m = ap (come_back t) m

module _ (p : Program) (k l : ℕ) (le : k ≤ l) where
  function_more : (calls calls' : Calls) → ((w : Text) (xs : List Argument) (s : State) → More (calls w xs s) (calls' w xs s)) → (result : Option TypeName) (ps : List Param) (body : Stmts) (args : List Argument) (s : State) → More (function_run p k calls result ps body args s) (function_run p l calls' result ps body args s)
  function_more calls calls' called result ps body args s =
      more_option (result_shape p result) _ _ (λ t.
      more_option (parameters p ps args) _ _ (λ f.
      more_get (come_back t (stmts_run p calls k body (record s { frames = f ∷ [] }))) (come_back t (stmts_run p calls' l body (record s { frames = f ∷ [] }))) (returned s ps args) (returned s ps args)
      (more_back t _ _ (stmts_more p calls calls' called k l le body (record s { frames = f ∷ [] }))) (λ r. same (returned s ps args r))))

  calls_more : (items : List Decl) (w : Text) (args : List Argument) (s : State) → More (calls_of p k items w args s) (calls_of p l items w args s)
  calls_more [] w args s = refl
  calls_more (Decl.function result x params body ∷ before) w args s =
      more_choice (bytes_eq x w) _ _ _ _ (function_more (calls_of p k before) (calls_of p l before) (calls_more before) result params body args s) (calls_more before w args s)
  calls_more (Decl.struct x fields ∷ before) w args s = calls_more before w args s
  calls_more (tree.constant id t x e ∷ before) w args s = calls_more before w args s
  calls_more (tree.shared t x ∷ before) w args s = calls_more before w args s
  calls_more (tree.global t x e ∷ before) w args s = calls_more before w args s
  calls_more (tree.block place rules quals buffer x members n ∷ before) w args s = calls_more before w args s

-- of runs of a text: one that was not cut is the same, and one that was cut has the first of the events
abbrev pub MoreText : List Event → TextEnd → TextRun → Type 0
MoreText e was_cut t = IsPrefix e t.events
MoreText e end t = t ≡ text_made e end

ended_events : (g : Result (Option Typed × State)) → (ended_by g).events ≡ result_events g
ended_events (got e a) = refl
ended_events (cut e) = refl
ended_events (waits e) = refl
ended_events (stuck e) = refl

more_ended : (g h : Result (Option Typed × State)) → More g h → MoreText (ended_by g).events (ended_by g).end (ended_by h)
more_ended (got e a) h m = ap ended_by m
more_ended (cut e) h m = subst (IsPrefix e) (sym (ended_events h)) m
more_ended (waits e) h m = ap ended_by m
more_ended (stuck e) h m = ap ended_by m

more_if : (d : Declared) (k l : ℕ) (le : k ≤ l) (items : List Decl) (answers : List (List ℕ)) (b : Bool) → MoreText (run_if d k items answers b).events (run_if d k items answers b).end (run_if d l items answers b)
more_if d k l le items answers true = refl
more_if d k l le items answers false = more_ended _ _ (calls_more d.program k l le (reverse items) (codes "main") [] (record { frames = []; globals = d.globals; answers = answers }))

pub more_turns : (unit : TranslationUnit) (inv : Invocation) (answers : List (List ℕ)) (k l : ℕ) → k ≤ l → MoreText (text_run unit inv answers k).events (text_run unit inv answers k).end (text_run unit inv answers l)
more_turns (translation_unit sizes items) inv answers k l le = let d : Declared = declared_by inv sizes items in more_if d k l le items answers d.is_stuck
