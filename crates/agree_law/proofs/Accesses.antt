-- Instructions that access memory: what they write is followed, access by access.
use Rattle.std.proofs.Common.{◌≡◌, ℕ, Bool, true, false, List, [], ◌∷◌, append-nil, Option, Some, inl, refl, sym, ap, ◌∙◌, subst, arith}
use Rattle.std.specs.Prelude.{map}
use Rattle.spv_module.specs.declared.inst.Inst.{Inst}
use Rattle.spv_module.specs.declared.inst.Function.{Function}
use Rattle.spv_types.specs.Tree.{Tree, ValueTree}
use Rattle.value_words.specs.Words.{words_of, value_from}
use Rattle.traces.specs.Events.{Event, Access, Location, reading, updating, write}
use Rattle.traces.specs.Runs.{Move, go, Supplied, supplied}
use Rattle.traces.specs.Outcomes.{normal, cut, waits, stuck, Result, got, with_before, then_get, or_stuck, on_got, begun, then_do}
use Rattle.traces.specs.Simulation.{Follows}
use Rattle.traces.proofs.Moves.{Never, NeverGives, one_step, fewer}
use Rattle.module_semantics.specs.Setting.{Setting}
use Rattle.module_semantics.specs.State.{value, Conf}
use Rattle.module_semantics.specs.Steps.{step_kind, advanced, set_value}
use Rattle.glsl_ast.specs.Tree.{Text, Expr, Exprs, no_exprs, Stmt, assign, LStep, lvalue, Stmts, stmts_in}
use Rattle.glsl_semantics.specs.Shapes.{Shape, Typed, typed, tree_of, same_shape, is_sized}
use Rattle.glsl_semantics.specs.Places.{Site, location_of, locations}
use Rattle.glsl_semantics.specs.States.{State, Thing, memory, accessed, read_value, read_if, store}
use Rattle.glsl_semantics.specs.Functions.{pure_value}
use Rattle.glsl_semantics.specs.Expressions as expressions
use Rattle.glsl_semantics.specs.Expressions.{Program, Argument, named, AtomicFunction, atomic_operation, operand_words, found_value, updated, CallKind, user, atomic, pure, barrier, unknown, call_kind, then_fetch, denote, values, arguments, place_and_values, evaluate, steps}
use Rattle.glsl_semantics.specs.Statements.{Run, barrier_run, stmt_run, stmts_run}
use Rattle.agree_law.specs.Answers.{answered}
use Rattle.agree_law.specs.Agree.{Naming, AreApart}
use Rattle.agree_law.specs.Blocks.{has_outcome, IsNew, Stands, At, have_result}
use Rattle.agree_law.specs.Evaluates.{Evaluates, IsKept, Gets}
use Rattle.agree_law.proofs.Steps.{on_known, before_none}
use Rattle.agree_law.proofs.Changes.{forgets}
use Rattle.agree_law.proofs.InBlocks.{answers_in, passes_in}
use Rattle.agree_law.proofs.Settling.{settled_put, settled_pass}
use Rattle.agree_law.proofs.Evaluating.{access_follows}

got_back : (g : Result (Typed × State)) → with_before [] (then_get g (λ (y : Typed × State). got [] (y.0, y.1))) ≡ g
got_back (got e a) = ap (λ (l : List Event). got l a) (append-nil e)
got_back (cut e) = refl
got_back (waits e) = refl
got_back (stuck e) = refl

module _ (p : Program) (calls : Text → List Argument → State → Result (Option Typed × State)) (k : ℕ) (m : Naming) (apart : AreApart m) (s : Setting) (Holds : Conf → Type 0) (f : Function) (b : ℕ) (step : Supplied Conf → Move (Supplied Conf)) (keeps : IsKept step Holds) (done : List Inst) (i : Inst) (rest : List Inst) where
  abbrev G : Supplied Conf → Typed × State → Type 0
  G = Gets m s Holds f b done i rest

  abbrev Plain : Supplied Conf → Run → Type 0
  Plain c o = Follows (Supplied Conf) step State (Option Typed) (At m s Holds f b (i ∷ done) rest) (Never (Supplied Conf) step State (Option Typed)) (Never (Supplied Conf) step State (Option Typed)) (NeverGives (Supplied Conf) step State (Option Typed)) 0 k c o

  -- where the result's value has come with an answer, or with none
  pub got_value : (c : Supplied Conf) (z : State) (v : ValueTree) (e : List Event) (more : List (List ℕ)) → Stands m s Holds f b done c z → IsNew i done → has_outcome (step_kind i.op) ≡ false → step c ≡ go e (supplied (set_value c.at rest i v) more) → G (supplied (set_value c.at rest i v) more) (typed (m.shape i.result) v, record z { answers = more })
  got_value c z v e more stands new off goes = record {
    before = c.at;
    function = stands.function;
    block = stands.block;
    agree = answers_in m (have_result done) c.at z more stands.agree;
    answers = refl;
    value = v;
    comes_to = refl;
    at = refl;
    settled = settled_put s c.at.top (set_value c.at rest i v).top i done (value v) refl new (λ on. let never : true ≡ false = sym on ∙ off in cc) stands.settled;
    holds = keeps c (supplied (set_value c.at rest i v) more) e refl goes stands.holds;
  }

  -- What is read of memory: the expression stands for a place with the scalars that the module reads, and the value of the words is the same.
  pub read_follows : (c : Supplied Conf) (z : State) (e : Expr) (at : Site) (places : List Location) (t : Tree) → Stands m s Holds f b done c z → IsNew i done → has_outcome (step_kind i.op) ≡ false
      → step c ≡ answered (reading places) (λ words. set_value c.at rest i (value_from t words)) c.answers
      → denote p calls e z ≡ got [] (memory at (m.shape i.result), z) → is_sized (m.shape i.result) ≡ true → locations (tree_of (m.shape i.result)) at ≡ places → ((words : List ℕ) → value_from (tree_of (m.shape i.result)) words ≡ value_from t words)
      → Evaluates (Supplied Conf) step (Typed × State) G k c (evaluate p calls e z)
  read_follows c z e at places t stands new off asks denotes sized same values =
      subst E (sym (ap (λ (g : Result (Thing × State)). then_fetch g (λ v s. got [] (v, s))) denotes ∙ ap (λ (q : Bool). with_before [] (then_get (read_if q at u z) (λ (y : Typed × State). got [] (y.0, y.1)))) sized ∙ got_back (read_value at u z)))
      (subst (λ (l : List Location). E (accessed (reading l) z.answers (λ words more. (typed u (value_from (tree_of u) words), record z { answers = more })))) (sym same)
      (access_follows step (Typed × State) G k (reading places) c z.answers (λ words. set_value c.at rest i (value_from t words)) (λ words more. (typed u (value_from (tree_of u) words), record z { answers = more })) stands.answers asks
      (λ words more e goes. subst (λ (v : ValueTree). G (supplied (set_value c.at rest i (value_from t words)) more) (typed u v, record z { answers = more })) (sym (values words)) (got_value c z (value_from t words) e more stands new off goes))))
    where
      u : Shape
      u = m.shape i.result

      E : Result (Typed × State) → Type 0
      E = Evaluates (Supplied Conf) step (Typed × State) G k c

  -- where the machine is behind the instruction, and nothing else has changed
  passed : (c : Supplied Conf) (z : State) (e : List Event) → Stands m s Holds f b done c z → has_outcome (step_kind i.op) ≡ false → m.is_local i.result ≡ false → step c ≡ go e (supplied (advanced c.at rest) c.answers) → At m s Holds f b (i ∷ done) rest (supplied (advanced c.at rest) c.answers) z
  passed c z e stands off none goes = record {
    stands = record {
      function = stands.function;
      block = stands.block;
      agree = passes_in m apart (have_result done) c.at z rest i.result none (forgets m apart c.at z rest c.at.top.ids (λ k. inl refl) stands.agree.all) stands.agree;
      settled = settled_pass s c.at.top (advanced c.at rest).top i done (λ n. refl) off stands.settled;
      holds = keeps c (supplied (advanced c.at rest) c.answers) e refl goes stands.holds;
      answers = stands.answers;
    };
    next = refl;
  }

  lands : (c : Supplied Conf) (z : State) (e : List Event) → Stands m s Holds f b done c z → has_outcome (step_kind i.op) ≡ false → m.is_local i.result ≡ false → step c ≡ go e (supplied (advanced c.at rest) c.answers) → Plain c (normal e z)
  lands c z e stands off none goes = inl (record {
    to = supplied (advanced c.at rest) c.answers;
    comes = fewer (Supplied Conf) step 1 0 c (supplied (advanced c.at rest) c.answers) e (omega arith) (one_step (Supplied Conf) step c (supplied (advanced c.at rest) c.answers) e goes);
    holds = passed c z e stands off none goes;
  })

  -- an instruction of which nothing is written, and which has no result
  pub silent_follows : (c : Supplied Conf) (z : State) → Stands m s Holds f b done c z → has_outcome (step_kind i.op) ≡ false → m.is_local i.result ≡ false → step c ≡ go [] (supplied (advanced c.at rest) c.answers) → Plain c (normal [] z)
  silent_follows c z stands off none goes = lands c z [] stands off none goes

  -- What is written to memory: the place has the scalars that the module writes.
  pub write_follows : (c : Supplied Conf) (z : State) (w : Text) (ls : List LStep) (e : Expr) (at : Site) (t : Shape) (v : ValueTree) (places : List Location) → Stands m s Holds f b done c z → has_outcome (step_kind i.op) ≡ false → m.is_local i.result ≡ false
      → step c ≡ go (write places (words_of v) ∷ []) (supplied (advanced c.at rest) c.answers)
      → or_stuck (named p z w) (λ (x : Thing). steps p calls x ls z) ≡ got [] (memory at t, z) → evaluate p calls e z ≡ got [] (typed t v, z) → same_shape t t ≡ true → locations (tree_of t) at ≡ places
      → Plain c (stmt_run p calls k (assign (lvalue w ls) e) z)
  write_follows c z w ls e at t v places stands off none goes place says same there =
      subst (Plain c) (sym (
      on_known (or_stuck (named p z w) (λ (x : Thing). steps p calls x ls z)) (memory at t, z) (λ x. on_got (evaluate p calls e x.1) (λ v. on_got (store x.0 v.0 v.1) (λ q. normal [] q))) place
      ∙ (on_known (evaluate p calls e z) (typed t v, z) (λ v. on_got (store (memory at t) v.0 v.1) (λ q. normal [] q)) says
      ∙ (ap (λ (q : Bool). on_got (elim q as (λ q. Result State) [ true ↦ got (write (locations (tree_of t) at) (words_of v) ∷ []) z | false ↦ stuck [] ]) (λ y. normal [] y)) same
      ∙ ap (λ (l : List Location). normal (write l (words_of v) ∷ []) z) there))))
      (lands c z (write places (words_of v) ∷ []) stands off none goes)

  -- Barriers are calls without arguments, one for each event.
  abbrev pub AreBarriers : List (Text × Event) → Type 0
  AreBarriers [] = Unit {0}
  AreBarriers (q ∷ qs) = (call_kind p q.0 ≡ barrier q.1) × AreBarriers qs

  abbrev pub bars : List (Text × Event) → Stmts
  bars qs = stmts_in (map (λ (q : Text × Event). Stmt.call q.0 no_exprs) qs)

  bars_run : (qs : List (Text × Event)) (z : State) → AreBarriers qs → stmts_run p calls k (bars qs) z ≡ normal (map (λ (q : Text × Event). q.1) qs) z
  bars_run [] z h = refl
  bars_run (q ∷ qs) z h =
      ap (λ (kind : CallKind). then_do (by_kind kind) (stmts_run p calls k (bars qs))) h.0
      ∙ ap (λ (o : Run). begun (q.1 ∷ []) o) (bars_run qs z h.1)
    where
      by_kind : CallKind → Run
      by_kind kind = elim kind as (λ kind. Run) [
        | user ↦ on_got (arguments p calls no_exprs z) (λ x. on_got (calls q.0 x.0 x.1) (λ r. normal [] r.1))
        | atomic a ↦ on_got (denote p calls (Expr.call q.0 no_exprs) z) (λ x. normal [] x.1)
        | pure f ↦ on_got (denote p calls (Expr.call q.0 no_exprs) z) (λ x. normal [] x.1)
        | barrier e ↦ barrier_run e no_exprs z
        | unknown ↦ stuck []
      ]

  pub bars_follow : (c : Supplied Conf) (z : State) (qs : List (Text × Event)) → Stands m s Holds f b done c z → has_outcome (step_kind i.op) ≡ false → m.is_local i.result ≡ false → AreBarriers qs
      → step c ≡ go (map (λ (q : Text × Event). q.1) qs) (supplied (advanced c.at rest) c.answers) → Plain c (stmts_run p calls k (bars qs) z)
  bars_follow c z qs stands off none are goes = subst (Plain c) (sym (bars_run qs z are)) (lands c z (map (λ (q : Text × Event). q.1) qs) stands off none goes)

  -- Atomic functions: one access, whose word is the result.
  pub atomic_follows : (P : Supplied Conf → Thing × State → Type 0) (c : Supplied Conf) (z : State) (w : Text) (args : Exprs) (a : AtomicFunction) (at : Site) (t : Shape) (vs : List Typed) (ws : List ℕ) (access : Access) (g : List ℕ → Conf)
      → call_kind p w ≡ atomic a → place_and_values p calls args z ≡ got [] (memory at t, vs, z) → operand_words a t vs ≡ Some ws → updating (atomic_operation a t) (location_of at) ws ≡ access
      → z.answers ≡ c.answers → step c ≡ answered access g c.answers
      → ((words : List ℕ) (more : List (List ℕ)) (e : List Event) → step c ≡ go e (supplied (g words) more) → P (supplied (g words) more) (found_value t z words more))
      → Evaluates (Supplied Conf) step (Thing × State) P k c (denote p calls (Expr.call w args) z)
  atomic_follows P c z w args a at t vs ws access g kind places operands same answers asks holds =
      subst E (sym (ap by_kind kind ∙ ap (λ (g : Result (Thing × List Typed × State)). then_get g (λ x. updated a x.0 x.1 x.2)) places ∙ ap (λ (o : Option (List ℕ)). with_before [] (or_stuck o (λ ws. accessed (updating (atomic_operation a t) (location_of at) ws) z.answers (found_value t z)))) operands ∙ before_none (accessed (updating (atomic_operation a t) (location_of at) ws) z.answers (found_value t z)) ∙ ap (λ (q : Access). accessed q z.answers (found_value t z)) same))
      (access_follows step (Thing × State) P k access c z.answers g (found_value t z) answers asks holds)
    where
      E : Result (Thing × State) → Type 0
      E = Evaluates (Supplied Conf) step (Thing × State) P k c

      by_kind : CallKind → Result (Thing × State)
      by_kind kind = elim kind as (λ kind. Result (Thing × State)) [
        | user ↦ then_get (arguments p calls args z) (λ x. then_get (calls w x.0 x.1) (λ r. expressions.done r.0 r.1))
        | atomic a ↦ then_get (place_and_values p calls args z) (λ x. updated a x.0 x.1 x.2)
        | pure f ↦ then_get (values p calls args z) (λ x. expressions.done (pure_value f x.0) x.1)
        | barrier e ↦ stuck []
        | unknown ↦ stuck []
      ]
