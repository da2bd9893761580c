-- Each kind of instruction by the true machine: what its result's expression comes to, or what is written of it.
use Rattle.std.proofs.Common.{◌≡◌, ◌≢◌, ℕ, ◌++◌, true, false, List, [], ◌∷◌, append-nil, map, Option, Some, None, inl, inr, refl, sym, ap, ◌∙◌, subst, arith}
use Rattle.std.specs.Prelude.{option_map, option_and_then, slice_index}
use Rattle.spv_ops.specs.declared.AtomicOp.{AtomicOp}
use Rattle.spv_ops.specs.declared.AtomicOp.TheVariants as atomics
use Rattle.spv_module.specs.declared.inst.Inst.{Inst}
use Rattle.spv_module.specs.declared.inst.Function.{Function}
use Rattle.spv_types.specs.Tree.{Tree, ValueTree, word}
use Rattle.op_semantics.specs.Composite.{extracted, inserted}
use Rattle.value_words.specs.Words.{words_of, value_from}
use Rattle.traces.specs.Events.{Event, Access, updating}
use Rattle.traces.specs.Events as event
use Rattle.traces.specs.Runs.{Act, goes, asks, fails, go, wrong, Supplied, supplied}
use Rattle.traces.specs.Outcomes.{normal, cut, waits, stuck, events_of, Result, got, with_before, then_get, or_stuck, on_got}
use Rattle.traces.specs.Simulation.{Follows}
use Rattle.traces.proofs.Moves.{Never, NeverGives, stays, one_step, fewer, fails_now}
use Rattle.module_semantics.specs.Setting.{Setting}
use Rattle.module_semantics.specs.Memory.{location, locations, shape_along}
use Rattle.module_semantics.specs.State.{own, Held, value, pointer, Conf}
use Rattle.module_semantics.specs.Operands.{pointer_at, value_at, word_at, Target, arg, as_value}
use Rattle.module_semantics.specs.Accesses.{seen, kept, keeping}
use Rattle.module_semantics.specs.Steps.{StepKind, operation, array_length, variable, load, store, atomic, memory_barrier, control_barrier, merge, set, step_kind, step_by, with_some, computed, advanced, set_value, load_from, store_to, read_shape, atomic_operation, set_found, memory_barriers}
use Rattle.glsl_ast.specs.Tree.{Text, Expr, Exprs, Stmt, assign, LStep, lvalue}
use Rattle.glsl_semantics.specs.Shapes.{Shape, Typed, typed, tree_of, same_shape, is_sized}
use Rattle.glsl_semantics.specs.Places as place
use Rattle.glsl_semantics.specs.Places.{Site, location_of}
use Rattle.glsl_semantics.specs.States.{State, Thing, memory, fetch}
use Rattle.glsl_semantics.specs.States as state
use Rattle.glsl_semantics.specs.Expressions as expressions
use Rattle.glsl_semantics.specs.Expressions.{Program, Argument, AtomicFunction, operand_words, found_value, call_kind, named, then_fetch, denote, place_and_values, evaluate, steps}
use Rattle.glsl_semantics.specs.Statements.{Run, barrier_run, stmt_run, stmts_run}
use Rattle.agree_law.specs.Answers.{move, answered}
use Rattle.agree_law.specs.Agree.{Naming, AreApart, variable_with}
use Rattle.agree_law.specs.Blocks.{measured, outcome, has_outcome, IsNew, At, have_result}
use Rattle.agree_law.specs.Evaluates.{as_outcome, Evaluates, IsKept, Gets}
use Rattle.agree_law.proofs.Changes.{is_not, put_other, forgets, leads}
use Rattle.agree_law.proofs.InBlocks.{answers_in, passes_in, before_it}
use Rattle.agree_law.proofs.Settling.{settled_put, settled_pass}
use Rattle.agree_law.proofs.Evaluating.{got_then, known_follows, nothing_follows}
use Rattle.agree_law.proofs.Calling.{fails_then}
use Rattle.agree_law.proofs.Accesses.{read_follows, write_follows, atomic_follows, silent_follows, bars_follow, AreBarriers, bars, got_value}
use Rattle.agree_law.proofs.Machine.{machine, kind_is, operation_goes, operation_fails, load_is, load_fails, store_goes, store_fails, IsUpdate, atomic_goes, atomic_cases, length_goes, length_fails, length_cases, variable_goes, memory_barrier_goes, memory_barrier_fails, control_barrier_goes, control_barrier_fails}

module _ (p : Program) (calls : Text → List Argument → State → Result (Option Typed × State)) (k : ℕ) (m : Naming) (apart : AreApart m) (s : Setting) (Holds : Conf → Type 0) (f : Function) (b : ℕ) (keeps : IsKept (machine s) Holds) (done : List Inst) (i : Inst) (rest : List Inst) where
  abbrev G : Supplied Conf → Typed × State → Type 0
  G = Gets m s Holds f b done i rest

  abbrev E : Supplied Conf → Result (Typed × State) → Type 0
  E = Evaluates (Supplied Conf) (machine s) (Typed × State) G k

  abbrev Plain : Supplied Conf → Run → Type 0
  Plain c o = Follows (Supplied Conf) (machine s) State (Option Typed) (At m s Holds f b (i ∷ done) rest) (Never (Supplied Conf) (machine s) State (Option Typed)) (Never (Supplied Conf) (machine s) State (Option Typed)) (NeverGives (Supplied Conf) (machine s) State (Option Typed)) 0 k c o

  abbrev Here : Supplied Conf → State → Type 0
  Here = At m s Holds f b done (i ∷ rest)

  abbrev n : ℕ
  n = i.result

  -- the next step, by the kind of the instruction
  pub next : (c : Supplied Conf) (z : State) (kind : StepKind) (a : Act Conf) → Here c z → step_kind i.op ≡ kind → step_by kind s c.at rest i ≡ a → machine s c ≡ move a c.answers
  next c z kind a here is same = kind_is s c i rest kind here.next is ∙ ap (λ (a : Act Conf). move a c.answers) same

  -- where the result's value has come without an event
  pub got_now : (c : Supplied Conf) (z : State) (v : ValueTree) → Here c z → IsNew i done → (has_outcome (step_kind i.op) ≡ true → outcome (step_kind i.op) s c.at.top i ≡ Some (value v)) → machine s c ≡ go [] (supplied (set_value c.at rest i v) c.answers) → G (supplied (set_value c.at rest i v) c.answers) (typed (m.shape n) v, z)
  got_now c z v here new from goes_on = record {
    before = c.at;
    function = here.stands.function;
    block = here.stands.block;
    agree = here.stands.agree;
    answers = here.stands.answers;
    value = v;
    comes_to = refl;
    at = refl;
    settled = settled_put s c.at.top (set_value c.at rest i v).top i done (value v) refl new from here.stands.settled;
    holds = keeps c (supplied (set_value c.at rest i v) c.answers) [] refl goes_on here.stands.holds;
  }

  known : (c : Supplied Conf) (z : State) (e : Expr) (v : ValueTree) → Here c z → IsNew i done → (has_outcome (step_kind i.op) ≡ true → outcome (step_kind i.op) s c.at.top i ≡ Some (value v)) → machine s c ≡ go [] (supplied (set_value c.at rest i v) c.answers) → evaluate p calls e z ≡ got [] (typed (m.shape n) v, z) → E c (evaluate p calls e z)
  known c z e v here new from goes_on says = known_follows (machine s) (Typed × State) G k c (supplied (set_value c.at rest i v) c.answers) (evaluate p calls e z) (typed (m.shape n) v, z) goes_on says (got_now c z v here new from goes_on)

  wrong_now : (c : Supplied Conf) (g : Result (Typed × State)) → machine s c ≡ wrong → E c g
  wrong_now c g is = inr (fails_now (Supplied Conf) (machine s) c (events_of (as_outcome g)) is)

  -- An operation: where it has a value its expression says it.
  pub operation_evaluates : (c : Supplied Conf) (z : State) (e : Expr) → Here c z → IsNew i done → step_kind i.op ≡ operation → ((v : ValueTree) → computed s c.at.top i ≡ Some v → evaluate p calls e z ≡ got [] (typed (m.shape n) v, z)) → E c (evaluate p calls e z)
  operation_evaluates c z e here new kind says = by_value (computed s c.at.top i) refl
    where
      by_value : (o : Option ValueTree) → computed s c.at.top i ≡ o → E c (evaluate p calls e z)
      by_value None is = wrong_now c (evaluate p calls e z) (next c z operation fails here kind (operation_fails s c.at rest i is))
      by_value (Some v) is =
          known c z e v here new (λ on. ap (λ q. outcome q s c.at.top i) kind ∙ ap (option_map value) is) (next c z operation (goes [] (set_value c.at rest i v)) here kind (operation_goes s c.at rest i v is)) (says v is)

  -- and one that is not written: its result stands in other expressions, or nowhere
  pub operation_follows : (c : Supplied Conf) (z : State) → Here c z → IsNew i done → step_kind i.op ≡ operation → m.is_outer n ≡ false → m.is_lent n ≡ false → m.is_local n ≡ false → Plain c (normal [] z)
  operation_follows c z here new kind outer far off = by_value (computed s c.at.top i) refl
    where
      by_value : (o : Option ValueTree) → computed s c.at.top i ≡ o → Plain c (normal [] z)
      by_value None is = inr (fails_now (Supplied Conf) (machine s) c [] (next c z operation fails here kind (operation_fails s c.at rest i is)))
      by_value (Some v) is =
          let goes_on = next c z operation (goes [] (set_value c.at rest i v)) here kind (operation_goes s c.at rest i v is) in
          nothing_follows p calls k m apart s Holds f b (machine s) done i rest c (supplied (set_value c.at rest i v) c.answers) z outer far off goes_on (typed (m.shape n) v)
          (got_now c z v here new (λ on. ap (λ q. outcome q s c.at.top i) kind ∙ ap (option_map value) is) goes_on)

  -- What the expression of a pointer has to stand for: a place with the scalars of that part of the variable, of which the value is read, where others see it; else an expression that says the part's value.
  pub record ReadsSeen (c : Supplied Conf) (z : State) (e : Expr) (v : Inst) (path : List ℕ) (t : Tree) : Type 0 where
    pub site : Site
    pub stands_for : denote p calls e z ≡ got [] (memory site (m.shape n), z)
    pub sized : is_sized (m.shape n) ≡ true
    pub places : place.locations (tree_of (m.shape n)) site ≡ locations s v path
    pub values : (words : List ℕ) → value_from (tree_of (m.shape n)) words ≡ value_from t words

  pub record Reads (c : Supplied Conf) (z : State) (e : Expr) : Type 0 where
    pub seen_part : (t : Target) → pointer_at s c.at.top (arg i 0) ≡ Some t → (v : Inst) → seen s t.0 ≡ Some v → (shape : Tree) → shape_along s v t.1 ≡ Some shape → ReadsSeen c z e v t.1 shape
    pub own_part : (t : Target) → pointer_at s c.at.top (arg i 0) ≡ Some t → seen s t.0 ≡ None → (v : ValueTree) → option_and_then (extracted t.1) (kept s c.at t.0) ≡ Some v → evaluate p calls e z ≡ got [] (typed (m.shape n) v, z)

  -- OpLoad
  pub load_evaluates : (c : Supplied Conf) (z : State) (e : Expr) → Here c z → IsNew i done → step_kind i.op ≡ load → Reads c z e → E c (evaluate p calls e z)
  load_evaluates c z e here new kind reads = by_pointer (pointer_at s c.at.top (arg i 0)) refl
    where
      none : has_outcome (step_kind i.op) ≡ false
      none = ap has_outcome kind

      by_shape : (t : Target) (v : Inst) (o : Option Tree) → pointer_at s c.at.top (arg i 0) ≡ Some t → seen s t.0 ≡ Some v → shape_along s v t.1 ≡ o → E c (evaluate p calls e z)
      by_shape t v None is sees shape = wrong_now c (evaluate p calls e z) (next c z load fails here kind (load_is s c.at rest i t is ∙ ap (load_from s c.at rest i t) sees ∙ ap (λ (o : Option Tree). with_some o (read_shape s c.at rest i v t)) shape))
      by_shape t v (Some u) is sees shape =
          let r = reads.seen_part t is v sees u shape in
          read_follows p calls k m apart s Holds f b (machine s) keeps done i rest c z e r.site (locations s v t.1) u here.stands new none
          (next c z load (read_shape s c.at rest i v t u) here kind (load_is s c.at rest i t is ∙ ap (load_from s c.at rest i t) sees ∙ ap (λ (o : Option Tree). with_some o (read_shape s c.at rest i v t)) shape))
          r.stands_for r.sized r.places r.values

      by_kept : (t : Target) (o : Option ValueTree) → pointer_at s c.at.top (arg i 0) ≡ Some t → seen s t.0 ≡ None → option_and_then (extracted t.1) (kept s c.at t.0) ≡ o → E c (evaluate p calls e z)
      by_kept t None is sees has = wrong_now c (evaluate p calls e z) (next c z load fails here kind (load_is s c.at rest i t is ∙ ap (load_from s c.at rest i t) sees ∙ ap (λ (o : Option ValueTree). with_some o (λ v. goes [] (set_value c.at rest i v))) has))
      by_kept t (Some v) is sees has =
          known c z e v here new (λ on. let never : true ≡ false = sym on ∙ none in cc)
          (next c z load (goes [] (set_value c.at rest i v)) here kind (load_is s c.at rest i t is ∙ ap (load_from s c.at rest i t) sees ∙ ap (λ (o : Option ValueTree). with_some o (λ v. goes [] (set_value c.at rest i v))) has))
          (reads.own_part t is sees v has)

      by_seen : (t : Target) (o : Option Inst) → pointer_at s c.at.top (arg i 0) ≡ Some t → seen s t.0 ≡ o → E c (evaluate p calls e z)
      by_seen t None is sees = by_kept t (option_and_then (extracted t.1) (kept s c.at t.0)) is sees refl
      by_seen t (Some v) is sees = by_shape t v (shape_along s v t.1) is sees refl

      by_pointer : (o : Option Target) → pointer_at s c.at.top (arg i 0) ≡ o → E c (evaluate p calls e z)
      by_pointer None is = wrong_now c (evaluate p calls e z) (next c z load fails here kind (load_fails s c.at rest i is))
      by_pointer (Some t) is = by_seen t (seen s t.0) is refl

  -- OpSelectionMerge and OpLoopMerge
  pub merge_follows : (c : Supplied Conf) (z : State) → Here c z → step_kind i.op ≡ merge → m.is_local n ≡ false → Plain c (normal [] z)
  merge_follows c z here kind off = silent_follows p calls k m apart s Holds f b (machine s) keeps done i rest c z here.stands (ap has_outcome kind) off (next c z merge (goes [] (advanced c.at rest)) here kind refl)

  -- the length of a runtime array, with a variable and without one
  pub length_evaluates : (c : Supplied Conf) (z : State) (e : Expr) → Here c z → IsNew i done → step_kind i.op ≡ array_length → ((w : ℕ) → measured s c.at.top i ≡ Some (value (word w)) → evaluate p calls e z ≡ got [] (typed (m.shape n) (word w), z)) → E c (evaluate p calls e z)
  length_evaluates c z e here new kind says = elim (length_cases s c.at i) [
    | inl w ↦ known c z e (word w.0) here new (λ on. ap (λ q. outcome q s c.at.top i) kind ∙ w.1) (next c z array_length (goes [] (set_value c.at rest i (word w.0))) here kind (length_goes s c.at rest i w.0 w.1)) (says w.0 w.1)
    | inr none ↦ wrong_now c (evaluate p calls e z) (next c z array_length fails here kind (length_fails s c.at rest i none))
  ]

  pub length_follows : (c : Supplied Conf) (z : State) → Here c z → IsNew i done → step_kind i.op ≡ array_length → m.is_outer n ≡ false → m.is_lent n ≡ false → m.is_local n ≡ false → Plain c (normal [] z)
  length_follows c z here new kind outer far off = elim (length_cases s c.at i) [
    | inl w ↦
        let goes_on = next c z array_length (goes [] (set_value c.at rest i (word w.0))) here kind (length_goes s c.at rest i w.0 w.1) in
        nothing_follows p calls k m apart s Holds f b (machine s) done i rest c (supplied (set_value c.at rest i (word w.0)) c.answers) z outer far off goes_on (typed (m.shape n) (word w.0))
        (got_now c z (word w.0) here new (λ on. ap (λ q. outcome q s c.at.top i) kind ∙ w.1) goes_on)
    | inr none ↦ inr (fails_now (Supplied Conf) (machine s) c [] (next c z array_length fails here kind (length_fails s c.at rest i none)))
  ]

  -- OpVariable: its id leads to the variable, which has had its value since the call
  pub variable_follows : (c : Supplied Conf) (z : State) → Here c z → IsNew i done → step_kind i.op ≡ variable → m.is_outer n ≡ false → m.is_lent n ≡ false → m.is_local n ≡ false → ((j : ℕ) → m.is_kept n j ≡ false) → Plain c (normal [] z)
  variable_follows c z here new kind outer far off none = elim (variable_goes s c.at rest i) [
    | inr e ↦ inr (fails_now (Supplied Conf) (machine s) c [] (next c z variable fails here kind e))
    | inl e ↦
        let d : Supplied Conf = supplied (set c.at rest i (pointer (own n) [])) c.answers in
        let goes_on : machine s c ≡ go [] d = next c z variable (goes [] (set c.at rest i (pointer (own n) []))) here kind e in
        inl (record {
          to = d;
          comes = fewer (Supplied Conf) (machine s) 1 0 c d [] (omega arith) (one_step (Supplied Conf) (machine s) c d [] goes_on);
          holds = record {
            stands = record {
              function = here.stands.function;
              block = here.stands.block;
              agree = record {
                all = leads m apart c.at z rest n (own n) [] outer far (λ j e. let never : true ≡ false = sym e ∙ none j in cc) here.stands.agree.all;
                local = λ j d l.
                    let other : j ≢ n = is_not m.is_local j n l off in
                    here.stands.agree.local j (before_it (have_result done) n j other d) l ∙ ap (λ (h : Option Held). Some (variable_with (m.shape j) (as_value h))) (sym (put_other c.at.top.ids n j (pointer (own n) []) other));
              };
              settled = settled_put s c.at.top d.at.top i done (pointer (own n) []) refl new (λ on. let never : true ≡ false = sym on ∙ ap has_outcome kind in cc) here.stands.settled;
              holds = keeps c d [] refl goes_on here.stands.holds;
              answers = here.stands.answers;
            };
            next = refl;
          };
        })
  ]

  -- OpMemoryBarrier and OpControlBarrier: a call for each event
  pub memory_barrier_follows : (c : Supplied Conf) (z : State) (qs : List (Text × Event)) → Here c z → step_kind i.op ≡ memory_barrier → m.is_local n ≡ false → AreBarriers p calls k m apart s Holds f b (machine s) keeps done i rest qs
      → ((w : ℕ) → word_at s c.at.top (arg i 1) ≡ Some w → map (λ (q : Text × Event). q.1) qs ≡ memory_barriers w) → Plain c (stmts_run p calls k (bars p calls k m apart s Holds f b (machine s) keeps done i rest qs) z)
  memory_barrier_follows c z qs here kind off are say = by_word (word_at s c.at.top (arg i 1)) refl
    where
      by_word : (o : Option ℕ) → word_at s c.at.top (arg i 1) ≡ o → Plain c (stmts_run p calls k (bars p calls k m apart s Holds f b (machine s) keeps done i rest qs) z)
      by_word None is = inr (fails_now (Supplied Conf) (machine s) c _ (next c z memory_barrier fails here kind (memory_barrier_fails s c.at rest i is)))
      by_word (Some w) is = bars_follow p calls k m apart s Holds f b (machine s) keeps done i rest c z qs here.stands (ap has_outcome kind) off are (next c z memory_barrier (goes (map (λ (q : Text × Event). q.1) qs) (advanced c.at rest)) here kind (memory_barrier_goes s c.at rest i w is ∙ ap (λ (l : List Event). goes l (advanced c.at rest)) (sym (say w is))))

  pub control_barrier_follows : (c : Supplied Conf) (z : State) (qs : List (Text × Event)) → Here c z → step_kind i.op ≡ control_barrier → m.is_local n ≡ false → AreBarriers p calls k m apart s Holds f b (machine s) keeps done i rest qs
      → ((w : ℕ) → word_at s c.at.top (arg i 2) ≡ Some w → map (λ (q : Text × Event). q.1) qs ≡ memory_barriers w ++ event.control_barrier ∷ []) → Plain c (stmts_run p calls k (bars p calls k m apart s Holds f b (machine s) keeps done i rest qs) z)
  control_barrier_follows c z qs here kind off are say = by_word (word_at s c.at.top (arg i 2)) refl
    where
      by_word : (o : Option ℕ) → word_at s c.at.top (arg i 2) ≡ o → Plain c (stmts_run p calls k (bars p calls k m apart s Holds f b (machine s) keeps done i rest qs) z)
      by_word None is = inr (fails_now (Supplied Conf) (machine s) c _ (next c z control_barrier fails here kind (control_barrier_fails s c.at rest i is)))
      by_word (Some w) is = bars_follow p calls k m apart s Holds f b (machine s) keeps done i rest c z qs here.stands (ap has_outcome kind) off are (next c z control_barrier (goes (map (λ (q : Text × Event). q.1) qs) (advanced c.at rest)) here kind (control_barrier_goes s c.at rest i w is ∙ ap (λ (l : List Event). goes l (advanced c.at rest)) (sym (say w is))))

  -- What the left side of a store has to stand for: the place of the part in memory; else what is written sets the part of the variable.
  pub record WritesSeen (z : State) (w : Text) (ls : List LStep) (shape : Shape) (v : Inst) (path : List ℕ) : Type 0 where
    pub site : Site
    pub stands_for : or_stuck (named p z w) (λ (y : Thing). steps p calls y ls z) ≡ got [] (memory site shape, z)
    pub places : place.locations (tree_of shape) site ≡ locations s v path

  pub record Writes (c : Supplied Conf) (z : State) (w : Text) (ls : List LStep) (e : Expr) : Type 0 where
    pub shape : Shape
    pub same : same_shape shape shape ≡ true
    pub says : (v : ValueTree) → value_at s c.at.top (arg i 1) ≡ Some v → evaluate p calls e z ≡ got [] (typed shape v, z)
    pub seen_part : (t : Target) → pointer_at s c.at.top (arg i 0) ≡ Some t → (v : Inst) → seen s t.0 ≡ Some v → WritesSeen z w ls shape v t.1
    pub own_part : (t : Target) → pointer_at s c.at.top (arg i 0) ≡ Some t → seen s t.0 ≡ None → (v was whole : ValueTree) → value_at s c.at.top (arg i 1) ≡ Some v → kept s c.at t.0 ≡ Some was → inserted v t.1 was ≡ Some whole
        → machine s c ≡ go [] (supplied (keeping t.0 whole (advanced c.at rest)) c.answers) → Plain c (stmt_run p calls k (assign (lvalue w ls) e) z)

  -- OpStore
  pub store_follows : (c : Supplied Conf) (z : State) (w : Text) (ls : List LStep) (e : Expr) → Here c z → step_kind i.op ≡ store → m.is_local n ≡ false → Writes c z w ls e → Plain c (stmt_run p calls k (assign (lvalue w ls) e) z)
  store_follows c z w ls e here kind off g = by_pointer (pointer_at s c.at.top (arg i 0)) refl
    where
      lost : machine s c ≡ wrong → Plain c (stmt_run p calls k (assign (lvalue w ls) e) z)
      lost is = inr (fails_now (Supplied Conf) (machine s) c _ is)

      by_whole : (t : Target) (v was : ValueTree) (o : Option ValueTree) → pointer_at s c.at.top (arg i 0) ≡ Some t → value_at s c.at.top (arg i 1) ≡ Some v → seen s t.0 ≡ None → kept s c.at t.0 ≡ Some was → inserted v t.1 was ≡ o → Plain c (stmt_run p calls k (assign (lvalue w ls) e) z)
      by_whole t v was None is has sees had into = lost (next c z store fails here kind (store_goes s c.at rest i t v is has ∙ ap (store_to s c.at rest t v) sees ∙ ap (λ (o : Option ValueTree). with_some (option_and_then (inserted v t.1) o) (λ whole. goes [] (keeping t.0 whole (advanced c.at rest)))) had ∙ ap (λ (o : Option ValueTree). with_some o (λ whole. goes [] (keeping t.0 whole (advanced c.at rest)))) into))
      by_whole t v was (Some whole) is has sees had into =
          g.own_part t is sees v was whole has had into
          (next c z store (goes [] (keeping t.0 whole (advanced c.at rest))) here kind (store_goes s c.at rest i t v is has ∙ ap (store_to s c.at rest t v) sees ∙ ap (λ (o : Option ValueTree). with_some (option_and_then (inserted v t.1) o) (λ whole. goes [] (keeping t.0 whole (advanced c.at rest)))) had ∙ ap (λ (o : Option ValueTree). with_some o (λ whole. goes [] (keeping t.0 whole (advanced c.at rest)))) into))

      by_kept : (t : Target) (v : ValueTree) (o : Option ValueTree) → pointer_at s c.at.top (arg i 0) ≡ Some t → value_at s c.at.top (arg i 1) ≡ Some v → seen s t.0 ≡ None → kept s c.at t.0 ≡ o → Plain c (stmt_run p calls k (assign (lvalue w ls) e) z)
      by_kept t v None is has sees had = lost (next c z store fails here kind (store_goes s c.at rest i t v is has ∙ ap (store_to s c.at rest t v) sees ∙ ap (λ (o : Option ValueTree). with_some (option_and_then (inserted v t.1) o) (λ whole. goes [] (keeping t.0 whole (advanced c.at rest)))) had))
      by_kept t v (Some was) is has sees had = by_whole t v was (inserted v t.1 was) is has sees had refl

      by_seen : (t : Target) (v : ValueTree) (o : Option Inst) → pointer_at s c.at.top (arg i 0) ≡ Some t → value_at s c.at.top (arg i 1) ≡ Some v → seen s t.0 ≡ o → Plain c (stmt_run p calls k (assign (lvalue w ls) e) z)
      by_seen t v None is has sees = by_kept t v (kept s c.at t.0) is has sees refl
      by_seen t v (Some x) is has sees =
          let q = g.seen_part t is x sees in
          write_follows p calls k m apart s Holds f b (machine s) keeps done i rest c z w ls e q.site g.shape v (locations s x t.1) here.stands (ap has_outcome kind) off
          (next c z store (goes (event.write (locations s x t.1) (words_of v) ∷ []) (advanced c.at rest)) here kind (store_goes s c.at rest i t v is has ∙ ap (store_to s c.at rest t v) sees))
          q.stands_for (g.says v has) g.same q.places

      by_value : (t : Target) (o : Option ValueTree) → pointer_at s c.at.top (arg i 0) ≡ Some t → value_at s c.at.top (arg i 1) ≡ o → Plain c (stmt_run p calls k (assign (lvalue w ls) e) z)
      by_value t None is has = lost (next c z store fails here kind (store_fails s c.at rest i (inr has)))
      by_value t (Some v) is has = by_seen t v (seen s t.0) is has refl

      by_pointer : (o : Option Target) → pointer_at s c.at.top (arg i 0) ≡ o → Plain c (stmt_run p calls k (assign (lvalue w ls) e) z)
      by_pointer None is = lost (next c z store fails here kind (store_fails s c.at rest i (inl is)))
      by_pointer (Some t) is = by_value t (value_at s c.at.top (arg i 1)) is refl

  -- what is read of what an evaluation stands for, where that is a value
  abbrev IsValue : Supplied Conf → Thing × State → Type 0
  IsValue d x = (u : Typed) × (x.0 ≡ state.value u) × G d (u, x.1)

  fetched : (c : Supplied Conf) (g : Result (Thing × State)) → Evaluates (Supplied Conf) (machine s) (Thing × State) IsValue k c g → E c (then_fetch g (λ v y. got [] (v, y)))
  fetched c (got e x) (inl l) =
      let is : with_before e (then_get (fetch x.0 x.1) (λ (y : Typed × State). got [] (y.0, y.1))) ≡ got e (l.holds.0, x.1) =
      ap (λ (q : Thing). with_before e (then_get (fetch q x.1) (λ (y : Typed × State). got [] (y.0, y.1)))) l.holds.1 ∙ ap (λ (d : List Event). got d (l.holds.0, x.1)) (append-nil e) in
      subst (E c) (sym is) (inl (record { to = l.to; comes = l.comes; holds = l.holds.2 }))
  fetched c (cut e) (inl l) = inl l
  fetched c (waits e) (inl l) = inl l
  fetched c (stuck e) (inl l) = absurd l
  fetched c g (inr b) = inr (fails_then (Supplied Conf) (machine s) c g (λ x. then_get (fetch x.0 x.1) (λ (y : Typed × State). got [] (y.0, y.1))) b)

  -- What the call of an atomic function has to stand for: the same access as the instruction's, of a place of this type.
  pub record Updates (o : AtomicOp) (z : State) (w : Text) (args : Exprs) (shape : Shape) (access : Access) : Type 0 where
    pub function : AtomicFunction
    pub kind : call_kind p w ≡ expressions.atomic function
    pub site : Site
    pub operands : List Typed
    pub words : List ℕ
    pub places : place_and_values p calls args z ≡ got [] (memory site shape, operands, z)
    pub fit : operand_words function shape operands ≡ Some words
    pub same : updating (expressions.atomic_operation function shape) (location_of site) words ≡ access

  -- Atomic instructions with a result, which is the word that was found.
  pub atomic_evaluates : (o : AtomicOp) (c : Supplied Conf) (z : State) (w : Text) (args : Exprs) → Here c z → IsNew i done → step_kind i.op ≡ atomic o → ((words : List ℕ) → set_found c.at rest i o words ≡ set_value c.at rest i (word (slice_index words 0)))
      → ((g : IsUpdate o s c.at rest i) → Updates o z w args (m.shape n) (updating (atomic_operation o) (location s g.variable g.target.1) g.operands)) → E c (evaluate p calls (Expr.call w args) z)
  atomic_evaluates o c z w args here new kind sets says = elim (atomic_cases o s c.at rest i) [
    | inr e ↦ wrong_now c (evaluate p calls (Expr.call w args) z) (next c z (atomic o) fails here kind e)
    | inl g ↦
        let q = says g in
        fetched c (denote p calls (Expr.call w args) z)
        (atomic_follows p calls k m apart s Holds f b (machine s) keeps done i rest IsValue c z w args q.function q.site (m.shape n) q.operands q.words (updating (atomic_operation o) (location s g.variable g.target.1) g.operands) (λ words. set_value c.at rest i (word (slice_index words 0))) q.kind q.places q.fit q.same here.stands.answers
        (next c z (atomic o) (asks (updating (atomic_operation o) (location s g.variable g.target.1) g.operands) (set_found c.at rest i o)) here kind (atomic_goes o s c.at rest i g.target g.variable g.operands g.pointer_is g.seen_is g.operands_are)
        ∙ ap (λ (h : List ℕ → Conf). answered (updating (atomic_operation o) (location s g.variable g.target.1) g.operands) h c.answers) (λ j words. sets words j))
        (λ words more e goes_on. found words more e goes_on))
  ]
    where
      found : (words : List ℕ) (more : List (List ℕ)) (e : List Event) → machine s c ≡ go e (supplied (set_value c.at rest i (word (slice_index words 0))) more) → IsValue (supplied (set_value c.at rest i (word (slice_index words 0))) more) (found_value (m.shape n) z words more)
      found [] more e goes_on = (typed (m.shape n) (word 0), refl, got_value p calls k m apart s Holds f b (machine s) keeps done i rest c z (word 0) e more here.stands new (ap has_outcome kind) goes_on)
      found (x ∷ xs) more e goes_on = (typed (m.shape n) (word x), refl, got_value p calls k m apart s Holds f b (machine s) keeps done i rest c z (word x) e more here.stands new (ap has_outcome kind) goes_on)

  -- OpAtomicStore, and others of which no one takes the result: written as a statement
  pub atomic_store_follows : (c : Supplied Conf) (z : State) (w : Text) (args : Exprs) (shape : Shape) → Here c z → step_kind i.op ≡ atomic atomics.Store → m.is_local n ≡ false
      → ((g : IsUpdate atomics.Store s c.at rest i) → Updates atomics.Store z w args shape (updating (atomic_operation atomics.Store) (location s g.variable g.target.1) g.operands)) → Plain c (stmt_run p calls k (Stmt.call w args) z)
  atomic_store_follows c z w args shape here kind off says = elim (atomic_cases atomics.Store s c.at rest i) [
    | inr e ↦ inr (fails_now (Supplied Conf) (machine s) c _ (next c z (atomic atomics.Store) fails here kind e))
    | inl g ↦
        let q = says g in
        subst (Plain c) (sym (ap by_kind q.kind))
        (got_then (Supplied Conf) (machine s) (Thing × State) IsDone State (At m s Holds f b (i ∷ done) rest) (Never (Supplied Conf) (machine s) State (Option Typed)) (Never (Supplied Conf) (machine s) State (Option Typed)) (NeverGives (Supplied Conf) (machine s) State (Option Typed)) 0 k c (denote p calls (Expr.call w args) z) (λ x. normal [] x.1)
        (atomic_follows p calls k m apart s Holds f b (machine s) keeps done i rest IsDone c z w args q.function q.site shape q.operands q.words (updating (atomic_operation atomics.Store) (location s g.variable g.target.1) g.operands) (λ words. advanced c.at rest) q.kind q.places q.fit q.same here.stands.answers
        (next c z (atomic atomics.Store) (asks (updating (atomic_operation atomics.Store) (location s g.variable g.target.1) g.operands) (λ words. advanced c.at rest)) here kind (atomic_goes atomics.Store s c.at rest i g.target g.variable g.operands g.pointer_is g.seen_is g.operands_are))
        (λ words more e goes_on. stored words more e goes_on))
        (λ d x holds. inl (record { to = d; comes = stays (Supplied Conf) (machine s) d; holds = holds })))
  ]
    where
      IsDone : Supplied Conf → Thing × State → Type 0
      IsDone d x = At m s Holds f b (i ∷ done) rest d x.1

      by_kind : expressions.CallKind → Run
      by_kind kind = elim kind as (λ kind. Run) [
        | expressions.user ↦ on_got (expressions.arguments p calls args z) (λ x. on_got (calls w x.0 x.1) (λ r. normal [] r.1))
        | expressions.atomic a ↦ on_got (denote p calls (Expr.call w args) z) (λ x. normal [] x.1)
        | expressions.pure f ↦ on_got (denote p calls (Expr.call w args) z) (λ x. normal [] x.1)
        | expressions.barrier e ↦ barrier_run e args z
        | expressions.unknown ↦ stuck []
      ]

      behind : (more : List (List ℕ)) (e : List Event) → machine s c ≡ go e (supplied (advanced c.at rest) more) → At m s Holds f b (i ∷ done) rest (supplied (advanced c.at rest) more) (record z { answers = more })
      behind more e goes_on = record {
        stands = record {
          function = here.stands.function;
          block = here.stands.block;
          agree = answers_in m (have_result (i ∷ done)) (advanced c.at rest) z more (passes_in m apart (have_result done) c.at z rest n off (forgets m apart c.at z rest c.at.top.ids (λ j. inl refl) here.stands.agree.all) here.stands.agree);
          settled = settled_pass s c.at.top (advanced c.at rest).top i done (λ j. refl) (ap has_outcome kind) here.stands.settled;
          holds = keeps c (supplied (advanced c.at rest) more) e refl goes_on here.stands.holds;
          answers = refl;
        };
        next = refl;
      }

      stored : (words : List ℕ) (more : List (List ℕ)) (e : List Event) → machine s c ≡ go e (supplied (advanced c.at rest) more) → IsDone (supplied (advanced c.at rest) more) (found_value shape z words more)
      stored [] more e goes_on = behind more e goes_on
      stored (x ∷ xs) more e goes_on = behind more e goes_on
