-- What is written of each instruction of a block does what it does, by the kind of what is written. What other laws say of its expressions is asked of each kind.
use Rattle.std.proofs.Common.{◌≡◌, ◌⊎◌, ◌++◌, ℕ, Bool, true, false, List, [], ◌∷◌, map, drop, Option, Some, inl, inr, refl, sym, ap, ◌∙◌, subst, if◌then◌else◌}
use Rattle.std.specs.Prelude.{option_map, slice_index}
use Rattle.spv_ops.specs.declared.AtomicOp.{AtomicOp}
use Rattle.spv_ops.specs.declared.AtomicOp.TheVariants as atomics
use Rattle.spv_module.specs.Lists.{id}
use Rattle.spv_module.specs.declared.inst.Inst.{Inst}
use Rattle.spv_module.specs.declared.inst.Function.{Function}
use Rattle.spv_types.specs.Tree.{ValueTree, word}
use Rattle.hoist_plan.specs.declared.form.Form.{Form}
use Rattle.hoist_plan.specs.declared.form.Form.TheVariants.{Gone, Forwarded, Local, Hoisted}
use Rattle.name_alloc.specs.declared.claims.Key.TheVariants.{Id, Captured}
use Rattle.traces.specs.Events.{Event, control_barrier, updating}
use Rattle.traces.specs.Runs.{Supplied}
use Rattle.traces.specs.Outcomes.{Result, got}
use Rattle.traces.specs.Simulation.{Follows}
use Rattle.traces.proofs.Moves.{Never, NeverGives, stays, part_then}
use Rattle.module_semantics.specs.Setting.{Setting}
use Rattle.module_semantics.specs.Memory.{location}
use Rattle.module_semantics.specs.State.{value as holds_value, Conf}
use Rattle.module_semantics.specs.Operands.{word_at, arg}
use Rattle.module_semantics.specs.Steps as steps
use Rattle.module_semantics.specs.Steps.{step_kind, computed, atomic_operation, set_found, set_value as set_result, memory_barriers}
use Rattle.glsl_ast.specs.Tree.{Text, Expr, exprs_in, no_exprs, Stmt, assign, declare, stmts_in, LStep, lvalue}
use Rattle.glsl_semantics.specs.Shapes.{Shape, Typed, typed, same_shape}
use Rattle.glsl_semantics.specs.States.{State, declared, put_in}
use Rattle.glsl_semantics.specs.Expressions.{Program, Argument, type_of, evaluate}
use Rattle.glsl_semantics.specs.Statements.{Run, stmt_run, stmts_run}
use Rattle.text_rules.specs.Declarations.{type_at}
use Rattle.expr_forward.specs.declared.kinds.InstKind.{InstKind}
use Rattle.expr_forward.specs.declared.kinds.InstKind.TheVariants as kind
use Rattle.expr_forward.specs.Scope.{Scope}
use Rattle.expr_forward.specs.Kinds.{kind_of}
use Rattle.expr_forward.specs.Paths.{index_expr, part_steps, place_text, place_expr}
use Rattle.expr_forward.specs.Values.{value, expression}
use Rattle.expr_forward.specs.Statements.{set_by, set, is_void, callee_text, call_arguments, atomic_name, has_result, atomic_arguments, memory_barrier_text, control_barrier_text, capture, captured_of, is_variable_form, inst_text}
use Rattle.agree_law.specs.Agree.{Naming, AreApart, variable_with}
use Rattle.agree_law.specs.Blocks.{outcome, IsNew, At, have_result}
use Rattle.agree_law.specs.Evaluates.{Evaluates, IsKept, Gets}
use Rattle.agree_law.proofs.Accesses.{AreBarriers}
use Rattle.agree_law.proofs.Chains.{IsLed, IsFree, HaveNone, IsNumber, SayIndexes, nowhere, chain_follows}
use Rattle.agree_law.proofs.Evaluating.{assign_follows, declare_follows}
use Rattle.agree_law.proofs.Inserts.{Inserting, insert_assigned, insert_declared}
use Rattle.agree_law.proofs.Instructions.{Reads, Writes, Updates, operation_evaluates, operation_follows, load_evaluates, merge_follows, length_evaluates, length_follows, variable_follows, memory_barrier_follows, control_barrier_follows, store_follows, atomic_evaluates, atomic_store_follows}
use Rattle.agree_law.proofs.Insts.{AllFollow}
use Rattle.agree_law.proofs.Machine.{machine, IsUpdate}
use Rattle.claim_law.proofs.Block.Blocks.{text_of}

-- what is found is the result, where there is one
finds : (a : AtomicOp) → has_result a ≡ true → (c : Conf) (rest : List Inst) (i : Inst) (words : List ℕ) → set_found c rest i a words ≡ set_result c rest i (word (slice_index words 0))
finds atomics.Store on c rest i words = cc
finds a on c rest i words = refl

module _ (p : Program) (calls : Text → List Argument → State → Result (Option Typed × State)) (k : ℕ) (m : Naming) (apart : AreApart m) (s : Setting) (Holds : Conf → Type 0) (f : Function) (b : ℕ) (keeps : IsKept (machine s) Holds) (w : Scope) where
  -- at an instruction, behind those that are done
  module _ (done : List Inst) (i : Inst) (rest : List Inst) where
    abbrev Here : Supplied Conf → State → Type 0
    Here = At m s Holds f b done (i ∷ rest)

    abbrev pub Plain : Supplied Conf → Run → Type 0
    Plain c o = Follows (Supplied Conf) (machine s) State (Option Typed) (At m s Holds f b (i ∷ done) rest) (Never (Supplied Conf) (machine s) State (Option Typed)) (Never (Supplied Conf) (machine s) State (Option Typed)) (NeverGives (Supplied Conf) (machine s) State (Option Typed)) 0 k c o

    abbrev pub Runs : List Stmt → Type 0
    Runs xs = (c : Supplied Conf) (z : State) → Here c z → Plain c (stmts_run p calls k (stmts_in xs) z)

    abbrev pub Comes : Expr → Type 0
    Comes e = (c : Supplied Conf) (z : State) → Here c z → Evaluates (Supplied Conf) (machine s) (Typed × State) (Gets m s Holds f b done i rest) k c (evaluate p calls e z)

    -- its result has the name of its key, and a variable at the top of the function or in the block, by its form
    pub record IsSet : Type 0 where
      pub form : is_variable_form (w.form i.result) ≡ true
      pub named : m.name i.result ≡ w.setting.key (Id (id i.result))
      pub same : same_shape (m.shape i.result) (m.shape i.result) ≡ true
      pub hoisted : w.form i.result ≡ Hoisted → m.is_outer i.result ≡ true
      pub local : w.form i.result ≡ Local → (m.is_local i.result ≡ true) × (type_of p (type_at w.setting.source w.names i.ty) ≡ Some (m.shape i.result))

    -- or it has none
    pub record IsUnset : Type 0 where
      pub form : is_variable_form (w.form i.result) ≡ false
      pub outer : m.is_outer i.result ≡ false
      pub lent : m.is_lent i.result ≡ false
      pub local : m.is_local i.result ≡ false

    -- one statement, and none
    single : (st : Stmt) → ((c : Supplied Conf) (z : State) → Here c z → Plain c (stmt_run p calls k st z)) → Runs (st ∷ [])
    single st does c z here =
        part_then (Supplied Conf) (machine s) State (Option Typed) (At m s Holds f b (i ∷ done) rest) (Never (Supplied Conf) (machine s) State (Option Typed)) (Never (Supplied Conf) (machine s) State (Option Typed)) (NeverGives (Supplied Conf) (machine s) State (Option Typed)) (At m s Holds f b (i ∷ done) rest) 0 0 k c (stmts_run p calls k (stmts_in [])) (stmt_run p calls k st z)
        (does c z here) (λ d y now. inl (record { to = d; comes = stays (Supplied Conf) (machine s) d; holds = now }))

    none_by : (x : Form) (e : Expr) → is_variable_form x ≡ false → set_by w i e x ≡ []
    none_by Gone e off = refl
    none_by Forwarded e off = refl
    none_by Local e off = cc
    none_by Hoisted e off = cc

    -- the result gets the value to which its expression comes
    set_follows : IsSet → (e : Expr) → Comes e → Runs (set w i e)
    set_follows is e comes = by_form (w.form i.result) refl is.form
      where
        by_form : (x : Form) → w.form i.result ≡ x → is_variable_form x ≡ true → Runs (set_by w i e x)
        by_form Hoisted at on = single (assign (lvalue (w.setting.key (Id (id i.result))) []) e) (λ c z here.
            subst (λ (x : Text). Plain c (stmt_run p calls k (assign (lvalue x []) e) z)) is.named
            (assign_follows p calls k m apart s Holds f b (machine s) done i rest c z e (is.hoisted at) is.same here.stands (comes c z here)))
        by_form Local at on =
            let own = is.local at in
            single (declare (type_at w.setting.source w.names i.ty) (w.setting.key (Id (id i.result))) (Some e)) (λ c z here.
            subst (λ (x : Text). Plain c (stmt_run p calls k (declare (type_at w.setting.source w.names i.ty) x (Some e)) z)) is.named
            (declare_follows p calls k m apart s Holds f b (machine s) done i rest c z (type_at w.setting.source w.names i.ty) e own.0 own.1 is.same (comes c z here)))
        by_form Gone at on = cc
        by_form Forwarded at on = cc

    -- a load: what its pointer is written as stands for what it leads to
    pub record AsksLoad : Type 0 where
      pub step : step_kind i.op ≡ steps.load
      pub new : IsNew i done
      pub result : IsSet
      pub reads : (c : Supplied Conf) (z : State) → Here c z → Reads p calls k m apart s Holds f b keeps done i rest c z (place_expr w.setting b (arg i 0))

    load_runs : AsksLoad → Runs (inst_text w b i kind.Load)
    load_runs a = set_follows a.result (place_expr w.setting b (arg i 0)) (λ c z here. load_evaluates p calls k m apart s Holds f b keeps done i rest c z (place_expr w.setting b (arg i 0)) here a.new a.step (a.reads c z here))

    -- a store, by its left side
    pub record AsksStore : Type 0 where
      pub step : step_kind i.op ≡ steps.store
      pub local : m.is_local i.result ≡ false
      pub left : Text
      pub behind : List LStep
      pub place : place_text w.setting b (arg i 0) ≡ lvalue left behind
      pub writes : (c : Supplied Conf) (z : State) → Here c z → Writes p calls k m apart s Holds f b keeps done i rest c z left behind (value w b (arg i 1))

    store_runs : AsksStore → Runs (inst_text w b i kind.Store)
    store_runs a = single (assign (place_text w.setting b (arg i 0)) (value w b (arg i 1))) (λ c z here.
        subst (λ l. Plain c (stmt_run p calls k (assign l (value w b (arg i 1))) z)) (sym a.place)
        (store_follows p calls k m apart s Holds f b keeps done i rest c z a.left a.behind (value w b (arg i 1)) here a.step a.local (a.writes c z here)))

    -- a call, as a statement, or as the expression of its result
    pub record AsksCall : Type 0 where
      pub statement : is_void w i.ty ≡ true → (c : Supplied Conf) (z : State) → Here c z → Plain c (stmt_run p calls k (Stmt.call (callee_text w i) (exprs_in (call_arguments w b i))) z)
      pub result : is_void w i.ty ≡ false → IsSet
      pub comes : is_void w i.ty ≡ false → Comes (Expr.call (callee_text w i) (exprs_in (call_arguments w b i)))

    call_runs : AsksCall → Runs (inst_text w b i kind.Call)
    call_runs a = by_void (is_void w i.ty) refl
      where
        by_void : (t : Bool) → is_void w i.ty ≡ t → Runs (if t then Stmt.call (callee_text w i) (exprs_in (call_arguments w b i)) ∷ [] else set w i (Expr.call (callee_text w i) (exprs_in (call_arguments w b i))))
        by_void true on = single (Stmt.call (callee_text w i) (exprs_in (call_arguments w b i))) (a.statement on)
        by_void false off = set_follows (a.result off) (Expr.call (callee_text w i) (exprs_in (call_arguments w b i))) (a.comes off)

    -- an atomic instruction: its function makes the same access
    abbrev pub AsksAccess : AtomicOp → Shape → Type 0
    AsksAccess o u = (c : Supplied Conf) (z : State) → Here c z → (g : IsUpdate o s c.at rest i)
        → Updates p calls k m apart s Holds f b keeps done i rest o z (atomic_name o) (exprs_in (atomic_arguments w b i o)) u (updating (atomic_operation o) (location s g.variable g.target.1) g.operands)

    pub record AsksAtomic (o : AtomicOp) : Type 0 where
      pub step : step_kind i.op ≡ steps.atomic o
      pub new : has_result o ≡ true → IsNew i done
      pub result : has_result o ≡ true → IsSet
      pub finds_it : has_result o ≡ true → AsksAccess o (m.shape i.result)
      pub local : has_result o ≡ false → m.is_local i.result ≡ false
      pub shape : Shape
      pub stores_it : has_result o ≡ false → AsksAccess o shape

    atomic_runs : (o : AtomicOp) → AsksAtomic o → Runs (inst_text w b i (kind.Atomic o))
    atomic_runs atomics.Store a = single (Stmt.call (atomic_name atomics.Store) (exprs_in (atomic_arguments w b i atomics.Store))) (λ c z here.
        atomic_store_follows p calls k m apart s Holds f b keeps done i rest c z (atomic_name atomics.Store) (exprs_in (atomic_arguments w b i atomics.Store)) a.shape here a.step (a.local refl) (a.stores_it refl c z here))
    atomic_runs o a = set_follows (a.result refl) (Expr.call (atomic_name o) (exprs_in (atomic_arguments w b i o))) (λ c z here.
        atomic_evaluates p calls k m apart s Holds f b keeps done i rest o c z (atomic_name o) (exprs_in (atomic_arguments w b i o)) here (a.new refl) a.step (finds o refl c.at rest i) (a.finds_it refl c z here))

    -- barriers: a call for each event
    pub record AsksBarriers (step : steps.StepKind) (semantics : ℕ) (xs : List Stmt) (events : ℕ → List Event) : Type 0 where
      pub is : step_kind i.op ≡ step
      pub local : m.is_local i.result ≡ false
      pub made : List (Text × Event)
      pub text : xs ≡ map (λ (q : Text × Event). Stmt.call q.0 no_exprs) made
      pub are : AreBarriers p calls k m apart s Holds f b (machine s) keeps done i rest made
      pub say : (c : Supplied Conf) (z : State) → Here c z → (v : ℕ) → word_at s c.at.top semantics ≡ Some v → map (λ (q : Text × Event). q.1) made ≡ events v

    abbrev pub AsksMemoryBarrier : Type 0
    AsksMemoryBarrier = AsksBarriers steps.memory_barrier (arg i 1) (memory_barrier_text w i) memory_barriers

    abbrev pub AsksControlBarrier : Type 0
    AsksControlBarrier = AsksBarriers steps.control_barrier (arg i 2) (control_barrier_text w i) (λ v. memory_barriers v ++ control_barrier ∷ [])

    memory_barrier_runs : AsksMemoryBarrier → Runs (inst_text w b i kind.MemoryBarrier)
    memory_barrier_runs a c z here = subst (λ xs. Plain c (stmts_run p calls k (stmts_in xs) z)) (sym a.text) (memory_barrier_follows p calls k m apart s Holds f b keeps done i rest c z a.made here a.is a.local a.are (a.say c z here))

    control_barrier_runs : AsksControlBarrier → Runs (inst_text w b i kind.ControlBarrier)
    control_barrier_runs a c z here = subst (λ xs. Plain c (stmts_run p calls k (stmts_in xs) z)) (sym a.text) (control_barrier_follows p calls k m apart s Holds f b keeps done i rest c z a.made here a.is a.local a.are (a.say c z here))

    -- a chain: the indexes that are kept, with their numbers
    abbrev pub kept_exprs : List (ℕ × ℕ) → List (ℕ × Expr)
    kept_exprs ns = map (λ (n : ℕ × ℕ). (n.0, index_expr w.setting n.1)) ns

    pub record AsksChain : Type 0 where
      pub step : step_kind i.op ≡ steps.chain
      pub new : IsNew i done
      pub free : IsFree f i done
      pub none : HaveNone p calls k m apart s Holds f b keeps done i rest f
      pub unset : IsUnset
      pub named : (j : ℕ) → m.index_name i.result j ≡ w.setting.key (Captured (id i.result) j)
      pub all : (j : ℕ) → m.is_kept i.result j ≡ true → IsNumber p calls k m apart (have_result done) i.result j (kept_exprs (captured_of w i))
      pub says : (c : Supplied Conf) (z : State) → Here c z → (g : IsLed s c.at rest i)
          → SayIndexes p calls k m apart (have_result done) i.result (nowhere p calls k m apart s Holds f b keeps done i rest c.at) (λ j. m.index_in i.result j (g.from.1 ++ g.indexes)) (kept_exprs (captured_of w i))

    captures_are : ((j : ℕ) → m.index_name i.result j ≡ w.setting.key (Captured (id i.result) j)) → (ns : List (ℕ × ℕ)) → map (λ (c : ℕ × Expr). assign (lvalue (m.index_name i.result c.0) []) c.1) (kept_exprs ns) ≡ map (capture w i) ns
    captures_are named [] = refl
    captures_are named (n ∷ ns) =
        ap (λ (x : Text). assign (lvalue x []) (index_expr w.setting n.1) ∷ map (λ (c : ℕ × Expr). assign (lvalue (m.index_name i.result c.0) []) c.1) (kept_exprs ns)) (named n.0)
        ∙ ap (λ (l : List Stmt). capture w i n ∷ l) (captures_are named ns)

    chain_runs : AsksChain → Runs (inst_text w b i kind.Chain)
    chain_runs a c z here =
        subst (λ (xs : List Stmt). Plain c (stmts_run p calls k (stmts_in xs) z)) (captures_are a.named (captured_of w i))
        (chain_follows p calls k m apart s Holds f b keeps done i rest c z (kept_exprs (captured_of w i)) here.stands here.next a.step a.new (subst (λ g. IsFree g i done) (sym here.stands.function) a.free) (subst (HaveNone p calls k m apart s Holds f b keeps done i rest) (sym here.stands.function) a.none)
        a.unset.outer a.unset.local a.unset.lent a.all (a.says c z here))

    -- a composite or a vector with another part: a copy, and the part assigned to
    abbrev pub Inserts : ℕ → List LStep → ℕ → (State → ValueTree → State) → Type 0
    Inserts whole behind object copied = (c : Supplied Conf) (z : State) → Here c z → (v : ValueTree) → computed s c.at.top i ≡ Some v → Inserting p calls k m apart s Holds f b keeps done i rest z (value w b whole) behind (value w b object) v (copied z)

    pub record AsksInsert (whole : ℕ) (behind : List LStep) (object : ℕ) : Type 0 where
      pub step : step_kind i.op ≡ steps.operation
      pub new : IsNew i done
      pub result : is_variable_form (w.form i.result) ≡ true → IsSet
      pub unset : is_variable_form (w.form i.result) ≡ false → IsUnset
      pub assigned : w.form i.result ≡ Hoisted → Inserts whole behind object (λ z u. record z { frames = put_in z.frames (m.name i.result) u })
      pub declared_so : w.form i.result ≡ Local → Inserts whole behind object (λ z u. record z { frames = declared z.frames (m.name i.result) (variable_with (m.shape i.result) (Some u)) })

    insert_runs : (whole : ℕ) (behind : List LStep) (object : ℕ) → AsksInsert whole behind object
        → Runs (if is_variable_form (w.form i.result) then set w i (value w b whole) ++ (assign (lvalue (w.setting.key (Id (id i.result))) behind) (value w b object) ∷ []) else [])
    insert_runs whole behind object a = by_form (w.form i.result) refl
      where
        assign_text : Text → List Stmt
        assign_text x = assign (lvalue x []) (value w b whole) ∷ assign (lvalue x behind) (value w b object) ∷ []

        declare_text : Text → List Stmt
        declare_text x = declare (type_at w.setting.source w.names i.ty) x (Some (value w b whole)) ∷ assign (lvalue x behind) (value w b object) ∷ []

        nothing : is_variable_form (w.form i.result) ≡ false → Runs []
        nothing off c z here = let u = a.unset off in operation_follows p calls k m apart s Holds f b keeps done i rest c z here a.new a.step u.outer u.lent u.local

        by_form : (x : Form) → w.form i.result ≡ x → Runs (if is_variable_form x then set_by w i (value w b whole) x ++ (assign (lvalue (w.setting.key (Id (id i.result))) behind) (value w b object) ∷ []) else [])
        by_form Hoisted at c z here =
            let is = a.result (ap is_variable_form at) in
            subst (λ (x : Text). Plain c (stmts_run p calls k (stmts_in (assign_text x)) z)) is.named
            (insert_assigned p calls k m apart s Holds f b keeps done i rest c z (value w b whole) (value w b object) behind here a.new a.step (is.hoisted at) is.same (a.assigned at c z here))
        by_form Local at c z here =
            let is = a.result (ap is_variable_form at) in
            let own = is.local at in
            subst (λ (x : Text). Plain c (stmts_run p calls k (stmts_in (declare_text x)) z)) is.named
            (insert_declared p calls k m apart s Holds f b keeps done i rest c z (type_at w.setting.source w.names i.ty) (value w b whole) (value w b object) behind here a.new a.step own.0 own.1 is.same (a.declared_so at c z here))
        by_form Gone at c z here = nothing (ap is_variable_form at) c z here
        by_form Forwarded at c z here = nothing (ap is_variable_form at) c z here

    -- an operation, or the length of an array: its expression says what it has; without a variable nothing is written
    pub record AsksValue : Type 0 where
      pub step : (step_kind i.op ≡ steps.operation) ⊎ (step_kind i.op ≡ steps.array_length)
      pub new : IsNew i done
      pub result : is_variable_form (w.form i.result) ≡ true → IsSet
      pub unset : is_variable_form (w.form i.result) ≡ false → IsUnset
      pub says : is_variable_form (w.form i.result) ≡ true → (c : Supplied Conf) (z : State) → Here c z → (v : ValueTree) → outcome (step_kind i.op) s c.at.top i ≡ Some (holds_value v) → evaluate p calls (expression w (value w b) b i) z ≡ got [] (typed (m.shape i.result) v, z)

    value_runs : AsksValue → Runs (set w i (expression w (value w b) b i))
    value_runs a = by_test (is_variable_form (w.form i.result)) refl
      where
        e : Expr
        e = expression w (value w b) b i

        comes : is_variable_form (w.form i.result) ≡ true → (step_kind i.op ≡ steps.operation) ⊎ (step_kind i.op ≡ steps.array_length) → Comes e
        comes on (inl step) c z here = operation_evaluates p calls k m apart s Holds f b keeps done i rest c z e here a.new step (λ v is. a.says on c z here v (ap (λ q. outcome q s c.at.top i) step ∙ ap (option_map holds_value) is))
        comes on (inr step) c z here = length_evaluates p calls k m apart s Holds f b keeps done i rest c z e here a.new step (λ v is. a.says on c z here (word v) (ap (λ q. outcome q s c.at.top i) step ∙ is))

        nothing : is_variable_form (w.form i.result) ≡ false → (step_kind i.op ≡ steps.operation) ⊎ (step_kind i.op ≡ steps.array_length) → Runs []
        nothing off (inl step) c z here = let u = a.unset off in operation_follows p calls k m apart s Holds f b keeps done i rest c z here a.new step u.outer u.lent u.local
        nothing off (inr step) c z here = let u = a.unset off in length_follows p calls k m apart s Holds f b keeps done i rest c z here a.new step u.outer u.lent u.local

        by_test : (t : Bool) → is_variable_form (w.form i.result) ≡ t → Runs (set w i e)
        by_test true on = set_follows (a.result on) e (comes on a.step)
        by_test false off = subst Runs (sym (none_by (w.form i.result) e off)) (nothing off a.step)

    -- nothing is written of variables and of merge instructions
    pub record AsksVariable : Type 0 where
      pub step : step_kind i.op ≡ steps.variable
      pub new : IsNew i done
      pub unset : IsUnset
      pub kept : (j : ℕ) → m.is_kept i.result j ≡ false

    pub record AsksMerge : Type 0 where
      pub step : step_kind i.op ≡ steps.merge
      pub local : m.is_local i.result ≡ false

    silent_runs : AsksVariable ⊎ AsksMerge → Runs []
    silent_runs (inl a) c z here = variable_follows p calls k m apart s Holds f b keeps done i rest c z here a.new a.step a.unset.outer a.unset.lent a.unset.local a.kept
    silent_runs (inr a) c z here = merge_follows p calls k m apart s Holds f b keeps done i rest c z here a.step a.local

    -- what is asked of an instruction, by what is written of it
    abbrev pub Asks : InstKind → Type 0
    Asks kind.Load = AsksLoad
    Asks kind.Store = AsksStore
    Asks kind.Call = AsksCall
    Asks (kind.Atomic o) = AsksAtomic o
    Asks kind.ControlBarrier = AsksControlBarrier
    Asks kind.MemoryBarrier = AsksMemoryBarrier
    Asks kind.Chain = AsksChain
    Asks kind.CompositeInsert = AsksInsert (arg i 1) (part_steps w.setting i.ty (drop 2 i.args)) (arg i 0)
    Asks kind.VectorInsertDynamic = AsksInsert (arg i 0) (LStep.index (value w b (arg i 2)) ∷ []) (arg i 1)
    Asks (kind.Value o) = AsksValue
    Asks kind.Silent = AsksVariable ⊎ AsksMerge

    inst_runs : (q : InstKind) → Asks q → Runs (inst_text w b i q)
    inst_runs kind.Load a = load_runs a
    inst_runs kind.Store a = store_runs a
    inst_runs kind.Call a = call_runs a
    inst_runs (kind.Atomic o) a = atomic_runs o a
    inst_runs kind.ControlBarrier a = control_barrier_runs a
    inst_runs kind.MemoryBarrier a = memory_barrier_runs a
    inst_runs kind.Chain a = chain_runs a
    inst_runs kind.CompositeInsert a = insert_runs (arg i 1) (part_steps w.setting i.ty (drop 2 i.args)) (arg i 0) a
    inst_runs kind.VectorInsertDynamic a = insert_runs (arg i 0) (LStep.index (value w b (arg i 2)) ∷ []) (arg i 1) a
    inst_runs (kind.Value o) a = value_runs a
    inst_runs kind.Silent a = silent_runs a

  -- and so of the instructions of a block, one by one
  abbrev pub AllAsk : List Inst → List Inst → List Inst → Type 0
  AllAsk done [] last = Unit {0}
  AllAsk done (i ∷ is) last = Asks done i (is ++ last) (kind_of i.op) × AllAsk (i ∷ done) is last

  pub all_follow : (done is last : List Inst) → AllAsk done is last → AllFollow p calls k m s Holds f (machine s) (text_of w b) b done is last
  all_follow done [] last all = tt
  all_follow done (i ∷ is) last all = (inst_runs done i (is ++ last) (kind_of i.op) all.0, all_follow (i ∷ done) is last all.1)
