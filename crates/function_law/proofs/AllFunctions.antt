-- A call of a function in a text does what the call in the module does, where the function's text does what its blocks do; and so, from the functions that call none on, does each function of a text, where what is written of it is known given the functions before it.
use Rattle.std.proofs.Common.{◌≡◌, ◌≢◌, ◌⊎◌, ◌++◌, ℕ, Bool, true, false, List, [], ◌∷◌, map, drop, length, Option, Some, None, inl, inr, refl, sym, ap, ◌∙◌, subst}
use Rattle.spv_module.specs.declared.inst.Inst.{Inst}
use Rattle.spv_module.specs.declared.inst.Function.{Function}
use Rattle.op_semantics.specs.Component.{each_one}
use Rattle.profile_rules.specs.Entry.{function_of}
use Rattle.traces.specs.Runs.{Supplied, supplied}
use Rattle.traces.specs.Outcomes.{Result, got}
use Rattle.traces.specs.Simulation.{Follows}
use Rattle.traces.proofs.Moves.{Never, NeverGives, fails_now}
use Rattle.module_semantics.specs.Setting.{Setting}
use Rattle.module_semantics.specs.State as module_state
use Rattle.module_semantics.specs.State.{Held, Conf}
use Rattle.module_semantics.specs.Operands.{held, arg}
use Rattle.module_semantics.specs.Steps.{call, step_kind, passed, argument_of, called}
use Rattle.glsl_ast.specs.Tree.{Text, Expr, Exprs, Stmt, stmts_in, Decl}
use Rattle.glsl_semantics.specs.Shapes.{Shape, Typed, same_shape}
use Rattle.glsl_semantics.specs.States.{State}
use Rattle.glsl_semantics.specs.Expressions.{Program, Argument, user, call_kind, arguments, evaluate}
use Rattle.glsl_semantics.specs.Statements.{stmt_run, stmts_run}
use Rattle.glsl_semantics.specs.Run.{function_run, calls_of}
use Rattle.region_law.proofs.Flags.{own_text, other_text}
use Rattle.agree_law.specs.Agree.{Naming, AreApart}
use Rattle.agree_law.specs.Blocks.{IsNew, At}
use Rattle.agree_law.specs.Evaluates.{Evaluates, IsKept, Gets}
use Rattle.agree_law.specs.Points.{Returns}
use Rattle.agree_law.proofs.Machine.{machine}
use Rattle.agree_law.proofs.Calling.{GoesBack, call_follows}
use Rattle.agree_law.proofs.Called.{GivesValue, GivesNothing, call_evaluates, call_done}
use Rattle.call_law.proofs.LeftBehind.{waiting}
use Rattle.function_law.specs.UnderWay.{IsUnderWay, IsRuled}
use Rattle.function_law.specs.Passed.{NamesMemory, ShareNames, ArePassed, parameter_frame}
use Rattle.function_law.specs.Texts.{FunctionText, decl_of, IsText, IsNoName, AreOnceNames, IsFine}
use Rattle.function_law.proofs.UnderWay.{way_kept}
use Rattle.function_law.proofs.Beginning.{Got, InCall, goes_into, goes_wrong, way_begins}
use Rattle.function_law.proofs.Returned.{IsCalling, whole, comes_back, comes_back_with}
use Rattle.function_law.proofs.Entering.{call_enters, parameters_are}
use Rattle.function_law.proofs.OneFunction.{IsWritten, function_follows}

abbrev Calls : Type 0
Calls = Text → List Argument → State → Result (Option Typed × State)

module _ (p : Program) (k : ℕ) (s : Setting) (More : Conf → Type 0) (ruled : IsRuled s More) where
  -- A call by the function's name runs its text, of which it is known that it does what its blocks do.
  pub record IsRun (calls : Text → List Argument → State → Result (Option Typed × State)) (t : FunctionText) : Type 1 where
    pub later : Text → List Argument → State → Result (Option Typed × State)
    pub IsFlag : Text → Type 0
    pub runs : (as' : List Argument) (z : State) → calls t.name as' z ≡ function_run p k later t.result t.parameters (stmts_in t.statements) as' z
    pub written : IsWritten p later k s More ruled t.naming t.function IsFlag t.statements

  -- in a function, at an instruction
  module _ (calls : Text → List Argument → State → Result (Option Typed × State)) (m : Naming) (apart : AreApart m) (IsLent : ℕ → ℕ → Type 0) (start : List (module_state.Frame × ℕ)) (f : Function) (given : ℕ → Option Held) (b : ℕ) (done : List Inst) (i : Inst) (rest : List Inst) (t : FunctionText) (fine : IsFine p t) (run : IsRun calls t) where
    abbrev g : Function
    g = t.function

    abbrev Holds : Conf → Type 0
    Holds = IsUnderWay s More IsLent start f given

    abbrev keeps : IsKept (machine s) Holds
    keeps = way_kept s More ruled IsLent start f given

    abbrev Nothing : Supplied Conf → Option Typed × State → Type 0
    Nothing = GivesNothing p calls k m apart s Holds f b keeps done i rest

    abbrev Value : Supplied Conf → Option Typed × State → Type 0
    Value = GivesValue p calls k m apart s Holds f b keeps done i rest

    -- What is asked of a call's text: its arguments say what those of the module have.
    pub record IsCallOf (args : Exprs) : Type 0 where
      pub kind : step_kind i.op ≡ call
      pub function : function_of s.of.functions (arg i 0) ≡ Some g
      pub user_kind : call_kind p t.name ≡ user
      pub names : NamesMemory m f
      pub share : ShareNames m t.naming
      pub shapes : (n : ℕ) → (m.is_variable n ≡ true) ⊎ (m.is_lent n ≡ true) → same_shape (m.shape n) (m.shape n) ≡ true
      pub say : (c : Supplied Conf) (z : State) → At m s Holds f b done (i ∷ rest) c z → (hs : List Held) → each_one (held s c.at.top) (drop 1 i.args) ≡ Some hs
          → (as' : List Argument) × (arguments p calls args z ≡ got [] (as', z)) × ArePassed m t.naming c.at g.params (drop 1 i.args) hs t.parameters as'

    abbrev Calling : Supplied Conf → State → List Held → List Argument → Type 0
    Calling c z hs as' = IsCalling p calls k m t.naming apart s More ruled IsLent start f given b done i rest g run.written.body c z hs t.parameters as'

    calling_of : (args : Exprs) → IsCallOf args → (c : Supplied Conf) (z : State) → At m s Holds f b done (i ∷ rest) c z → (hs : List Held) → each_one (held s c.at.top) (drop 1 i.args) ≡ Some hs → (as' : List Argument) → ArePassed m t.naming c.at g.params (drop 1 i.args) hs t.parameters as' → Calling c z hs as'
    calling_of args is c z at hs have as' passes = record { stands = at.stands; next = at.next; kind = is.kind; function = is.function; have = have; passes = passes; names = is.names; share = is.share; shapes = is.shapes; once = fine.once }

    module _ (c : Supplied Conf) (z : State) (hs : List Held) (as' : List Argument) (calling : Calling c z hs as') where
      abbrev Inside : Conf → Type 0
      Inside = InCall s More ruled c.at rest i g hs

      abbrev Back : Supplied Conf → Option Typed → State → Type 0
      Back = Returns t.naming s Inside g run.written.body

      abbrev there : Supplied Conf
      there = supplied (called s c.at rest i g hs) c.answers

      body_runs : Follows (Supplied Conf) (machine s) State (Option Typed) (Never (Supplied Conf) (machine s) State (Option Typed)) (Never (Supplied Conf) (machine s) State (Option Typed)) (Never (Supplied Conf) (machine s) State (Option Typed)) Back 0 k there (stmts_run p run.later k (stmts_in t.statements) (record z { frames = parameter_frame t.parameters as' ∷ [] }))
      body_runs = function_follows p run.later k s More ruled t.naming g run.IsFlag t.statements run.written (Got s More ruled c.at hs) (waiting c.at rest i) (argument_of g.params (map (passed (length c.at.below)) hs)) (map (passed (length c.at.below)) hs) (parameter_frame t.parameters as') there z
          (call_enters m t.naming fine.apart s c.at rest i g hs (drop 1 i.args) t.parameters as' z c.answers (whole p calls k m t.naming apart s More ruled IsLent start f given b done i rest g run.written.body c z hs t.parameters as' calling) calling.passes run.written.names calling.share calling.stands.agree.all calling.stands.answers)
          (way_begins s More ruled c rest i g hs (goes_into s c rest i g hs calling.next calling.kind calling.function calling.have) calling.stands.holds.known)

      back_as : (P : Supplied Conf → Option Typed × State → Type 0) (u : Option Shape) (d : Supplied Conf) (r : Option Typed) (y : State) → GoesBack (Supplied Conf) (machine s) p calls k P Back z u t.parameters as' d r y → GoesBack (Supplied Conf) (machine s) p run.later k P Back z u t.parameters as' d r y
      back_as P u d r y goes = record { result = goes.result; to = goes.to; goes_on = goes.goes_on; after = goes.after; back = goes.back; holds = goes.holds }

      -- of a function without a result, and of one with one
      nothing_runs : t.naming.result ≡ None → m.is_local i.result ≡ false → Evaluates (Supplied Conf) (machine s) (Option Typed × State) Nothing k c (calls t.name as' z)
      nothing_runs none off = subst (Evaluates (Supplied Conf) (machine s) (Option Typed × State) Nothing k c) (sym (run.runs as' z))
          (call_follows (Supplied Conf) (machine s) p run.later k Nothing Back z None t.parameters as' c there t.result (stmts_in t.statements) (parameter_frame t.parameters as') (goes_into s c rest i g hs calling.next calling.kind calling.function calling.have) (fine.shape ∙ ap (λ o. Some o) none)
          (parameters_are m t.naming fine.apart s c.at rest i g hs p g.params (drop 1 i.args) hs t.parameters as' (whole p calls k m t.naming apart s More ruled IsLent start f given b done i rest g run.written.body c z hs t.parameters as' calling) calling.passes fine.typed) body_runs
          (λ x r y at. back_as Nothing None x r y (comes_back p calls k m t.naming apart s More ruled IsLent start f given b done i rest g run.written.body c z hs t.parameters as' calling x r y none off at)))

      value_runs : t.naming.result ≡ Some (m.shape i.result) → same_shape (m.shape i.result) (m.shape i.result) ≡ true → IsNew i done → Evaluates (Supplied Conf) (machine s) (Option Typed × State) Value k c (calls t.name as' z)
      value_runs result same new = subst (Evaluates (Supplied Conf) (machine s) (Option Typed × State) Value k c) (sym (run.runs as' z))
          (call_follows (Supplied Conf) (machine s) p run.later k Value Back z (Some (m.shape i.result)) t.parameters as' c there t.result (stmts_in t.statements) (parameter_frame t.parameters as') (goes_into s c rest i g hs calling.next calling.kind calling.function calling.have) (fine.shape ∙ ap (λ o. Some o) result)
          (parameters_are m t.naming fine.apart s c.at rest i g hs p g.params (drop 1 i.args) hs t.parameters as' (whole p calls k m t.naming apart s More ruled IsLent start f given b done i rest g run.written.body c z hs t.parameters as' calling) calling.passes fine.typed) body_runs
          (λ x r y at. back_as Value (Some (m.shape i.result)) x r y (comes_back_with p calls k m t.naming apart s More ruled IsLent start f given b done i rest g run.written.body c z hs t.parameters as' calling x r y result same new at)))

    -- as a statement
    pub call_statement : (args : Exprs) → IsCallOf args → t.naming.result ≡ None → m.is_local i.result ≡ false → (c : Supplied Conf) (z : State) → At m s Holds f b done (i ∷ rest) c z
        → Follows (Supplied Conf) (machine s) State (Option Typed) (At m s Holds f b (i ∷ done) rest) (Never (Supplied Conf) (machine s) State (Option Typed)) (Never (Supplied Conf) (machine s) State (Option Typed)) (NeverGives (Supplied Conf) (machine s) State (Option Typed)) 0 k c (stmt_run p calls k (Stmt.call t.name args) z)
    call_statement args is none off c z at = by_arguments (each_one (held s c.at.top) (drop 1 i.args)) refl
      where
        by_arguments : (o : Option (List Held)) → each_one (held s c.at.top) (drop 1 i.args) ≡ o
            → Follows (Supplied Conf) (machine s) State (Option Typed) (At m s Holds f b (i ∷ done) rest) (Never (Supplied Conf) (machine s) State (Option Typed)) (Never (Supplied Conf) (machine s) State (Option Typed)) (NeverGives (Supplied Conf) (machine s) State (Option Typed)) 0 k c (stmt_run p calls k (Stmt.call t.name args) z)
        by_arguments None have = inr (fails_now (Supplied Conf) (machine s) c _ (goes_wrong s c rest i g at.next is.kind is.function have))
        by_arguments (Some hs) have =
            let as' = is.say c z at hs have in
            call_done p calls k m apart s Holds f b keeps done i rest c z t.name args as'.0 is.user_kind as'.1 (nothing_runs c z hs as'.0 (calling_of args is c z at hs have as'.0 as'.2) none off)

    -- as the expression of its result
    pub call_expression : (args : Exprs) → IsCallOf args → t.naming.result ≡ Some (m.shape i.result) → same_shape (m.shape i.result) (m.shape i.result) ≡ true → IsNew i done → (c : Supplied Conf) (z : State) → At m s Holds f b done (i ∷ rest) c z
        → Evaluates (Supplied Conf) (machine s) (Typed × State) (Gets m s Holds f b done i rest) k c (evaluate p calls (Expr.call t.name args) z)
    call_expression args is result same new c z at = by_arguments (each_one (held s c.at.top) (drop 1 i.args)) refl
      where
        by_arguments : (o : Option (List Held)) → each_one (held s c.at.top) (drop 1 i.args) ≡ o → Evaluates (Supplied Conf) (machine s) (Typed × State) (Gets m s Holds f b done i rest) k c (evaluate p calls (Expr.call t.name args) z)
        by_arguments None have = inr (fails_now (Supplied Conf) (machine s) c _ (goes_wrong s c rest i g at.next is.kind is.function have))
        by_arguments (Some hs) have =
            let as' = is.say c z at hs have in
            call_evaluates p calls k m apart s Holds f b keeps done i rest c z t.name args as'.0 is.user_kind as'.1 (value_runs c z hs as'.0 (calling_of args is c z at hs have as'.0 as'.2) result same new)

  -- What is written of each function is known where those that stand before it run; the last one first, and others behind them.
  module _ (others : List Decl) where
    abbrev pub in_text : List FunctionText → Text → List Argument → State → Result (Option Typed × State)
    in_text ts = calls_of p k (map decl_of ts ++ others)

    pub record IsKnownText (ts : List FunctionText) (t : FunctionText) : Type 1 where
      pub IsFlag : Text → Type 0
      pub written : ((u : FunctionText) → IsText u ts → IsRun (in_text ts) u) → IsWritten p (in_text ts) k s More ruled t.naming t.function IsFlag t.statements

    abbrev pub AllKnown : List FunctionText → Type 1
    AllKnown [] = Unit {1}
    AllKnown (t ∷ ts) = IsKnownText ts t × AllKnown ts

    first_runs : (t : FunctionText) (ts : List FunctionText) (as' : List Argument) (z : State) → in_text (t ∷ ts) t.name as' z ≡ function_run p k (in_text ts) t.result t.parameters (stmts_in t.statements) as' z
    first_runs t ts as' z = ap (λ (b : Bool). elim b as (λ b. Result (Option Typed × State)) [ true ↦ function_run p k (in_text ts) t.result t.parameters (stmts_in t.statements) as' z | false ↦ in_text ts t.name as' z ]) (own_text t.name)

    other_runs : (u : FunctionText) (ts : List FunctionText) (x : Text) (as' : List Argument) (z : State) → u.name ≢ x → in_text (u ∷ ts) x as' z ≡ in_text ts x as' z
    other_runs u ts x as' z ne = ap (λ (b : Bool). elim b as (λ b. Result (Option Typed × State)) [ true ↦ function_run p k (in_text ts) u.result u.parameters (stmts_in u.statements) as' z | false ↦ in_text ts x as' z ]) (other_text u.name x ne)

    no_name : (x : Text) (t : FunctionText) (ts : List FunctionText) → IsText t ts → IsNoName x ts → x ≢ t.name
    no_name x t [] is none = absurd is
    no_name x t (u ∷ us) (inl same) none = λ one. none.0 (ap (λ (q : FunctionText). q.name) same ∙ sym one)
    no_name x t (u ∷ us) (inr is) none = no_name x t us is none.1

    -- so each of them runs
    pub all_run : (ts : List FunctionText) → AreOnceNames ts → AllKnown ts → (t : FunctionText) → IsText t ts → IsRun (in_text ts) t
    all_run [] once known t is = absurd is
    all_run (u ∷ ts) once known t (inl same) = subst (IsRun (in_text (u ∷ ts))) same (record {
      later = in_text ts;
      IsFlag = known.0.IsFlag;
      runs = first_runs u ts;
      written = known.0.written (λ v is. all_run ts once.1 known.1 v is);
    })
    all_run (u ∷ ts) once known t (inr is) =
        let r : IsRun (in_text ts) t = all_run ts once.1 known.1 t is in
        record {
          later = r.later;
          IsFlag = r.IsFlag;
          runs = λ as' z. other_runs u ts t.name as' z (no_name u.name t ts is once.0) ∙ r.runs as' z;
          written = r.written;
        }
