-- What loads, stores, atomic instructions and calls are asked, from how pointers are written in the block, where chains lead, and what arguments say.
use Rattle.std.proofs.Common.{◌≡◌, ◌++◌, ℕ, true, false, List, [], ◌∷◌, Option, Some, None, refl, sym, ap, subst, unwrap_or}
use Rattle.spv_ops.specs.declared.AtomicOp.{AtomicOp}
use Rattle.spv_module.specs.declared.inst.Inst.{Inst}
use Rattle.spv_module.specs.declared.inst.Function.{Function}
use Rattle.spv_types.specs.Tree.{Tree, ValueTree}
use Rattle.profile_rules.specs.declared.given.Given.{Given}
use Rattle.name_alloc.specs.declared.claims.Key.{Key}
use Rattle.access_paths.specs.Ways.{path}
use Rattle.traces.specs.Events.{updating}
use Rattle.traces.specs.Runs.{Supplied}
use Rattle.traces.specs.Outcomes.{Result, got}
use Rattle.spv_index.specs.Pointers.{pointee_of}
use Rattle.module_semantics.specs.Setting.{Setting}
use Rattle.module_semantics.specs.Memory.{location}
use Rattle.module_semantics.specs.State.{Root, Held, Frame, Conf}
use Rattle.module_semantics.specs.Operands.{pointer_at, value_at, arg}
use Rattle.module_semantics.specs.Steps as steps
use Rattle.module_semantics.specs.Steps.{step_kind, atomic_operation}
use Rattle.glsl_ast.specs.Tree.{Text, Expr, exprs_in, Stmt}
use Rattle.glsl_semantics.specs.Shapes.{Shape, Typed, typed, same_shape}
use Rattle.glsl_semantics.specs.States.{State}
use Rattle.glsl_semantics.specs.Expressions.{Program, Argument, evaluate}
use Rattle.glsl_semantics.specs.Statements.{stmt_run}
use Rattle.expr_forward.specs.Scope as scope
use Rattle.expr_forward.specs.Scope.{Scope}
use Rattle.expr_forward.specs.Paths.{base_text, steps_text, place_text, place_expr}
use Rattle.expr_forward.specs.Values.{value}
use Rattle.expr_forward.specs.Statements.{is_void, callee_text, call_arguments, atomic_name, has_result, comparator, atomic_operand}
use Rattle.type_law.specs.Shaped.{AreConstants}
use Rattle.agree_law.specs.Agree.{Naming, AreApart}
use Rattle.agree_law.specs.Blocks.{IsNew, At, Stands}
use Rattle.agree_law.specs.Evaluates.{IsKept}
use Rattle.agree_law.proofs.Instructions.{Reads, Updates}
use Rattle.agree_law.proofs.Machine.{machine, IsUpdate}
use Rattle.call_law.specs.Known.{is_parameter, LendsWhole}
use Rattle.global_law.specs.Parts.{shape_in, IsInput}
use Rattle.global_law.specs.Walks.{writing, struct_names}
use Rattle.global_law.specs.Chains.{AreLed, ChainsAreRight}
use Rattle.global_law.proofs.Path.Accesses.{PointsTo, SaysOperands}
use Rattle.global_law.proofs.Path.Asked.{IsWrittenSo, load_met, store_met, atomic_met}
use Rattle.function_law.specs.UnderWay.{IsUnderWay, IsRuled}
use Rattle.function_law.specs.Texts.{FunctionText, IsFine}
use Rattle.function_law.proofs.UnderWay.{way_kept}
use Rattle.function_law.proofs.AllFunctions.{IsRun, call_statement, call_expression}
use Rattle.function_law.proofs.CallsSaid.{IsCallText, call_text}
use Rattle.text_law.proofs.Naming.Insts.{Plain, Comes, IsSet, AsksLoad, AsksStore, AsksCall, AsksAccess, AsksAtomic}

module _ (p : Program) (calls : Text → List Argument → State → Result (Option Typed × State)) (k : ℕ) (m : Naming) (apart : AreApart m) (s : Setting) (Holds : Conf → Type 0) (f : Function) (b : ℕ) (keeps : IsKept (machine s) Holds) (w : Scope)
    (overrides : List (ℕ × Given)) (key : Key → Text) (globals : ℕ → Option Expr) (setting_is : writing s overrides f key globals ≡ w.setting) (right : AreConstants s) (whole : LendsWhole s) (rules : ChainsAreRight s) (led : (c : Conf) → Holds c → AreLed s c.below c.top)
    (done : List Inst) (i : Inst) (rest : List Inst) (IsUsable : ℕ → Type 0) where
  abbrev W : scope.Setting
  W = writing s overrides f key globals

  abbrev S : Tree → Shape
  S t = shape_in s (struct_names key) t

  -- how pointers that may be written at the instruction are written
  abbrev pub AreWays : Type 0
  AreWays = (c : Supplied Conf) (z : State) (stands : Stands m s Holds f b done c z) (n : ℕ) → IsUsable n → IsWrittenSo p calls k m apart s Holds f b keeps done i rest overrides key globals right c z stands (led c.at stands.holds) whole rules IsUsable n

  -- to what the instruction's pointer points: a value type, and no block
  abbrev pub AllPoint : Tree → Type 0
  AllPoint t = (c : Supplied Conf) (z : State) (stands : Stands m s Holds f b done c z) → PointsTo p calls k m apart s Holds f b keeps done i rest overrides key globals right c z stands t

  module _ (ways : AreWays) (t : Tree) (points : AllPoint t) (usable : IsUsable (arg i 0)) where
    pub load_asked : step_kind i.op ≡ steps.load → IsNew i done → IsSet p calls k m apart s Holds f b keeps w done i rest → m.shape i.result ≡ S t → AsksLoad p calls k m apart s Holds f b keeps w done i rest
    load_asked step new result shape = record {
      step = step;
      new = new;
      result = result;
      reads = λ c z here.
          subst (λ (v : scope.Setting). Reads p calls k m apart s Holds f b keeps done i rest c z (place_expr v b (arg i 0))) setting_is
          (load_met p calls k m apart s Holds f b keeps done i rest overrides key globals right c z here.stands (led c.at here.stands.holds) whole rules IsUsable (ways c z here.stands) t (points c z here.stands) shape usable);
    }

    -- a store: what is stored says itself, and nothing built in is stored to
    pub record StoresIt : Type 0 where
      pub step : step_kind i.op ≡ steps.store
      pub local : m.is_local i.result ≡ false
      pub lents : (n : ℕ) → m.is_lent n ≡ true → is_parameter f n ≡ true
      pub says : (c : Supplied Conf) (z : State) → At m s Holds f b done (i ∷ rest) c z → (v : ValueTree) → value_at s c.at.top (arg i 1) ≡ Some v → evaluate p calls (value w b (arg i 1)) z ≡ got [] (typed (S t) v, z)
      pub writable : (c : Supplied Conf) (z : State) → At m s Holds f b done (i ∷ rest) c z → (r : Root) (at : List ℕ) → pointer_at s c.at.top (arg i 0) ≡ Some (r, at) → IsInput s r → ⊥

    pub store_asked : StoresIt → AsksStore p calls k m apart s Holds f b keeps w done i rest
    store_asked g = record {
      step = g.step;
      local = g.local;
      left = base_text W (path s.of.globals f b (arg i 0)).base;
      behind = steps_text W (unwrap_or (pointee_of s.of.globals f (path s.of.globals f b (arg i 0)).base) 0) (path s.of.globals f b (arg i 0)).steps;
      place = ap (λ (v : scope.Setting). place_text v b (arg i 0)) (sym setting_is);
      writes = λ c z here.
          store_met p calls k m apart s Holds f b keeps done i rest overrides key globals right c z here.stands (led c.at here.stands.holds) whole rules IsUsable (ways c z here.stands) t (points c z here.stands) (value w b (arg i 1))
          (record { kind = g.step; no_result = g.local; says = g.says c z here; writable = g.writable c z here }) g.lents usable;
    }

    -- an atomic instruction: its operands say themselves
    abbrev pub SaysAll : AtomicOp → Type 0
    SaysAll o = (c : Supplied Conf) (z : State) (here : At m s Holds f b done (i ∷ rest) c z) (g : IsUpdate o s c.at rest i)
        → SaysOperands p calls k m apart s Holds f b keeps done i rest overrides key globals right c z here.stands o (atomic_name o) (exprs_in (comparator w b i o ++ (atomic_operand w b i o ∷ []))) (S t) (λ at. updating (atomic_operation o) at g.operands)

    pub access_asked : (o : AtomicOp) → SaysAll o → (u : Shape) → u ≡ S t → AsksAccess p calls k m apart s Holds f b keeps w done i rest o u
    access_asked o says u shape c z here g =
        subst (λ (v : scope.Setting). Updates p calls k m apart s Holds f b keeps done i rest o z (atomic_name o) (exprs_in (place_expr v b (arg i 0) ∷ (comparator w b i o ++ (atomic_operand w b i o ∷ [])))) u (updating (atomic_operation o) (location s g.variable g.target.1) g.operands)) setting_is
        (subst (λ (x : Shape). Updates p calls k m apart s Holds f b keeps done i rest o z (atomic_name o) (exprs_in (place_expr W b (arg i 0) ∷ (comparator w b i o ++ (atomic_operand w b i o ∷ [])))) x (updating (atomic_operation o) (location s g.variable g.target.1) g.operands)) (sym shape)
        (atomic_met p calls k m apart s Holds f b keeps done i rest overrides key globals right c z here.stands (led c.at here.stands.holds) whole rules IsUsable (ways c z here.stands) o t (points c z here.stands) usable (atomic_name o) (exprs_in (comparator w b i o ++ (atomic_operand w b i o ∷ []))) (λ at. updating (atomic_operation o) at g.operands) (says c z here g) g.target g.variable g.pointer_is g.seen_is))

    pub atomic_asked : (o : AtomicOp) → step_kind i.op ≡ steps.atomic o → (has_result o ≡ true → IsNew i done) → (has_result o ≡ true → IsSet p calls k m apart s Holds f b keeps w done i rest × (m.shape i.result ≡ S t)) → (has_result o ≡ false → m.is_local i.result ≡ false) → SaysAll o → AsksAtomic p calls k m apart s Holds f b keeps w done i rest o
    atomic_asked o step new result local says = record {
      step = step;
      new = new;
      result = λ on. (result on).0;
      finds_it = λ on. access_asked o says (m.shape i.result) (result on).1;
      local = local;
      shape = S t;
      stores_it = λ off. access_asked o says (S t) refl;
    }

-- a call of a function of which it is known that it runs
module _ (p : Program) (k : ℕ) (s : Setting) (More : Conf → Type 0) (ruled : IsRuled s More) (calls : Text → List Argument → State → Result (Option Typed × State)) (m : Naming) (apart : AreApart m) (IsLent : ℕ → ℕ → Type 0) (start : List (Frame × ℕ)) (f : Function) (given : ℕ → Option Held)
    (b : ℕ) (w : Scope) (done : List Inst) (i : Inst) (rest : List Inst) (t : FunctionText) (fine : IsFine p t) (run : IsRun p k s More ruled calls t) where
  abbrev Holds : Conf → Type 0
  Holds = IsUnderWay s More IsLent start f given

  abbrev keeps : IsKept (machine s) Holds
  keeps = way_kept s More ruled IsLent start f given

  -- its text, and what it gives
  pub record CallsIt : Type 0 where
    pub text : IsCallText p k s More ruled calls m apart IsLent start f given b done i rest t fine run (call_arguments w b i)
    pub named : t.name ≡ callee_text w i
    pub none : is_void w i.ty ≡ true → (t.naming.result ≡ None) × (m.is_local i.result ≡ false)
    pub some : is_void w i.ty ≡ false → (t.naming.result ≡ Some (m.shape i.result)) × (same_shape (m.shape i.result) (m.shape i.result) ≡ true) × IsNew i done
    pub result : is_void w i.ty ≡ false → IsSet p calls k m apart s Holds f b keeps w done i rest

  pub call_asked : CallsIt → AsksCall p calls k m apart s Holds f b keeps w done i rest
  call_asked g = record {
    statement = λ on c z here.
        subst (λ (x : Text). Plain p calls k m apart s Holds f b keeps w done i rest c (stmt_run p calls k (Stmt.call x (exprs_in (call_arguments w b i))) z)) g.named
        (call_statement p k s More ruled calls m apart IsLent start f given b done i rest t fine run (exprs_in (call_arguments w b i)) (call_text p k s More ruled calls m apart IsLent start f given b done i rest t fine run (call_arguments w b i) g.text) (g.none on).0 (g.none on).1 c z here);
    result = g.result;
    comes = λ off.
        let q = g.some off in
        subst (λ (x : Text). Comes p calls k m apart s Holds f b keeps w done i rest (Expr.call x (exprs_in (call_arguments w b i)))) g.named
        (λ c z here. call_expression p k s More ruled calls m apart IsLent start f given b done i rest t fine run (exprs_in (call_arguments w b i)) (call_text p k s More ruled calls m apart IsLent start f given b done i rest t fine run (call_arguments w b i) g.text) q.0 q.1 q.2 c z here);
  }
