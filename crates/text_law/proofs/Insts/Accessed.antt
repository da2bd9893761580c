-- What loads read, stores write and atomic instructions access, where pointers that may be written at them are written as they lead: the pointer of a load points to the shape of its result, that of a store to the shape of what is stored.
use Rattle.std.proofs.Common.{◌≡◌, ◌++◌, ℕ, true, false, List, [], ◌∷◌, Option, Some, unwrap_or, refl, sym, ap, ◌∙◌, subst}
use Rattle.spv_ops.specs.declared.AtomicOp.{AtomicOp}
use Rattle.spv_module.specs.State.{ModuleState}
use Rattle.spv_module.specs.declared.inst.Inst.{Inst}
use Rattle.spv_module.specs.declared.inst.Function.{Function}
use Rattle.spv_types.specs.Tree.{Tree, ValueTree}
use Rattle.spv_types.specs.Types.{type_tree}
use Rattle.spv_types.specs.Leaves.{IsSized}
use Rattle.spv_index.specs.Locals.{insts_of}
use Rattle.spv_index.specs.Pointers.{pointee_of}
use Rattle.conformance.specs.Rules.{Options}
use Rattle.profile_rules.specs.MemoryRules.{is_pointer}
use Rattle.access_paths.specs.Ways.{path}
use Rattle.traces.specs.Invocations.{Invocation}
use Rattle.traces.specs.Runs.{Supplied}
use Rattle.traces.specs.Outcomes.{Result, got}
use Rattle.module_semantics.specs.Setting.{Setting}
use Rattle.module_semantics.specs.State.{Root, own, Conf}
use Rattle.module_semantics.specs.Operands.{value_at, pointer_at, arg}
use Rattle.module_semantics.specs.Steps.{step_kind}
use Rattle.glsl_ast.specs.Tree.{Text, Expr, TranslationUnit}
use Rattle.glsl_semantics.specs.Shapes.{Shape, Typed, typed}
use Rattle.glsl_semantics.specs.States.{State}
use Rattle.glsl_semantics.specs.Expressions.{Program, Argument, evaluate}
use Rattle.expr_forward.specs.declared.kinds.InstKind.TheVariants as kind
use Rattle.expr_forward.specs.Kinds.{kind_of}
use Rattle.expr_forward.specs.Scope as scope
use Rattle.expr_forward.specs.Paths.{base_text, steps_text, place_text, place_expr}
use Rattle.expr_forward.specs.Values.{value}
use Rattle.expr_forward.specs.Statements.{has_result}
use Rattle.function_text.specs.Functions.{FunctionPlan, written}
use Rattle.unit_rules.specs.Unit.{IsUnitOf}
use Rattle.list_law.proofs.Tests.{and_left}
use Rattle.type_law.specs.Shaped.{AreConstants}
use Rattle.agree_law.specs.Agree.{Naming, AreApart}
use Rattle.agree_law.specs.Blocks.{IsOf, Stands}
use Rattle.agree_law.specs.Evaluates.{IsKept}
use Rattle.agree_law.specs.Points.{Body}
use Rattle.agree_law.proofs.Instructions.{Reads}
use Rattle.agree_law.proofs.Machine.{machine}
use Rattle.fits_law.specs.State.{value_shape, target_shape}
use Rattle.fits_law.specs.Typed.{IsLoad, IsTyped}
use Rattle.call_law.specs.Known.{is_parameter, IsFunctionOf, LendsWhole}
use Rattle.global_law.specs.Chains.{AreLed, ChainsAreRight}
use Rattle.global_law.specs.Parts.{shape_in, IsInput}
use Rattle.global_law.specs.Walks.{writing, struct_names}
use Rattle.global_law.proofs.Path.Walks.{IsNoBlock}
use Rattle.global_law.proofs.Path.Accesses.{PointsTo}
use Rattle.global_law.proofs.Path.Asked.{load_met, store_met}
use Rattle.typed_law.specs.Conforms.{IsConforming}
use Rattle.typed_law.proofs.Lists.{some_part}
use Rattle.claim_law.specs.Claimed.{IsIn}
use Rattle.grammar_law.proofs.Unit.Ways.{HaveKinds}
use Rattle.grammar_law.specs.Formed.{IsFormedFunction}
use Rattle.text_law.proofs.Naming.Accesses.{AreWays, AllPoint, SaysAll, access_asked}
use Rattle.text_law.proofs.Naming.Insts.{AsksAccess}
use Rattle.text_law.proofs.Naming.Keys.{S, key, names}
use Rattle.text_law.proofs.Written.Shapes.{shape_of_value}
use Rattle.text_law.proofs.Insts.Asks.{LeftBy}
use Rattle.text_law.proofs.Insts.KindSteps.{load_step, store_step}

module _ (m : ModuleState) (opts : Options) (right : IsConforming m opts.entry) (kinds : HaveKinds m.globals) (unit : TranslationUnit) (u : IsUnitOf m opts unit) (inv : Invocation) (p : FunctionPlan) (among : IsIn p u.plans) (lends : LendsWhole (S m opts unit u inv)) (is_one : IsFunctionOf (written p) m.functions)
    (program : Program) (calls : Text → List Argument → State → Result (Option Typed × State)) (k : ℕ) (apart : AreApart (names m opts unit u inv p)) (Holds : Conf → Type 0) (keeps : IsKept (machine (S m opts unit u inv)) Holds) (form : IsFormedFunction (written p))
    (globals : ℕ → Option Expr) (setting_is : writing (S m opts unit u inv) opts.overrides (written p) (key m opts unit u inv) globals ≡ p.scope.setting) (constants : AreConstants (S m opts unit u inv)) (rules : ChainsAreRight (S m opts unit u inv)) (led : (c : Conf) → Holds c → AreLed (S m opts unit u inv) c.below c.top)
    (steps_typed : (j : Inst) → IsOf j (insts_of (written p)) → IsTyped (S m opts unit u inv) (written p) j (step_kind j.op)) (b : ℕ) (o : Body (written p) b) (done : List Inst) (i : Inst) (rest : List Inst) (IsUsable : ℕ → Type 0) where
  abbrev s : Setting
  s = S m opts unit u inv

  abbrev N : Naming
  N = names m opts unit u inv p

  abbrev f : Function
  f = written p

  abbrev W : scope.Setting
  W = writing s opts.overrides f (key m opts unit u inv) globals

  abbrev Rest : List Inst
  Rest = rest ++ o.last ∷ []

  abbrev pub Ways : Type 0
  Ways = AreWays program calls k N apart s Holds f b keeps p.scope opts.overrides (key m opts unit u inv) globals setting_is constants lends rules led done i Rest IsUsable

  module _ (e : kind_of i.op ≡ kind.Load) (there : IsOf i (insts_of f)) (no_block : (c : Supplied Conf) (z : State) (l : IsLoad s f i) → IsNoBlock program calls z s opts.overrides f (key m opts unit u inv) globals constants c.at [] [] (own 0) l.shape) where
    loads : IsLoad s f i
    loads = subst (IsTyped s f i) (load_step i.op e) (steps_typed i there)

    points : (c : Supplied Conf) (z : State) (stands : Stands N s Holds f b done c z) → PointsTo program calls k N apart s Holds f b keeps done i Rest opts.overrides (key m opts unit u inv) globals constants c z stands loads.shape
    points c z stands =
        let w = some_part (type_tree m.globals) (pointee_of m.globals f (arg i 0)) loads.shape loads.target in
        record { type = w.0; points_to = w.1; typed_as = w.2; sized = loads.sized; no_block = no_block c z loads }

    -- the law
    pub load_left : Ways → IsUsable (arg i 0) → LeftBy m opts right kinds unit u inv p among lends is_one program calls k apart Holds keeps form b o done i rest kind.Load
    load_left ways usable c z here =
        subst (λ (v : scope.Setting). Reads program calls k N apart s Holds f b keeps done i Rest c z (place_expr v b (arg i 0))) setting_is
        (load_met program calls k N apart s Holds f b keeps done i Rest opts.overrides (key m opts unit u inv) globals constants c z here.stands (led c.at here.stands.holds) lends rules IsUsable (ways c z here.stands)
        loads.shape (points c z here.stands) (shape_of_value m opts unit u inv p i.result loads.shape loads.result) usable)

  -- a store: what is stored has the shape of what its pointer points to, says itself, and goes into nothing built in
  pub record IsStore : Type 0 where
    pub shape : Tree
    pub stored : value_shape s f (arg i 1) ≡ Some shape
    pub sized : IsSized shape
    pub no_block : (c : Supplied Conf) (z : State) → IsNoBlock program calls z s opts.overrides f (key m opts unit u inv) globals constants c.at [] [] (own 0) shape
    pub local : N.is_local i.result ≡ false
    pub says : (c : Supplied Conf) (z : State) → Stands N s Holds f b done c z → (v : ValueTree) → value_at s c.at.top (arg i 1) ≡ Some v → evaluate program calls (value p.scope b (arg i 1)) z ≡ got [] (typed (shape_in s (struct_names (key m opts unit u inv)) shape) v, z)
    pub writable : (c : Supplied Conf) (z : State) → Stands N s Holds f b done c z → (r : Root) (at : List ℕ) → pointer_at s c.at.top (arg i 0) ≡ Some (r, at) → IsInput s r → ⊥

  module _ (e : kind_of i.op ≡ kind.Store) (there : IsOf i (insts_of f)) (g : IsStore) where
    target : target_shape s f (arg i 0) ≡ Some g.shape
    target = sym (subst (IsTyped s f i) (store_step i.op e) (steps_typed i there)) ∙ g.stored

    pointed : (c : Supplied Conf) (z : State) (stands : Stands N s Holds f b done c z) → PointsTo program calls k N apart s Holds f b keeps done i Rest opts.overrides (key m opts unit u inv) globals constants c z stands g.shape
    pointed c z stands =
        let w = some_part (type_tree m.globals) (pointee_of m.globals f (arg i 0)) g.shape target in
        record { type = w.0; points_to = w.1; typed_as = w.2; sized = g.sized; no_block = g.no_block c z }

    lents : (n : ℕ) → N.is_lent n ≡ true → is_parameter f n ≡ true
    lents n on = and_left (is_parameter f n) (is_pointer m.globals f n) on

    pub store_left : Ways → IsUsable (arg i 0) → LeftBy m opts right kinds unit u inv p among lends is_one program calls k apart Holds keeps form b o done i rest kind.Store
    store_left ways usable = record {
      left = base_text W (path m.globals f b (arg i 0)).base;
      behind = steps_text W (unwrap_or (pointee_of m.globals f (path m.globals f b (arg i 0)).base) 0) (path m.globals f b (arg i 0)).steps;
      place = ap (λ (v : scope.Setting). place_text v b (arg i 0)) (sym setting_is);
      writes = λ c z here.
          store_met program calls k N apart s Holds f b keeps done i Rest opts.overrides (key m opts unit u inv) globals constants c z here.stands (led c.at here.stands.holds) lends rules IsUsable (ways c z here.stands)
          g.shape (pointed c z here.stands) (value p.scope b (arg i 1)) (record { kind = store_step i.op e; no_result = g.local; says = g.says c z here.stands; writable = g.writable c z here.stands }) lents usable;
    }

  -- an atomic instruction: its operands say themselves
  abbrev pub Points : Tree → Type 0
  Points t = AllPoint program calls k N apart s Holds f b keeps p.scope opts.overrides (key m opts unit u inv) globals setting_is constants lends rules led done i Rest IsUsable t

  module _ (ways : Ways) (t : Tree) (all : Points t) (usable : IsUsable (arg i 0)) where
    abbrev pub Operands : AtomicOp → Type 0
    Operands a = SaysAll program calls k N apart s Holds f b keeps p.scope opts.overrides (key m opts unit u inv) globals setting_is constants lends rules led done i Rest IsUsable ways t all usable a

    abbrev Access : (a : AtomicOp) → Operands a → (x : Shape) → x ≡ shape_in s (struct_names (key m opts unit u inv)) t → AsksAccess program calls k N apart s Holds f b keeps p.scope done i Rest a x
    Access a says x same = access_asked program calls k N apart s Holds f b keeps p.scope opts.overrides (key m opts unit u inv) globals setting_is constants lends rules led done i Rest IsUsable ways t all usable a says x same

    pub atomic_left : (a : AtomicOp) → (has_result a ≡ true → N.shape i.result ≡ shape_in s (struct_names (key m opts unit u inv)) t) → Operands a → LeftBy m opts right kinds unit u inv p among lends is_one program calls k apart Holds keeps form b o done i rest (kind.Atomic a)
    atomic_left a shape says = record {
      finds_it = λ on. Access a says (N.shape i.result) (shape on);
      shape = shape_in s (struct_names (key m opts unit u inv)) t;
      stores_it = λ off. Access a says (shape_in s (struct_names (key m opts unit u inv)) t) refl;
    }
