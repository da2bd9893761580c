-- The memory semantics of a barrier are an OpConstant (A5), so the text of an accepted module reads their word.
use Rattle.std.proofs.Common.{◌≡◌, ◌++◌, ℕ, true, false, List, ◌∷◌, Option, Some, None, refl, sym, ap, ◌∙◌, subst, unwrap_or}
use Rattle.std.specs.Prelude.{is_some, option_and_then}
use Rattle.std.specs.List.{list_any}
use Rattle.std.proofs.lemmas.Option.{same_Some}
use Rattle.spv_ops.specs.Opcode.{is}
use Rattle.spv_ops.specs.declared.Op.{Op}
use Rattle.spv_ops.specs.declared.Op.TheVariants as code
use Rattle.spv_module.specs.Held.{global}
use Rattle.spv_module.specs.State.{ModuleState}
use Rattle.spv_module.specs.declared.inst.Inst.{Inst}
use Rattle.spv_module.specs.declared.inst.Function.{Function}
use Rattle.spv_types.specs.Tree as plain
use Rattle.spv_types.specs.Tree.{Tree, ValueTree, word}
use Rattle.spv_types.specs.Types.{elem_of, type_tree}
use Rattle.spv_index.specs.Locals.{insts_of, type_in}
use Rattle.op_semantics.specs.Fits.{fits}
use Rattle.conformance.specs.Rules.{Options}
use Rattle.profile_rules.specs.AtomicRules.{is_other_value, is_semantics, barrier_semantics_of}
use Rattle.module_check.specs.Judged.{IsFine}
use Rattle.module_check.specs.ReadFrom.{IsReadFrom}
use Rattle.traces.specs.Invocations.{Invocation, IsInvocation}
use Rattle.traces.specs.Outcomes.{Result}
use Rattle.module_semantics.specs.Setting.{Setting}
use Rattle.module_semantics.specs.State.{Conf}
use Rattle.module_semantics.specs.Operands.{value_at, word_at, arg}
use Rattle.glsl_ast.specs.Tree.{Text, TranslationUnit}
use Rattle.glsl_semantics.specs.Shapes.{Typed}
use Rattle.glsl_semantics.specs.States.{State}
use Rattle.glsl_semantics.specs.Expressions.{Program, Argument}
use Rattle.text_rules.specs.Constants.{Source, is_scalar}
use Rattle.text_rules.specs.Declarations.{word_of}
use Rattle.expr_forward.specs.declared.kinds.InstKind.TheVariants as kind
use Rattle.expr_forward.specs.Kinds.{kind_of}
use Rattle.expr_forward.specs.Scope.{Scope}
use Rattle.expr_forward.specs.Paths.{is_number, literal_word}
use Rattle.expr_forward.specs.Statements.{semantics}
use Rattle.function_text.specs.Functions.{FunctionPlan, written}
use Rattle.unit_rules.specs.Unit.{source_of, IsUnitOf}
use Rattle.plan_law.specs.InOrder.{IsAmong}
use Rattle.fits_law.specs.State.{value_shape, HasShape, ConfFits, ModuleFits, functions_of}
use Rattle.agree_law.specs.Agree.{AreApart}
use Rattle.agree_law.specs.Evaluates.{IsKept}
use Rattle.agree_law.specs.Points.{Body}
use Rattle.agree_law.proofs.Machine.{machine}
use Rattle.call_law.specs.Known.{IsFunctionOf, LendsWhole}
use Rattle.type_law.specs.Shaped.{HasConstants}
use Rattle.type_law.proofs.Constants.{constant_of}
use Rattle.global_law.specs.Sources.{chosen}
use Rattle.function_law.proofs.Selectors.{word_value}
use Rattle.typed_law.specs.Conforms.{IsConforming}
use Rattle.typed_law.specs.Words.{IsSettingOfWords, IsStateOfWords}
use Rattle.typed_law.proofs.Lists.{or_left, found_in}
use Rattle.typed_law.proofs.Values.{inside}
use Rattle.grammar_law.proofs.Ruled.Ruled.{contains_of}
use Rattle.global_law.specs.Items.{AreAsked}
use Rattle.global_law.proofs.Constant.Standing.{scalar_fit}
use Rattle.claim_law.specs.Claimed.{IsIn}
use Rattle.grammar_law.proofs.Unit.Lists.{of_contained}
use Rattle.grammar_law.proofs.Unit.Ways.{HaveKinds, F, V, in_module, plan_is, written_is}
use Rattle.grammar_law.specs.Formed.{IsFormedFunction}
use Rattle.grammar_law.proofs.Formed.Inner.{accepted_inner}
use Rattle.grammar_law.proofs.Grammar.Literals.{semantics_right, control_op, memory_op, made_constant, literal_is}
use Rattle.text_law.proofs.Naming.Keys.{S, found as names_found, R, names}
use Rattle.text_law.specs.Left.{IsLeftOfGlobals}
use Rattle.text_law.proofs.Outside.Text.{asked as asked_of}
use Rattle.text_law.proofs.Written.Shapes.{value_has}
use Rattle.text_law.proofs.Written.KnownValues.{literals}
use Rattle.text_law.proofs.Insts.Barriers.{HasNoBarriers, AreRead}
use Rattle.text_law.proofs.Insts.New.{stands_among}
use Rattle.text_law.proofs.Values.Read.{constant_value}

typed_by : (gs : List Inst) (x : Option ℕ) (v : ValueTree) → HasShape (option_and_then (type_tree gs) x) v → is_some x ≡ true
typed_by gs None v fit = absurd fit
typed_by gs (Some ty) v fit = refl

number_fit : (t : Tree) (v : ℕ) → is_scalar t ≡ true → fits t (word v) ≡ true → is_number (elem_of t) ≡ true
number_fit plain.boolean v on fit = cc
number_fit plain.int v on fit = refl
number_fit plain.uint v on fit = refl
number_fit (plain.vector e n) v on fit = cc
number_fit (plain.array t l) v on fit = cc
number_fit (plain.runtime t) v on fit = cc
number_fit (plain.struct n ts) v on fit = cc

module _ (bytes : List ℕ) (m : ModuleState) (o : Options) (read : IsReadFrom bytes m) (fine : IsFine m o) (unit : TranslationUnit) (u : IsUnitOf m o unit) (inv : Invocation) (told : IsInvocation inv) (left : IsLeftOfGlobals bytes m o) where
  abbrev s : Setting
  s = S m o unit u inv

  abbrev gs : List Inst
  gs = m.globals

  abbrev src : Source
  src = source_of m o u.entry

  abbrev asked : AreAsked s o.entry o.overrides (names_found m o unit u inv) (R m o unit u inv)
  asked = asked_of bytes m o read fine unit u inv told left

  abbrev have : HasConstants s (chosen s o.overrides)
  have = λ k. refl

  module _ (right : IsConforming m o.entry) (kinds : HaveKinds gs) (p : FunctionPlan) (among : IsIn p u.plans) where
    abbrev Fn : Function
    Fn = F s o.entry right kinds o unit u p among

    abbrev Where : Scope
    Where = V s o.entry right kinds o unit u p among

    fn_in : IsIn Fn m.functions
    fn_in = of_contained m.functions Fn (in_module s o.entry right kinds o unit u p among)

    -- where a state fits
    module _ (suits : ModuleFits s) (words : IsSettingOfWords s) (c : Conf) (fit : ConfFits s c) (low : IsStateOfWords c) (function : c.top.function ≡ Fn) (n v : ℕ) (has : word_at s c.top n ≡ Some v) (right_there : is_other_value gs Fn is_semantics n ≡ false) where
      value_is : value_at s c.top n ≡ Some (word v)
      value_is = word_value (value_at s c.top n) v has

      typed_so : is_some (type_in gs Fn n) ≡ true
      typed_so = typed_by gs (type_in gs Fn n) (word v) (subst (λ (g : Function). HasShape (value_shape s g n) (word v)) function (value_has s suits (functions_of c.below) c.top n (word v) fit.top.0 value_is))

      made : (g : Inst) × (global gs n ≡ Some g) × (g.op ≡ code.Constant)
      made = made_constant gs Fn n right_there typed_so

      there_read : semantics Where n ≡ v
      there_read =
          let own = constant_value s c fit n made.0 made.1 (word v) value_is in
          let k = constant_of s (chosen s o.overrides) have right.results n (word v) own in
          let same : k.0 ≡ made.0 = same_Some k.0 made.0 (sym k.3 ∙ made.1) in
          let shape : type_tree gs made.0.ty ≡ Some k.2 = ap (λ (g : Inst). type_tree gs g.ty) (sym same) ∙ k.4 in
          let scalar = scalar_fit k.2 (word v) tt k.5 in
          let literal = ap (option_and_then (literal_word Where.setting)) made.1 ∙ literal_is src asked.spec_ids made.0 (found_in gs n made.0 made.1) made.2 k.2 shape scalar Where.setting refl (number_fit k.2 v scalar k.5) in
          ap (λ (x : Option ℕ). unwrap_or x 0) literal ∙ sym (ap word_of (literals m o right kinds unit u inv p among suits words c fit low function n (word v) value_is _ literal))

    -- the semantics of a barrier of the function
    control_right : (i : Inst) → IsAmong i (insts_of Fn) → kind_of i.op ≡ kind.ControlBarrier → is_other_value gs Fn is_semantics (arg i 2) ≡ false
    control_right i there e =
        or_left (is_other_value gs Fn is_semantics (arg i 2)) false
        (ap (λ (x : Op). list_any (is_other_value gs Fn is_semantics) (barrier_semantics_of x i)) (sym (control_op i.op e)) ∙ semantics_right m o.entry right Fn fn_in i there)

    memory_right : (i : Inst) → IsAmong i (insts_of Fn) → kind_of i.op ≡ kind.MemoryBarrier → is_other_value gs Fn is_semantics (arg i 1) ≡ false
    memory_right i there e =
        or_left (is_other_value gs Fn is_semantics (arg i 1)) false
        (ap (λ (x : Op). list_any (is_other_value gs Fn is_semantics) (barrier_semantics_of x i)) (sym (memory_op i.op e)) ∙ semantics_right m o.entry right Fn fn_in i there)

    -- So it is read in each state of a call of the function.
    abbrev pub AreReadBy : Scope → ℕ → Type 0
    AreReadBy w n = (c : Conf) → ConfFits s c → IsStateOfWords c → c.top.function ≡ w.setting.function → (v : ℕ) → word_at s c.top n ≡ Some v → semantics w n ≡ v

    module _ (suits : ModuleFits s) (words : IsSettingOfWords s) (i : Inst) (there : IsAmong i (insts_of Fn)) where
      pub control_read : kind_of i.op ≡ kind.ControlBarrier → AreReadBy p.scope (arg i 2)
      control_read e = subst (λ (w : Scope). AreReadBy w (arg i 2)) (sym (plan_is s o.entry right kinds o unit u p among).scope_is) (λ c fit low function v has. there_read suits words c fit low function (arg i 2) v has (control_right i there e))

      pub memory_read : kind_of i.op ≡ kind.MemoryBarrier → AreReadBy p.scope (arg i 1)
      memory_read e = subst (λ (w : Scope). AreReadBy w (arg i 1)) (sym (plan_is s o.entry right kinds o unit u p among).scope_is) (λ c fit low function v has. there_read suits words c fit low function (arg i 1) v has (memory_right i there e))

    -- the law, as it is asked of barriers
    module _ (lends : LendsWhole s) (suits : ModuleFits s) (words : IsSettingOfWords s) (program : Program) (calls : Text → List Argument → State → Result (Option Typed × State)) (Holds : Conf → Type 0) (fitting : (c : Conf) → Holds c → ConfFits s c) (low : (c : Conf) → Holds c → IsStateOfWords c)
        (is_one : IsFunctionOf (written p) m.functions) (k : ℕ) (apart : AreApart (names m o unit u inv p)) (keeps : IsKept (machine s) Holds) (form : IsFormedFunction (written p)) (none : HasNoBarriers program) (b : ℕ) (body : Body (written p) b) (done befores : List Inst) (i : Inst) (rest : List Inst) (split : body.insts ≡ befores ++ i ∷ rest) where
      there : IsAmong i (insts_of Fn)
      there =
          let in_it = inside s o.entry right (written p) (contains_of m.functions (written p) is_one) in
          subst (λ (g : Function). IsAmong i (insts_of g)) (written_is s o.entry right kinds o unit u p among)
          (stands_among m (written p) in_it.order in_it.formed (λ j j_in. (accepted_inner bytes m read (written p) is_one j j_in).0) b body (form.blocks b body.block body.there) befores i rest split)

      abbrev Are : ℕ → Type 0
      Are n = AreRead m o right kinds unit u inv p among lends is_one program calls k apart Holds keeps form none b body done i rest n

      pub control_left : kind_of i.op ≡ kind.ControlBarrier → Are (arg i 2)
      control_left e c z here v is = control_read suits words i there e c.at (fitting c.at here.stands.holds) (low c.at here.stands.holds) here.stands.function v is

      pub memory_left : kind_of i.op ≡ kind.MemoryBarrier → Are (arg i 1)
      memory_left e c z here v is = memory_read suits words i there e c.at (fitting c.at here.stands.holds) (low c.at here.stands.holds) here.stands.function v is
