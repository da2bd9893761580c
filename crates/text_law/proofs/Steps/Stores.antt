-- So of loads and stores nothing is left, where their pointers are written as they lead and what is stored says its value.
use Rattle.std.proofs.Common.{◌≡◌, ℕ, true, false, List, [], ◌∷◌, ◌++◌, length, Contains, Option, Some, refl, sym, ap, ◌∙◌, subst}
use Rattle.std.specs.Prelude.{option_and_then, slice_get}
use Rattle.std.specs.Option.{option_map_or}
use Rattle.std.proofs.lemmas.Option.{same_Some}
use Rattle.spv_ops.specs.Opcode.{is, number}
use Rattle.spv_ops.specs.Operands.{is_id}
use Rattle.spv_ops.specs.OpGroups.{group_of}
use Rattle.spv_ops.specs.Shape.{shape as shape_of}
use Rattle.spv_ops.specs.declared.Op.{Op}
use Rattle.spv_ops.specs.declared.Op.TheVariants as code
use Rattle.spv_ops.specs.declared.OpGroup.{OpGroup}
use Rattle.spv_ops.specs.declared.OpGroup.TheVariants as groups
use Rattle.spv_module.specs.Inst.{has_type}
use Rattle.spv_module.specs.State.{ModuleState}
use Rattle.spv_module.specs.declared.inst.Inst.{Inst}
use Rattle.spv_module.specs.declared.inst.Function.{Function}
use Rattle.spv_types.specs.Tree.{Tree, ValueTree}
use Rattle.spv_types.specs.Types.{type_tree}
use Rattle.spv_types.specs.Leaves.{IsSized}
use Rattle.spv_decor.specs.Rows.{word}
use Rattle.spv_index.specs.Locals.{insts_of, type_in}
use Rattle.spv_index.specs.Pointers.{pointee_of}
use Rattle.spv_index.specs.ValueTypes.{is_no_value_type}
use Rattle.conformance.specs.Rules.{Options}
use Rattle.profile_rules.specs.NumberRules.{points_to_other, is_no_content}
use Rattle.profile_rules.specs.TypeRows.{is_pointer, value_fails, is_other}
use Rattle.profile_rules.specs.TypeRules.{is_value_broken}
use Rattle.profile_rules.specs.ValueRules.{breaks_t5}
use Rattle.traces.specs.Invocations.{Invocation}
use Rattle.traces.specs.Runs.{Supplied}
use Rattle.traces.specs.Outcomes.{Result, got}
use Rattle.use_chains.specs.Slots.{is_value}
use Rattle.module_semantics.specs.Setting.{Setting}
use Rattle.module_semantics.specs.State.{own, Conf}
use Rattle.module_semantics.specs.Operands.{value_at, arg}
use Rattle.module_semantics.specs.Steps.{step_kind}
use Rattle.glsl_ast.specs.Tree.{Text, Expr, TranslationUnit}
use Rattle.glsl_semantics.specs.Shapes.{Shape, Typed, typed}
use Rattle.glsl_semantics.specs.States.{State}
use Rattle.glsl_semantics.specs.Expressions.{Program, Argument, evaluate}
use Rattle.expr_forward.specs.declared.kinds.InstKind.{InstKind}
use Rattle.expr_forward.specs.declared.kinds.InstKind.TheVariants as kind
use Rattle.expr_forward.specs.Kinds.{kind_in, kind_of}
use Rattle.expr_forward.specs.Values.{value}
use Rattle.function_text.specs.Functions.{FunctionPlan, written}
use Rattle.unit_rules.specs.Unit.{IsUnitOf}
use Rattle.fits_law.specs.State.{value_shape}
use Rattle.fits_law.specs.Typed.{IsTyped}
use Rattle.type_law.specs.Shaped.{AreConstants}
use Rattle.agree_law.specs.Agree.{Naming, AreApart}
use Rattle.agree_law.specs.Blocks.{IsOf, Stands}
use Rattle.agree_law.specs.Evaluates.{IsKept}
use Rattle.agree_law.specs.Points.{Body}
use Rattle.agree_law.proofs.Machine.{machine}
use Rattle.call_law.specs.Known.{IsFunctionOf, LendsWhole}
use Rattle.plan_law.specs.InOrder.{IsAmong}
use Rattle.global_law.specs.Chains.{AreLed, ChainsAreRight}
use Rattle.global_law.specs.Walks.{writing}
use Rattle.global_law.proofs.Path.Walks.{IsNoBlock}
use Rattle.typed_law.specs.Conforms.{IsConforming, IsConformingIn}
use Rattle.typed_law.proofs.Lists.{or_left, or_right}
use Rattle.typed_law.proofs.Others.{target_of, typed_some, as_store}
use Rattle.typed_law.proofs.Rules.{value_right}
use Rattle.typed_law.proofs.Shapes.{row_of_shape}
use Rattle.typed_law.proofs.Values.{inside, own_type, value_type_has}
use Rattle.global_law.specs.Sources.{chosen}
use Rattle.grammar_law.proofs.Ruled.Ruled.{contains_of}
use Rattle.claim_law.specs.Claimed.{IsIn}
use Rattle.grammar_law.proofs.Unit.Lists.{as_in}
use Rattle.grammar_law.proofs.Unit.ResultShapes.{reads_first, reads_second, IsReadAt, first_read, second_read, typed_read}
use Rattle.grammar_law.proofs.Unit.Steps.{at_index}
use Rattle.grammar_law.proofs.Unit.Ways.{HaveKinds}
use Rattle.grammar_law.specs.Formed.{IsFormedFunction}
use Rattle.text_law.proofs.Naming.Keys.{S, key, names}
use Rattle.text_law.proofs.Naming.Firsts.{of_in}
use Rattle.text_law.proofs.Written.Shapes.{shape_of_value}
use Rattle.text_law.proofs.Insts.Asks.{LeftBy}
use Rattle.text_law.proofs.Insts.Accessed.{Ways, IsStore, load_left, store_left}
use Rattle.text_law.proofs.Insts.KindSteps.{effects, no_type}
use Rattle.text_law.proofs.Insts.Sets.{zero_local}
use Rattle.text_law.proofs.Steps.NoBlocks.{value_no_block}
use Rattle.text_law.proofs.Steps.Writable.{writable}

load_in : (g : OpGroup) → kind_in g ≡ kind.Load → g ≡ groups.Load
load_in groups.Load e = refl
load_in g e = cc

pub load_group : (o : Op) → kind_of o ≡ kind.Load → group_of o ≡ groups.Load
unfolding kind_of
load_group o e = load_in (group_of o) e

store_in : (g : OpGroup) → kind_in g ≡ kind.Store → g ≡ groups.Store
store_in groups.Store e = refl
store_in g e = cc

pub store_group : (o : Op) → kind_of o ≡ kind.Store → group_of o ≡ groups.Store
unfolding kind_of
store_group o e = store_in (group_of o) e

store_op : (o : Op) → group_of o ≡ groups.Store → is o code.Store ≡ true
unfolding group_of number
store_op code.Store e = refl
store_op o e = cc

load_typed : (o : Op) → group_of o ≡ groups.Load → has_type o ≡ true
unfolding group_of shape_of
load_typed code.Load e = refl
load_typed o e = cc

module _ (m : ModuleState) (opts : Options) (right : IsConforming m opts.entry) (kinds : HaveKinds m.globals) (unit : TranslationUnit) (u : IsUnitOf m opts unit) (inv : Invocation) (p : FunctionPlan) (among : IsIn p u.plans) (lends : LendsWhole (S m opts unit u inv)) (is_one : IsFunctionOf (written p) m.functions)
    (program : Program) (calls : Text → List Argument → State → Result (Option Typed × State)) (k : ℕ) (apart : AreApart (names m opts unit u inv p)) (Holds : Conf → Type 0) (keeps : IsKept (machine (S m opts unit u inv)) Holds) (form : IsFormedFunction (written p))
    (globals : ℕ → Option Expr) (setting_is : writing (S m opts unit u inv) opts.overrides (written p) (key m opts unit u inv) globals ≡ p.scope.setting) (constants : AreConstants (S m opts unit u inv)) (rules : ChainsAreRight (S m opts unit u inv)) (led : (c : Conf) → Holds c → AreLed (S m opts unit u inv) c.below c.top)
    (steps_typed : (j : Inst) → IsOf j (insts_of (written p)) → IsTyped (S m opts unit u inv) (written p) j (step_kind j.op)) (b : ℕ) (o : Body (written p) b) (done : List Inst) (i : Inst) (rest : List Inst) (IsUsable : ℕ → Type 0) (there : IsAmong i (insts_of (written p))) where
  abbrev s : Setting
  s = S m opts unit u inv

  abbrev N : Naming
  N = names m opts unit u inv p

  abbrev f : Function
  f = written p

  abbrev Gs : List Inst
  Gs = m.globals

  abbrev T : ℕ → Option ℕ
  T = type_in m.globals f

  abbrev pub WaysHere : Type 0
  WaysHere = Ways m opts right kinds unit u inv p among lends is_one program calls k apart Holds keeps form globals setting_is constants rules led steps_typed b o done i rest IsUsable

  abbrev Left : InstKind → Type 0
  Left q = LeftBy m opts right kinds unit u inv p among lends is_one program calls k apart Holds keeps form b o done i rest q

  abbrev NoBlock : Supplied Conf → State → Tree → Type 0
  NoBlock c z t = IsNoBlock program calls z s opts.overrides f (key m opts unit u inv) globals constants c.at [] [] (own 0) t

  -- an operand of the instruction that is a value says it
  abbrev pub SayOperandsHere : Type 0
  SayOperandsHere = (c : Supplied Conf) (z : State) → Stands N s Holds f b done c z → (k n : ℕ) → slice_get i.args k ≡ Some n → is_id i.op i.args k ≡ true → is_value i.op k ≡ true
      → (x : ValueTree) → value_at s c.at.top n ≡ Some x → evaluate program calls (value p.scope b n) z ≡ got [] (typed (N.shape n) x, z)

  in_module : Contains m.functions f
  in_module = contains_of m.functions f is_one

  in_it : IsConformingIn m f
  in_it = inside s opts.entry right f in_module

  of_it : IsOf i (insts_of f)
  of_it = of_in (insts_of f) i (as_in (insts_of f) i there)

  -- T4: what is loaded is of a value type
  module _ (e : kind_of i.op ≡ kind.Load) where
    loaded_type : (t : Tree) → value_shape s f i.result ≡ Some t → type_tree Gs i.ty ≡ Some t
    loaded_type t is = sym (ap (option_and_then (type_tree Gs)) (own_type s opts.entry right f in_module i there (typed_some s opts.entry right f in_module i there (load_typed i.op (load_group i.op e))))) ∙ is

    load_value : is_no_value_type m.heads Gs i.ty ≡ false
    load_value = or_left (is_no_value_type m.heads Gs i.ty) (points_to_other Gs T (word i 0) i.ty) (ap (is_value_broken m T i) (sym (load_group i.op e)) ∙ value_right m opts.entry right f in_module i there)

    -- the law of loads
    pub load_is_left : WaysHere → IsUsable (arg i 0) → Left kind.Load
    load_is_left ways usable =
        load_left m opts right kinds unit u inv p among lends is_one program calls k apart Holds keeps form globals setting_is constants rules led steps_typed b o done i rest IsUsable e of_it
        (λ c z l. value_no_block s opts.entry right program calls opts.overrides f (key m opts unit u inv) globals constants c.at z i.ty l.shape load_value (loaded_type l.shape l.result)) ways usable

  -- T5: so is what is stored to, and what is stored has its shape
  module _ (inner : has_type i.op ≡ false → i.result ≡ 0) (e : kind_of i.op ≡ kind.Store) where
    group : group_of i.op ≡ groups.Store
    group = store_group i.op e

    told : breaks_t5 m.heads Gs T i ≡ false
    told = ap (is_value_broken m T i) (sym group) ∙ value_right m opts.entry right f in_module i there

    first : IsReadAt i.op i.args 0
    first = first_read i.op i.args (ap reads_first group)

    second : IsReadAt i.op i.args 1
    second = second_read i.op i.args (ap reads_second group)

    no_value : option_map_or (is_no_value_type m.heads Gs) (pointee_of Gs f (word i 0)) false ≡ false
    no_value = or_left (option_map_or (is_no_value_type m.heads Gs) (pointee_of Gs f (word i 0)) false) (is_no_content Gs T (word i 0) (word i 1)) told

    content : is_no_content Gs T (word i 0) (word i 1) ≡ false
    content = or_right (option_map_or (is_no_value_type m.heads Gs) (pointee_of Gs f (word i 0)) false) (is_no_content Gs T (word i 0) (word i 1)) told

    target : (q : ℕ) × (t : Tree) × (pointee_of Gs f (word i 0) ≡ Some q) × (type_tree Gs q ≡ Some t)
    target =
        target_of s opts.entry right f in_module (word i 0) (typed_read s opts.entry right f in_module i there 0 first)
        (or_left (value_fails is_pointer Gs T (word i 0)) (option_map_or (λ (x : ℕ). is_other Gs T x (word i 1)) (pointee_of Gs f (word i 0)) false) content)

    stored_type : is_no_value_type m.heads Gs target.0 ≡ false
    stored_type = ap (λ (x : Option ℕ). option_map_or (is_no_value_type m.heads Gs) x false) (sym target.2) ∙ no_value

    whole : value_shape s f (arg i 1) ≡ Some target.1
    whole =
        as_store s opts.entry right f in_module i there told (typed_read s opts.entry right f in_module i there 0 first) (typed_read s opts.entry right f in_module i there 1 second)
        ∙ (ap (option_and_then (type_tree Gs)) target.2 ∙ target.3)

    is_store : SayOperandsHere → WaysHere → IsUsable (arg i 0) → IsStore m opts right kinds unit u inv p among lends is_one program calls k apart Holds keeps form globals setting_is constants rules led steps_typed b o done i rest IsUsable
    is_store says ways usable = record {
      shape = target.1;
      stored = whole;
      sized = sized_of (value_type_has s opts.entry right target.0 (row_of_shape s opts.entry right f in_module target.0 target.1 target.3) stored_type);
      no_block = λ c z. value_no_block s opts.entry right program calls opts.overrides f (key m opts unit u inv) globals constants c.at z target.0 target.1 stored_type target.3;
      local = zero_local m opts right kinds unit u inv p among lends i (inner (no_type i.op (ap effects e)));
      says = λ c z stands v has.
          says c z stands 1 (arg i 1) (at_index i.args 1 (second.many (length i.args) (in_it.formed i there).least)) second.names_id second.value v has
          ∙ ap (λ (x : Shape). got [] (typed x v, z)) (shape_of_value m opts unit u inv p (arg i 1) target.1 whole);
      writable = λ c z stands.
          writable s opts.entry right (chosen s opts.overrides) (λ n. refl) f program calls k N apart Holds b keeps done i (rest ++ o.last ∷ []) opts.overrides (key m opts unit u inv) globals constants c z stands (led c.at stands.holds) lends rules IsUsable (ways c z stands)
          in_module there (store_op i.op group) usable;
    }
      where
        sized_of : (t : Tree) × (type_tree Gs target.0 ≡ Some t) × IsSized t → IsSized target.1
        sized_of q = subst IsSized (same_Some q.0 target.1 (sym q.1 ∙ target.3)) q.2

    -- the law of stores
    pub store_is_left : SayOperandsHere → WaysHere → IsUsable (arg i 0) → Left kind.Store
    store_is_left says ways usable =
        store_left m opts right kinds unit u inv p among lends is_one program calls k apart Holds keeps form globals setting_is constants rules led steps_typed b o done i rest IsUsable e of_it (is_store says ways usable) ways usable
