-- So of calls nothing is left, where the function that is called stands before in the text and does what its function does: its arguments are what it takes, and its result is no pointer.
use Rattle.std.proofs.Common.{◌≡◌, ◌⊎◌, ◌==◌, ◌≤◌, ◌<◌, ◌++◌, ◌||◌, not, ℕ, zero, suc, Bool, true, false, List, [], ◌∷◌, length, drop, Contains, Option, Some, None, unwrap_or, inl, inr, refl, sym, ap, ◌∙◌, subst, arith, if◌then◌else◌}
use Rattle.std.specs.Prelude.{option_and_then, slice_get, slice_index}
use Rattle.std.specs.Option.{option_map_or}
use Rattle.std.specs.List.{list_any, zip}
use Rattle.std.proofs.lemmas.Bool.{not-true}
use Rattle.std.proofs.lemmas.Bool.Decides.{eqb_tells}
use Rattle.std.proofs.lemmas.Option.{same_Some}
use Rattle.spv_ops.specs.Opcode.{is}
use Rattle.spv_ops.specs.OpGroups.{group_of}
use Rattle.spv_ops.specs.Operands.{is_id}
use Rattle.spv_ops.specs.declared.Op.{Op}
use Rattle.spv_ops.specs.declared.Op.TheVariants as code
use Rattle.spv_ops.specs.declared.OpGroup.{OpGroup}
use Rattle.spv_ops.specs.declared.OpGroup.TheVariants as groups
use Rattle.spv_module.specs.Held.{global}
use Rattle.spv_module.specs.Lists.{id}
use Rattle.spv_module.specs.State.{ModuleState}
use Rattle.spv_module.specs.declared.inst.Inst.{Inst}
use Rattle.spv_module.specs.declared.inst.Function.{Function}
use Rattle.spv_types.specs.Tree as plain
use Rattle.spv_types.specs.Tree.{Tree, ValueTree}
use Rattle.spv_types.specs.Types.{type_tree}
use Rattle.spv_decor.specs.Rows.{word}
use Rattle.spv_index.specs.Locals.{insts_of, type_in}
use Rattle.conformance.specs.Rules.{Options}
use Rattle.module_check.specs.Judged.{IsFine as IsAccepted}
use Rattle.module_check.specs.ReadFrom.{IsReadFrom}
use Rattle.profile_rules.specs.FlowRules.{breaks_t21}
use Rattle.profile_rules.specs.ValueRules.{are_other_members}
use Rattle.profile_rules.specs.MemoryRules.{is_pointer, is_other_pointer}
use Rattle.profile_rules.specs.Operands.{is_there_in}
use Rattle.profile_rules.specs.Entry.{function_of}
use Rattle.profile_rules.specs.TypeRows.{differ, is_other}
use Rattle.profile_rules.specs.TypeRules.{is_flow_broken}
use Rattle.traces.specs.Invocations.{Invocation, IsInvocation}
use Rattle.traces.specs.Runs.{Supplied}
use Rattle.traces.specs.Outcomes.{Result, got}
use Rattle.use_chains.specs.Slots.{is_value as is_value_slot}
use Rattle.module_semantics.specs.Setting.{Setting}
use Rattle.module_semantics.specs.State.{Held, Frame, Conf}
use Rattle.module_semantics.specs.Operands.{value_at, arg}
use Rattle.module_semantics.specs.Steps as steps
use Rattle.module_semantics.specs.Steps.{step_in, step_kind}
use Rattle.name_alloc.specs.declared.claims.Key.{Key}
use Rattle.name_alloc.specs.declared.claims.Key.TheVariants.{Main, Id}
use Rattle.hoist_plan.specs.Plan.{is_value}
use Rattle.glsl_ast.specs.Tree.{Text, Expr, Stmt, exprs_in, TranslationUnit}
use Rattle.glsl_semantics.specs.Shapes.{Shape, same_shape, Typed, typed}
use Rattle.glsl_semantics.specs.States.{State}
use Rattle.glsl_semantics.specs.Expressions.{Program, Argument, CallKind, user, atomic_function, atomic_or, call_kind, evaluate}
use Rattle.glsl_semantics.specs.Statements.{stmt_run}
use Rattle.text_rules.specs.Declarations.{pointee_at}
use Rattle.expr_forward.specs.declared.kinds.InstKind.TheVariants as kind
use Rattle.expr_forward.specs.Kinds.{kind_in, kind_of}
use Rattle.expr_forward.specs.Scope.{Scope, globals as globals_in}
use Rattle.expr_forward.specs.Statements.{is_void, is_void_in, callee_text, call_arguments, is_variable_form}
use Rattle.expr_forward.specs.Values.{value}
use Rattle.function_text.specs.Functions.{FunctionPlan, written, function_key}
use Rattle.unit_rules.specs.Unit.{source_of, IsUnitOf}
use Rattle.fits_law.specs.State.{value_shape, functions_of, HasShape}
use Rattle.fits_law.specs.Typed.{IsCall, IsTyped}
use Rattle.fits_law.proofs.Steps.{named}
use Rattle.agree_law.specs.Agree.{Naming, AreApart}
use Rattle.agree_law.specs.Blocks.{IsOf, IsNew, Stands}
use Rattle.agree_law.specs.Evaluates.{IsKept}
use Rattle.agree_law.specs.Points.{Body}
use Rattle.agree_law.proofs.Machine.{machine}
use Rattle.call_law.specs.Known.{is_parameter, IsFunctionOf, IsLending}
use Rattle.plan_law.specs.InOrder.{IsAmong}
use Rattle.global_law.specs.Parts.{StructNames, shape_in}
use Rattle.global_law.specs.Walks.{struct_names}
use Rattle.global_law.proofs.Path.Accesses.{shape_itself}
use Rattle.function_law.specs.Texts.{FunctionText, IsFine}
use Rattle.function_law.specs.UnderWay.{IsUnderWay, IsRuled}
use Rattle.function_law.proofs.AllFunctions.{IsRun, call_statement, call_expression}
use Rattle.function_law.proofs.CallsSaid.{IsCallText, call_text}
use Rattle.function_law.proofs.Passing.{whole_in}
use Rattle.function_law.proofs.UnderWay.{way_kept}
use Rattle.typed_law.specs.Conforms.{IsConforming, IsConformingIn}
use Rattle.typed_law.proofs.Calls.{AreOfTypes, arguments_typed}
use Rattle.typed_law.proofs.Lists.{or_left, or_right, and_left, clash, found_in}
use Rattle.typed_law.proofs.Others.{contains_found, typed_some}
use Rattle.typed_law.proofs.Rules.{flow_right}
use Rattle.typed_law.proofs.Values.{HasType, inside, own_type, same_count, typed_value, typed_result, value_sized}
use Rattle.global_law.specs.Sources.{chosen}
use Rattle.grammar_law.proofs.Ruled.Ruled.{contains_of, parameter_of}
use Rattle.claim_law.specs.Claimed.{IsIn}
use Rattle.grammar_law.proofs.Unit.CallTypes.{call_typed, call_group, call_id, called_function, there_by, right_call, given_value, call_row}
use Rattle.grammar_law.proofs.Unit.CallTypes as types
use Rattle.grammar_law.proofs.Unit.Lists.{as_in, at_some}
use Rattle.grammar_law.proofs.Unit.Shaped.{shaped_value}
use Rattle.grammar_law.proofs.Unit.Ways.{HaveKinds, plan_is}
use Rattle.list_law.proofs.Lists.{behind_first}
use Rattle.grammar_law.proofs.Meets.CallMeets.{call_need, call_value}
use Rattle.grammar_law.specs.Formed.{IsFormedFunction}
use Rattle.grammar_law.specs.Traced.{IsTraced}
use Rattle.grammar_law.proofs.Formed.Inner.{is_inner, accepted_inner}
use Rattle.grammar_law.proofs.Unit.ResultTypes.{call_op}
use Rattle.text_law.specs.Names.{shape_of}
use Rattle.text_law.proofs.Naming.Alone.{names_memory, variable_inst}
use Rattle.text_law.proofs.Naming.Functions.{found_by}
use Rattle.text_law.proofs.Naming.Fine.{share_names, same_type}
use Rattle.text_law.proofs.Naming.Insts.{Plain, Comes}
use Rattle.text_law.proofs.Naming.Keys.{S, R, key as key_of, names as names_in}
use Rattle.text_law.proofs.Naming.Unit.{text}
use Rattle.text_law.proofs.Naming.Firsts.{of_in}
use Rattle.text_law.specs.Left.{IsLeftOfGlobals}
use Rattle.text_law.proofs.Outside.Locals.{local_variable, param_type}
use Rattle.text_law.proofs.Outside.Starts as starts
use Rattle.text_law.proofs.Outside.Text.{P as program_in}
use Rattle.text_law.proofs.Outside.Typed.{types_of_text}
use Rattle.text_law.proofs.Written.Shapes.{has_shape, shape_of_value, value_has}
use Rattle.text_law.proofs.Insts.Asks.{LeftBy}
use Rattle.text_law.proofs.Insts.New.{is_new}
use Rattle.text_law.proofs.Insts.Sets.{form_unset, value_so}
use Rattle.text_law.proofs.Steps.Arguments.{arguments_say}
use Rattle.text_law.proofs.Steps.Called.{is_function_there}

call_in : (g : OpGroup) → kind_in g ≡ kind.Call → (g ≡ groups.Call) × (step_in g ≡ steps.call)
call_in groups.Call e = (refl, refl)
call_in g e = cc

pub call_step : (o : Op) → kind_of o ≡ kind.Call → step_kind o ≡ steps.call
unfolding kind_of step_kind
call_step o e = (call_in (group_of o) e).1

call_groups : (o : Op) → kind_of o ≡ kind.Call → group_of o ≡ groups.Call
unfolding kind_of
call_groups o e = (call_in (group_of o) e).0

-- a type of values is not void
no_void : (gs : List Inst) (ty : ℕ) → is_value gs ty ≡ true → is_void_in gs ty ≡ false
no_void gs ty on =
    let points = option_map_or (λ (g : Inst). is g.op code.TypePointer) (global gs ty) false in
    or_left (is_void_in gs ty) points (not-true (is_void_in gs ty || points) on)

module _ (bytes : List ℕ) (m : ModuleState) (o : Options) (read : IsReadFrom bytes m) (fine : IsAccepted m o) (unit : TranslationUnit) (u : IsUnitOf m o unit) (inv : Invocation) (told : IsInvocation inv) (left : IsLeftOfGlobals bytes m o)
    (right : IsConforming m o.entry) (kinds : HaveKinds m.globals) (p : FunctionPlan) (among : IsIn p u.plans) where
  abbrev s : Setting
  s = S m o unit u inv

  abbrev Gs : List Inst
  Gs = m.globals

  abbrev key : Key → Text
  key = key_of m o unit u inv

  abbrev Y : StructNames
  Y = struct_names (key_of m o unit u inv)

  abbrev N : Naming
  N = names_in m o unit u inv p

  abbrev f : Function
  f = written p

  abbrev T : ℕ → Option ℕ
  T = type_in m.globals f

  abbrev W : Scope
  W = p.scope

  abbrev P : Program
  P = program_in bytes m o read fine unit u inv told left

  globals_are : globals_in W ≡ Gs
  globals_are = ap globals_in (plan_is s o.entry right kinds o unit u p among).scope_is

  void_is : (ty : ℕ) → is_void W ty ≡ is_void_in Gs ty
  void_is ty = ap (λ (gs : List Inst). is_void_in gs ty) globals_are

  module _ (rules : IsRuled s (IsTraced s)) (is_one : IsFunctionOf f m.functions) (form : IsFormedFunction f) (k : ℕ) (calls : Text → List Argument → State → Result (Option Typed × State)) (apart : AreApart N) (IsLent : ℕ → ℕ → Type 0) (start : List (Frame × ℕ)) (given : ℕ → Option Held) where
    abbrev Way : Conf → Type 0
    Way = IsUnderWay s (IsTraced s) IsLent start f given

    abbrev keeps : IsKept (machine s) Way
    keeps = way_kept s (IsTraced s) rules IsLent start f given

    in_module : Contains m.functions f
    in_module = contains_of m.functions f is_one

    in_it : IsConformingIn m f
    in_it = inside s o.entry right f in_module

    inner_of : (j : Inst) → IsAmong j (insts_of f) → is_inner (group_of j.op) ≡ true
    inner_of j there = (accepted_inner bytes m read f is_one j there).0

    -- the function that is called stands before, is none of the entry's, and runs as its function does
    pub record IsCallBefore (i : Inst) : Type 1 where
      pub plan : FunctionPlan
      pub planned : IsIn plan u.plans
      pub function : function_of m.functions (arg i 0) ≡ Some (written plan)
      pub other : arg i 0 ≡ u.entry → ⊥
      pub fine_so : IsFine P (text m o unit u inv plan)
      pub run : IsRun P k s (IsTraced s) rules calls (text m o unit u inv plan)

    -- variables and pointer parameters are of types that values have
    memory_shape : (n : ℕ) → (N.is_variable n ≡ true) ⊎ (N.is_lent n ≡ true) → same_shape (N.shape n) (N.shape n) ≡ true
    memory_shape n (inl variable) =
        let v = variable_inst f n variable in
        let there = found_in (insts_of f) n v.0 v.1 in
        let w = local_variable bytes m o read fine unit u inv told left p among v.0 (as_in (insts_of f) v.0 there) v.2 in
        let shape : N.shape n ≡ shape_in s Y w.shape = starts.shape_of bytes m o read fine unit u inv told left p among n v.0.ty w.type w.shape (subst (λ (j : ℕ). T j ≡ Some v.0.ty) (named (insts_of f) n v.0 v.1) w.type_is) w.points_to w.typed_as in
        subst (λ (x : Shape). same_shape x x ≡ true) (sym shape) (shape_itself s key w.shape w.sized)
    memory_shape n (inr lent) =
        let q = parameter_of f.params n (and_left (is_parameter f n) (is_pointer Gs f n) lent) in
        let typed_as : T n ≡ Some q.0.1.0 = subst (λ (j : ℕ). T j ≡ Some q.0.1.0) q.2 (param_type bytes m o read fine unit u inv told left p among q.0 q.1) in
        let shape : N.shape n ≡ shape_of s o.overrides (R m o unit u inv) key (pointee_at (source_of m o u.entry) q.0.1.0) = ap (λ (t : Option ℕ). shape_of s o.overrides (R m o unit u inv) key (pointee_at (source_of m o u.entry) (unwrap_or t 0))) typed_as in
        subst (λ (x : Shape). same_shape x x ≡ true) (sym shape) (same_type m o unit u inv P (pointee_at (source_of m o u.entry) q.0.1.0) ((types_of_text bytes m o read fine unit u inv told left p among).parameters q.0 q.1))

    -- at a call in a block
    module _ (b : ℕ) (body : Body f b) (done befores : List Inst) (i : Inst) (rest : List Inst) (split : body.insts ≡ befores ++ i ∷ rest) (only : (j : Inst) → IsOf j done → IsOf j befores) (there : IsAmong i (insts_of f))
        (says : (c : Supplied Conf) (z : State) → Stands N s Way f b done c z → (j n : ℕ) → slice_get i.args j ≡ Some n → is_id i.op i.args j ≡ true → is_value_slot i.op j ≡ true → (x : ValueTree) → value_at s c.at.top n ≡ Some x → evaluate P calls (value W b n) z ≡ got [] (typed (N.shape n) x, z))
        (e : kind_of i.op ≡ kind.Call) (before : IsCallBefore i) where
      abbrev Rest : List Inst
      Rest = rest ++ body.last ∷ []

      abbrev g : Function
      g = written before.plan

      abbrev t : FunctionText
      t = text m o unit u inv before.plan

      step : step_kind i.op ≡ steps.call
      step = call_step i.op e

      on : is i.op code.FunctionCall ≡ true
      on = call_op i.op (call_groups i.op e)

      there_in : IsIn i (insts_of f)
      there_in = as_in (insts_of f) i there

      of_it : IsOf i (insts_of f)
      of_it = of_in (insts_of f) i there_in

      g_in : Contains m.functions g
      g_in = contains_found m.functions (arg i 0) g before.function

      some : i.result ≡ 0 → ⊥
      some = (in_it.formed i there).result (typed_result i.op (call_typed i.op on))

      call_is : IsCall s f g i
      call_is = subst (IsTyped s f i) step (rules.typed f is_one i of_it) g before.function

      own : T i.result ≡ Some i.ty
      own = own_type s o.entry right f in_module i there (typed_some s o.entry right f in_module i there (call_typed i.op on))

      -- the result: what the function gives
      result_type : (v : Tree) → type_tree Gs i.ty ≡ Some v → type_tree Gs g.result.0 ≡ Some v
      result_type v shaped = sym call_is.result ∙ (ap (option_and_then (type_tree Gs)) own ∙ shaped)

      given_shape : is_void_in Gs i.ty ≡ false → (v : Tree) × (type_tree Gs i.ty ≡ Some v)
      given_shape off =
          let w = call_row s o.entry right f in_module i there on in
          given_value s o.entry right f in_module i there on w (ap (λ (x : Option Inst). option_map_or (λ (y : Inst). is y.op code.TypeVoid) x false) (sym w.1) ∙ off)

      none_so : is_void_in Gs i.ty ≡ true → (t.naming.result ≡ None) × (N.is_local i.result ≡ false)
      none_so void = (ap (λ (a : Bool). if a then None else Some (shape_of s o.overrides (R m o unit u inv) key g.result.0)) (by_result (is_void_in Gs g.result.0) refl), by_form (is_variable_form (W.form i.result)) refl)
        where
          by_result : (a : Bool) → is_void_in Gs g.result.0 ≡ a → is_void_in Gs g.result.0 ≡ true
          by_result true at = at
          by_result false at =
              let w = (types_of_text bytes m o read fine unit u inv told left before.plan before.planned).result at in
              let shaped : type_tree Gs i.ty ≡ Some w.shape = sym (ap (option_and_then (type_tree Gs)) own) ∙ (call_is.result ∙ w.is) in
              clash (sym void ∙ no_void Gs i.ty (shaped_value Gs i.ty w.shape shaped))

          by_form : (a : Bool) → is_variable_form (W.form i.result) ≡ a → N.is_local i.result ≡ false
          by_form true at = clash (sym void ∙ no_void Gs i.ty (value_so m o right kinds unit u inv p among rules.lends is_one i there_in some at))
          by_form false at = (form_unset m o right kinds unit u inv p among rules.lends is_one i there_in some at).1

      some_so : is_void_in Gs i.ty ≡ false → (t.naming.result ≡ Some (N.shape i.result)) × (same_shape (N.shape i.result) (N.shape i.result) ≡ true) × IsNew i done
      some_so off =
          let v = given_shape off in
          let shape : N.shape i.result ≡ shape_in s Y v.0 = shape_of_value m o unit u inv p i.result v.0 (ap (option_and_then (type_tree Gs)) own ∙ v.1) in
          let whole = result_type v.0 v.1 in (
            ap (λ (a : Bool). if a then None else Some (shape_of s o.overrides (R m o unit u inv) key g.result.0)) (no_void Gs g.result.0 (shaped_value Gs g.result.0 v.0 whole))
                ∙ ap (λ (x : Option Tree). Some (shape_in s Y (unwrap_or x plain.uint))) whole ∙ ap (λ (x : Shape). Some x) (sym shape),
            subst (λ (x : Shape). same_shape x x ≡ true) (sym shape) (shape_itself s key v.0 (value_sized s o.entry right f in_module i.result i.ty own v.0 v.1)),
            is_new m f in_it.order in_it.formed inner_of b body (form.blocks b body.block body.there) befores i rest split some done only,
          )

      -- its name
      number_is : g.id.0 ≡ arg i 0
      number_is = (found_by m.functions (arg i 0) g before.function).1

      named_so : t.name ≡ callee_text W i
      named_so =
          ap (λ (w : Scope). w.setting.key (function_key w.setting.source.entry g.id)) (plan_is s o.entry right kinds o unit u before.plan before.planned).scope_is
          ∙ (ap key (by_test (g.id.0 == u.entry) (eqb_tells g.id.0 u.entry)) ∙ sym (ap (λ (w : Scope). w.setting.key (Id (id (arg i 0)))) (plan_is s o.entry right kinds o unit u p among).scope_is))
        where
          by_test : (a : Bool) → ((a ≡ true) × (g.id.0 ≡ u.entry)) ⊎ ((a ≡ false) × (g.id.0 ≡ u.entry → ⊥)) → (if a then Main else Id g.id) ≡ Id (id (arg i 0))
          by_test true (inl w) = absurd (before.other (sym number_is ∙ w.1))
          by_test true (inr w) = cc
          by_test false w = ap (λ (n : ℕ). Id (id n)) number_is

      user_so : call_kind P t.name ≡ user
      user_so = ap (λ (a : Bool). elim a as (λ a. CallKind) [ true ↦ user | false ↦ atomic_or t.name (atomic_function t.name) ]) (is_function_there bytes m o read fine unit u inv told left before.plan before.planned)

      -- T21: its arguments
      argument_typed : (j : ℕ) → 1 ≤ j → j < length i.args → HasType s o.entry right f in_module (slice_index i.args j)
      argument_typed zero low less = absurd (omega (arith, low))
      argument_typed (suc j) low less =
          typed_value s o.entry right f in_module i.at (slice_index i.args (suc j))
          (subst (λ need_is. is_there_in m f i.at need_is (slice_index i.args (suc j)) ≡ true) (call_need i.op j on) (there_by s o.entry right f in_module i there on (suc j) less))

      types_told : breaks_t21 m.functions Gs T i ≡ false
      types_told = let w = flow_right m o.entry right f in_module i there in ap (is_flow_broken m f w.0 i) (sym (call_group i.op on)) ∙ w.1

      arguments_of_types : AreOfTypes s f g g.params (drop 1 i.args)
      arguments_of_types = arguments_typed s o.entry right (chosen s o.overrides) (λ n. refl) f in_module i there (call_typed i.op on) types_told argument_typed g before.function

      same_callee : (called_function s o.entry right f in_module i there on).0 ≡ g
      same_callee = same_Some (called_function s o.entry right f in_module i there on).0 g (sym (called_function s o.entry right f in_module i there on).1 ∙ before.function)

      as_many : length g.params ≡ length (drop 1 i.args)
      as_many =
          let d = types.named s o.entry right f in_module i there on in
          let members = or_right (differ Gs (word d.0 0) i.ty) (are_other_members Gs T (drop 1 d.0.args) (drop 1 i.args)) (right_call s o.entry right f in_module i there on) in
          subst (λ (h : Function). length h.params ≡ length (drop 1 i.args)) same_callee
          (d.1.many ∙ sym (same_count (length (drop 1 i.args)) (length (drop 1 d.0.args)) (or_left (not (length (drop 1 i.args) == length (drop 1 d.0.args))) (list_any (λ (x : ℕ × ℕ). is_other Gs T x.0 x.1) (zip (drop 1 d.0.args) (drop 1 i.args))) members)))

      -- M4
      no_others : list_any (is_other_pointer Gs f) (drop 1 i.args) ≡ false
      no_others = (rules.lends.arguments f is_one i of_it step).0

      text_so : IsCallText P k s (IsTraced s) rules calls N apart IsLent start f given b done i Rest t before.fine_so before.run (call_arguments W b i)
      text_so = record {
        kind = step;
        function = before.function;
        user_kind = user_so;
        names = names_memory s o.overrides (R m o unit u inv) key f p.graph W.form W.carried;
        share = share_names m o unit u inv o.entry right p before.plan;
        shapes = memory_shape;
        say = λ c z at hs have.
            let known = at.stands.holds.known in
            let lending : IsLending s c.at.below c.at.top = known.lending.top (omega arith) in
            arguments_say bytes m o read fine unit u inv told left right kinds p among before.plan before.planned g_in is_one calls z b done c.at.top
            (λ n v has.
            let w = has_shape (value_shape s f n) v (subst (λ (h : Function). HasShape (value_shape s h n) v) at.stands.function (value_has s rules.fits (functions_of c.at.below) c.at.top n v known.fits.top.0 has)) in
            (w.0, w.1))
            g.params (drop 1 i.args) hs as_many (λ x one. one) arguments_of_types have no_others
            (λ n n_in v has. let w = at_some (drop 1 i.args) n n_in in says c z at.stands (suc w.0) n (behind_first i.args w.0 n w.1) (call_id i.op i.args (suc w.0) on) (call_value i.op w.0 on) v has)
            (λ n r way one.
            subst (λ (h : Function). is_pointer Gs h n ≡ true) at.stands.function
            (whole_in s rules.lends c.at.below c.at.top lending (drop 1 i.args) hs have (subst (λ (h : Function). list_any (is_other_pointer Gs h) (drop 1 i.args) ≡ false) (sym at.stands.function) no_others) n r way one).0);
      }

      -- the law
      pub call_is_left : LeftBy m o right kinds unit u inv p among rules.lends is_one P calls k apart Way keeps form b body done i rest kind.Call
      call_is_left = record {
        value = λ off. let v = given_shape (sym (void_is i.ty) ∙ off) in shaped_value Gs i.ty v.0 v.1;
        statement = λ void c z here.
            let none = none_so (sym (void_is i.ty) ∙ void) in
            subst (λ (x : Text). Plain P calls k N apart s Way f b keeps W done i Rest c (stmt_run P calls k (Stmt.call x (exprs_in (call_arguments W b i))) z)) named_so
            (call_statement P k s (IsTraced s) rules calls N apart IsLent start f given b done i Rest t before.fine_so before.run (exprs_in (call_arguments W b i)) (call_text P k s (IsTraced s) rules calls N apart IsLent start f given b done i Rest t before.fine_so before.run (call_arguments W b i) text_so) none.0 none.1 c z here);
        comes = λ off.
            let made = some_so (sym (void_is i.ty) ∙ off) in
            subst (λ (x : Text). Comes P calls k N apart s Way f b keeps W done i Rest (Expr.call x (exprs_in (call_arguments W b i)))) named_so
            (λ c z here. call_expression P k s (IsTraced s) rules calls N apart IsLent start f given b done i Rest t before.fine_so before.run (exprs_in (call_arguments W b i)) (call_text P k s (IsTraced s) rules calls N apart IsLent start f given b done i Rest t before.fine_so before.run (call_arguments W b i) text_so) made.0 made.1 made.2 c z here);
      }
