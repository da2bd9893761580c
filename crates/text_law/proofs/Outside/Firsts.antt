-- The variables of an accepted module's functions begin, as they are written, with the values with which they begin in the module.
use Rattle.std.proofs.Common.{◌≡◌, ◌==◌, ◌||◌, ◌&&◌, ◌+◌, ℕ, Bool, true, false, List, ◌∷◌, [], length, not, Option, Some, None, refl, sym, ap, ◌∙◌, subst, arith}
use Rattle.std.specs.Prelude.{nat_lt, option_and_then, option_map, slice_get, slice_index, unwrap_or}
use Rattle.std.specs.Option.{option_map_or}
use Rattle.std.proofs.lemmas.Bool.Decides.{nat_tests}
use Rattle.std.proofs.lemmas.Bool.{and_from}
use Rattle.std.proofs.lemmas.Option.{same_Some}
use Rattle.spv_ops.specs.Opcode.{is, number}
use Rattle.spv_ops.specs.OpGroups.{group_of, takes_of}
use Rattle.spv_ops.specs.Groups.{is_constant as is_constant_op}
use Rattle.spv_ops.specs.Enumerants.{class_number}
use Rattle.spv_ops.specs.declared.Op.{Op}
use Rattle.spv_ops.specs.declared.Op.TheVariants as code
use Rattle.spv_ops.specs.declared.StorageClass.TheVariants as storage
use Rattle.spv_module.specs.Held.{global as global_inst}
use Rattle.spv_module.specs.State.{ModuleState}
use Rattle.spv_module.specs.declared.inst.Inst.{Inst}
use Rattle.spv_module.specs.declared.inst.Function.{Function}
use Rattle.spv_types.specs.Tree as plain
use Rattle.spv_types.specs.Tree.{ValueTree}
use Rattle.spv_types.specs.Types.{type_tree}
use Rattle.spv_types.specs.Leaves.{zero_of}
use Rattle.spv_decor.specs.Decorations.{local_insts}
use Rattle.spv_decor.specs.Rows.{word}
use Rattle.spv_index.specs.Locals.{insts_of}
use Rattle.use_chains.specs.Slots.{is_value, is_label_reached, is_taken, is_slot, mentions}
use Rattle.conformance.specs.Rules.{Options}
use Rattle.module_check.specs.Judged.{IsFine}
use Rattle.module_check.specs.ReadFrom.{IsReadFrom}
use Rattle.profile_rules.specs.Places.{is_variable, body_insts, is_defined_elsewhere}
use Rattle.profile_rules.specs.Variables.{is_of_other_type, is_other_value}
use Rattle.traces.specs.Invocations.{Invocation, IsInvocation}
use Rattle.traces.specs.Outcomes.{Result, got}
use Rattle.module_semantics.specs.Setting.{Setting, as_variable}
use Rattle.module_semantics.specs.Memory.{variable_type}
use Rattle.module_semantics.specs.Accesses.{initial_by, initial_in, initial as begins}
use Rattle.name_alloc.specs.declared.claims.Key.{Key}
use Rattle.glsl_ast.specs.Tree.{Text, literal, Decl, TranslationUnit}
use Rattle.glsl_ast.specs.declared.expressions.Literal.TheVariants.{Uint}
use Rattle.glsl_semantics.specs.Shapes.{Typed, same_shape, typed as typed_value}
use Rattle.glsl_semantics.specs.States.{State}
use Rattle.glsl_semantics.specs.Expressions.{Program, Argument, type_of, evaluate}
use Rattle.text_rules.specs.Constants.{Source, constant_expr}
use Rattle.text_rules.specs.Printed.{Reached}
use Rattle.text_rules.specs.Types.{zero_text}
use Rattle.text_rules.specs.Declarations.{Names, spelling, type_at, pointee_at, zero_at, expr_at, initial}
use Rattle.function_text.specs.Functions.{FunctionPlan, written}
use Rattle.unit_rules.specs.Translation.{names_of}
use Rattle.unit_rules.specs.Unit.{liveness_of, source_of, IsUnitOf}
use Rattle.plan_law.specs.InOrder.{IsAmong}
use Rattle.plan_law.proofs.Order.{among_right as body_right}
use Rattle.agree_law.specs.Agree.{Naming}
use Rattle.typed_law.specs.Conforms.{IsConforming}
use Rattle.typed_law.proofs.Lists.{or_right, and_off}
use Rattle.typed_law.proofs.Rules.{initializer_right}
use Rattle.typed_law.proofs.Values.{same_count}
use Rattle.accepted_law.proofs.Accepted.{accepted_conforming}
use Rattle.lowering_law.proofs.Saying.{read as fetched}
use Rattle.global_law.specs.Parts.{shape_in}
use Rattle.global_law.specs.Walks.{struct_names}
use Rattle.global_law.proofs.Global.Blocks.{type_declared}
use Rattle.global_law.proofs.Global.Zeros.{HasZero, is_declared, zero_lengths, same_itself, zero_says}
use Rattle.function_law.specs.Tops.{IsClear, SaysFirst}
use Rattle.global_law.specs.Items.{AreAsked}
use Rattle.global_law.proofs.Constant.Constants.{AreFunctions}
use Rattle.global_law.proofs.Constant.Types.{zero_declared}
use Rattle.list_law.proofs.Lists.{second_at}
use Rattle.global_law.proofs.Constant.Variables.{variable_id}
use Rattle.claim_law.specs.Claimed.{IsIn}
use Rattle.claim_law.proofs.Claim.Constants.{mention_in}
use Rattle.claim_law.proofs.Claim.Listed.{in_mapped, any_in}
use Rattle.grammar_law.proofs.Unit.Lists.{same_test, numbered_first, in_filter}
use Rattle.text_law.proofs.Naming.Keys.{S, found as names_found, key as key_of, R, names as names_in}
use Rattle.text_law.proofs.Naming.Firsts.{no_phi}
use Rattle.text_law.specs.Left.{IsLeftOfGlobals}
use Rattle.text_law.proofs.Outside.Text.{fs as function_items, are_functions, asked as asked_of, P as program_in}
use Rattle.text_law.proofs.Outside.Locals.{of_it, variable_reached, variable_live, local, IsLocalVariable, local_variable}
use Rattle.text_law.proofs.Outside.Constants.{IsMentioned, constant_shape, it, constant, constant_read}
use Rattle.text_law.proofs.Outside.Starts.{shape_of}

-- the second operand of a variable is mentioned
takes_value : (o : Op) → is o code.Variable ≡ true → is_value o 1 ≡ true
unfolding number group_of takes_of
takes_value code.Variable on = refl
takes_value o on = cc

some_place : (args : List ℕ) (n : ℕ) → slice_get args 1 ≡ Some n → nat_lt 1 (length args) ≡ true
some_place [] n e = cc
some_place (a ∷ []) n e = cc
some_place (a ∷ b ∷ args) n e = grind (arith, nat_tests)

module _ (bytes : List ℕ) (m : ModuleState) (o : Options) (read : IsReadFrom bytes m) (fine : IsFine m o) (unit : TranslationUnit) (u : IsUnitOf m o unit) (inv : Invocation) (told : IsInvocation inv) (left : IsLeftOfGlobals bytes m o) (p : FunctionPlan) (planned : IsIn p u.plans) where
  abbrev s : Setting
  s = S m o unit u inv

  abbrev found : Key → Option Text
  found = names_found m o unit u inv

  abbrev key : Key → Text
  key = key_of m o unit u inv

  abbrev r : Reached
  r = R m o unit u inv

  abbrev src : Source
  src = source_of m o u.entry

  abbrev Gs : List Inst
  Gs = m.globals

  abbrev f : Function
  f = written p

  abbrev N : Naming
  N = names_in m o unit u inv p

  abbrev Ns : Names
  Ns = names_of found

  abbrev fs : List Decl
  fs = function_items bytes m o read fine unit u inv told left

  abbrev asked : AreAsked s o.entry o.overrides found r
  asked = asked_of bytes m o read fine unit u inv told left

  abbrev P : Program
  P = program_in bytes m o read fine unit u inv told left

  functions : AreFunctions fs
  functions = are_functions bytes m o read fine unit u inv told left

  abbrev right : IsConforming m o.entry
  right = accepted_conforming bytes m o read fine

  module _ (i : Inst) (there : IsIn i (insts_of f)) (on : is_variable i ≡ true) where
    w : IsLocalVariable bytes m o read fine unit u inv told left p planned i there on
    w = local_variable bytes m o read fine unit u inv told left p planned i there on

    zero : HasZero P s src key w.shape
    zero = zero_declared s o.entry o.overrides found r asked fs functions w.word_at w.shape w.within w.sized w.held

    shape_is : N.shape i.result ≡ shape_in s (struct_names key) w.shape
    shape_is = shape_of bytes m o read fine unit u inv told left p planned i.result i.ty w.type w.shape w.type_is w.points_to w.typed_as

    typed_as : type_tree Gs (pointee_at src i.ty) ≡ Some w.shape
    typed_as = ap (λ a. type_tree Gs (unwrap_or a i.ty)) w.points_to ∙ w.typed_as

    -- Its type is declared.
    pub variable_declared : type_of P (type_at src Ns (pointee_at src i.ty)) ≡ Some (N.shape i.result)
    variable_declared = type_declared s f o.overrides key (λ g. literal (Uint 0)) P (pointee_at src i.ty) w.shape typed_as (zero_lengths P s src key w.shape zero) (is_declared P s src key w.shape zero) ∙ ap (λ t. Some t) (sym shape_is)

    pub variable_whole : same_shape (N.shape i.result) (N.shape i.result) ≡ true
    variable_whole = subst (λ t. same_shape t t ≡ true) (sym shape_is) (same_itself P s src key w.shape zero)

    first_is : initial_in s f i.result ≡ begins s i
    first_is =
        ap (λ (a : Option Inst). option_and_then (begins s) (option_and_then as_variable a)) w.itself
        ∙ ap (λ (b : Bool). option_and_then (begins s) (elim b as (λ b. Option Inst) [ true ↦ Some i | false ↦ None ])) on

    -- without an initializer, with its zero
    zero_first : slice_get i.args 1 ≡ None → begins s i ≡ Some (zero_of w.shape)
    zero_first none = by_args i.args none
      where
        by_args : (args : List ℕ) → slice_get args 1 ≡ None → initial_by s (type_tree Gs (variable_type s i)) args ≡ Some (zero_of w.shape)
        by_args [] e = ap (λ a. option_map zero_of (type_tree Gs (unwrap_or a 0))) w.points_to ∙ ap (option_map zero_of) w.typed_as
        by_args (c ∷ []) e = ap (λ a. option_map zero_of (type_tree Gs (unwrap_or a 0))) w.points_to ∙ ap (option_map zero_of) w.typed_as
        by_args (c ∷ n ∷ rest) e = cc

    given_first : (n : ℕ) → slice_get i.args 1 ≡ Some n → begins s i ≡ s.constants n
    given_first n second = by_args i.args second
      where
        by_args : (args : List ℕ) → slice_get args 1 ≡ Some n → initial_by s (type_tree Gs (variable_type s i)) args ≡ s.constants n
        by_args [] e = cc
        by_args (c ∷ []) e = cc
        by_args (c ∷ k ∷ rest) e = ap s.constants (same_Some k n e)

    -- P16: the initializer is a constant of the type that the variable points to
    same_type : (n : ℕ) (h : Inst) → slice_get i.args 1 ≡ Some n → global_inst Gs n ≡ Some h → h.ty ≡ w.type
    same_type n h second at =
        let place = second_at i.args n second in
        let body : IsAmong i (body_insts m) = body_right i Gs (local_insts m) (local bytes m o read fine unit u inv told left p planned i there on) in
        let off = and_off (is_variable i && nat_lt 1 (length i.args)) (not ((word i 0 == class_number storage.Function) || (word i 0 == class_number storage.Private)) || is_other_value m i (word i 1))
        (initializer_right m o.entry right i body) (and_from (is_variable i) (nat_lt 1 (length i.args)) on (some_place i.args n second)) in
        let other_value = or_right (not ((word i 0 == class_number storage.Function) || (word i 0 == class_number storage.Private))) (is_other_value m i (word i 1)) off in
        let row : global_inst Gs (word i 1) ≡ Some h = ap (global_inst Gs) place.1 ∙ at in
        let other = or_right (not (is_constant_op h.op)) (is_of_other_type Gs i h) (ap (λ a. option_map_or (λ (g : Inst). not (is_constant_op g.op) || is_of_other_type Gs i g) a (is_defined_elsewhere m (word i 1))) (sym row) ∙ other_value) in
        same_count h.ty w.type (ap (λ a. option_map_or (λ (k : ℕ). not (h.ty == k)) a false) (sym w.points_to) ∙ other)

    -- which the text reads
    mentioned : (n : ℕ) → slice_get i.args 1 ≡ Some n → IsMentioned bytes m o read fine unit u inv told left n
    mentioned n second =
        let reached = (liveness_of src p).reached in
        let taken : is_taken f reached i 1 ≡ true = ap (λ (b : Bool). not b || is_label_reached f reached (slice_index i.args (1 + 1))) (no_phi i.op on) in
        let slot : is_slot f reached i 1 ≡ true = and_from _ _ (variable_id i.op i.args 0 on) (and_from (is_value i.op 1) (is_taken f reached i 1) (takes_value i.op on) taken) in
        mention_in m o unit u p i n planned (of_it bytes m o read fine unit u inv told left p planned i there on) (variable_reached bytes m o read fine unit u inv told left p planned i there on) (variable_live bytes m o read fine unit u inv told left p planned i there on)
        (any_in (λ (k : ℕ). k == n) (mentions f reached i) n
        (in_mapped (λ (x : ℕ × ℕ). x.1) _ (1, n) (in_filter (λ (x : ℕ × ℕ). is_slot f reached i x.0) _ (1, n) (numbered_first i.args 1 n second) slot)) (same_test n n refl))

    module _ (calls : Text → List Argument → State → Result (Option Typed × State)) where
      abbrev Goal : Type 0
      Goal = (a : ValueTree) → begins s i ≡ Some a → (z : State) → IsClear N z → evaluate P calls (initial src Ns i) z ≡ got [] (typed_value (N.shape i.result) a, z)

      by_zero : slice_get i.args 1 ≡ None → Goal
      by_zero none a is z clear =
          let same : zero_of w.shape ≡ a = same_Some (zero_of w.shape) a (sym (zero_first none) ∙ is) in
          ap (λ e. evaluate P calls (option_map_or (expr_at src Ns) e (zero_at src Ns (pointee_at src i.ty))) z) none
          ∙ ap (λ e. evaluate P calls (zero_text (spelling src Ns.id) (unwrap_or e plain.uint)) z) typed_as
          ∙ ap fetched (zero_says P s src key calls z w.shape zero)
          ∙ ap (λ v. got [] (typed_value (shape_in s (struct_names key) w.shape) v, z)) same
          ∙ ap (λ t. got [] (typed_value t a, z)) (sym shape_is)

      by_constant : (n : ℕ) → slice_get i.args 1 ≡ Some n → Goal
      by_constant n second a is z clear =
          let has : s.constants n ≡ Some a = sym (given_first n second) ∙ is in
          let read_in = mentioned n second in
          let c = it bytes m o read fine unit u inv told left p n a has read_in in
          let type_is = same_type n c.inst second c.there in
          let one : N.shape n ≡ shape_in s (struct_names key) w.shape =
          constant_shape bytes m o read fine unit u inv told left f n c.inst w.shape c.there (constant bytes m o read fine unit u inv told left p n a has read_in) (ap (type_tree Gs) type_is ∙ w.typed_as) in
          ap (λ e. evaluate P calls (option_map_or (expr_at src Ns) e (zero_at src Ns (pointee_at src i.ty))) z) second
          ∙ ap (λ e. evaluate P calls (option_map_or (constant_expr src Ns.id) e (literal (Uint 0))) z) c.there
          ∙ constant_read bytes m o read fine unit u inv told left p n a has read_in calls z clear
          ∙ ap (λ t. got [] (typed_value t a, z)) (one ∙ sym shape_is)

      -- It begins with the value that its expression says.
      pub firsts : SaysFirst P calls N (N.shape i.result) (Some (initial src Ns i)) (initial_in s f i.result)
      firsts = (variable_whole, λ a is z clear. by_second (slice_get i.args 1) refl a (sym first_is ∙ is) z clear)
        where
          by_second : (e : Option ℕ) → slice_get i.args 1 ≡ e → Goal
          by_second None second = by_zero second
          by_second (Some n) second = by_constant n second
