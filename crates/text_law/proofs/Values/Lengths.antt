-- OpArrayLength is of a block with a runtime array (T7), which stands in the text; so its expression says the length that the array has.
use Rattle.std.proofs.Common.{◌≡◌, ◌++◌, ◌⊎◌, ◌<◌, ◌==◌, ◌&&◌, ◌||◌, not, ℕ, Bool, true, false, List, [], length, Contains, Option, Some, None, inl, inr, refl, sym, ap, ◌∙◌, subst}
use Rattle.std.specs.Prelude.{is_some, nat_lt, option_map, option_and_then, slice_index}
use Rattle.std.specs.Option.{option_map_or}
use Rattle.std.specs.List.{enumerate_from, list_any}
use Rattle.std.proofs.lemmas.Bool.{and_parts, and_from, not-false}
use Rattle.std.proofs.lemmas.Option.{same_Some}
use Rattle.spv_ops.specs.Opcode.{is}
use Rattle.spv_ops.specs.Enumerants.{class_number}
use Rattle.spv_ops.specs.Operands.{is_id}
use Rattle.spv_ops.specs.declared.Op.{Op}
use Rattle.spv_ops.specs.OpGroups.{group_of}
use Rattle.spv_ops.specs.Shape.{shape}
use Rattle.spv_ops.specs.declared.Op.TheVariants as code
use Rattle.spv_ops.specs.declared.OpGroup.TheVariants as groups
use Rattle.spv_ops.specs.declared.StorageClass.TheVariants as storage
use Rattle.spv_module.specs.Inst.{has_type}
use Rattle.spv_module.specs.Held.{global}
use Rattle.spv_module.specs.State.{ModuleState}
use Rattle.spv_module.specs.declared.inst.Inst.{Inst}
use Rattle.spv_module.specs.declared.inst.Function.{Function}
use Rattle.spv_types.specs.Tree as plain
use Rattle.spv_types.specs.Tree.{Tree, ValueTree}
use Rattle.spv_types.specs.Types.{tree_at, type_tree}
use Rattle.spv_decor.specs.Rows.{word}
use Rattle.spv_index.specs.BlockStructs.{is_storage_struct, is_storage_block}
use Rattle.spv_index.specs.Locals.{insts_of, type_in}
use Rattle.spv_index.specs.Pointers.{pointee}
use Rattle.profile_rules.specs.Places.{is_among}
use Rattle.profile_rules.specs.TypeRows.{is_uint, is_runtime_array, type_row, fails}
use Rattle.profile_rules.specs.ValueRules.{is_block_variable, lacks_array, is_no_array_block, is_no_array_id, breaks_t7}
use Rattle.profile_rules.specs.TypeRules.{is_value_broken}
use Rattle.conformance.specs.Rules.{Options}
use Rattle.module_check.specs.Judged.{IsFine}
use Rattle.module_check.specs.ReadFrom.{IsReadFrom}
use Rattle.traces.specs.Invocations.{Invocation, IsInvocation}
use Rattle.traces.specs.Outcomes.{Result, got}
use Rattle.module_semantics.specs.Setting.{Setting, global_variable, as_variable}
use Rattle.module_semantics.specs.State.{Held, value as holds_value, pointer, global as root, Conf}
use Rattle.module_semantics.specs.Operands.{of_module, as_pointer, pointer_at, arg}
use Rattle.module_semantics.specs.Memory.{variable_type}
use Rattle.name_alloc.specs.declared.claims.Key.{Key}
use Rattle.glsl_ast.specs.Tree.{Text, Expr, Decl, TranslationUnit}
use Rattle.glsl_ast.specs.declared.items.Size.{Size}
use Rattle.glsl_semantics.specs.Shapes.{Shape, uint, Typed, typed}
use Rattle.glsl_semantics.specs.States.{State}
use Rattle.glsl_semantics.specs.Expressions.{Program, Argument, evaluate}
use Rattle.glsl_semantics.specs.Items.{first_program, declared_by as items_declared}
use Rattle.text_rules.specs.Constants.{Source, sizes}
use Rattle.text_rules.specs.Declarations.{declarations}
use Rattle.text_rules.specs.Printed.{has_operand, is_operand_in}
use Rattle.expr_forward.specs.Scope.{Scope}
use Rattle.expr_forward.specs.Values.{expression}
use Rattle.function_text.specs.Functions.{FunctionPlan, written}
use Rattle.unit_rules.specs.Translation.{id_text, global_expr}
use Rattle.unit_rules.specs.Unit.{source_of, item_names_of, IsUnitOf}
use Rattle.list_law.proofs.Numbers.{less_of}
use Rattle.list_law.proofs.Tests.{clash}
use Rattle.list_law.proofs.Options.{none_some}
use Rattle.plan_law.specs.InOrder.{IsAmong}
use Rattle.fits_law.specs.State.{ConfFits}
use Rattle.fits_law.proofs.Steps.{named}
use Rattle.type_law.specs.Shaped.{AreConstants, HasConstants}
use Rattle.type_law.proofs.Constants.{constants_are}
use Rattle.type_law.proofs.Vectors.{three_off}
use Rattle.agree_law.specs.Agree.{Naming, Agree}
use Rattle.agree_law.specs.Blocks.{measured}
use Rattle.call_law.specs.Known.{IsFunctionOf, LendsWhole}
use Rattle.typed_law.specs.Conforms.{IsConforming}
use Rattle.typed_law.proofs.Lists.{or_left, or_right, and_off}
use Rattle.typed_law.proofs.Rules.{value_right}
use Rattle.typed_law.proofs.Shapes.{row_of_shape}
use Rattle.typed_law.proofs.Types.{row_is}
use Rattle.typed_law.proofs.Values.{inside, own_shape, IsRow, HasType}
use Rattle.global_law.specs.Starts.{IsPrivate, IsBuiltIn, IsShared, IsBlock}
use Rattle.global_law.specs.Chains.{NoneMakes}
use Rattle.global_law.proofs.Path.Ways.{start_way}
use Rattle.global_law.specs.Sources.{chosen}
use Rattle.global_law.proofs.Global.Told.{items_invocation}
use Rattle.global_law.proofs.Constant.Conforming.{uint_tree}
use Rattle.claim_law.specs.Claimed.{IsIn}
use Rattle.claim_law.proofs.Claim.Constants.{found_in}
use Rattle.claim_law.proofs.Claim.Listed.{in_mapped, any_in, at_place}
use Rattle.grammar_law.proofs.Unit.Lists.{as_among, numbered_first, same_test}
use Rattle.grammar_law.proofs.Unit.ResultShapes.{reads_first, IsReadAt, first_read, typed_read, makes, made_shaped}
use Rattle.grammar_law.proofs.Unit.Steps.{at_index}
use Rattle.grammar_law.proofs.Unit.Ways.{HaveKinds, F, V, in_module, written_is}
use Rattle.text_law.proofs.Naming.Keys.{S, R as reached_in, found as names_found, key as key_of, names}
use Rattle.text_law.specs.Left.{IsLeftOfGlobals}
use Rattle.text_law.proofs.Outside.Globals.{BeginsPaths, begins_paths}
use Rattle.text_law.proofs.Outside.Starts.{variable_start}
use Rattle.text_law.proofs.Outside.Text.{fs as function_items, P as program_in, type_is}
use Rattle.lowers_law.proofs.Lengths.{IsMeasured, length_is_said}
use Rattle.text_law.proofs.Written.KnownValues.{shapes_are}
use Rattle.text_law.proofs.Written.Mentions.{length_op}
use Rattle.text_law.proofs.Values.Known.{AreLengthsSaid}
use Rattle.text_law.proofs.Values.RuntimeMembers.{no_runtime, IsRuntimeMember, runtime_member}

length_typed : (q : Op) → q ≡ code.ArrayLength → has_type q ≡ true
unfolding shape
length_typed q same = ap has_type same

told_of : (inv : Invocation) (zs : List Size) (items : List Decl) → (items_declared inv zs items).program.invocation ≡ inv
unfolding items_declared
told_of inv zs items = items_invocation items (record { program = first_program inv zs; shared_variables = 0; globals = []; is_stuck = false })

abbrev is_block_class : ℕ → Bool
is_block_class c = (c == class_number storage.Uniform) || (c == class_number storage.PushConstant) || (c == class_number storage.StorageBuffer)

module _ (bytes : List ℕ) (m : ModuleState) (o : Options) (read : IsReadFrom bytes m) (fine : IsFine m o) (unit : TranslationUnit) (u : IsUnitOf m o unit) (inv : Invocation) (told : IsInvocation inv) (left : IsLeftOfGlobals bytes m o)
    (right : IsConforming m o.entry) (kinds : HaveKinds m.globals) (p : FunctionPlan) (among : IsIn p u.plans) (lends : LendsWhole (S m o unit u inv)) (b : ℕ) where
  abbrev s : Setting
  s = S m o unit u inv

  abbrev N : Naming
  N = names m o unit u inv p

  abbrev Gs : List Inst
  Gs = m.globals

  abbrev Fn : Function
  Fn = F s o.entry right kinds o unit u p among

  abbrev Where : Scope
  Where = V s o.entry right kinds o unit u p among

  abbrev T : ℕ → Option ℕ
  T = type_in m.globals Fn

  abbrev P : Program
  P = program_in bytes m o read fine unit u inv told left

  abbrev found : Key → Option Text
  found = names_found m o unit u inv

  abbrev key : Key → Text
  key = key_of m o unit u inv

  abbrev src : Source
  src = source_of m o u.entry

  abbrev globals : ℕ → Option Expr
  globals = global_expr src (id_text found)

  in_it : Contains m.functions Fn
  in_it = in_module s o.entry right kinds o unit u p among

  have : HasConstants s (chosen s o.overrides)
  have k = refl

  constants : AreConstants s
  constants = constants_are s (chosen s o.overrides) have right.results

  -- the program is told of the invocation
  told_so : P.invocation ≡ s.invocation
  told_so = told_of inv (sizes src) (declarations src (reached_in m o unit u inv) (item_names_of src found) ++ function_items bytes m o read fine unit u inv told left)

  module _ (j : Inst) (there : IsIn j (insts_of Fn)) (opcode : j.op ≡ code.ArrayLength) where
    stands : IsAmong j (insts_of Fn)
    stands = as_among (insts_of Fn) j there

    group : group_of j.op ≡ groups.ArrayLength
    unfolding group_of
    group = ap group_of opcode

    first : IsReadAt j.op j.args 0
    first = first_read j.op j.args (ap reads_first group)

    pointer_typed : HasType s o.entry right Fn in_it (word j 0)
    pointer_typed = typed_read s o.entry right Fn in_it j stands 0 first

    broken : breaks_t7 Gs T j ≡ false
    broken = ap (is_value_broken m T j) (sym group) ∙ value_right m o.entry right Fn in_it j stands

    found_block : is_no_array_id Gs (word j 1) (word j 0) ≡ false
    found_block = and_off (is_some (T (word j 0))) (is_no_array_id Gs (word j 1) (word j 0)) (or_right (fails is_uint Gs j.ty) (is_some (T (word j 0)) && is_no_array_id Gs (word j 1) (word j 0)) broken) (ap is_some pointer_typed.1)

    many : 0 < length j.args
    many = first.many (length j.args) ((inside s o.entry right Fn in_it).formed j stands).least

    -- the length is a uint
    shape_is : has_type j.op ≡ true → N.shape j.result ≡ uint
    shape_is has =
        let t = made_shaped s o.entry right Fn in_it j stands has (ap makes group) in
        let g = row_of_shape s o.entry right Fn in_it j.ty t.0 t.1 in
        let on : is_uint g.0 ≡ true = not-false (is_uint g.0) (ap (λ (q : Option Inst). option_map_or (λ (x : Inst). not (is_uint x)) q false) (sym (row_is m o.entry right j.ty g.0 g.1 g.2)) ∙ or_left (fails is_uint Gs j.ty) (is_some (T (word j 0)) && is_no_array_id Gs (word j 1) (word j 0)) broken) in
        let shaped : type_tree Gs j.ty ≡ Some plain.uint = ap (λ (q : Option Inst). option_map_or (tree_at Gs) q None) g.1 ∙ uint_tree s g.0 on in
        shapes_are m o right kinds unit u inv p among j.result plain.uint (own_shape s o.entry right Fn in_it j stands plain.uint shaped)

    module _ (v : Inst) (at : global Gs (word j 0) ≡ Some v) (off : is_no_array_block Gs (word j 1) v ≡ false) where
      v_in : IsIn v Gs × (v.result ≡ word j 0)
      v_in = found_in Gs (word j 0) v at

      block_on : is_block_variable v ≡ true
      block_on = not-false (is_block_variable v) (or_left (not (is_block_variable v)) (option_map_or (lacks_array Gs (word j 1)) (option_and_then (type_row Gs) (pointee Gs v.ty)) false) off)

      on_variable : is v.op code.Variable ≡ true
      on_variable = (and_parts (is v.op code.Variable) (is_block_class (word v 0)) block_on).0

      class_on : is_block_class (word v 0) ≡ true
      class_on = (and_parts (is v.op code.Variable) (is_block_class (word v 0)) block_on).1

      itself : global_variable s (word j 0) ≡ Some v
      itself = ap (λ (q : Option Inst). elim q as (λ q. Option Inst) [ None ↦ None | Some g ↦ as_variable g ]) at ∙ ap (λ (t : Bool). elim t as (λ t. Option Inst) [ true ↦ Some v | false ↦ None ]) on_variable

      own : global_variable s v.result ≡ Some v
      own = subst (λ (k : ℕ). global_variable s k ≡ Some v) (sym v_in.1) itself

      written_in : IsIn j (insts_of (written p))
      written_in = subst (λ (g : Function). IsIn j (insts_of g)) (sym (written_is s o.entry right kinds o unit u p among)) there

      operand : has_operand j v.result ≡ true
      operand =
          any_in (λ (q : ℕ × ℕ). is_id j.op j.args q.0 && (q.1 == v.result)) (enumerate_from 0 j.args) (0, word j 0) (numbered_first j.args 0 (word j 0) (at_index j.args 0 many))
          (and_from (is_id j.op j.args 0) (word j 0 == v.result) first.names_id (same_test (word j 0) v.result (sym v_in.1)))

      mentioned : is_operand_in (reached_in m o unit u inv).functions v.result ≡ true
      mentioned =
          any_in (λ (g : Function). list_any (λ (i : Inst). has_operand i v.result) (insts_of g)) (reached_in m o unit u inv).functions (written p) (in_mapped written u.plans p among)
          (any_in (λ (i : Inst). has_operand i v.result) (insts_of (written p)) j written_in operand)

      w : BeginsPaths bytes m o read fine unit u inv told left v own mentioned p
      w = begins_paths bytes m o read fine unit u inv told left v own mentioned p

      -- it is of no other class
      other : (g : Inst) → global_variable s v.result ≡ Some g → (c : ℕ) → word g 0 ≡ c → is_block_class c ≡ false → ⊥
      other g is c class none =
          let same : v ≡ g = same_Some v g (sym own ∙ is) in
          clash (sym class_on ∙ (ap is_block_class (ap (λ (x : Inst). word x 0) same ∙ class) ∙ none))

      block_is : IsBlock P N s src key globals v.result w.shape (root v.result) []
      block_is = by_kind w.kind
        where
          by_kind : IsPrivate P N s src key globals v.result w.shape (root v.result) []
              ⊎ (IsBuiltIn P N s src key globals v.result w.shape (root v.result) [] ⊎ (IsShared P N s src key globals v.result w.shape (root v.result) [] ⊎ IsBlock P N s src key globals v.result w.shape (root v.result) [])) → IsBlock P N s src key globals v.result w.shape (root v.result) []
          by_kind (inl is) = absurd (other is.inst is.there (class_number storage.Private) is.class refl)
          by_kind (inr (inl is)) = absurd (other is.inst is.there (class_number storage.Input) is.class refl)
          by_kind (inr (inr (inl is))) = absurd (other is.inst is.there (class_number storage.Workgroup) is.class refl)
          by_kind (inr (inr (inr is))) = is

      inst_is : block_is.inst ≡ v
      inst_is = same_Some block_is.inst v (sym block_is.there ∙ own)

      row : IsRow s o.entry right w.type
      row = row_of_shape s o.entry right Fn in_it w.type w.shape w.typed_as

      lacks_none : lacks_array Gs (word j 1) row.0 ≡ false
      lacks_none =
          let known : option_and_then (type_row Gs) (pointee Gs v.ty) ≡ Some row.0 = ap (option_and_then (type_row Gs)) w.points_to ∙ row_is m o.entry right w.type row.0 row.1 row.2 in
          ap (λ (q : Option Inst). option_map_or (lacks_array Gs (word j 1)) q false) (sym known) ∙ or_right (not (is_block_variable v)) (option_map_or (lacks_array Gs (word j 1)) (option_and_then (type_row Gs) (pointee Gs v.ty)) false) off

      member : IsRuntimeMember s o.entry right Fn in_it row.0 block_is.parts (word j 1)
      member =
          let parts = three_off (not (is row.0.op code.TypeStruct)) (not (nat_lt (word j 1) (length row.0.args))) (fails is_runtime_array Gs (word row.0 (word j 1))) lacks_none in
          runtime_member s o.entry right Fn in_it row.0 w.type (variable_type s block_is.inst) block_is.parts (word j 1) row.1 (w.typed_as ∙ ap (λ (t : Tree). Some t) block_is.shape) (not-false (is row.0.op code.TypeStruct) parts.0) (not-false (nat_lt (word j 1) (length row.0.args)) parts.1) parts.2

      -- P17: a push constant has no runtime array
      in_memory : (word block_is.inst 0 ≡ class_number storage.StorageBuffer) ⊎ (word block_is.inst 0 ≡ class_number storage.Uniform)
      in_memory = by_class block_is.class
        where
          no_storage : word block_is.inst 0 ≡ class_number storage.PushConstant → is_storage_block m.heads Gs v ≡ false
          no_storage class = ap (λ (q : Option ℕ). option_map_or (is_storage_struct m.heads (word v 0)) q false) w.points_to ∙ ap (λ (c : ℕ). is_storage_struct m.heads c w.type) (ap (λ (x : Inst). word x 0) (sym inst_is) ∙ class)

          never : word block_is.inst 0 ≡ class_number storage.PushConstant → ⊥
          never class =
              let parts = three_off (not (is row.0.op code.TypeStruct)) (not (nat_lt (word j 1) (length row.0.args))) (fails is_runtime_array Gs (word row.0 (word j 1))) lacks_none in
              let less = less_of (word j 1) (length row.0.args) (not-false (nat_lt (word j 1) (length row.0.args)) parts.1) in
              let among_args : is_among row.0.args member.row.result ≡ true =
              subst (λ (k : ℕ). is_among row.0.args k ≡ true) (sym (named Gs (word row.0 (word j 1)) member.row member.there)) (is_there row.0.args (word j 1) less) in
              clash (sym member.is_runtime ∙ no_runtime m o.entry right v (as_among Gs v v_in.0) on_variable (no_storage class) row.0 w.type row.1 w.points_to (not-false (is row.0.op code.TypeStruct) parts.0) member.row (as_among Gs member.row (found_in Gs (word row.0 (word j 1)) member.row member.there).0) among_args)
            where
              is_there : (xs : List ℕ) (k : ℕ) → k < length xs → is_among xs (slice_index xs k) ≡ true
              is_there xs k less = any_in (λ (x : ℕ). x == slice_index xs k) xs (slice_index xs k) (at_place xs k (slice_index xs k) (at_index xs k less)) (same_test (slice_index xs k) (slice_index xs k) refl)

          by_class : (word block_is.inst 0 ≡ class_number storage.StorageBuffer) ⊎ ((word block_is.inst 0 ≡ class_number storage.Uniform) ⊎ (word block_is.inst 0 ≡ class_number storage.PushConstant)) → (word block_is.inst 0 ≡ class_number storage.StorageBuffer) ⊎ (word block_is.inst 0 ≡ class_number storage.Uniform)
          by_class (inl is) = inl is
          by_class (inr (inl is)) = inr is
          by_class (inr (inr is)) = absurd (never is)

      module _ (calls : Text → List Argument → State → Result (Option Typed × State)) (c : Conf) (z : State) (agree : Agree N c z) (fits : ConfFits s c) where
        points : pointer_at s c.top v.result ≡ Some (root v.result, [])
        points = by_ids (c.top.ids v.result) refl
          where
            there_too : global Gs v.result ≡ Some v
            there_too = subst (λ (k : ℕ). global Gs k ≡ Some v) (sym v_in.1) at

            by_ids : (x : Option Held) → c.top.ids v.result ≡ x → as_pointer (elim x as (λ x. Option Held) [ Some h ↦ Some h | None ↦ of_module s v.result ]) ≡ Some (root v.result, [])
            by_ids (Some h) has = absurd (none_some (sym (fits.top.0 v.result h has).0 ∙ there_too))
            by_ids None has = ap (λ (q : Option Inst). as_pointer (elim q as (λ q. Option Held) [ Some g ↦ Some (pointer (root v.result) []) | None ↦ option_map holds_value (s.constants v.result) ])) own

        abbrev Measured : ℕ → Type 0
        Measured n = IsMeasured s o.overrides found Fn globals Where.form Where.carried P calls z N constants c agree told_so b n (word j 1)

        measured_so : Measured (arg j 0)
        measured_so = subst Measured v_in.1 (record {
          shape = w.shape;
          is = block_is;
          members = w.members;
          way = start_way Gs Fn b v.result (subst (λ (g : Function). NoneMakes v.result (insts_of g)) (written_is s o.entry right kinds o unit u p among) (variable_start bytes m o read fine unit u inv told left p among calls z b [] v.result v j own written_in operand).none);
          in_memory = in_memory;
          element = member.element;
          at = member.at;
          type_is = type_is bytes m o read fine unit u inv told left v.result v own Fn ∙ ap (λ (x : Inst). Some x.ty) (sym inst_is);
          points = points;
        })

        said : (expr : ℕ → Expr) (x : ValueTree) → measured s c.top j ≡ Some (holds_value x) → evaluate P calls (expression Where expr b j) z ≡ got [] (typed uint x, z)
        said expr x has = length_is_said s o.overrides found Fn globals Where.form Where.carried P calls z N constants c agree told_so b j opcode expr measured_so x has

  -- The law.
  pub lengths_said : (one : IsFunctionOf Fn m.functions) (calls : Text → List Argument → State → Result (Option Typed × State)) (c : Conf) (z : State) (expr : ℕ → Expr) → Agree N c z → ConfFits s c → AreLengthsSaid bytes m o read fine unit u inv told left right kinds p among lends b one calls c z expr
  lengths_said one calls c z expr agree fits j there step x has =
      let opcode = length_op j.op step in
      subst (λ (q : Shape). evaluate P calls (expression Where expr b j) z ≡ got [] (typed q x, z)) (sym (shape_is j there opcode (length_typed j.op opcode))) (by_global j there opcode (global Gs (word j 0)) refl (found_block j there opcode) has)
    where
      by_global : (j : Inst) (there : IsIn j (insts_of Fn)) (opcode : j.op ≡ code.ArrayLength) (q : Option Inst) → global Gs (word j 0) ≡ q → option_map_or (is_no_array_block Gs (word j 1)) q true ≡ false → measured s c.top j ≡ Some (holds_value x) → evaluate P calls (expression Where expr b j) z ≡ got [] (typed uint x, z)
      by_global j there opcode None at off has = cc
      by_global j there opcode (Some v) at off has = said j there opcode v at off calls c z agree fits expr x has
