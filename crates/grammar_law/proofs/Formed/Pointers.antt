-- In a conforming module the result of an instruction has a shape, but that of a variable, of a chain and of a call of a function that is void: for it would be of the type of an operand that is of no value type (T2 to T25), and there is none (M5, P19).
use Rattle.std.proofs.Common.{◌≡◌, ◌<◌, ◌≤◌, ◌+◌, ◌==◌, ◌||◌, ◌&&◌, not, ℕ, Bool, true, false, List, [], ◌∷◌, length, take, drop, Option, Some, None, inl, inr, refl, sym, ap, subst, ◌∙◌, if◌then◌else◌, arith}
use Rattle.std.specs.Prelude.{◌⊎◌, nat_le, is_some, option_map, option_and_then, Contains, slice_index}
use Rattle.std.specs.Option.{option_map_or, option_or}
use Rattle.std.specs.List.{list_any, list_all, zip}
use Rattle.std.proofs.lemmas.Bool.Decides.{eqb_tells}
use Rattle.std.proofs.lemmas.Bool.{not-false}
use Rattle.spv_words.specs.declared.rule.Rule.TheVariants.{M5}
use Rattle.spv_ops.specs.Opcode.{is, number}
use Rattle.spv_ops.specs.Operands.{is_id}
use Rattle.spv_ops.specs.OpGroups.{takes_of, group_of}
use Rattle.spv_ops.specs.Shape.{shape, count_of}
use Rattle.spv_ops.specs.declared.AtomicOp.{AtomicOp}
use Rattle.spv_ops.specs.declared.AtomicOp.TheVariants as atomics
use Rattle.spv_ops.specs.declared.OpGroup.{OpGroup}
use Rattle.spv_ops.specs.declared.OpGroup.TheVariants as groups
use Rattle.spv_ops.specs.declared.Terminator.TheVariants as ends
use Rattle.spv_ops.specs.declared.Op.{Op}
use Rattle.spv_ops.specs.declared.Op.TheVariants as code
use Rattle.spv_module.specs.Held.{global}
use Rattle.spv_module.specs.Inst.{has_type, has_result}
use Rattle.spv_module.specs.declared.inst.Inst.{Inst}
use Rattle.spv_module.specs.declared.inst.Function.{Function}
use Rattle.spv_types.specs.Tree.{Tree, word as value_word}
use Rattle.spv_types.specs.declared.kind.TypeKind.TheVariants.{Other}
use Rattle.spv_types.specs.Types.{kind, is_shapeless, tree_by_kind, tree_before, tree_at, type_tree, earlier}
use Rattle.spv_decor.specs.Rows.{word}
use Rattle.spv_index.specs.Locals.{insts_of, inst_in, parameter_in, typed, local_type, type_in, function_in}
use Rattle.spv_index.specs.Pointers.{as_pointer, storage_class}
use Rattle.spv_index.specs.ValueTypes.{is_no_value_type}
use Rattle.profile_rules.specs.declared.needs.Reached.TheVariants.{Part, Nothing, Unknown}
use Rattle.profile_rules.specs.declared.needs.Need.{Need}
use Rattle.profile_rules.specs.declared.needs.Need.TheVariants.{AnyType, Value, Callee}
use Rattle.profile_rules.specs.Operands.{need, suits, is_global, is_there, is_there_in}
use Rattle.profile_rules.specs.TypeRows.{is_void, is_bool, is_int, is_vector, type_row, fails, differ, value_fails, is_other, is_not, component_if, component, count_in, ints_of, bools_of, constant_word}
use Rattle.profile_rules.specs.TypeForm.{is_other_pointer, is_other_function, is_other_result, is_other_parameter}
use Rattle.profile_rules.specs.ValueRules.{are_other_parts, are_other_members, misfit, is_other_count, is_misbuilt, breaks_t8_extract, breaks_t10, breaks_t11_extract, breaks_t11_insert, breaks_t12, is_elsewhere, is_value_elsewhere, part_of, walk, literal_step, match_before, match_at, do_match, do_parts_match, is_same_length, is_other_component, has_other_components, has_other_sizes}
use Rattle.profile_rules.specs.NumberRules.{are_unlike_ints, breaks_t17, is_extended, is_no_bool_vector, is_no_condition}
use Rattle.profile_rules.specs.FlowRules.{callee, function_type, is_miscalled, breaks_t21, every_second, is_from_elsewhere}
use Rattle.profile_rules.specs.TypeRules.{is_value_broken, is_number_broken, is_flow_broken}
use Rattle.profile_rules.specs.MemoryRules.{is_pointer, may_be_pointer_of, is_stray_pointer, breaks_m5}
use Rattle.profile_rules.specs.AccessRules.{breaks, broken_in, broken_at}
use Rattle.list_law.proofs.Options.{some_by, none_some}
use Rattle.list_law.proofs.Numbers.{from_zero}
use Rattle.list_law.proofs.Lists.{behind_one, empty_of, none_within}
use Rattle.list_law.proofs.Tests.{second_by, not_both, or_left, or_right, and_off, clash}
use Rattle.plan_law.specs.InOrder.{IsAmong}
use Rattle.plan_law.proofs.Order.{found}
use Rattle.module_semantics.specs.Setting.{Setting}
use Rattle.module_semantics.specs.Steps.{StepKind, operation, array_length, variable, chain, load, store, atomic, memory_barrier, control_barrier, call, merge, branch, return, return_value, unreachable, step_in, step_kind}
use Rattle.fits_law.specs.State.{value_shape, HasShape}
use Rattle.fits_law.specs.Typed.{IsTyped, IsOfWords, IsAtomic}
use Rattle.fits_law.proofs.Steps.{named}
use Rattle.type_law.specs.Shaped.{HasConstants}
use Rattle.type_law.proofs.Rows.{vector_parts}
use Rattle.type_law.proofs.Parts.{earlier_is, walk_leads}
use Rattle.type_law.proofs.Vectors.{three_off, five_off}
use Rattle.call_law.specs.Frames.{makes_pointer}
use Rattle.typed_law.specs.Conforms.{IsConforming}
use Rattle.typed_law.proofs.Lists.{found_in, earlier_some, at_least, none_by, any_at, none_at_fault}
use Rattle.typed_law.proofs.Rules.{global_there, pointed_type, operand_there, value_right, number_right, flow_right}
use Rattle.typed_law.proofs.Types.{row_is}
use Rattle.typed_law.proofs.Values.{IsRow, shape_of_row, value_type_has, inside, local_row, declared_by, type_row_of, one_type, same_type, value_sized, HasType, HasItsShape, typed_value, own_type, type_suits, typed_result, has_a_type, function_id, function_need, function_least, none_counted, vector_shaped}
use Rattle.typed_law.proofs.Shapes.{no_int, no_bool, row_of_shape, whole_shape}
use Rattle.typed_law.proofs.Operations.{four_off}
use Rattle.typed_law.proofs.Others.{typed_some, contains_found, callee_is}
use Rattle.typed_law.proofs.Whole.{is_typed}
use Rattle.grammar_law.proofs.Ruled.Ruled.{parameter_of, class_there, pointer_by}
use Rattle.grammar_law.proofs.Formed.Inner.{is_frame}
use Rattle.grammar_law.proofs.Unit.CallTypes.{function_found}

-- groups whose instructions have a type
abbrev is_typed_group : OpGroup → Bool
is_typed_group groups.Debug = false
is_typed_group groups.Head = false
is_typed_group groups.Type = false
is_typed_group groups.Store = false
is_typed_group (groups.Atomic atomics.Store) = false
is_typed_group groups.ControlBarrier = false
is_typed_group groups.MemoryBarrier = false
is_typed_group groups.Merge = false
is_typed_group (groups.Terminator o) = false
is_typed_group _ = true

typed_group : (o : Op) → has_type o ≡ true → is_typed_group (group_of o) ≡ true
unfolding group_of shape
typed_group code.Undef on = refl
typed_group o on = cc

-- steps that have no result
abbrev has_none : StepKind → Bool
has_none store = true
has_none (atomic atomics.Store) = true
has_none memory_barrier = true
has_none control_barrier = true
has_none merge = true
has_none (branch o) = true
has_none return = true
has_none return_value = true
has_none unreachable = true
has_none _ = false

typed_step : (q : OpGroup) → is_typed_group q ≡ true → has_none (step_in q) ≡ false
typed_step groups.Load on = refl
typed_step (groups.Atomic atomics.Store) on = cc
typed_step (groups.Atomic o) on = refl
typed_step q on = cc

-- the only opcodes of their groups
extract_op : (o : Op) → group_of o ≡ groups.VectorExtractDynamic → o ≡ code.VectorExtractDynamic
unfolding group_of
extract_op code.VectorExtractDynamic e = refl
extract_op o e = cc

part_op : (o : Op) → group_of o ≡ groups.CompositeExtract → o ≡ code.CompositeExtract
unfolding group_of
part_op code.CompositeExtract e = refl
part_op o e = cc

insert_op : (o : Op) → group_of o ≡ groups.CompositeInsert → o ≡ code.CompositeInsert
unfolding group_of
insert_op code.CompositeInsert e = refl
insert_op o e = cc

copy_op : (o : Op) → group_of o ≡ groups.CopyLogical → o ≡ code.CopyLogical
unfolding group_of
copy_op code.CopyLogical e = refl
copy_op o e = cc

select_op : (o : Op) → group_of o ≡ groups.Select → o ≡ code.Select
unfolding group_of
select_op code.Select e = refl
select_op o e = cc

call_op : (o : Op) → group_of o ≡ groups.Call → o ≡ code.FunctionCall
unfolding group_of
call_op code.FunctionCall e = refl
call_op o e = cc

call_group : (q : OpGroup) → step_in q ≡ call → q ≡ groups.Call
call_group groups.Call e = refl
call_group (groups.Terminator ends.Branch) e = cc
call_group q e = cc

-- groups of operations with a type
abbrev is_operation : OpGroup → Bool
is_operation groups.Truth = true
is_operation groups.Number = true
is_operation groups.Composite = true
is_operation groups.AnyConstant = true
is_operation groups.Undef = true
is_operation groups.CopyObject = true
is_operation groups.CopyLogical = true
is_operation groups.VectorExtractDynamic = true
is_operation groups.VectorInsertDynamic = true
is_operation groups.VectorShuffle = true
is_operation groups.CompositeConstruct = true
is_operation groups.CompositeExtract = true
is_operation groups.CompositeInsert = true
is_operation groups.Arithmetic = true
is_operation groups.Comparison = true
is_operation groups.Logical = true
is_operation groups.AnyOrAll = true
is_operation groups.Select = true
is_operation groups.BitFieldInsert = true
is_operation groups.BitFieldExtract = true
is_operation groups.BitOperation = true
is_operation groups.Bitcast = true
is_operation groups.Extended = true
is_operation groups.Phi = true
is_operation _ = false

operation_group : (q : OpGroup) → is_typed_group q ≡ true → is_frame q ≡ false → step_in q ≡ operation → is_operation q ≡ true
operation_group groups.Truth typed free step = refl
operation_group (groups.Atomic atomics.Store) typed free step = cc
operation_group (groups.Terminator ends.Branch) typed free step = cc
operation_group q typed free step = cc

-- a type without a shape is made of nothing
shapeless_kind : (o : Op) → is_shapeless o ≡ true → kind o ≡ Other
unfolding kind
shapeless_kind code.TypeVoid on = refl
shapeless_kind code.TypePointer on = refl
shapeless_kind code.TypeFunction on = refl
shapeless_kind o on = cc

abbrev IsNoOther : Op → Type 0
IsNoOther o = (is o code.TypeVector ≡ false) × (is o code.TypeArray ≡ false) × (is o code.TypeStruct ≡ false) × (is o code.TypeBool ≡ false)

shapeless_alone : (o : Op) → is_shapeless o ≡ true → IsNoOther o
unfolding number
shapeless_alone code.TypeVoid on = (refl, refl, refl, refl)
shapeless_alone code.TypePointer on = (refl, refl, refl, refl)
shapeless_alone code.TypeFunction on = (refl, refl, refl, refl)
shapeless_alone o on = cc

pub pointer_shapeless : (o : Op) → is o code.TypePointer ≡ true → (is_shapeless o ≡ true) × (is o code.TypeVoid ≡ false) × (is o code.TypeFunction ≡ false)
unfolding number
pointer_shapeless code.TypePointer on = (refl, refl, refl)
pointer_shapeless o on = cc

pub function_shapeless : (o : Op) → is o code.TypeFunction ≡ true → (is_shapeless o ≡ true) × (is o code.TypeVoid ≡ false) × (is o code.TypePointer ≡ false)
unfolding number
function_shapeless code.TypeFunction on = (refl, refl, refl)
function_shapeless o on = cc

pub shapeless_is : (o : Op) → is_shapeless o ≡ true → is o code.TypeVoid ≡ false → is o code.TypePointer ≡ false → is o code.TypeFunction ≡ true
unfolding number
shapeless_is code.TypeVoid on void pointer = cc
shapeless_is code.TypePointer on void pointer = cc
shapeless_is code.TypeFunction on void pointer = refl
shapeless_is o on void pointer = cc

pub no_tree : (gs : List Inst) (g : Inst) (t : Tree) → is_shapeless g.op ≡ true → tree_at gs g ≡ Some t → ⊥
no_tree gs g t on shape = none_some (ap (tree_by_kind gs (tree_before gs g.at) g) (sym (shapeless_kind g.op on)) ∙ shape)

-- a type that is no pointer has no storage class
pub no_class : (gs : List Inst) (ty : ℕ) (g : Inst) → global gs ty ≡ Some g → is g.op code.TypePointer ≡ false → is_some (storage_class gs ty) ≡ false
no_class gs ty g at off =
    ap (λ (o : Option Inst). is_some (option_map (λ (p : Inst). slice_index p.args 0) (option_and_then as_pointer o))) at ∙ ap (λ (b : Bool). is_some (option_map (λ (p : Inst). slice_index p.args 0) (if b then Some g else None))) off

-- what rules tell of the type of an operand, and the type of its components
test_on : (gs : List Inst) (test : Inst → Bool) (o : Option ℕ) (ty : ℕ) (g : Inst) → o ≡ Some ty → type_row gs ty ≡ Some g → option_map_or (fails test gs) o false ≡ false → test g ≡ true
test_on gs test o ty g of_it at off =
    not-false (test g) (ap (λ (x : Option Inst). option_map_or (λ (y : Inst). not (test y)) x false) (sym at) ∙ (ap (λ (x : Option ℕ). option_map_or (fails test gs) x false) (sym of_it) ∙ off))

component_told : (gs : List Inst) (o : Option ℕ) (ty : ℕ) (g : Inst) → o ≡ Some ty → type_row gs ty ≡ Some g → is_vector g ≡ true → option_and_then (component gs) o ≡ Some (word g 0)
component_told gs o ty g of_it at on = ap (option_and_then (component gs)) of_it ∙ (ap (option_and_then component_if) at ∙ ap (λ (b : Bool). if b then Some (word g 0) else None) on)

-- what composes nothing does not fit
no_fit : (x y z w v a q : Bool) → v ≡ false → a ≡ false → q ≡ false → (if v then x else (if v then y else (if a then z else (if q then w else true)))) ≡ true
no_fit x y z w false false false ev ea eq = refl
no_fit x y z w v a q ev ea eq = cc

no_match : (x a y z w q u v : Bool) → a ≡ false → q ≡ false → ((x && a && y && z) || (w && q && u && v)) ≡ false
no_match true false y z true false u v ea eq = refl
no_match true false y z false false u v ea eq = refl
no_match false false y z true false u v ea eq = refl
no_match false false y z false false u v ea eq = refl
no_match x a y z w q u v ea eq = cc

-- a function that has a place is found by its id
found_callee : (fs : List Function) (id : ℕ) → is_some (function_in fs id) ≡ true → (g : Function) × Contains fs g × (callee fs id ≡ Some g)
found_callee fs id e = let g = function_found fs id 0 e in (g.0, contains_found fs id g.0 g.1, callee_is fs id g.0 g.1)

module _ (s : Setting) (entry : Option (List ℕ)) (right : IsConforming s.of entry) (chosen : ℕ → Option ℕ) (have : HasConstants s chosen) (f : Function) (in_it : Contains s.of.functions f) where
  abbrev Gs : List Inst
  Gs = s.of.globals

  abbrev V : ℕ → Option ℕ
  V = type_in s.of.globals f

  -- M5
  stray_right : (i : Inst) → IsAmong i (insts_of f) → breaks_m5 Gs f i ≡ false
  stray_right i there = none_at_fault (breaks s.of.heads Gs f M5) (insts_of f) i (λ at has. none_within at (subst (λ (l : List ℕ). Contains l at) none has)) there
    where
      none : broken_in s.of M5 f ≡ []
      none = none_by (broken_in s.of M5) s.of.functions f (empty_of (broken_at s.of M5) right.accessed.1.1.1.1.0) in_it

  stands_no_pointer : (i : Inst) → IsAmong i (insts_of f) → (k : ℕ) → k < length i.args → is_id i.op i.args k ≡ true → may_be_pointer_of i.op k ≡ false → is_pointer Gs f (slice_index i.args k) ≡ false
  stands_no_pointer i there k less names off =
      let told : is_stray_pointer Gs f i (0 + k, slice_index i.args k) ≡ false = any_at (is_stray_pointer Gs f i) i.args 0 k (stray_right i there) less in
      let at_k : is_stray_pointer Gs f i (k, slice_index i.args k) ≡ false = subst (λ (n : ℕ). is_stray_pointer Gs f i (n, slice_index i.args k) ≡ false) (let same : 0 + k ≡ k = omega arith in same) told in
      and_off (not (may_be_pointer_of i.op k)) (is_pointer Gs f (slice_index i.args k)) (and_off (is_id i.op i.args k) (not (may_be_pointer_of i.op k) && is_pointer Gs f (slice_index i.args k)) at_k names) (ap not off)

  -- an instruction with a type
  module _ (i : Inst) (there : IsAmong i (insts_of f)) (has : has_type i.op ≡ true) where
    pub row : IsRow s entry right i.ty
    row = let g = local_row s entry right f in_it i there (typed_some s entry right f in_it i there has) in (g.0, g.1, type_suits i.op g.0 g.2)

    row_at : type_row Gs i.ty ≡ Some row.0
    row_at = row_is s.of entry right i.ty row.0 row.1 row.2

    least_of : (c : Op) → i.op ≡ c → (shape c).least ≤ 1 + count_of (has_type c) + count_of (has_result c) + length i.args
    least_of c same = subst (λ (o : Op). (shape o).least ≤ 1 + count_of (has_type o) + count_of (has_result o) + length i.args) same ((inside s entry right f in_it).formed i there).least

    -- what an operand has to be is there
    operand_is : (c : Op) → i.op ≡ c → (k : ℕ) → k < length i.args → is_id c i.args k ≡ true → is_there_in s.of f i.at (need c k) (slice_index i.args k) ≡ true
    operand_is c same k less names =
        subst (λ (o : Op). is_there_in s.of f i.at (need o k) (slice_index i.args k) ≡ true) same (operand_there (is_there_in s.of f i.at) i ((inside s entry right f in_it).order.there i there) k less (ap (λ (o : Op). is_id o i.args k) same ∙ names))

    operand_of : (c : Op) → i.op ≡ c → (k : ℕ) → k < length i.args → is_id c i.args k ≡ true → need c k ≡ Value → HasType s entry right f in_it (slice_index i.args k)
    operand_of c same k less names needed = typed_value s entry right f in_it i.at (slice_index i.args k) (subst (λ (q : Need). is_there_in s.of f i.at q (slice_index i.args k) ≡ true) needed (operand_is c same k less names))

    -- no operand that may be no pointer is of its type
    abbrev pub NoSame : Type 0
    NoSame = (k : ℕ) → k < length i.args → is_id i.op i.args k ≡ true → need i.op k ≡ Value → may_be_pointer_of i.op k ≡ false → V (slice_index i.args k) ≡ Some i.ty → ⊥

    -- so its type is not one without a shape, other than void
    module _ (less : is_shapeless row.0.op ≡ true) (no_void : is row.0.op code.TypeVoid ≡ false) (no_same : NoSame) where
      no_shape : (t : Tree) → type_tree Gs i.ty ≡ Some t → ⊥
      no_shape t shape = no_tree Gs row.0 t less (sym (ap (λ (o : Option Inst). option_map_or (tree_at Gs) o None) row.1) ∙ shape)

      no_test : (test : Inst → Bool) → test row.0 ≡ false → fails test Gs i.ty ≡ false → ⊥
      no_test test off told = clash (sym (ap (λ (o : Option Inst). option_map_or (λ (x : Inst). not (test x)) o false) row_at ∙ ap not off) ∙ told)

      no_value : is_no_value_type s.of.heads Gs i.ty ≡ false → ⊥
      no_value off = let v = value_type_has s entry right i.ty row off in no_shape v.0 v.1

      no_count : (test : Inst → Bool) → ((g : Inst) → is_shapeless g.op ≡ true → test g ≡ false) → (more : ℕ → Bool) → option_map_or (λ (n : ℕ). (n == 0) || more n) (option_and_then (count_in test Gs) (type_row Gs i.ty)) false ≡ false → ⊥
      no_count test none more told =
          let counted : option_and_then (count_in test Gs) (type_row Gs i.ty) ≡ Some 0 = ap (option_and_then (count_in test Gs)) row_at ∙ none_counted s entry right f in_it test none row.0 less in
          clash (sym (ap (λ (o : Option ℕ). option_map_or (λ (n : ℕ). (n == 0) || more n) o false) counted) ∙ told)

      no_ints : (ids : List ℕ) → are_unlike_ints Gs V i.ty ids ≡ false → ⊥
      no_ints ids told = no_count is_int no_int (λ (n : ℕ). list_any (λ (id : ℕ). is_not n (ints_of Gs V id)) ids) told

      no_such : (c : Op) → i.op ≡ c → (k : ℕ) → k < length i.args → is_id c i.args k ≡ true → need c k ≡ Value → may_be_pointer_of c k ≡ false → V (slice_index i.args k) ≡ Some i.ty → ⊥
      no_such c same k few names needed off typed = no_same k few (ap (λ (o : Op). is_id o i.args k) same ∙ names) (ap (λ (o : Op). need o k) same ∙ needed) (ap (λ (o : Op). may_be_pointer_of o k) same ∙ off) typed

      -- T8
      no_component : i.op ≡ code.VectorExtractDynamic → breaks_t8_extract Gs V i ≡ false → ⊥
      unfolding takes_of need is_id shape group_of
      no_component same told =
          let parts = three_off (value_fails is_vector Gs V (word i 0)) (value_fails is_int Gs V (word i 1)) (option_map_or (differ Gs i.ty) (option_and_then (component Gs) (V (word i 0))) false) told in
          let many : 2 ≤ length i.args = at_least 2 (length i.args) (least_of code.VectorExtractDynamic same) in
          let w = operand_of code.VectorExtractDynamic same 0 (let some : 0 < length i.args = omega (arith, many) in some) (from_zero 0) refl in
          let h = type_row_of s entry right f in_it (word i 0) w.0 w.1 in
          let at = row_is s.of entry right w.0 h.0 h.1 h.2 in
          let on : is_vector h.0 ≡ true = test_on Gs is_vector (V (word i 0)) w.0 h.0 w.1 at parts.0 in
          let shaped = whole_of w h on in
          let u = vector_parts Gs h.0 shaped.0 on (sym (ap (λ (o : Option Inst). option_map_or (tree_at Gs) o None) h.1) ∙ shaped.1) in
          let tree_is : type_tree Gs (word h.0 0) ≡ Some u.0 = earlier_is s f h.0.at (word h.0 0) u.0 u.2 in
          let component_is : option_and_then (component Gs) (V (word i 0)) ≡ Some (word h.0 0) = component_told Gs (V (word i 0)) w.0 h.0 w.1 at on in
          let one = one_type s entry right f in_it i.ty (word h.0 0) row (row_of_shape s entry right f in_it (word h.0 0) u.0 tree_is) (ap (λ (o : Option ℕ). option_map_or (differ Gs i.ty) o false) (sym component_is) ∙ parts.2) in
          no_shape u.0 (ap (type_tree Gs) one ∙ tree_is)
        where
          whole_of : (w : HasType s entry right f in_it (word i 0)) (h : IsRow s entry right w.0) → is_vector h.0 ≡ true → (t : Tree) × (type_tree Gs w.0 ≡ Some t)
          whole_of w h on = shape_of_row s entry right w.0 h (vector_shaped h.0.op on)

      -- T10
      no_made : breaks_t10 Gs V i ≡ false → ⊥
      no_made told =
          let alone = shapeless_alone row.0.op less in
          let misfit : is_misbuilt Gs V i.args row.0 ≡ true
          = no_fit (is_other_count Gs V (word row.0 1) (word row.0 0) i.args) (are_other_parts Gs V (word row.0 1) (word row.0 0) i.args) (option_map_or (λ (n : ℕ). are_other_parts Gs V n (word row.0 0) i.args) (constant_word Gs (word row.0 1)) false) (are_other_members Gs V row.0.args i.args)
          (is_vector row.0) (is row.0.op code.TypeArray) (is row.0.op code.TypeStruct) alone.0 alone.1 alone.2 in
          clash (sym (ap (λ (o : Option Inst). option_map_or (is_misbuilt Gs V i.args) o false) row_at ∙ misfit) ∙ told)

      -- T11
      no_part : i.op ≡ code.CompositeExtract → breaks_t11_extract Gs V i ≡ false → ⊥
      unfolding takes_of need is_id shape group_of
      no_part same told =
          let short = or_left (nat_le (length i.args) 1) (is_elsewhere Gs i.ty (part_of Gs (V (word i 0)) (drop 1 i.args))) told in
          let off = or_right (nat_le (length i.args) 1) (is_elsewhere Gs i.ty (part_of Gs (V (word i 0)) (drop 1 i.args))) told in
          let many : 1 ≤ length i.args = at_least 1 (length i.args) (least_of code.CompositeExtract same) in
          let w = operand_of code.CompositeExtract same 0 (let some : 0 < length i.args = omega (arith, many) in some) refl refl in
          let leads : is_elsewhere Gs i.ty (walk (literal_step Gs) (Part w.0) (drop 1 i.args)) ≡ false = ap (λ (o : Option ℕ). is_elsewhere Gs i.ty (walk (literal_step Gs) (option_map_or Part o Unknown) (drop 1 i.args))) (sym w.1) ∙ off in
          let a = by_literals w (drop 1 i.args) (behind_one i.args short) (λ none. clash (ap (is_elsewhere Gs i.ty) (sym none) ∙ leads)) in
          let shape : type_tree Gs w.0 ≡ Some a.0 = sym (ap (option_and_then (type_tree Gs)) w.1) ∙ a.1 in
          elim (walk_leads s f (drop 1 i.args) w.0 a.0 shape (value_sized s entry right f in_it (word i 0) w.0 w.1 a.0 shape)) [
            | inl none ↦ clash (ap (is_elsewhere Gs i.ty) (sym none) ∙ leads)
            | inr q ↦
                let one = one_type s entry right f in_it i.ty q.0 row (row_of_shape s entry right f in_it q.0 q.1 q.3) (ap (is_elsewhere Gs i.ty) (sym q.2) ∙ leads) in
                no_shape q.1 (ap (type_tree Gs) one ∙ q.3)
          ]
        where
          by_literals : (w : HasType s entry right f in_it (word i 0)) (ks : List ℕ) → 1 ≤ length ks → (walk (literal_step Gs) (Part w.0) ks ≡ Nothing → ⊥) → HasItsShape s entry right f in_it (word i 0)
          by_literals w [] some leads = absurd (omega (arith, some))
          by_literals w (k ∷ ks) some leads = whole_shape s entry right f in_it (word i 0) k ks w leads

      no_inserted : i.op ≡ code.CompositeInsert → breaks_t11_insert Gs V i ≡ false → ⊥
      unfolding takes_of need is_id shape group_of
      no_inserted same told =
          let parts = three_off (nat_le (length i.args) 2) (is_other Gs V i.ty (word i 1)) (is_value_elsewhere Gs V (word i 0) (part_of Gs (V (word i 1)) (drop 2 i.args))) told in
          let many : 2 ≤ length i.args = at_least 2 (length i.args) (least_of code.CompositeInsert same) in
          let few : 1 < length i.args = omega (arith, many) in
          no_such code.CompositeInsert same 1 few refl refl refl (same_type s entry right f in_it i.ty (word i 1) row (operand_of code.CompositeInsert same 1 few refl refl) parts.1)

      -- T12
      no_copy : i.op ≡ code.CopyLogical → breaks_t12 Gs V i ≡ false → ⊥
      unfolding takes_of need is_id shape group_of
      no_copy same told =
          let many : 1 ≤ length i.args = at_least 1 (length i.args) (least_of code.CopyLogical same) in
          let few : 0 < length i.args = omega (arith, many) in
          let w = operand_of code.CopyLogical same 0 few (from_zero 0) refl in
          let on : do_match Gs w.0 i.ty ≡ true = not-false (do_match Gs w.0 i.ty) (ap (λ (o : Option ℕ). option_map_or (λ (ty : ℕ). not (do_match Gs ty i.ty)) o false) (sym w.1) ∙ told) in
          let g = type_row_of s entry right f in_it (word i 0) w.0 w.1 in
          let match : (((g.0.result == i.ty) && not (is_void g.0)) || do_parts_match Gs (match_before Gs g.0.at) g.0 row.0) ≡ true
          = ap (λ (o : Option Inst). option_map_or (λ (x : Inst). ((g.0.result == i.ty) && not (is_void g.0)) || do_parts_match Gs (match_before Gs g.0.at) g.0 x) o true) (sym row_at)
          ∙ (ap (λ (o : Option Inst). option_map_or (λ (x : Inst). match_at Gs x i.ty) o true) (sym (row_is s.of entry right w.0 g.0 g.1 g.2)) ∙ on) in
          no_such code.CopyLogical same 0 few (from_zero 0) refl refl (w.1 ∙ ap (λ (n : ℕ). Some n) (sym (named Gs w.0 g.0 g.1) ∙ by_match g.0 (g.0.result == i.ty) (eqb_tells g.0.result i.ty) match))
        where
          parts_off : (g : Inst) → do_parts_match Gs (match_before Gs g.at) g row.0 ≡ false
          parts_off g =
              let alone = shapeless_alone row.0.op less in
              no_match (is g.op code.TypeArray) (is row.0.op code.TypeArray) (match_before Gs g.at (word g 0) (word row.0 0)) (is_same_length Gs (word g 1) (word row.0 1))
              (is g.op code.TypeStruct) (is row.0.op code.TypeStruct) (length g.args == length row.0.args) (list_all (λ (p : ℕ × ℕ). match_before Gs g.at p.0 p.1) (zip g.args row.0.args)) alone.1 alone.2

          by_match : (g : Inst) (b : Bool) → ((b ≡ true) × (g.result ≡ i.ty)) ⊎ ((b ≡ false) × (g.result ≡ i.ty → ⊥)) → ((b && not (is_void g)) || do_parts_match Gs (match_before Gs g.at) g row.0) ≡ true → g.result ≡ i.ty
          by_match g b (inl own) e = own.1
          by_match g true (inr own) e = clash own.0
          by_match g false (inr own) e = clash (sym e ∙ parts_off g)

      -- T17
      no_choice : i.op ≡ code.Select → breaks_t17 Gs V i ≡ false → ⊥
      unfolding takes_of need is_id shape group_of
      no_choice same told =
          let parts = four_off (fails (λ (g : Inst). not (is_void g)) Gs i.ty) (is_other Gs V i.ty (word i 1)) (is_other Gs V i.ty (word i 2)) (option_map_or (is_no_condition Gs i.ty) (V (word i 0)) false) told in
          let many : 3 ≤ length i.args = at_least 3 (length i.args) (least_of code.Select same) in
          let few : 1 < length i.args = omega (arith, many) in
          no_such code.Select same 1 few (from_zero 1) refl refl (same_type s entry right f in_it i.ty (word i 1) row (operand_of code.Select same 1 few (from_zero 1) refl) parts.1)

      -- T21: the result of a function is no pointer (P19)
      no_result : i.op ≡ code.FunctionCall → breaks_t21 s.of.functions Gs V i ≡ false → ⊥
      unfolding takes_of need is_id shape group_of
      no_result same told =
          let many : 1 ≤ length i.args = at_least 1 (length i.args) (least_of code.FunctionCall same) in
          let few : 0 < length i.args = omega (arith, many) in
          let there_in : is_there_in s.of f i.at Callee (word i 0) ≡ true = operand_is code.FunctionCall same 0 few (from_zero 0) in
          let h = found_callee s.of.functions (word i 0) (second_by (is_global Gs i.at Callee (word i 0)) (is_some (function_in s.of.functions (word i 0))) there_in (no_global (earlier Gs i.at (word i 0)))) in
          let g = declared_by s entry right h.0 h.1 in
          let called : is_miscalled Gs V i g.0 ≡ false = ap (λ (o : Option Inst). option_map_or (is_miscalled Gs V i) o false) (sym (ap (option_and_then (function_type Gs)) h.2 ∙ g.1.is_it)) ∙ told in
          let result_off = or_left (differ Gs (word g.0 0) i.ty) (are_other_members Gs V (drop 1 g.0.args) (drop 1 i.args)) called in
          let some : 0 < length g.0.args = function_least g.0.op (length g.0.args) g.1.on (right.formed g.0 g.1.there).least in
          let stands = operand_there (is_there Gs g.0.at) g.0 (global_there s.of entry right g.0 g.1.there) 0 some (function_id g.0.op g.0.args 0 g.1.on) in
          let any : is_there Gs g.0.at AnyType (word g.0 0) ≡ true = subst (λ (q : Need). is_there Gs g.0.at q (word g.0 0) ≡ true) (function_need g.0.op 0 g.1.on) stands in
          let t = some_by (suits AnyType) (earlier Gs g.0.at (word g.0 0)) any in
          let one = one_type s entry right f in_it (word g.0 0) i.ty (t.0, (earlier_some Gs g.0.at (word g.0 0) t.0 t.1).0, t.2) row result_off in
          let typed = or_left (is_other_result s.of.heads Gs (word g.0 0)) (list_any (is_other_parameter s.of.heads Gs) (drop 1 g.0.args)) (and_off (is g.0.op code.TypeFunction) (is_other_result s.of.heads Gs (word g.0 0) || list_any (is_other_parameter s.of.heads Gs) (drop 1 g.0.args)) (or_right (is_other_pointer Gs g.0) (is_other_function s.of.heads Gs g.0) (pointed_type s.of entry right g.0 g.1.there)) g.1.on) in
          let own : is_other_result s.of.heads Gs i.ty ≡ false = subst (λ (n : ℕ). is_other_result s.of.heads Gs n ≡ false) one typed in
          let value_or_void : (not (is row.0.op code.TypeVoid) && is_no_value_type s.of.heads Gs i.ty) ≡ false = ap (λ (o : Option Inst). option_map_or (λ (x : Inst). not (is x.op code.TypeVoid) && is_no_value_type s.of.heads Gs i.ty) o false) (sym row.1) ∙ own in
          no_value (and_off (not (is row.0.op code.TypeVoid)) (is_no_value_type s.of.heads Gs i.ty) value_or_void (ap not no_void))
        where
          no_global : (o : Option Inst) → option_map_or (suits Callee) o false ≡ false
          no_global None = refl
          no_global (Some g) = refl

      -- T22
      no_phi : group_of i.op ≡ groups.Phi → ⊥
      no_phi at =
          let b = flow_right s.of entry right f in_it i there in
          no_value (three_off (is_no_value_type s.of.heads Gs i.ty) (list_any (is_other Gs V i.ty) (every_second 0 i.args)) (is_from_elsewhere f b.0.label.0 i) (ap (is_flow_broken s.of f b.0 i) (sym at) ∙ b.1)).0

      -- an operation
      by_group : (q : OpGroup) → group_of i.op ≡ q → is_operation q ≡ true → is_value_broken s.of V i q ≡ false → is_number_broken Gs V i q ≡ false → ⊥
      by_group groups.Truth at on value count = no_value (or_left (is_no_value_type s.of.heads Gs i.ty) (fails is_bool Gs i.ty) value)
      by_group groups.Number at on value count = no_value (or_left (is_no_value_type s.of.heads Gs i.ty) (fails is_int Gs i.ty) value)
      by_group groups.Composite at on value count = no_value (or_left (is_no_value_type s.of.heads Gs i.ty) (option_map_or (λ (g : Inst). misfit Gs V g i.args) (type_row Gs i.ty) false) value)
      by_group groups.AnyConstant at on value count = no_value value
      by_group groups.Undef at on value count = no_value value
      by_group groups.CopyObject at on value count = no_value (or_left (is_no_value_type s.of.heads Gs i.ty) (is_other Gs V i.ty (word i 0)) value)
      by_group groups.CopyLogical at on value count = no_copy (copy_op i.op at) value
      by_group groups.VectorExtractDynamic at on value count = no_component (extract_op i.op at) value
      by_group groups.VectorInsertDynamic at on value count = no_test is_vector (shapeless_alone row.0.op less).0 (five_off (fails is_vector Gs i.ty) (value_fails is_vector Gs V (word i 0)) (value_fails is_int Gs V (word i 2)) (is_other Gs V i.ty (word i 0)) (is_other_component Gs V i.ty (word i 1)) value).0
      by_group groups.VectorShuffle at on value count = no_test is_vector (shapeless_alone row.0.op less).0 (five_off (fails is_vector Gs i.ty) (value_fails is_vector Gs V (word i 0)) (value_fails is_vector Gs V (word i 1)) (has_other_components Gs i.ty (V (word i 0)) (V (word i 1))) (has_other_sizes Gs i.ty (V (word i 0)) (V (word i 1)) (drop 2 i.args)) value).0
      by_group groups.CompositeConstruct at on value count = no_made value
      by_group groups.CompositeExtract at on value count = no_part (part_op i.op at) value
      by_group groups.CompositeInsert at on value count = no_inserted (insert_op i.op at) value
      by_group groups.Arithmetic at on value count = no_ints i.args count
      by_group groups.Comparison at on value count = no_count is_bool no_bool (λ (n : ℕ). list_any (λ (id : ℕ). is_not n (ints_of Gs V id)) i.args) count
      by_group groups.Logical at on value count = no_count is_bool no_bool (λ (n : ℕ). list_any (λ (id : ℕ). is_not n (bools_of Gs V id)) i.args) count
      by_group groups.AnyOrAll at on value count = no_test is_bool (shapeless_alone row.0.op less).3 (or_left (fails is_bool Gs i.ty) (is_no_bool_vector Gs V (word i 0)) count)
      by_group groups.Select at on value count = no_choice (select_op i.op at) count
      by_group groups.BitFieldInsert at on value count = no_ints (take 2 i.args) (or_left (are_unlike_ints Gs V i.ty (take 2 i.args)) (list_any (value_fails is_int Gs V) (drop 2 i.args)) count)
      by_group groups.BitFieldExtract at on value count = no_ints (take 1 i.args) (or_left (are_unlike_ints Gs V i.ty (take 1 i.args)) (list_any (value_fails is_int Gs V) (drop 1 i.args)) count)
      by_group groups.BitOperation at on value count = no_ints (take 1 i.args) (or_left (are_unlike_ints Gs V i.ty (take 1 i.args)) (list_any (value_fails is_int Gs V) (drop 1 i.args)) count)
      by_group groups.Bitcast at on value count = no_ints i.args count
      by_group groups.Extended at on value count = no_ints (drop 2 i.args) (or_right (not (is_extended (word i 1) (length (drop 2 i.args)))) (are_unlike_ints Gs V i.ty (drop 2 i.args)) count)
      by_group groups.Phi at on value count = no_phi at
      by_group q at on value count = clash (sym on)

      value_shape_is : value_shape s f i.result ≡ type_tree Gs i.ty
      value_shape_is = ap (option_and_then (type_tree Gs)) (own_type s entry right f in_it i there (typed_some s entry right f in_it i there has))

      no_words : IsOfWords (value_shape s f i.result) → ⊥
      no_words all = by_tree (type_tree Gs i.ty) refl (subst (λ (o : Option Tree). HasShape o (value_word 0)) value_shape_is (all 0))
        where
          by_tree : (o : Option Tree) → type_tree Gs i.ty ≡ o → HasShape o (value_word 0) → ⊥
          by_tree None at shaped = shaped
          by_tree (Some t) at shaped = no_shape t at

      by_atomic : (o : AtomicOp) → has_none (atomic o) ≡ false → IsAtomic o s f i → ⊥
      by_atomic atomics.Store off typed = clash off
      by_atomic o off typed = no_words typed.0

      by_step : is_frame (group_of i.op) ≡ false → (k : StepKind) → step_in (group_of i.op) ≡ k → has_none k ≡ false → makes_pointer k ≡ false → IsTyped s f i k → ⊥
      by_step free operation at some off typed = by_group (group_of i.op) refl (operation_group (group_of i.op) (typed_group i.op has) free at) (value_right s.of entry right f in_it i there) (number_right s.of entry right f in_it i there)
      by_step free array_length at some off typed = no_words typed.0
      by_step free load at some off typed = no_shape typed.shape (sym value_shape_is ∙ typed.result)
      by_step free (atomic o) at some off typed = by_atomic o some typed
      by_step free call at some off typed = let is_call = call_group (group_of i.op) at in let b = flow_right s.of entry right f in_it i there in no_result (call_op i.op is_call) (ap (is_flow_broken s.of f b.0 i) (sym is_call) ∙ b.1)
      by_step free chain at some off typed = clash off
      by_step free variable at some off typed = clash off
      by_step free k at some off typed = clash some

    -- so what makes no pointer has a type with a shape, or void
    pub shapeless_none : is_shapeless row.0.op ≡ true → is row.0.op code.TypeVoid ≡ false → NoSame → is_frame (group_of i.op) ≡ false → makes_pointer (step_kind i.op) ≡ false → ⊥
    unfolding step_kind
    shapeless_none less no_void no_same free off =
        by_step less no_void no_same free (step_in (group_of i.op)) refl (typed_step (group_of i.op) (typed_group i.op has)) off (is_typed s entry right chosen have f in_it i there)

    -- a pointer of its type would stand elsewhere than pointers may
    pointer_alone : is row.0.op code.TypePointer ≡ true → NoSame
    pointer_alone points k few names needed off typed =
        not_both (is_pointer Gs f (slice_index i.args k)) (pointer_by Gs f (slice_index i.args k) i.ty typed (class_there Gs i.ty row.0 row.1 points)) (stands_no_pointer i there k few names off)

    typed_no_pointer : is_frame (group_of i.op) ≡ false → makes_pointer (step_kind i.op) ≡ false → is_pointer Gs f i.result ≡ false
    typed_no_pointer free off = by_test (is row.0.op code.TypePointer) refl
      where
        by_test : (b : Bool) → is row.0.op code.TypePointer ≡ b → is_pointer Gs f i.result ≡ false
        by_test true points = let p = pointer_shapeless row.0.op points in absurd (shapeless_none p.0 p.1 (pointer_alone points) free off)
        by_test false other = ap (λ (o : Option ℕ). is_some (option_and_then (storage_class Gs) o)) (own_type s entry right f in_it i there (typed_some s entry right f in_it i there has)) ∙ no_class Gs i.ty row.0 row.1 other

  -- what has no type has none that is a pointer
  none_at : (n : ℕ) → global Gs n ≡ None → parameter_in f n ≡ None → option_and_then typed (inst_in f n) ≡ None → is_pointer Gs f n ≡ false
  none_at n outside made own =
      ap (λ (o : Option Inst). is_some (option_and_then (storage_class Gs) (option_or (option_and_then typed o) (local_type f n)))) outside
      ∙ (ap (λ (o : Option ℕ). is_some (option_and_then (storage_class Gs) (option_or o (option_and_then typed (inst_in f n))))) made
      ∙ ap (λ (o : Option ℕ). is_some (option_and_then (storage_class Gs) o)) own)

  zero_no_pointer : is_pointer Gs f 0 ≡ false
  zero_no_pointer = none_at 0 right.results.none (by_parameter (parameter_in f 0) refl) (by_inst (inst_in f 0) refl)
    where
      by_parameter : (o : Option ℕ) → parameter_in f 0 ≡ o → o ≡ None
      by_parameter None at = refl
      by_parameter (Some ty) at = let p = parameter_of f.params 0 (ap is_some at) in absurd ((inside s entry right f in_it).some p.0 p.1 p.2)

      by_type : (j : Inst) → inst_in f 0 ≡ Some j → (((j.ty == 0) ≡ true) × (j.ty ≡ 0)) ⊎ (((j.ty == 0) ≡ false) × (j.ty ≡ 0 → ⊥)) → typed j ≡ None
      by_type j at (inl w) = ap (λ (b : Bool). if b then None else Some j.ty) w.0
      by_type j at (inr w) =
          let formed = (inside s entry right f in_it).formed j (found_in (insts_of f) 0 j at) in
          absurd (formed.result (typed_result j.op (has_a_type j formed w.1)) (named (insts_of f) 0 j at))

      by_inst : (o : Option Inst) → inst_in f 0 ≡ o → option_and_then typed o ≡ None
      by_inst None at = refl
      by_inst (Some j) at = by_type j at (eqb_tells j.ty 0)

  untyped_no_pointer : (i : Inst) → IsAmong i (insts_of f) → has_type i.op ≡ false → is_pointer Gs f i.result ≡ false
  untyped_no_pointer i there off = elim (eqb_tells i.result 0) [
    | inl w ↦ ap (is_pointer Gs f) w.1 ∙ zero_no_pointer
    | inr w ↦
        let own = (inside s entry right f in_it).order.own i there w.1 in
        none_at i.result own.inside own.made
        (ap (option_and_then typed) (found i (insts_of f) (inside s entry right f in_it).order.apart there w.1) ∙ ap (λ (n : ℕ). if n == 0 then None else Some n) (((inside s entry right f in_it).formed i there).untyped off))
  ]

  -- So it is with each instruction of a block.
  pub no_pointer : (i : Inst) → IsAmong i (insts_of f) → is_frame (group_of i.op) ≡ false → makes_pointer (step_kind i.op) ≡ false → is_pointer Gs f i.result ≡ false
  no_pointer i there free off = by_test (has_type i.op) refl
    where
      by_test : (b : Bool) → has_type i.op ≡ b → is_pointer Gs f i.result ≡ false
      by_test true has = typed_no_pointer i there has free off
      by_test false none = untyped_no_pointer i there none
