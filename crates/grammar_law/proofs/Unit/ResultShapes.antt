-- In a conforming module the result of an instruction that makes a value has a shape, and so has a constant.
use Rattle.std.proofs.Common.{◌≡◌, ◌<◌, ◌≤◌, ◌+◌, ◌==◌, ◌||◌, ◌&&◌, not, ℕ, Bool, true, false, List, [], ◌∷◌, ◌++◌, length, drop, take, Option, Some, None, inl, inr, refl, sym, ap, ◌∙◌, if◌then◌else◌, arith}
use Rattle.std.specs.Prelude.{flat_map, nat_le, is_some, option_and_then, slice_index, Contains}
use Rattle.std.specs.Option.{option_map_or}
use Rattle.std.specs.List.{list_any}
use Rattle.std.proofs.lemmas.Bool.Decides.{nat_tests}
use Rattle.std.proofs.lemmas.Bool.{not-false}
use Rattle.spv_words.specs.declared.rule.Rule.TheVariants.{T1}
use Rattle.spv_ops.specs.Opcode.{is, number}
use Rattle.spv_ops.specs.Groups.{is_constant}
use Rattle.spv_ops.specs.Shape.{shape, count_of}
use Rattle.spv_ops.specs.Operands.{is_id}
use Rattle.spv_ops.specs.OpGroups.{takes_of, group_of}
use Rattle.spv_ops.specs.declared.Op.{Op}
use Rattle.spv_ops.specs.declared.Op.TheVariants as code
use Rattle.spv_ops.specs.declared.OpGroup.{OpGroup}
use Rattle.spv_ops.specs.declared.OpGroup.TheVariants as groups
use Rattle.spv_ops.specs.declared.AtomicOp.{AtomicOp}
use Rattle.spv_ops.specs.declared.AtomicOp.TheVariants as atomic
use Rattle.spv_module.specs.State.{ModuleState}
use Rattle.spv_module.specs.Inst.{has_type, has_result}
use Rattle.spv_module.specs.declared.inst.Inst.{Inst}
use Rattle.spv_module.specs.declared.inst.Function.{Function}
use Rattle.spv_types.specs.Tree.{Tree}
use Rattle.spv_types.specs.Types.{is_shapeless, tree_at, type_tree}
use Rattle.spv_decor.specs.Rows.{word}
use Rattle.spv_index.specs.Locals.{insts_of, global_type, type_in}
use Rattle.spv_index.specs.Pointers.{pointee_of}
use Rattle.spv_index.specs.ValueTypes.{is_no_value_type}
use Rattle.profile_rules.specs.declared.needs.Need.TheVariants.{Value}
use Rattle.profile_rules.specs.declared.needs.Reached.TheVariants.{Part, Nothing, Unknown}
use Rattle.profile_rules.specs.Operands.{need, is_there_in, breaks_t1}
use Rattle.profile_rules.specs.TypeRows.{is_bool, is_int, is_uint, is_vector, is_pointer, type_row, fails, differ, value_fails, is_other, component, component_if, constant_word, count_in, ints_of, bools_of, is_not}
use Rattle.profile_rules.specs.ValueRules.{are_other_parts, are_other_members, is_no_array_id, is_other_component, has_other_components, has_other_sizes, is_other_count, is_misbuilt, literal_step, walk, part_of, is_elsewhere, is_value_elsewhere, breaks_t8_extract, breaks_t10, breaks_t11_extract, breaks_t11_insert}
use Rattle.profile_rules.specs.NumberRules.{are_unlike_ints, is_no_bool_vector, is_extended, points_to_other, is_no_content, has_no_int, breaks_t25_load}
use Rattle.profile_rules.specs.TypeRules.{broken_if, breaks_t25, broken_as, broken_inside, broken_by_global, broken_by_function, is_broken_outside, is_value_broken, is_number_broken, rule_of}
use Rattle.list_law.proofs.Lists.{behind_one}
use Rattle.plan_law.specs.InOrder.{IsAmong}
use Rattle.module_semantics.specs.Setting.{Setting}
use Rattle.use_chains.specs.Slots.{is_value}
use Rattle.type_law.proofs.Rows.{vector_parts}
use Rattle.type_law.proofs.Vectors.{three_off, five_off}
use Rattle.type_law.proofs.Parts.{earlier_is, walk_leads}
use Rattle.typed_law.specs.Conforms.{IsConforming}
use Rattle.typed_law.proofs.Lists.{or_left, or_right, clash, none_left, none_right, none_among}
use Rattle.typed_law.proofs.Rules.{operand_there, value_right, number_right, refused}
use Rattle.typed_law.proofs.Types.{row_is}
use Rattle.typed_law.proofs.Values.{IsRow, shape_of_row, value_type_has, global_row, inside, local_row, HasType, HasItsShape, type_row_of, one_type, same_type, none_counted, value_sized, vector_shaped, bool_shaped, type_suits}
use Rattle.typed_law.proofs.Shapes.{no_int, no_bool, row_of_shape, whole_shape}
use Rattle.typed_law.proofs.Operations.{Facts, four_off}
use Rattle.typed_law.proofs.Others.{target_of, typed_some, typed_operand, uint_shaped}

-- groups of opcodes that stand in blocks
abbrev pub stands_inside : OpGroup → Bool
stands_inside groups.Debug = false
stands_inside groups.Head = false
stands_inside groups.Type = false
stands_inside groups.Truth = false
stands_inside groups.Number = false
stands_inside groups.Composite = false
stands_inside groups.AnyConstant = false
stands_inside groups.Function = false
stands_inside _ = true

-- groups of opcodes whose results have shapes, whatever the types of operands; those whose first operand tells of it, and whose second does
abbrev pub makes : OpGroup → Bool
makes groups.Undef = true
makes groups.Load = true
makes groups.ArrayLength = true
makes groups.CopyObject = true
makes groups.Bitcast = true
makes groups.VectorExtractDynamic = true
makes groups.VectorInsertDynamic = true
makes groups.VectorShuffle = true
makes groups.CompositeConstruct = true
makes groups.CompositeExtract = true
makes groups.CompositeInsert = true
makes groups.Arithmetic = true
makes groups.Comparison = true
makes groups.Logical = true
makes groups.AnyOrAll = true
makes groups.BitFieldInsert = true
makes groups.BitFieldExtract = true
makes groups.BitOperation = true
makes groups.Extended = true
makes (groups.Atomic o) = true
makes _ = false

abbrev pub reads_first : OpGroup → Bool
reads_first groups.Load = true
reads_first groups.Store = true
reads_first groups.ArrayLength = true
reads_first groups.VectorExtractDynamic = true
reads_first groups.CompositeExtract = true
reads_first groups.CopyLogical = true
reads_first (groups.Atomic o) = true
reads_first _ = false

abbrev pub reads_second : OpGroup → Bool
reads_second groups.Store = true
reads_second groups.CompositeInsert = true
reads_second groups.Select = true
reads_second _ = false

-- the operand is a value, and is there
pub record IsReadAt (o : Op) (args : List ℕ) (k : ℕ) : Type 0 where
  pub names_id : is_id o args k ≡ true
  pub asks : need o k ≡ Value
  pub value : is_value o k ≡ true
  pub no_phi : is o code.Phi ≡ false
  pub many : (n : ℕ) → (shape o).least ≤ 1 + count_of (has_type o) + count_of (has_result o) + n → k < n

pub first_read : (o : Op) (args : List ℕ) → reads_first (group_of o) ≡ true → IsReadAt o args 0
unfolding group_of takes_of need is_id shape number
first_read code.Load args on = record { names_id = refl; asks = refl; value = refl; no_phi = refl; many = λ n le. omega (arith, le) }
first_read code.Store args on = record { names_id = refl; asks = refl; value = refl; no_phi = refl; many = λ n le. omega (arith, le) }
first_read code.ArrayLength args on = record { names_id = refl; asks = refl; value = refl; no_phi = refl; many = λ n le. omega (arith, le) }
first_read code.VectorExtractDynamic args on = record { names_id = refl; asks = refl; value = refl; no_phi = refl; many = λ n le. omega (arith, le) }
first_read code.CompositeExtract args on = record { names_id = refl; asks = refl; value = refl; no_phi = refl; many = λ n le. omega (arith, le) }
first_read code.CopyLogical args on = record { names_id = refl; asks = refl; value = refl; no_phi = refl; many = λ n le. omega (arith, le) }
first_read code.AtomicLoad args on = record { names_id = refl; asks = refl; value = refl; no_phi = refl; many = λ n le. omega (arith, le) }
first_read code.AtomicStore args on = record { names_id = refl; asks = refl; value = refl; no_phi = refl; many = λ n le. omega (arith, le) }
first_read code.AtomicExchange args on = record { names_id = refl; asks = refl; value = refl; no_phi = refl; many = λ n le. omega (arith, le) }
first_read code.AtomicCompareExchange args on = record { names_id = refl; asks = refl; value = refl; no_phi = refl; many = λ n le. omega (arith, le) }
first_read code.AtomicIIncrement args on = record { names_id = refl; asks = refl; value = refl; no_phi = refl; many = λ n le. omega (arith, le) }
first_read code.AtomicIDecrement args on = record { names_id = refl; asks = refl; value = refl; no_phi = refl; many = λ n le. omega (arith, le) }
first_read code.AtomicIAdd args on = record { names_id = refl; asks = refl; value = refl; no_phi = refl; many = λ n le. omega (arith, le) }
first_read code.AtomicISub args on = record { names_id = refl; asks = refl; value = refl; no_phi = refl; many = λ n le. omega (arith, le) }
first_read code.AtomicSMin args on = record { names_id = refl; asks = refl; value = refl; no_phi = refl; many = λ n le. omega (arith, le) }
first_read code.AtomicUMin args on = record { names_id = refl; asks = refl; value = refl; no_phi = refl; many = λ n le. omega (arith, le) }
first_read code.AtomicSMax args on = record { names_id = refl; asks = refl; value = refl; no_phi = refl; many = λ n le. omega (arith, le) }
first_read code.AtomicUMax args on = record { names_id = refl; asks = refl; value = refl; no_phi = refl; many = λ n le. omega (arith, le) }
first_read code.AtomicAnd args on = record { names_id = refl; asks = refl; value = refl; no_phi = refl; many = λ n le. omega (arith, le) }
first_read code.AtomicOr args on = record { names_id = refl; asks = refl; value = refl; no_phi = refl; many = λ n le. omega (arith, le) }
first_read code.AtomicXor args on = record { names_id = refl; asks = refl; value = refl; no_phi = refl; many = λ n le. omega (arith, le) }
first_read o args on = cc

pub second_read : (o : Op) (args : List ℕ) → reads_second (group_of o) ≡ true → IsReadAt o args 1
unfolding group_of takes_of need is_id shape number
second_read code.Store args on = record { names_id = refl; asks = refl; value = refl; no_phi = refl; many = λ n le. omega (arith, le) }
second_read code.CompositeInsert args on = record { names_id = refl; asks = refl; value = refl; no_phi = refl; many = λ n le. omega (arith, le) }
second_read code.Select args on = record { names_id = refl; asks = refl; value = refl; no_phi = refl; many = λ n le. omega (arith, le) }
second_read o args on = cc

-- an atomic instruction with one operand
abbrev pub has_operand : AtomicOp → Bool
has_operand atomic.Load = false
has_operand atomic.IIncrement = false
has_operand atomic.IDecrement = false
has_operand atomic.CompareExchange = false
has_operand _ = true

-- the operand of an atomic instruction, and the two of OpAtomicCompareExchange
abbrev pub reads_fourth : OpGroup → Bool
reads_fourth (groups.Atomic o) = has_operand o
reads_fourth _ = false

pub fourth_read : (o : Op) (args : List ℕ) → reads_fourth (group_of o) ≡ true → IsReadAt o args 3
unfolding group_of takes_of need is_id shape number
fourth_read code.AtomicStore args on = record { names_id = refl; asks = refl; value = refl; no_phi = refl; many = λ n le. omega (arith, le) }
fourth_read code.AtomicExchange args on = record { names_id = refl; asks = refl; value = refl; no_phi = refl; many = λ n le. omega (arith, le) }
fourth_read code.AtomicIAdd args on = record { names_id = refl; asks = refl; value = refl; no_phi = refl; many = λ n le. omega (arith, le) }
fourth_read code.AtomicISub args on = record { names_id = refl; asks = refl; value = refl; no_phi = refl; many = λ n le. omega (arith, le) }
fourth_read code.AtomicSMin args on = record { names_id = refl; asks = refl; value = refl; no_phi = refl; many = λ n le. omega (arith, le) }
fourth_read code.AtomicUMin args on = record { names_id = refl; asks = refl; value = refl; no_phi = refl; many = λ n le. omega (arith, le) }
fourth_read code.AtomicSMax args on = record { names_id = refl; asks = refl; value = refl; no_phi = refl; many = λ n le. omega (arith, le) }
fourth_read code.AtomicUMax args on = record { names_id = refl; asks = refl; value = refl; no_phi = refl; many = λ n le. omega (arith, le) }
fourth_read code.AtomicAnd args on = record { names_id = refl; asks = refl; value = refl; no_phi = refl; many = λ n le. omega (arith, le) }
fourth_read code.AtomicOr args on = record { names_id = refl; asks = refl; value = refl; no_phi = refl; many = λ n le. omega (arith, le) }
fourth_read code.AtomicXor args on = record { names_id = refl; asks = refl; value = refl; no_phi = refl; many = λ n le. omega (arith, le) }
fourth_read o args on = cc

pub swap_read : (o : Op) (args : List ℕ) → group_of o ≡ groups.Atomic atomic.CompareExchange → IsReadAt o args 4 × IsReadAt o args 5
unfolding group_of takes_of need is_id shape number
swap_read code.AtomicCompareExchange args on = (record { names_id = refl; asks = refl; value = refl; no_phi = refl; many = λ n le. omega (arith, le) }, record { names_id = refl; asks = refl; value = refl; no_phi = refl; many = λ n le. omega (arith, le) })
swap_read o args on = cc

unbuilt : (o : Op) → is_shapeless o ≡ true → (is o code.TypeVector ≡ false) × (is o code.TypeArray ≡ false) × (is o code.TypeStruct ≡ false)
unfolding number
unbuilt code.TypeVector e = cc
unbuilt code.TypeArray e = cc
unbuilt code.TypeStruct e = cc
unbuilt o e = (refl, refl, refl)

-- an atomic instruction with a result
abbrev pub stores : AtomicOp → Bool
stores atomic.Store = true
stores _ = false

pub points_by : (gs : List Inst) (t : ℕ → Option ℕ) (i : Inst) (o : AtomicOp) → stores o ≡ false → breaks_t25 gs t i o ≡ false → points_to_other gs t (word i 0) i.ty ≡ false
points_by gs t i atomic.Store off broken = cc
points_by gs t i atomic.Load off broken = or_left (points_to_other gs t (word i 0) i.ty) (has_no_int gs t (take 2 (drop 1 i.args))) broken
points_by gs t i atomic.IIncrement off broken = or_left (points_to_other gs t (word i 0) i.ty) (has_no_int gs t (take 2 (drop 1 i.args))) broken
points_by gs t i atomic.IDecrement off broken = or_left (points_to_other gs t (word i 0) i.ty) (has_no_int gs t (take 2 (drop 1 i.args))) broken
points_by gs t i atomic.CompareExchange off broken = (four_off (points_to_other gs t (word i 0) i.ty) (has_no_int gs t (take 3 (drop 1 i.args))) (is_no_content gs t (word i 0) (word i 4)) (is_no_content gs t (word i 0) (word i 5)) broken).0
points_by gs t i o off broken = or_left (points_to_other gs t (word i 0) i.ty) (has_no_int gs t (take 2 (drop 1 i.args))) (or_left (breaks_t25_load gs t i) (is_no_content gs t (word i 0) (word i 3)) broken)

-- T2, T3: a constant is of a value type
constant_value : (m : ModuleState) (t : ℕ → Option ℕ) (g : Inst) (o : Op) → is_constant o ≡ true → is_value_broken m t g (group_of o) ≡ false → is_no_value_type m.heads m.globals g.ty ≡ false
unfolding group_of
constant_value m t g code.Undef on off = off
constant_value m t g code.ConstantTrue on off = or_left (is_no_value_type m.heads m.globals g.ty) (fails is_bool m.globals g.ty) off
constant_value m t g code.ConstantFalse on off = or_left (is_no_value_type m.heads m.globals g.ty) (fails is_bool m.globals g.ty) off
constant_value m t g code.SpecConstantTrue on off = or_left (is_no_value_type m.heads m.globals g.ty) (fails is_bool m.globals g.ty) off
constant_value m t g code.SpecConstantFalse on off = or_left (is_no_value_type m.heads m.globals g.ty) (fails is_bool m.globals g.ty) off
constant_value m t g code.Constant on off = or_left (is_no_value_type m.heads m.globals g.ty) (fails is_int m.globals g.ty) off
constant_value m t g code.SpecConstant on off = or_left (is_no_value_type m.heads m.globals g.ty) (fails is_int m.globals g.ty) off
constant_value m t g code.ConstantComposite on off = or_left (is_no_value_type m.heads m.globals g.ty) _ off
constant_value m t g code.SpecConstantComposite on off = or_left (is_no_value_type m.heads m.globals g.ty) _ off
constant_value m t g code.ConstantNull on off = off
constant_value m t g code.SpecConstantOp on off = off
constant_value m t g o on off = cc

pub constant_typed : (o : Op) → is_constant o ≡ true → has_type o ≡ true
unfolding shape
constant_typed code.Undef on = refl
constant_typed o on = cc

-- what stores gives nothing
abbrev atomic_of : OpGroup → AtomicOp
atomic_of (groups.Atomic q) = q
atomic_of _ = atomic.Load

stored : (c : Op) → has_type c ≡ true → stores (atomic_of (group_of c)) ≡ false
unfolding shape group_of
stored code.AtomicStore typed = cc
stored c typed = refl

module _ (s : Setting) (entry : Option (List ℕ)) (right : IsConforming s.of entry) where
  abbrev pub IsShaped : ℕ → Type 0
  IsShaped ty = (t : Tree) × (type_tree s.of.globals ty ≡ Some t)

  sound_global : (g : Inst) → IsAmong g s.of.globals → is_broken_outside s.of g (group_of g.op) ≡ false
  sound_global g there =
      let none = none_among (broken_by_global s.of) s.of.globals g (none_left (flat_map (broken_by_global s.of) s.of.globals) (flat_map (broken_by_function s.of) s.of.functions) right.typed) there in
      refused (is_broken_outside s.of g (group_of g.op)) (rule_of (group_of g.op)) g.at
      (none_left (broken_as s.of g g.op) (broken_inside s.of g) (none_right (broken_if (breaks_t1 s.of.globals g) T1 g.at) (broken_as s.of g g.op ++ broken_inside s.of g) none))

  pub constant_shaped : (g : Inst) → IsAmong g s.of.globals → is_constant g.op ≡ true → (g.ty ≡ 0 → ⊥) → IsShaped g.ty
  constant_shaped g there on some =
      let w = global_row s entry right g there some in
      let value = or_left (is_value_broken s.of (global_type s.of.globals) g (group_of g.op)) (is_number_broken s.of.globals (global_type s.of.globals) g (group_of g.op)) (sound_global g there) in
      let v = value_type_has s entry right g.ty (w.0, w.1, type_suits g.op w.0 w.2) (constant_value s.of (global_type s.of.globals) g g.op on value) in
      (v.0, v.1)

  module _ (f : Function) (in_it : Contains s.of.functions f) (i : Inst) (there : IsAmong i (insts_of f)) where
    facts_of : Facts s entry right f in_it i there i.op
    facts_of = record {
      value = value_right s.of entry right f in_it i there;
      number = number_right s.of entry right f in_it i there;
      least = ((inside s entry right f in_it).formed i there).least;
      most = ((inside s entry right f in_it).formed i there).most;
      has = operand_there (is_there_in s.of f i.at) i ((inside s entry right f in_it).order.there i there);
    }

    pub typed_read : (k : ℕ) → IsReadAt i.op i.args k → HasType s entry right f in_it (slice_index i.args k)
    typed_read k r = typed_operand s entry right f in_it i there i.op facts_of k (r.many (length i.args) facts_of.least) r.names_id r.asks

  module _ (f : Function) (in_it : Contains s.of.functions f) (i : Inst) (there : IsAmong i (insts_of f)) (has : has_type i.op ≡ true) where
    abbrev Gs : List Inst
    Gs = s.of.globals

    abbrev V : ℕ → Option ℕ
    V = type_in s.of.globals f

    pub row : IsRow s entry right i.ty
    row = let g = local_row s entry right f in_it i there (typed_some s entry right f in_it i there has) in (g.0, g.1, type_suits i.op g.0 g.2)

    pub by_value : is_no_value_type s.of.heads Gs i.ty ≡ false → IsShaped i.ty
    by_value off = let t = value_type_has s entry right i.ty row off in (t.0, t.1)

    by_test : (test : Inst → Bool) → ((g : Inst) → test g ≡ true → is_shapeless g.op ≡ false) → fails test Gs i.ty ≡ false → IsShaped i.ty
    by_test test shaped off =
        let on = not-false (test row.0) (ap (λ o. option_map_or (λ (x : Inst). not (test x)) o false) (sym (row_is s.of entry right i.ty row.0 row.1 row.2)) ∙ off) in
        shape_of_row s entry right i.ty row (shaped row.0 on)

    by_count : (test : Inst → Bool) → ((g : Inst) → is_shapeless g.op ≡ true → test g ≡ false) → (rest : ℕ → Bool) → option_map_or (λ n. (n == 0) || rest n) (option_and_then (count_in test Gs) (type_row Gs i.ty)) false ≡ false → IsShaped i.ty
    by_count test none rest off = by_shape (is_shapeless row.0.op) refl (ap (λ o. option_map_or (λ n. (n == 0) || rest n) (option_and_then (count_in test Gs) o) false) (sym (row_is s.of entry right i.ty row.0 row.1 row.2)) ∙ off)
      where
        by_shape : (b : Bool) → is_shapeless row.0.op ≡ b → option_map_or (λ n. (n == 0) || rest n) (count_in test Gs row.0) false ≡ false → IsShaped i.ty
        by_shape false shaped off = shape_of_row s entry right i.ty row shaped
        by_shape true shaped off = clash (ap (λ o. option_map_or (λ n. (n == 0) || rest n) o false) (sym (none_counted s entry right f in_it test none row.0 shaped)) ∙ off)

    -- T8
    of_vector : HasType s entry right f in_it (word i 0) → breaks_t8_extract Gs V i ≡ false → IsShaped i.ty
    of_vector w off =
        let parts = three_off (value_fails is_vector Gs V (word i 0)) (value_fails is_int Gs V (word i 1)) (option_map_or (differ Gs i.ty) (option_and_then (component Gs) (V (word i 0))) false) off in
        let g = type_row_of s entry right f in_it (word i 0) w.0 w.1 in
        let known = row_is s.of entry right w.0 g.0 g.1 g.2 in
        let on : is_vector g.0 ≡ true = not-false (is_vector g.0) (ap (λ o. option_map_or (λ (x : Inst). not (is_vector x)) o false) (sym known) ∙ (ap (λ o. option_map_or (fails is_vector Gs) o false) (sym w.1) ∙ parts.0)) in
        let t = shape_of_row s entry right w.0 g (vector_shaped g.0.op on) in
        let v = vector_parts Gs g.0 t.0 on (sym (ap (λ o. option_map_or (tree_at Gs) o None) g.1) ∙ t.1) in
        let part : type_tree Gs (word g.0 0) ≡ Some v.0 = earlier_is s f g.0.at (word g.0 0) v.0 v.2 in
        let component_is : option_and_then (component Gs) (V (word i 0)) ≡ Some (word g.0 0) = ap (option_and_then (component Gs)) w.1 ∙ (ap (option_and_then component_if) known ∙ ap (λ (b : Bool). if b then Some (word g.0 0) else None) on) in
        let same : i.ty ≡ word g.0 0 = one_type s entry right f in_it i.ty (word g.0 0) row (row_of_shape s entry right f in_it (word g.0 0) v.0 part) (ap (λ o. option_map_or (differ Gs i.ty) o false) (sym component_is) ∙ parts.2) in
        (v.0, ap (type_tree Gs) same ∙ part)

    -- T10
    built : breaks_t10 Gs V i ≡ false → IsShaped i.ty
    built off = by_shape (is_shapeless row.0.op) refl (ap (λ o. option_map_or (is_misbuilt Gs V i.args) o false) (sym (row_is s.of entry right i.ty row.0 row.1 row.2)) ∙ off)
      where
        by_kinds : (v a q x y z w : Bool) → v ≡ false → a ≡ false → q ≡ false → (if v then x else (if v then y else (if a then z else (if q then w else true)))) ≡ false → ⊥
        by_kinds false false false x y z w ev ea eq off = cc
        by_kinds true a q x y z w ev ea eq off = cc
        by_kinds false true q x y z w ev ea eq off = cc
        by_kinds false false true x y z w ev ea eq off = cc

        by_shape : (b : Bool) → is_shapeless row.0.op ≡ b → is_misbuilt Gs V i.args row.0 ≡ false → IsShaped i.ty
        by_shape false shaped off = shape_of_row s entry right i.ty row shaped
        by_shape true shaped off =
            let none = unbuilt row.0.op shaped in
            absurd (by_kinds (is_vector row.0) (is row.0.op code.TypeArray) (is row.0.op code.TypeStruct) (is_other_count Gs V (word row.0 1) (word row.0 0) i.args) (are_other_parts Gs V (word row.0 1) (word row.0 0) i.args)
            (option_map_or (λ n. are_other_parts Gs V n (word row.0 0) i.args) (constant_word Gs (word row.0 1)) false) (are_other_members Gs V row.0.args i.args) none.0 none.1 none.2 off)

    -- T11
    whole_by : (id : ℕ) (w : HasType s entry right f in_it id) (ks : List ℕ) → 1 ≤ length ks → (walk (literal_step Gs) (Part w.0) ks ≡ Nothing → ⊥) → HasItsShape s entry right f in_it id
    whole_by id w [] some leads = absurd (omega (arith, some))
    whole_by id w (k ∷ ks) some leads = whole_shape s entry right f in_it id k ks w leads

    behind_two : (args : List ℕ) → nat_le (length args) 2 ≡ false → 1 ≤ length (drop 2 args)
    behind_two [] few = cc
    behind_two (a ∷ []) few = cc
    behind_two (a ∷ b ∷ args) few = grind (arith, nat_tests, few)

    parted : HasType s entry right f in_it (word i 0) → breaks_t11_extract Gs V i ≡ false → IsShaped i.ty
    parted w off =
        let few = or_left (nat_le (length i.args) 1) (is_elsewhere Gs i.ty (part_of Gs (V (word i 0)) (drop 1 i.args))) off in
        let told = or_right (nat_le (length i.args) 1) (is_elsewhere Gs i.ty (part_of Gs (V (word i 0)) (drop 1 i.args))) off in
        let leads : is_elsewhere Gs i.ty (walk (literal_step Gs) (Part w.0) (drop 1 i.args)) ≡ false = ap (λ o. is_elsewhere Gs i.ty (walk (literal_step Gs) (option_map_or Part o Unknown) (drop 1 i.args))) (sym w.1) ∙ told in
        let a = whole_by (word i 0) w (drop 1 i.args) (behind_one i.args few) (λ none. clash (ap (is_elsewhere Gs i.ty) (sym none) ∙ leads)) in
        let whole : type_tree Gs w.0 ≡ Some a.0 = sym (ap (option_and_then (type_tree Gs)) w.1) ∙ a.1 in
        elim (walk_leads s f (drop 1 i.args) w.0 a.0 whole (value_sized s entry right f in_it (word i 0) w.0 w.1 a.0 whole)) [
          | inl none ↦ clash (ap (is_elsewhere Gs i.ty) (sym none) ∙ leads)
          | inr q ↦ (q.1, ap (type_tree Gs) (one_type s entry right f in_it i.ty q.0 row (row_of_shape s entry right f in_it q.0 q.1 q.3) (ap (is_elsewhere Gs i.ty) (sym q.2) ∙ leads)) ∙ q.3)
        ]

    put_in : HasType s entry right f in_it (word i 1) → breaks_t11_insert Gs V i ≡ false → IsShaped i.ty
    put_in w off =
        let parts = three_off (nat_le (length i.args) 2) (is_other Gs V i.ty (word i 1)) (is_value_elsewhere Gs V (word i 0) (part_of Gs (V (word i 1)) (drop 2 i.args))) off in
        let own : V (word i 1) ≡ Some i.ty = same_type s entry right f in_it i.ty (word i 1) row w parts.1 in
        let leads : is_value_elsewhere Gs V (word i 0) (walk (literal_step Gs) (Part i.ty) (drop 2 i.args)) ≡ false = ap (λ o. is_value_elsewhere Gs V (word i 0) (walk (literal_step Gs) (option_map_or Part o Unknown) (drop 2 i.args))) (sym own) ∙ parts.2 in
        let a = whole_by (word i 1) (i.ty, own) (drop 2 i.args) (behind_two i.args parts.0) (λ none. clash (ap (is_value_elsewhere Gs V (word i 0)) (sym none) ∙ leads)) in
        (a.0, sym (ap (option_and_then (type_tree Gs)) own) ∙ a.1)

    -- T25
    by_pointer : HasType s entry right f in_it (word i 0) → points_to_other Gs V (word i 0) i.ty ≡ false → IsShaped i.ty
    by_pointer w other =
        let q = target_of s entry right f in_it (word i 0) w (or_left (value_fails is_pointer Gs V (word i 0)) (option_map_or (λ p. differ Gs p i.ty) (pointee_of Gs f (word i 0)) false) other) in
        let apart : differ Gs q.0 i.ty ≡ false = ap (λ o. option_map_or (λ p. differ Gs p i.ty) o false) (sym q.2) ∙ or_right (value_fails is_pointer Gs V (word i 0)) (option_map_or (λ p. differ Gs p i.ty) (pointee_of Gs f (word i 0)) false) other in
        let same : q.0 ≡ i.ty = one_type s entry right f in_it q.0 i.ty (row_of_shape s entry right f in_it q.0 q.1 q.3) row apart in
        (q.1, ap (type_tree Gs) (sym same) ∙ q.3)

    first_of : (g : OpGroup) → group_of i.op ≡ g → reads_first g ≡ true → HasType s entry right f in_it (word i 0)
    first_of g is_it on = typed_read f in_it i there 0 (first_read i.op i.args (ap reads_first is_it ∙ on))

    second_of : (g : OpGroup) → group_of i.op ≡ g → reads_second g ≡ true → HasType s entry right f in_it (word i 1)
    second_of g is_it on = typed_read f in_it i there 1 (second_read i.op i.args (ap reads_second is_it ∙ on))

    atomic_shaped : (o : AtomicOp) → group_of i.op ≡ groups.Atomic o → stores o ≡ false → breaks_t25 Gs V i o ≡ false → IsShaped i.ty
    atomic_shaped o is_it off broken = by_pointer (first_of (groups.Atomic o) is_it refl) (points_by Gs V i o off broken)

    by_group : (g : OpGroup) → group_of i.op ≡ g → makes g ≡ true → ((o : AtomicOp) → g ≡ groups.Atomic o → stores o ≡ false) → is_value_broken s.of V i g ≡ false → is_number_broken Gs V i g ≡ false → IsShaped i.ty
    by_group groups.Undef is_it on loads value number = by_value value
    by_group groups.CopyObject is_it on loads value number = by_value (or_left (is_no_value_type s.of.heads Gs i.ty) (is_other Gs V i.ty (word i 0)) value)
    by_group groups.Load is_it on loads value number = by_value (or_left (is_no_value_type s.of.heads Gs i.ty) (points_to_other Gs V (word i 0) i.ty) value)
    by_group groups.ArrayLength is_it on loads value number = by_test is_uint uint_shaped (or_left (fails is_uint Gs i.ty) (is_some (V (word i 0)) && is_no_array_id Gs (word i 1) (word i 0)) value)
    by_group groups.VectorExtractDynamic is_it on loads value number = of_vector (first_of groups.VectorExtractDynamic is_it refl) value
    by_group groups.VectorInsertDynamic is_it on loads value number =
        by_test is_vector (λ g on. vector_shaped g.op on) (five_off (fails is_vector Gs i.ty) (value_fails is_vector Gs V (word i 0)) (value_fails is_int Gs V (word i 2)) (is_other Gs V i.ty (word i 0)) (is_other_component Gs V i.ty (word i 1)) value).0
    by_group groups.VectorShuffle is_it on loads value number =
        by_test is_vector (λ g on. vector_shaped g.op on) (five_off (fails is_vector Gs i.ty) (value_fails is_vector Gs V (word i 0)) (value_fails is_vector Gs V (word i 1)) (has_other_components Gs i.ty (V (word i 0)) (V (word i 1))) (has_other_sizes Gs i.ty (V (word i 0)) (V (word i 1)) (drop 2 i.args)) value).0
    by_group groups.CompositeConstruct is_it on loads value number = built value
    by_group groups.CompositeExtract is_it on loads value number = parted (first_of groups.CompositeExtract is_it refl) value
    by_group groups.CompositeInsert is_it on loads value number = put_in (second_of groups.CompositeInsert is_it refl) value
    by_group groups.Bitcast is_it on loads value number = by_count is_int no_int (λ n. list_any (λ id. is_not n (ints_of Gs V id)) i.args) number
    by_group groups.Arithmetic is_it on loads value number = by_count is_int no_int (λ n. list_any (λ id. is_not n (ints_of Gs V id)) i.args) number
    by_group groups.Comparison is_it on loads value number = by_count is_bool no_bool (λ n. list_any (λ id. is_not n (ints_of Gs V id)) i.args) number
    by_group groups.Logical is_it on loads value number = by_count is_bool no_bool (λ n. list_any (λ id. is_not n (bools_of Gs V id)) i.args) number
    by_group groups.AnyOrAll is_it on loads value number = by_test is_bool (λ g on. bool_shaped g.op on) (or_left (fails is_bool Gs i.ty) (is_no_bool_vector Gs V (word i 0)) number)
    by_group groups.BitFieldInsert is_it on loads value number = by_count is_int no_int (λ n. list_any (λ id. is_not n (ints_of Gs V id)) (take 2 i.args)) (or_left (are_unlike_ints Gs V i.ty (take 2 i.args)) (list_any (value_fails is_int Gs V) (drop 2 i.args)) number)
    by_group groups.BitFieldExtract is_it on loads value number = by_count is_int no_int (λ n. list_any (λ id. is_not n (ints_of Gs V id)) (take 1 i.args)) (or_left (are_unlike_ints Gs V i.ty (take 1 i.args)) (list_any (value_fails is_int Gs V) (drop 1 i.args)) number)
    by_group groups.BitOperation is_it on loads value number = by_count is_int no_int (λ n. list_any (λ id. is_not n (ints_of Gs V id)) (take 1 i.args)) (or_left (are_unlike_ints Gs V i.ty (take 1 i.args)) (list_any (value_fails is_int Gs V) (drop 1 i.args)) number)
    by_group groups.Extended is_it on loads value number = by_count is_int no_int (λ n. list_any (λ id. is_not n (ints_of Gs V id)) (drop 2 i.args)) (or_right (not (is_extended (word i 1) (length (drop 2 i.args)))) (are_unlike_ints Gs V i.ty (drop 2 i.args)) number)
    by_group (groups.Atomic o) is_it on loads value number = atomic_shaped o is_it (loads o refl) number
    by_group g is_it on loads value number = cc

    -- the result has a shape
    pub made_shaped : makes (group_of i.op) ≡ true → IsShaped i.ty
    made_shaped on = by_group (group_of i.op) refl on (λ o is_it. ap (λ (g : OpGroup). stores (atomic_of g)) (sym is_it) ∙ stored i.op has) (facts_of f in_it i there).value (facts_of f in_it i there).number
