-- Each operation of a conforming module's function takes the shapes of its operands.
use Rattle.std.proofs.Common.{◌≡◌, ◌<◌, ◌≤◌, ◌+◌, ◌==◌, ◌||◌, ◌&&◌, not, ℕ, zero, suc, Bool, true, false, List, [], ◌∷◌, length, take, drop, Option, Some, None, inl, inr, refl, sym, ap, subst, ◌∙◌, if◌then◌else◌, arith}
use Rattle.std.specs.Prelude.{◌⊎◌, nat_le, option_and_then, Contains, slice_index}
use Rattle.std.specs.Option.{option_map_or}
use Rattle.std.specs.List.{list_any}
use Rattle.std.proofs.lemmas.Bool.Decides.{eqb_tells, nat_tests}
use Rattle.std.proofs.lemmas.Bool.{not-false}
use Rattle.std.proofs.lemmas.Option.{same_Some}
use Rattle.spv_ops.specs.Opcode.{number}
use Rattle.spv_ops.specs.Shape.{shape, count_of}
use Rattle.spv_ops.specs.Operands.{is_id}
use Rattle.spv_ops.specs.OpGroups.{takes_of, group_of}
use Rattle.spv_ops.specs.declared.Op.{Op}
use Rattle.spv_ops.specs.declared.Op.TheVariants as code
use Rattle.spv_module.specs.Inst.{has_type, has_result}
use Rattle.spv_module.specs.declared.inst.Inst.{Inst}
use Rattle.spv_module.specs.declared.inst.Function.{Function}
use Rattle.spv_types.specs.Tree.{Tree}
use Rattle.spv_types.specs.Types.{type_tree}
use Rattle.spv_types.specs.Leaves.{IsSized}
use Rattle.spv_decor.specs.Rows.{word}
use Rattle.spv_index.specs.Locals.{insts_of, type_in}
use Rattle.spv_index.specs.ValueTypes.{is_no_value_type}
use Rattle.op_semantics.specs.declared.operation.Unary.{Unary}
use Rattle.op_semantics.specs.declared.operation.Unary.TheVariants.{SNegate, Not, BitReverse, BitCount, SAbs, SSign, FindILsb, FindSMsb, FindUMsb}
use Rattle.op_semantics.specs.declared.operation.Binary.{Binary}
use Rattle.op_semantics.specs.declared.operation.Binary.TheVariants.{IAdd, ISub, IMul, UDiv, SDiv, UMod, SRem, SMod, ShiftRightLogical, ShiftRightArithmetic, ShiftLeftLogical, BitwiseOr, BitwiseXor, BitwiseAnd, UMin, SMin, UMax, SMax}
use Rattle.op_semantics.specs.declared.operation.Comparison.{Comparison}
use Rattle.op_semantics.specs.declared.operation.Comparison.TheVariants.{IEqual, INotEqual, UGreaterThan, SGreaterThan, UGreaterThanEqual, SGreaterThanEqual, ULessThan, SLessThan, ULessThanEqual, SLessThanEqual}
use Rattle.op_semantics.specs.declared.operation.Logical.{Logical}
use Rattle.op_semantics.specs.declared.operation.Logical.TheVariants.{LogicalEqual, LogicalNotEqual, LogicalOr, LogicalAnd}
use Rattle.op_semantics.specs.declared.operation.Clamp.{Clamp}
use Rattle.op_semantics.specs.declared.operation.Clamp.TheVariants.{UClamp, SClamp}
use Rattle.op_semantics.specs.declared.operation.Operation.{Operation}
use Rattle.op_semantics.specs.declared.operation.Operation.TheVariants as op
use Rattle.op_semantics.specs.Value.{operation, operation_of, operation_in, extended_opcodes}
use Rattle.profile_rules.specs.declared.needs.Need.TheVariants.{Import, Value}
use Rattle.profile_rules.specs.declared.needs.Reached.TheVariants.{Part, Nothing, Unknown}
use Rattle.profile_rules.specs.Operands.{need, first_or, is_there_in}
use Rattle.profile_rules.specs.TypeRows.{is_bool, is_int, is_vector, is_void, fails, differ, value_fails, is_other, component, component_if, bools_of}
use Rattle.profile_rules.specs.ValueRules.{breaks_t3_copy, breaks_t8_extract, breaks_t8_insert, breaks_t9, breaks_t10, breaks_t11_extract, breaks_t11_insert, breaks_t12, has_other_components, has_other_sizes, is_other_component, is_elsewhere, is_value_elsewhere, part_of, literal_step, walk, do_match}
use Rattle.profile_rules.specs.NumberRules.{are_unlike_ints, breaks_t14, breaks_t15, breaks_t16, breaks_t17, breaks_t18, breaks_t20, is_no_bool_vector, is_no_condition, extended_rows, is_extended}
use Rattle.profile_rules.specs.TypeRules.{is_value_broken, is_number_broken}
use Rattle.list_law.proofs.Numbers.{from_zero}
use Rattle.list_law.proofs.Tests.{or_left, or_right, clash}
use Rattle.list_law.proofs.Lists.{behind_one}
use Rattle.plan_law.specs.InOrder.{IsAmong}
use Rattle.module_semantics.specs.Setting.{Setting}
use Rattle.module_semantics.specs.Operands.{value_operands, literal_operands}
use Rattle.fits_law.specs.Takes.{Takes, Has, IsField, truths}
use Rattle.fits_law.specs.State.{value_shape}
use Rattle.fits_law.specs.Typed.{HaveShapes}
use Rattle.type_law.proofs.Rows.{vector_parts}
use Rattle.type_law.proofs.Operands as numbers
use Rattle.type_law.proofs.Choices.{passes, over_takes, index_takes, select_takes}
use Rattle.type_law.proofs.Vectors.{five_off, three_off, copy_takes, put_takes, shuffle_takes}
use Rattle.type_law.proofs.Parts.{row, earlier_is, walk_leads, extract_takes, insertion_takes}
use Rattle.type_law.proofs.Made.{made_takes}
use Rattle.type_law.proofs.Copies.{logical_takes as copied_takes}
use Rattle.typed_law.specs.Conforms.{IsConforming}
use Rattle.typed_law.proofs.Lists.{at_least}
use Rattle.typed_law.proofs.Values.{HasType, HasItsShape, passing, same_type, typed_value, value_sized, own_type, shaped_some, vector_shaped, int_shaped}
use Rattle.typed_law.proofs.Shapes.{AreTyped, number_shapes, compared_shapes, truth_shapes, condition_shape, row_of_shape, shaped_type, made_shapes, whole_shape, copied_shape}

pub four_off : (a b c d : Bool) → (a || b || c || d) ≡ false → (a ≡ false) × (b ≡ false) × (c ≡ false) × (d ≡ false)
four_off false false false false h = (refl, refl, refl, refl)
four_off a b c d h = cc

exactly : (n l : ℕ) → 3 + n ≤ 3 + l → 3 + l ≤ 3 + n → l ≡ n
exactly n l least most = omega (arith, least, most)

second_of : (args : List ℕ) → 2 ≤ length args → take 1 (drop 1 args) ≡ slice_index args 1 ∷ []
second_of [] many = absurd (omega (arith, many))
second_of (a ∷ []) many = absurd (omega (arith, many))
second_of (a ∷ b ∷ args) many = refl

pub behind_second : (k : ℕ) → 2 ≤ k → not (k == 1) ≡ true
behind_second k low = grind (arith, nat_tests, low)

behind_first : (k : ℕ) → 2 ≤ k → first_or k Import Value ≡ Value
behind_first k low = let off : (k == 0) ≡ false = grind (arith, nat_tests, low) in ap (λ (b : Bool). if b then Import else Value) off

-- the operations of GLSL.std.450 by their numbers of operands
data ExtendedView (c : ℕ) (o : Operation) : Type 0 where
  of_unary : c ≡ 1 → (u : Unary) → op.Unary u ≡ o → ExtendedView c o
  of_binary : c ≡ 2 → (b : Binary) → op.Binary b ≡ o → ExtendedView c o
  of_clamp : c ≡ 3 → (k : Clamp) → op.Clamp k ≡ o → ExtendedView c o

abbrev AllRows : (ℕ → ℕ → Type 0) → List (ℕ × ℕ) → Type 0
AllRows P [] = Unit {0}
AllRows P (r ∷ rs) = P r.0 r.1 × AllRows P rs

by_row : (P : ℕ → ℕ → Type 0) (rows : List (ℕ × ℕ)) (n c : ℕ) → AllRows P rows → list_any (λ (r : ℕ × ℕ). (r.0 == n) && (r.1 == c)) rows ≡ true → P n c
by_row P [] n c all e = cc
by_row P (r ∷ rows) n c all e = by_tests (r.0 == n) (r.1 == c) (eqb_tells r.0 n) (eqb_tells r.1 c) e (λ rest. by_row P rows n c all.1 rest)
  where
    by_tests : (a b : Bool) → ((a ≡ true) × (r.0 ≡ n)) ⊎ ((a ≡ false) × (r.0 ≡ n → ⊥)) → ((b ≡ true) × (r.1 ≡ c)) ⊎ ((b ≡ false) × (r.1 ≡ c → ⊥)) → ((a && b) || list_any (λ (q : ℕ × ℕ). (q.0 == n) && (q.1 == c)) rows) ≡ true → (list_any (λ (q : ℕ × ℕ). (q.0 == n) && (q.1 == c)) rows ≡ true → P n c) → P n c
    by_tests a b (inl v) (inl w) e next = subst (λ x. P x c) v.1 (subst (P r.0) w.1 all.0)
    by_tests a true v (inr w) e next = cc
    by_tests a false (inl v) (inr w) e next = next (none_there a e)
      where
        none_there : (a : Bool) → ((a && false) || list_any (λ (q : ℕ × ℕ). (q.0 == n) && (q.1 == c)) rows) ≡ true → list_any (λ (q : ℕ × ℕ). (q.0 == n) && (q.1 == c)) rows ≡ true
        none_there true e = e
        none_there false e = e
    by_tests true b (inr v) w e next = cc
    by_tests false b (inr v) w e next = next e

extended_view : (n c : ℕ) (o : Operation) → operation_in extended_opcodes n ≡ Some o → is_extended n c ≡ true → ExtendedView c o
extended_view n c o e on = by_row (λ x y. (q : Operation) → operation_in extended_opcodes x ≡ Some q → ExtendedView y q) extended_rows n c (
  λ q at. of_unary refl SAbs (same_Some (op.Unary SAbs) q at),
  (
    λ q at. of_unary refl SSign (same_Some (op.Unary SSign) q at),
    (
      λ q at. of_binary refl UMin (same_Some (op.Binary UMin) q at),
      (
        λ q at. of_binary refl SMin (same_Some (op.Binary SMin) q at),
        (
          λ q at. of_binary refl UMax (same_Some (op.Binary UMax) q at),
          (
            λ q at. of_binary refl SMax (same_Some (op.Binary SMax) q at),
            (
              λ q at. of_clamp refl UClamp (same_Some (op.Clamp UClamp) q at),
              (
                λ q at. of_clamp refl SClamp (same_Some (op.Clamp SClamp) q at),
                (
                  λ q at. of_unary refl FindILsb (same_Some (op.Unary FindILsb) q at),
                  (
                    λ q at. of_unary refl FindSMsb (same_Some (op.Unary FindSMsb) q at),
                    (λ q at. of_unary refl FindUMsb (same_Some (op.Unary FindUMsb) q at), tt),
                  ),
                ),
              ),
            ),
          ),
        ),
      ),
    ),
  ),
) on o e

module _ (s : Setting) (entry : Option (List ℕ)) (right : IsConforming s.of entry) (f : Function) (in_it : Contains s.of.functions f) (i : Inst) (there : IsAmong i (insts_of f)) where
  -- what the rules say of the instruction, if it has this opcode
  pub record Facts (p : Op) : Type 0 where
    pub value : is_value_broken s.of (type_in s.of.globals f) i (group_of p) ≡ false
    pub number : is_number_broken s.of.globals (type_in s.of.globals f) i (group_of p) ≡ false
    pub least : (shape p).least ≤ 1 + count_of (has_type p) + count_of (has_result p) + length i.args
    pub most : 1 + count_of (has_type p) + count_of (has_result p) + length i.args ≤ (shape p).most
    pub has : (k : ℕ) → k < length i.args → is_id p i.args k ≡ true → is_there_in s.of f i.at (need p k) (slice_index i.args k) ≡ true

  -- an operand that is a value has a type
  pub typed_operand : (p : Op) → Facts p → (k : ℕ) → k < length i.args → is_id p i.args k ≡ true → need p k ≡ Value → HasType s entry right f in_it (slice_index i.args k)
  typed_operand p facts k less has needed = typed_value s entry right f in_it i.at (slice_index i.args k) (subst (λ q. is_there_in s.of f i.at q (slice_index i.args k) ≡ true) needed (facts.has k less has))

module _ (s : Setting) (entry : Option (List ℕ)) (right : IsConforming s.of entry) (f : Function) (in_it : Contains s.of.functions f) (i : Inst) (there : IsAmong i (insts_of f)) (t : Tree) (shaped : type_tree s.of.globals i.ty ≡ Some t) where
  abbrev Gs : List Inst
  Gs = s.of.globals

  abbrev V : ℕ → Option ℕ
  V = type_in s.of.globals f

  abbrev IsTypedId : ℕ → Type 0
  IsTypedId id = HasType s entry right f in_it id

  abbrev HaveTypes : List ℕ → Type 0
  HaveTypes ids = AreTyped s entry right f in_it ids

  -- the type of the result has values
  result_sized : IsSized t
  result_sized = value_sized s entry right f in_it i.result i.ty (own_type s entry right f in_it i there (shaped_some s entry right f in_it i.ty t shaped)) t shaped

  all_typed : (p : Op) → Facts s entry right f in_it i there p → ((k : ℕ) → is_id p i.args k ≡ true) → ((k : ℕ) → need p k ≡ Value) → HaveTypes i.args
  all_typed p facts ids needed k less = typed_operand s entry right f in_it i there p facts k less (ids k) (needed k)

  -- the operation takes the shapes of these ids
  abbrev IsGiven : List ℕ → List ℕ → Operation → Type 0
  IsGiven ids literals o = (us : List Tree) × HaveShapes s f ids us × Takes o t literals us

  -- shapes of a few ids
  have_one : (ids : List ℕ) (a : Tree) → length ids ≡ 1 → value_shape s f (slice_index ids 0) ≡ Some a → HaveShapes s f ids (a ∷ [])
  have_one [] a many x = absurd (omega (arith, many))
  have_one (id ∷ []) a many x = (x, tt)
  have_one (id ∷ more ∷ ids) a many x = absurd (omega (arith, many))

  have_two : (ids : List ℕ) (a b : Tree) → length ids ≡ 2 → value_shape s f (slice_index ids 0) ≡ Some a → value_shape s f (slice_index ids 1) ≡ Some b → HaveShapes s f ids (a ∷ b ∷ [])
  have_two [] a b many x y = absurd (omega (arith, many))
  have_two (id ∷ []) a b many x y = absurd (omega (arith, many))
  have_two (id ∷ id2 ∷ []) a b many x y = (x, (y, tt))
  have_two (id ∷ id2 ∷ more ∷ ids) a b many x y = absurd (omega (arith, many))

  have_three : (ids : List ℕ) (a b c : Tree) → length ids ≡ 3 → value_shape s f (slice_index ids 0) ≡ Some a → value_shape s f (slice_index ids 1) ≡ Some b → value_shape s f (slice_index ids 2) ≡ Some c → HaveShapes s f ids (a ∷ b ∷ c ∷ [])
  have_three [] a b c many x y z = absurd (omega (arith, many))
  have_three (id ∷ []) a b c many x y z = absurd (omega (arith, many))
  have_three (id ∷ id2 ∷ []) a b c many x y z = absurd (omega (arith, many))
  have_three (id ∷ id2 ∷ id3 ∷ []) a b c many x y z = (x, (y, (z, tt)))
  have_three (id ∷ id2 ∷ id3 ∷ more ∷ ids) a b c many x y z = absurd (omega (arith, many))

  -- T13, T18 to T20: numbers
  as_unary : (ids literals : List ℕ) (u : Unary) → are_unlike_ints Gs V i.ty ids ≡ false → HaveTypes ids → length ids ≡ 1 → IsGiven ids literals (op.Unary u)
  as_unary ids literals u off typed many =
      let w = number_shapes s entry right f in_it i.ty t ids shaped typed off in
      (w.0, w.1, numbers.unary_takes s f i.ty t literals ids w.0 shaped w.1 u off (w.2 ∙ many))

  as_binary : (ids literals : List ℕ) (b : Binary) → are_unlike_ints Gs V i.ty ids ≡ false → HaveTypes ids → length ids ≡ 2 → IsGiven ids literals (op.Binary b)
  as_binary ids literals b off typed many =
      let w = number_shapes s entry right f in_it i.ty t ids shaped typed off in
      (w.0, w.1, numbers.binary_takes s f i.ty t literals ids w.0 shaped w.1 b off (w.2 ∙ many))

  as_clamp : (ids literals : List ℕ) (k : Clamp) → are_unlike_ints Gs V i.ty ids ≡ false → HaveTypes ids → length ids ≡ 3 → IsGiven ids literals (op.Clamp k)
  as_clamp ids literals k off typed many =
      let w = number_shapes s entry right f in_it i.ty t ids shaped typed off in
      (w.0, w.1, numbers.clamp_takes s f i.ty t literals ids w.0 shaped w.1 k off (w.2 ∙ many))

  as_bitcast : are_unlike_ints Gs V i.ty i.args ≡ false → HaveTypes i.args → length i.args ≡ 1 → IsGiven i.args [] op.Copy
  as_bitcast off typed many =
      let w = number_shapes s entry right f in_it i.ty t i.args shaped typed off in
      (w.0, w.1, numbers.bitcast_takes s f i.ty t [] i.args w.0 shaped w.1 off (w.2 ∙ many))

  as_comparison : (o : Comparison) → breaks_t14 Gs V i ≡ false → HaveTypes i.args → length i.args ≡ 2 → IsGiven i.args [] (op.Comparison o)
  as_comparison o off typed many =
      let w = compared_shapes s entry right f in_it i.ty t i.args shaped typed off in
      (w.0, w.1, numbers.comparison_takes s f i t [] w.0 shaped w.1 o off (w.2 ∙ many))

  as_logical : (o : Logical) → breaks_t15 Gs V i ≡ false → HaveTypes i.args → length i.args ≡ 2 → IsGiven i.args [] (op.Logical o)
  as_logical o off typed many =
      let w = truth_shapes s entry right f in_it i.ty t i.args shaped typed off in
      (w.0, w.1, numbers.logical_takes s f i t [] w.0 shaped w.1 o off (w.2 ∙ many))

  as_not : breaks_t15 Gs V i ≡ false → HaveTypes i.args → length i.args ≡ 1 → IsGiven i.args [] op.LogicalNot
  as_not off typed many =
      let w = truth_shapes s entry right f in_it i.ty t i.args shaped typed off in
      (w.0, w.1, numbers.not_takes s f i t [] w.0 shaped w.1 off (w.2 ∙ many))

  -- of one number of components as the result, where the number of operands is 1
  as_bits : (u : Unary) → breaks_t18 1 Gs V i ≡ false → HaveTypes i.args → length i.args ≡ 1 → IsGiven i.args [] (op.Unary u)
  as_bits u off typed many =
      let first = or_left (are_unlike_ints Gs V i.ty (take 1 i.args)) (list_any (value_fails is_int Gs V) (drop 1 i.args)) off in
      as_unary i.args [] u (subst (λ ids. are_unlike_ints Gs V i.ty ids ≡ false) (take_all i.args many) first) typed many
    where
      take_all : (args : List ℕ) → length args ≡ 1 → take 1 args ≡ args
      take_all [] many = absurd (omega (arith, many))
      take_all (a ∷ []) many = refl
      take_all (a ∷ b ∷ args) many = absurd (omega (arith, many))

  one_typed : (x : ℕ) → IsTypedId x → HaveTypes (x ∷ [])
  one_typed x w zero less = w
  one_typed x w (suc k) less = absurd (omega (arith, less))

  two_typed : (x y : ℕ) → IsTypedId x → IsTypedId y → HaveTypes (x ∷ y ∷ [])
  two_typed x y v w zero less = v
  two_typed x y v w (suc zero) less = w
  two_typed x y v w (suc (suc k)) less = absurd (omega (arith, less))

  -- T18: fields
  ints_of_all : (ids : List ℕ) → HaveTypes ids → list_any (value_fails is_int Gs V) ids ≡ false → (k : ℕ) → k < length ids → HasItsShape s entry right f in_it (slice_index ids k) × (value_fails is_int Gs V (slice_index ids k) ≡ false)
  ints_of_all [] typed off k less = absurd (omega (arith, less))
  ints_of_all (id ∷ ids) typed off zero less =
      let own = or_left (value_fails is_int Gs V id) (list_any (value_fails is_int Gs V) ids) off in
      (passing s entry right f in_it is_int (λ g on. int_shaped g.op on) id (typed 0 less) own, own)
  ints_of_all (id ∷ ids) typed off (suc k) less =
      ints_of_all ids (λ n low. typed (suc n) (let more : suc n < suc (length ids) = omega (arith, low) in more)) (or_right (value_fails is_int Gs V id) (list_any (value_fails is_int Gs V) ids) off) k (let low : k < length ids = omega (arith, less) in low)

  field_of : (args : List ℕ) → length args ≡ 3 → HaveTypes args → (are_unlike_ints Gs V i.ty (take 1 args) || list_any (value_fails is_int Gs V) (drop 1 args)) ≡ false → (a b c : Tree) × HaveShapes s f args (a ∷ b ∷ c ∷ []) × IsField t a b c
  field_of (x ∷ y ∷ z ∷ []) many typed off =
      let first = or_left (are_unlike_ints Gs V i.ty (x ∷ [])) (list_any (value_fails is_int Gs V) (y ∷ z ∷ [])) off in
      let rest = or_right (are_unlike_ints Gs V i.ty (x ∷ [])) (list_any (value_fails is_int Gs V) (y ∷ z ∷ [])) off in
      let w = number_shapes s entry right f in_it i.ty t (x ∷ []) shaped (one_typed x (typed 0 (let less : 0 < 3 = omega arith in less))) first in
      let ints = ints_of_all (y ∷ z ∷ []) (λ k less. typed (suc k) (let more : suc k < 3 = omega (arith, less) in more)) rest in
      let b = ints 0 (let less : 0 < 2 = omega arith in less) in
      let c = ints 1 (let less : 1 < 2 = omega arith in less) in
      let a = one_shape x w.0 w.1 in
      (a.0, b.0.0, c.0.0, (a.1, (b.0.1, (c.0.1, tt))), numbers.field_takes s f i.ty x y z t a.0 b.0.0 c.0.0 first b.1 c.1 shaped a.1 b.0.1 c.0.1)
    where
      one_shape : (id : ℕ) (us : List Tree) → HaveShapes s f (id ∷ []) us → (a : Tree) × (value_shape s f id ≡ Some a)
      one_shape id [] have = absurd have
      one_shape id (a ∷ us) have = (a, have.0)
  field_of [] many typed off = absurd (omega (arith, many))
  field_of (x ∷ []) many typed off = absurd (omega (arith, many))
  field_of (x ∷ y ∷ []) many typed off = absurd (omega (arith, many))
  field_of (x ∷ y ∷ z ∷ q ∷ args) many typed off = absurd (omega (arith, many))

  as_insert : (args : List ℕ) → length args ≡ 4 → HaveTypes args → (are_unlike_ints Gs V i.ty (take 2 args) || list_any (value_fails is_int Gs V) (drop 2 args)) ≡ false → IsGiven args [] op.BitFieldInsert
  as_insert (x ∷ y ∷ z ∷ q ∷ []) many typed off =
      let first = or_left (are_unlike_ints Gs V i.ty (x ∷ y ∷ [])) (list_any (value_fails is_int Gs V) (z ∷ q ∷ [])) off in
      let rest = or_right (are_unlike_ints Gs V i.ty (x ∷ y ∷ [])) (list_any (value_fails is_int Gs V) (z ∷ q ∷ [])) off in
      let w = number_shapes s entry right f in_it i.ty t (x ∷ y ∷ []) shaped (two_typed x y (typed 0 (let less : 0 < 4 = omega arith in less)) (typed 1 (let less : 1 < 4 = omega arith in less))) first in
      let ints = ints_of_all (z ∷ q ∷ []) (λ k less. typed (suc (suc k)) (let more : suc (suc k) < 4 = omega (arith, less) in more)) rest in
      let c = ints 0 (let less : 0 < 2 = omega arith in less) in
      let d = ints 1 (let less : 1 < 2 = omega arith in less) in
      let ab = two_shapes x y w.0 w.1 in
      let have : HaveShapes s f (x ∷ y ∷ z ∷ q ∷ []) (ab.0 ∷ ab.1 ∷ c.0.0 ∷ d.0.0 ∷ []) = (ab.2, (ab.3, (c.0.1, (d.0.1, tt)))) in
      (ab.0 ∷ ab.1 ∷ c.0.0 ∷ d.0.0 ∷ [], have, numbers.insert_takes s f [] i.ty x y z q t ab.0 ab.1 c.0.0 d.0.0 first c.1 d.1 shaped have)
    where
      two_shapes : (id id2 : ℕ) (us : List Tree) → HaveShapes s f (id ∷ id2 ∷ []) us → (a b : Tree) × (value_shape s f id ≡ Some a) × (value_shape s f id2 ≡ Some b)
      two_shapes id id2 [] have = absurd have
      two_shapes id id2 (a ∷ []) have = absurd have.1
      two_shapes id id2 (a ∷ b ∷ us) have = (a, b, have.0, have.1.0)
  as_insert [] many typed off = absurd (omega (arith, many))
  as_insert (x ∷ []) many typed off = absurd (omega (arith, many))
  as_insert (x ∷ y ∷ []) many typed off = absurd (omega (arith, many))
  as_insert (x ∷ y ∷ z ∷ []) many typed off = absurd (omega (arith, many))
  as_insert (x ∷ y ∷ z ∷ q ∷ r ∷ args) many typed off = absurd (omega (arith, many))

  -- T16: a vector of truth values
  over_all : breaks_t16 Gs V i ≡ false → HaveTypes i.args → length i.args ≡ 1 → (u : Tree) × HaveShapes s f i.args (u ∷ []) × ((n : ℕ) × Has truths None t × Has truths (Some n) u)
  over_all off typed many =
      let result = or_left (fails is_bool Gs i.ty) (is_no_bool_vector Gs V (word i 0)) off in
      let operand = or_right (fails is_bool Gs i.ty) (is_no_bool_vector Gs V (word i 0)) off in
      let u = passing s entry right f in_it is_vector (λ g on. vector_shaped g.op on) (word i 0) (typed 0 (let less : 0 < length i.args = omega (arith, many) in less)) (or_left (value_fails is_vector Gs V (word i 0)) (option_map_or (λ n. n == 0) (bools_of Gs V (word i 0)) false) operand) in
      (u.0, have_one i.args u.0 many u.1, over_takes s f (word i 0) t u.0 i.ty result operand shaped u.1)

  -- T17
  as_select : breaks_t17 Gs V i ≡ false → HaveTypes i.args → length i.args ≡ 3 → IsGiven i.args [] op.Select
  as_select off typed many =
      let parts = four_off (fails (λ g. not (is_void g)) Gs i.ty) (is_other Gs V i.ty (word i 1)) (is_other Gs V i.ty (word i 2)) (option_map_or (is_no_condition Gs i.ty) (V (word i 0)) false) off in
      let c = typed 0 (let less : 0 < length i.args = omega (arith, many) in less) in
      let told : is_no_condition Gs i.ty c.0 ≡ false = ap (λ o. option_map_or (is_no_condition Gs i.ty) o false) (sym c.1) ∙ parts.3 in
      let u = condition_shape s entry right f in_it i.ty (word i 0) c told in
      let a = shaped_type s entry right f in_it i.ty (word i 1) t shaped (typed 1 (let less : 1 < length i.args = omega (arith, many) in less)) parts.1 in
      let b = shaped_type s entry right f in_it i.ty (word i 2) t shaped (typed 2 (let less : 2 < length i.args = omega (arith, many) in less)) parts.2 in
      (u.0 ∷ t ∷ t ∷ [], have_three i.args u.0 t t many u.1 a b, select_takes s f [] i.ty (word i 0) (word i 1) (word i 2) c.0 t u.0 t t c.1 told parts.1 parts.2 shaped u.1 a b)

  -- T3, T12: copies
  as_copy : breaks_t3_copy s.of.heads Gs V i ≡ false → HaveTypes i.args → length i.args ≡ 1 → IsGiven i.args [] op.Copy
  as_copy off typed many =
      let other = or_right (is_no_value_type s.of.heads Gs i.ty) (is_other Gs V i.ty (word i 0)) off in
      let a = shaped_type s entry right f in_it i.ty (word i 0) t shaped (typed 0 (let less : 0 < length i.args = omega (arith, many) in less)) other in
      (t ∷ [], have_one i.args t many a, copy_takes s f [] i.ty (word i 0) t t other shaped result_sized a)

  as_copied : breaks_t12 Gs V i ≡ false → HaveTypes i.args → length i.args ≡ 1 → IsGiven i.args [] op.Copy
  as_copied off typed many =
      let w = typed 0 (let less : 0 < length i.args = omega (arith, many) in less) in
      let on = not-false (do_match Gs w.0 i.ty) (ap (λ o. option_map_or (λ ty. not (do_match Gs ty i.ty)) o false) (sym w.1) ∙ off) in
      let a = copied_shape s entry right f in_it i.ty (word i 0) t shaped w on in
      let sized = value_sized s entry right f in_it (word i 0) w.0 w.1 a.0 (sym (ap (option_and_then (type_tree Gs)) w.1) ∙ a.1) in
      (a.0 ∷ [], have_one i.args a.0 many a.1, copied_takes s f [] i t a.0 off shaped a.1 result_sized sized)

  -- T8: a component by a computed index
  as_taken : breaks_t8_extract Gs V i ≡ false → HaveTypes i.args → length i.args ≡ 2 → IsGiven i.args [] op.VectorExtractDynamic
  as_taken off typed many =
      let parts = three_off (value_fails is_vector Gs V (word i 0)) (value_fails is_int Gs V (word i 1)) (option_map_or (differ Gs i.ty) (option_and_then (component Gs) (V (word i 0))) false) off in
      let a = passing s entry right f in_it is_vector (λ g on. vector_shaped g.op on) (word i 0) (typed 0 (let less : 0 < length i.args = omega (arith, many) in less)) parts.0 in
      let b = passing s entry right f in_it is_int (λ g on. int_shaped g.op on) (word i 1) (typed 1 (let less : 1 < length i.args = omega (arith, many) in less)) parts.1 in
      (a.0 ∷ b.0 ∷ [], have_two i.args a.0 b.0 many a.1 b.1, index_takes s f [] i.ty (word i 0) (word i 1) t a.0 b.0 parts.0 parts.1 parts.2 shaped a.1 b.1)

  as_put : breaks_t8_insert Gs V i ≡ false → HaveTypes i.args → length i.args ≡ 3 → IsGiven i.args [] op.VectorInsertDynamic
  as_put off typed many =
      let parts = five_off (fails is_vector Gs i.ty) (value_fails is_vector Gs V (word i 0)) (value_fails is_int Gs V (word i 2)) (is_other Gs V i.ty (word i 0)) (is_other_component Gs V i.ty (word i 1)) off in
      let a = shaped_type s entry right f in_it i.ty (word i 0) t shaped (typed 0 (let less : 0 < length i.args = omega (arith, many) in less)) parts.3 in
      let g = row s f i.ty t shaped in
      let on = passes s f is_vector i.ty g.0 g.1 parts.0 in
      let v = vector_parts Gs g.0 t on g.2 in
      let component_is : component Gs i.ty ≡ Some (word g.0 0) = ap (option_and_then component_if) g.1 ∙ ap (λ (b : Bool). if b then Some (word g.0 0) else None) on in
      let b = shaped_type s entry right f in_it (word g.0 0) (word i 1) v.0 (earlier_is s f g.0.at (word g.0 0) v.0 v.2) (typed 1 (let less : 1 < length i.args = omega (arith, many) in less)) (ap (λ o. option_map_or (λ c. is_other Gs V c (word i 1)) o false) (sym component_is) ∙ parts.4) in
      let c = passing s entry right f in_it is_int (λ g on. int_shaped g.op on) (word i 2) (typed 2 (let less : 2 < length i.args = omega (arith, many) in less)) parts.2 in
      (t ∷ v.0 ∷ c.0 ∷ [], have_three i.args t v.0 c.0 many a b c.1, put_takes s f [] i t t v.0 c.0 off shaped a b c.1)

  take_two : (args : List ℕ) (a b : Tree) → 2 ≤ length args → value_shape s f (slice_index args 0) ≡ Some a → value_shape s f (slice_index args 1) ≡ Some b → HaveShapes s f (take 2 args) (a ∷ b ∷ [])
  take_two [] a b many x y = absurd (omega (arith, many))
  take_two (id ∷ []) a b many x y = absurd (omega (arith, many))
  take_two (id ∷ id2 ∷ args) a b many x y = (x, (y, tt))

  take_one : (args : List ℕ) (a : Tree) → 1 ≤ length args → value_shape s f (slice_index args 0) ≡ Some a → HaveShapes s f (take 1 args) (a ∷ [])
  take_one [] a many x = absurd (omega (arith, many))
  take_one (id ∷ args) a many x = (x, tt)

  -- T9
  as_shuffle : breaks_t9 Gs V i ≡ false → IsTypedId (word i 0) → IsTypedId (word i 1) → 2 ≤ length i.args → IsGiven (take 2 i.args) (drop 2 i.args) op.VectorShuffle
  as_shuffle off first second many =
      let parts = five_off (fails is_vector Gs i.ty) (value_fails is_vector Gs V (word i 0)) (value_fails is_vector Gs V (word i 1)) (has_other_components Gs i.ty (V (word i 0)) (V (word i 1))) (has_other_sizes Gs i.ty (V (word i 0)) (V (word i 1)) (drop 2 i.args)) off in
      let a = passing s entry right f in_it is_vector (λ g on. vector_shaped g.op on) (word i 0) first parts.1 in
      let b = passing s entry right f in_it is_vector (λ g on. vector_shaped g.op on) (word i 1) second parts.2 in
      (a.0 ∷ b.0 ∷ [], take_two i.args a.0 b.0 many a.1 b.1, shuffle_takes s f i t a.0 b.0 off shaped a.1 b.1)

  -- T10
  as_made : breaks_t10 Gs V i ≡ false → HaveTypes i.args → IsGiven i.args [] op.CompositeConstruct
  as_made off typed =
      let w = made_shapes s entry right f in_it i t shaped result_sized typed off in
      (w.0, w.1, made_takes s f i t [] w.0 off shaped result_sized w.1)

  -- T11
  as_extract : breaks_t11_extract Gs V i ≡ false → IsTypedId (word i 0) → 1 ≤ length i.args → IsGiven (take 1 i.args) (drop 1 i.args) op.CompositeExtract
  as_extract off w many =
      let few = or_left (nat_le (length i.args) 1) (is_elsewhere Gs i.ty (part_of Gs (V (word i 0)) (drop 1 i.args))) off in
      let told = or_right (nat_le (length i.args) 1) (is_elsewhere Gs i.ty (part_of Gs (V (word i 0)) (drop 1 i.args))) off in
      let leads : is_elsewhere Gs i.ty (walk (literal_step Gs) (Part w.0) (drop 1 i.args)) ≡ false = ap (λ o. is_elsewhere Gs i.ty (walk (literal_step Gs) (option_map_or Part o Unknown) (drop 1 i.args))) (sym w.1) ∙ told in
      let a = by_literals (drop 1 i.args) (behind_one i.args few) (λ none. clash (ap (is_elsewhere Gs i.ty) (sym none) ∙ leads)) in
      let sized = value_sized s entry right f in_it (word i 0) w.0 w.1 a.0 (sym (ap (option_and_then (type_tree Gs)) w.1) ∙ a.1) in
      (a.0 ∷ [], take_one i.args a.0 many a.1, extract_takes s f i.ty (word i 0) (drop 1 i.args) t a.0 told shaped a.1 sized)
    where
      by_literals : (ks : List ℕ) → 1 ≤ length ks → (walk (literal_step Gs) (Part w.0) ks ≡ Nothing → ⊥) → HasItsShape s entry right f in_it (word i 0)
      by_literals [] some leads = absurd (omega (arith, some))
      by_literals (k ∷ ks) some leads = whole_shape s entry right f in_it (word i 0) k ks w leads

  as_inserted : breaks_t11_insert Gs V i ≡ false → IsTypedId (word i 0) → IsTypedId (word i 1) → 2 ≤ length i.args → IsGiven (take 2 i.args) (drop 2 i.args) op.CompositeInsert
  as_inserted off object w many =
      let parts = three_off (nat_le (length i.args) 2) (is_other Gs V i.ty (word i 1)) (is_value_elsewhere Gs V (word i 0) (part_of Gs (V (word i 1)) (drop 2 i.args))) off in
      let a = shaped_type s entry right f in_it i.ty (word i 1) t shaped w parts.1 in
      let own = same_type s entry right f in_it i.ty (word i 1) (row_of_shape s entry right f in_it i.ty t shaped) w parts.1 in
      let leads : is_value_elsewhere Gs V (word i 0) (walk (literal_step Gs) (Part i.ty) (drop 2 i.args)) ≡ false = ap (λ o. is_value_elsewhere Gs V (word i 0) (walk (literal_step Gs) (option_map_or Part o Unknown) (drop 2 i.args))) (sym own) ∙ parts.2 in
      let o : HasItsShape s entry right f in_it (word i 0) = elim (walk_leads s f (drop 2 i.args) i.ty t shaped result_sized) [
        | inl none ↦ clash (ap (is_value_elsewhere Gs V (word i 0)) (sym none) ∙ leads)
        | inr q ↦ (q.1, shaped_type s entry right f in_it q.0 (word i 0) q.1 q.3 object (ap (is_value_elsewhere Gs V (word i 0)) (sym q.2) ∙ leads))
      ] in
      (o.0 ∷ t ∷ [], take_two i.args o.0 t many o.1 a, insertion_takes s f i.ty (word i 0) (word i 1) (drop 2 i.args) t o.0 t parts.1 parts.2 shaped o.1 a result_sized)

  -- T20
  as_extended : (o : Operation) → operation_in extended_opcodes (slice_index (take 1 (drop 1 i.args)) 0) ≡ Some o → 2 ≤ length i.args → breaks_t20 Gs V i ≡ false → HaveTypes (drop 2 i.args) → IsGiven (drop 2 i.args) (take 1 (drop 1 i.args)) o
  as_extended o e many off typed =
      let on = not-false (is_extended (word i 1) (length (drop 2 i.args))) (or_left (not (is_extended (word i 1) (length (drop 2 i.args)))) (are_unlike_ints Gs V i.ty (drop 2 i.args)) off) in
      let told = or_right (not (is_extended (word i 1) (length (drop 2 i.args)))) (are_unlike_ints Gs V i.ty (drop 2 i.args)) off in
      by_view told (extended_view (word i 1) (length (drop 2 i.args)) o (ap (λ (ls : List ℕ). operation_in extended_opcodes (slice_index ls 0)) (sym (second_of i.args many)) ∙ e) on)
    where
      by_view : are_unlike_ints Gs V i.ty (drop 2 i.args) ≡ false → ExtendedView (length (drop 2 i.args)) o → IsGiven (drop 2 i.args) (take 1 (drop 1 i.args)) o
      by_view told (of_unary count u same) = subst (IsGiven (drop 2 i.args) (take 1 (drop 1 i.args))) same (as_unary (drop 2 i.args) (take 1 (drop 1 i.args)) u told typed count)
      by_view told (of_binary count b same) = subst (IsGiven (drop 2 i.args) (take 1 (drop 1 i.args))) same (as_binary (drop 2 i.args) (take 1 (drop 1 i.args)) b told typed count)
      by_view told (of_clamp count k same) = subst (IsGiven (drop 2 i.args) (take 1 (drop 1 i.args))) same (as_clamp (drop 2 i.args) (take 1 (drop 1 i.args)) k told typed count)

  dropped_typed : ((k : ℕ) → 2 ≤ k → k < length i.args → IsTypedId (slice_index i.args k)) → HaveTypes (drop 2 i.args)
  dropped_typed each k less = by_args i.args each less
    where
      by_args : (args : List ℕ) → ((n : ℕ) → 2 ≤ n → n < length args → IsTypedId (slice_index args n)) → k < length (drop 2 args) → IsTypedId (slice_index (drop 2 args) k)
      by_args [] each less = absurd (omega (arith, less))
      by_args (a ∷ []) each less = absurd (omega (arith, less))
      by_args (a ∷ b ∷ args) each less = each (suc (suc k)) (let low : 2 ≤ suc (suc k) = omega arith in low) (let more : suc (suc k) < suc (suc (length args)) = omega (arith, less) in more)

  -- what an operation with this opcode is given
  abbrev pub Given : Op → Operation → Type 0
  Given p o = IsGiven (value_operands p i.args) (literal_operands p i.args) o

  pub given_by : (p : Op) (o : Operation) → Facts s entry right f in_it i there p → operation_of p (literal_operands p i.args) ≡ Some o → Given p o
  unfolding group_of takes_of need is_id shape number operation operation_of
  given_by code.SNegate o facts e = subst (Given code.SNegate) (same_Some (op.Unary SNegate) o e) (as_unary i.args [] SNegate facts.number (all_typed code.SNegate facts (λ k. from_zero k) (λ k. refl)) (exactly 1 (length i.args) facts.least facts.most))
  given_by code.Not o facts e = subst (Given code.Not) (same_Some (op.Unary Not) o e) (as_unary i.args [] Not facts.number (all_typed code.Not facts (λ k. from_zero k) (λ k. refl)) (exactly 1 (length i.args) facts.least facts.most))
  given_by code.BitReverse o facts e = subst (Given code.BitReverse) (same_Some (op.Unary BitReverse) o e) (as_bits BitReverse facts.number (all_typed code.BitReverse facts (λ k. from_zero k) (λ k. refl)) (exactly 1 (length i.args) facts.least facts.most))
  given_by code.BitCount o facts e = subst (Given code.BitCount) (same_Some (op.Unary BitCount) o e) (as_bits BitCount facts.number (all_typed code.BitCount facts (λ k. from_zero k) (λ k. refl)) (exactly 1 (length i.args) facts.least facts.most))
  given_by code.IAdd o facts e = subst (Given code.IAdd) (same_Some (op.Binary IAdd) o e) (as_binary i.args [] IAdd facts.number (all_typed code.IAdd facts (λ k. from_zero k) (λ k. refl)) (exactly 2 (length i.args) facts.least facts.most))
  given_by code.ISub o facts e = subst (Given code.ISub) (same_Some (op.Binary ISub) o e) (as_binary i.args [] ISub facts.number (all_typed code.ISub facts (λ k. from_zero k) (λ k. refl)) (exactly 2 (length i.args) facts.least facts.most))
  given_by code.IMul o facts e = subst (Given code.IMul) (same_Some (op.Binary IMul) o e) (as_binary i.args [] IMul facts.number (all_typed code.IMul facts (λ k. from_zero k) (λ k. refl)) (exactly 2 (length i.args) facts.least facts.most))
  given_by code.UDiv o facts e = subst (Given code.UDiv) (same_Some (op.Binary UDiv) o e) (as_binary i.args [] UDiv facts.number (all_typed code.UDiv facts (λ k. from_zero k) (λ k. refl)) (exactly 2 (length i.args) facts.least facts.most))
  given_by code.SDiv o facts e = subst (Given code.SDiv) (same_Some (op.Binary SDiv) o e) (as_binary i.args [] SDiv facts.number (all_typed code.SDiv facts (λ k. from_zero k) (λ k. refl)) (exactly 2 (length i.args) facts.least facts.most))
  given_by code.UMod o facts e = subst (Given code.UMod) (same_Some (op.Binary UMod) o e) (as_binary i.args [] UMod facts.number (all_typed code.UMod facts (λ k. from_zero k) (λ k. refl)) (exactly 2 (length i.args) facts.least facts.most))
  given_by code.SRem o facts e = subst (Given code.SRem) (same_Some (op.Binary SRem) o e) (as_binary i.args [] SRem facts.number (all_typed code.SRem facts (λ k. from_zero k) (λ k. refl)) (exactly 2 (length i.args) facts.least facts.most))
  given_by code.SMod o facts e = subst (Given code.SMod) (same_Some (op.Binary SMod) o e) (as_binary i.args [] SMod facts.number (all_typed code.SMod facts (λ k. from_zero k) (λ k. refl)) (exactly 2 (length i.args) facts.least facts.most))
  given_by code.ShiftRightLogical o facts e = subst (Given code.ShiftRightLogical) (same_Some (op.Binary ShiftRightLogical) o e) (as_binary i.args [] ShiftRightLogical facts.number (all_typed code.ShiftRightLogical facts (λ k. from_zero k) (λ k. refl)) (exactly 2 (length i.args) facts.least facts.most))
  given_by code.ShiftRightArithmetic o facts e = subst (Given code.ShiftRightArithmetic) (same_Some (op.Binary ShiftRightArithmetic) o e) (as_binary i.args [] ShiftRightArithmetic facts.number (all_typed code.ShiftRightArithmetic facts (λ k. from_zero k) (λ k. refl)) (exactly 2 (length i.args) facts.least facts.most))
  given_by code.ShiftLeftLogical o facts e = subst (Given code.ShiftLeftLogical) (same_Some (op.Binary ShiftLeftLogical) o e) (as_binary i.args [] ShiftLeftLogical facts.number (all_typed code.ShiftLeftLogical facts (λ k. from_zero k) (λ k. refl)) (exactly 2 (length i.args) facts.least facts.most))
  given_by code.BitwiseOr o facts e = subst (Given code.BitwiseOr) (same_Some (op.Binary BitwiseOr) o e) (as_binary i.args [] BitwiseOr facts.number (all_typed code.BitwiseOr facts (λ k. from_zero k) (λ k. refl)) (exactly 2 (length i.args) facts.least facts.most))
  given_by code.BitwiseXor o facts e = subst (Given code.BitwiseXor) (same_Some (op.Binary BitwiseXor) o e) (as_binary i.args [] BitwiseXor facts.number (all_typed code.BitwiseXor facts (λ k. from_zero k) (λ k. refl)) (exactly 2 (length i.args) facts.least facts.most))
  given_by code.BitwiseAnd o facts e = subst (Given code.BitwiseAnd) (same_Some (op.Binary BitwiseAnd) o e) (as_binary i.args [] BitwiseAnd facts.number (all_typed code.BitwiseAnd facts (λ k. from_zero k) (λ k. refl)) (exactly 2 (length i.args) facts.least facts.most))
  given_by code.IEqual o facts e = subst (Given code.IEqual) (same_Some (op.Comparison IEqual) o e) (as_comparison IEqual facts.number (all_typed code.IEqual facts (λ k. from_zero k) (λ k. refl)) (exactly 2 (length i.args) facts.least facts.most))
  given_by code.INotEqual o facts e = subst (Given code.INotEqual) (same_Some (op.Comparison INotEqual) o e) (as_comparison INotEqual facts.number (all_typed code.INotEqual facts (λ k. from_zero k) (λ k. refl)) (exactly 2 (length i.args) facts.least facts.most))
  given_by code.UGreaterThan o facts e = subst (Given code.UGreaterThan) (same_Some (op.Comparison UGreaterThan) o e) (as_comparison UGreaterThan facts.number (all_typed code.UGreaterThan facts (λ k. from_zero k) (λ k. refl)) (exactly 2 (length i.args) facts.least facts.most))
  given_by code.SGreaterThan o facts e = subst (Given code.SGreaterThan) (same_Some (op.Comparison SGreaterThan) o e) (as_comparison SGreaterThan facts.number (all_typed code.SGreaterThan facts (λ k. from_zero k) (λ k. refl)) (exactly 2 (length i.args) facts.least facts.most))
  given_by code.UGreaterThanEqual o facts e = subst (Given code.UGreaterThanEqual) (same_Some (op.Comparison UGreaterThanEqual) o e) (as_comparison UGreaterThanEqual facts.number (all_typed code.UGreaterThanEqual facts (λ k. from_zero k) (λ k. refl)) (exactly 2 (length i.args) facts.least facts.most))
  given_by code.SGreaterThanEqual o facts e = subst (Given code.SGreaterThanEqual) (same_Some (op.Comparison SGreaterThanEqual) o e) (as_comparison SGreaterThanEqual facts.number (all_typed code.SGreaterThanEqual facts (λ k. from_zero k) (λ k. refl)) (exactly 2 (length i.args) facts.least facts.most))
  given_by code.ULessThan o facts e = subst (Given code.ULessThan) (same_Some (op.Comparison ULessThan) o e) (as_comparison ULessThan facts.number (all_typed code.ULessThan facts (λ k. from_zero k) (λ k. refl)) (exactly 2 (length i.args) facts.least facts.most))
  given_by code.SLessThan o facts e = subst (Given code.SLessThan) (same_Some (op.Comparison SLessThan) o e) (as_comparison SLessThan facts.number (all_typed code.SLessThan facts (λ k. from_zero k) (λ k. refl)) (exactly 2 (length i.args) facts.least facts.most))
  given_by code.ULessThanEqual o facts e = subst (Given code.ULessThanEqual) (same_Some (op.Comparison ULessThanEqual) o e) (as_comparison ULessThanEqual facts.number (all_typed code.ULessThanEqual facts (λ k. from_zero k) (λ k. refl)) (exactly 2 (length i.args) facts.least facts.most))
  given_by code.SLessThanEqual o facts e = subst (Given code.SLessThanEqual) (same_Some (op.Comparison SLessThanEqual) o e) (as_comparison SLessThanEqual facts.number (all_typed code.SLessThanEqual facts (λ k. from_zero k) (λ k. refl)) (exactly 2 (length i.args) facts.least facts.most))
  given_by code.LogicalEqual o facts e = subst (Given code.LogicalEqual) (same_Some (op.Logical LogicalEqual) o e) (as_logical LogicalEqual facts.number (all_typed code.LogicalEqual facts (λ k. from_zero k) (λ k. refl)) (exactly 2 (length i.args) facts.least facts.most))
  given_by code.LogicalNotEqual o facts e = subst (Given code.LogicalNotEqual) (same_Some (op.Logical LogicalNotEqual) o e) (as_logical LogicalNotEqual facts.number (all_typed code.LogicalNotEqual facts (λ k. from_zero k) (λ k. refl)) (exactly 2 (length i.args) facts.least facts.most))
  given_by code.LogicalOr o facts e = subst (Given code.LogicalOr) (same_Some (op.Logical LogicalOr) o e) (as_logical LogicalOr facts.number (all_typed code.LogicalOr facts (λ k. from_zero k) (λ k. refl)) (exactly 2 (length i.args) facts.least facts.most))
  given_by code.LogicalAnd o facts e = subst (Given code.LogicalAnd) (same_Some (op.Logical LogicalAnd) o e) (as_logical LogicalAnd facts.number (all_typed code.LogicalAnd facts (λ k. from_zero k) (λ k. refl)) (exactly 2 (length i.args) facts.least facts.most))
  given_by code.LogicalNot o facts e = subst (Given code.LogicalNot) (same_Some op.LogicalNot o e) (as_not facts.number (all_typed code.LogicalNot facts (λ k. from_zero k) (λ k. refl)) (exactly 1 (length i.args) facts.least facts.most))
  given_by code.Any o facts e = subst (Given code.Any) (same_Some op.Any o e) (let w = over_all facts.number (all_typed code.Any facts (λ k. from_zero k) (λ k. refl)) (exactly 1 (length i.args) facts.least facts.most) in (w.0 ∷ [], w.1, w.2))
  given_by code.All o facts e = subst (Given code.All) (same_Some op.All o e) (let w = over_all facts.number (all_typed code.All facts (λ k. from_zero k) (λ k. refl)) (exactly 1 (length i.args) facts.least facts.most) in (w.0 ∷ [], w.1, w.2))
  given_by code.Select o facts e = subst (Given code.Select) (same_Some op.Select o e) (as_select facts.number (all_typed code.Select facts (λ k. from_zero k) (λ k. refl)) (exactly 3 (length i.args) facts.least facts.most))
  given_by code.BitFieldInsert o facts e = subst (Given code.BitFieldInsert) (same_Some op.BitFieldInsert o e) (as_insert i.args (exactly 4 (length i.args) facts.least facts.most) (all_typed code.BitFieldInsert facts (λ k. from_zero k) (λ k. refl)) facts.number)
  given_by code.BitFieldSExtract o facts e = subst (Given code.BitFieldSExtract) (same_Some op.BitFieldSExtract o e) (let w = field_of i.args (exactly 3 (length i.args) facts.least facts.most) (all_typed code.BitFieldSExtract facts (λ k. from_zero k) (λ k. refl)) facts.number in (w.0 ∷ w.1 ∷ w.2 ∷ [], w.3, w.4))
  given_by code.BitFieldUExtract o facts e = subst (Given code.BitFieldUExtract) (same_Some op.BitFieldUExtract o e) (let w = field_of i.args (exactly 3 (length i.args) facts.least facts.most) (all_typed code.BitFieldUExtract facts (λ k. from_zero k) (λ k. refl)) facts.number in (w.0 ∷ w.1 ∷ w.2 ∷ [], w.3, w.4))
  given_by code.Bitcast o facts e = subst (Given code.Bitcast) (same_Some op.Copy o e) (as_bitcast facts.number (all_typed code.Bitcast facts (λ k. from_zero k) (λ k. refl)) (exactly 1 (length i.args) facts.least facts.most))
  given_by code.CopyObject o facts e = subst (Given code.CopyObject) (same_Some op.Copy o e) (as_copy facts.value (all_typed code.CopyObject facts (λ k. from_zero k) (λ k. refl)) (exactly 1 (length i.args) facts.least facts.most))
  given_by code.CopyLogical o facts e = subst (Given code.CopyLogical) (same_Some op.Copy o e) (as_copied facts.value (all_typed code.CopyLogical facts (λ k. from_zero k) (λ k. refl)) (exactly 1 (length i.args) facts.least facts.most))
  given_by code.VectorExtractDynamic o facts e = subst (Given code.VectorExtractDynamic) (same_Some op.VectorExtractDynamic o e) (as_taken facts.value (all_typed code.VectorExtractDynamic facts (λ k. from_zero k) (λ k. refl)) (exactly 2 (length i.args) facts.least facts.most))
  given_by code.VectorInsertDynamic o facts e = subst (Given code.VectorInsertDynamic) (same_Some op.VectorInsertDynamic o e) (as_put facts.value (all_typed code.VectorInsertDynamic facts (λ k. from_zero k) (λ k. refl)) (exactly 3 (length i.args) facts.least facts.most))
  given_by code.VectorShuffle o facts e = subst (Given code.VectorShuffle) (same_Some op.VectorShuffle o e) (as_shuffle facts.value (typed_operand s entry right f in_it i there code.VectorShuffle facts 0 (let many : 2 ≤ length i.args = at_least 2 (length i.args) facts.least in let less : 0 < length i.args = omega (arith, many) in less) refl refl) (typed_operand s entry right f in_it i there code.VectorShuffle facts 1 (let many : 2 ≤ length i.args = at_least 2 (length i.args) facts.least in let less : 1 < length i.args = omega (arith, many) in less) refl refl) (at_least 2 (length i.args) facts.least))
  given_by code.CompositeConstruct o facts e = subst (Given code.CompositeConstruct) (same_Some op.CompositeConstruct o e) (as_made facts.value (all_typed code.CompositeConstruct facts (λ k. from_zero k) (λ k. refl)))
  given_by code.CompositeExtract o facts e = subst (Given code.CompositeExtract) (same_Some op.CompositeExtract o e) (as_extract facts.value (typed_operand s entry right f in_it i there code.CompositeExtract facts 0 (let many : 1 ≤ length i.args = at_least 1 (length i.args) facts.least in let less : 0 < length i.args = omega (arith, many) in less) refl refl) (at_least 1 (length i.args) facts.least))
  given_by code.CompositeInsert o facts e = subst (Given code.CompositeInsert) (same_Some op.CompositeInsert o e) (as_inserted facts.value (typed_operand s entry right f in_it i there code.CompositeInsert facts 0 (let many : 2 ≤ length i.args = at_least 2 (length i.args) facts.least in let less : 0 < length i.args = omega (arith, many) in less) refl refl) (typed_operand s entry right f in_it i there code.CompositeInsert facts 1 (let many : 2 ≤ length i.args = at_least 2 (length i.args) facts.least in let less : 1 < length i.args = omega (arith, many) in less) refl refl) (at_least 2 (length i.args) facts.least))
  given_by code.Undef o facts e = subst (Given code.Undef) (same_Some op.Undef o e) (([], tt, result_sized))
  given_by code.ExtInst o facts e = as_extended o e (at_least 2 (length i.args) facts.least) facts.number (dropped_typed (λ k low less. typed_operand s entry right f in_it i there code.ExtInst facts k less (behind_second k low) (behind_first k low)))
  given_by p o facts e = cc
