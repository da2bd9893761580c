-- Operands have shapes where the rules ask what they are made of.
use Rattle.std.proofs.Common.{◌≡◌, ◌<◌, ◌==◌, ◌||◌, ◌&&◌, not, ℕ, suc, Bool, true, false, List, [], ◌∷◌, length, Option, Some, None, inl, inr, refl, sym, ap, subst, ◌∙◌, if◌then◌else◌, arith}
use Rattle.std.specs.Prelude.{◌⊎◌, nat_lt, is_some, option_map, option_and_then, sum_by, Contains, slice_index}
use Rattle.std.specs.Option.{option_map_or}
use Rattle.std.specs.List.{list_any, list_all, zip}
use Rattle.std.proofs.lemmas.Bool.Decides.{eqb_tells, nat_tests}
use Rattle.std.proofs.lemmas.Option.{same_Some}
use Rattle.spv_ops.specs.Opcode.{is, number}
use Rattle.spv_ops.specs.declared.Op.{Op}
use Rattle.spv_ops.specs.declared.Op.TheVariants as code
use Rattle.spv_module.specs.Held.{global}
use Rattle.spv_module.specs.declared.inst.Inst.{Inst}
use Rattle.spv_module.specs.declared.inst.Function.{Function}
use Rattle.spv_module.specs.declared.tree.Length.{Length}
use Rattle.spv_module.specs.declared.tree.Length.TheVariants.{Fixed, Spec}
use Rattle.spv_types.specs.declared.kind.TypeKind.TheVariants.{Array, Struct}
use Rattle.spv_types.specs.Tree.{Tree, array, struct, Trees}
use Rattle.spv_types.specs.Types.{is_shapeless, length_by, array_tree, all_trees, tree_before, tree_at, type_tree}
use Rattle.spv_types.specs.Leaves.{IsSized}
use Rattle.spv_decor.specs.Rows.{word}
use Rattle.profile_rules.specs.declared.needs.Reached.TheVariants.{Part, Nothing, Unknown}
use Rattle.profile_rules.specs.TypeRows.{is_type, is_bool, is_int, is_vector, is_void, is_runtime_array, type_row, fails, differ, is_other, count_in, bools, ints_of, bools_of, is_not, constant_word}
use Rattle.profile_rules.specs.ValueRules.{are_other_parts, are_other_members, one_of, nth_member, literal_part, literal_step, walk, given_by, given_of, given, given_or_zero, gives_none, is_other_count, is_misbuilt, breaks_t10, match_before, match_at, do_match, do_parts_match, is_same_length}
use Rattle.profile_rules.specs.NumberRules.{are_unlike_ints, is_no_condition, has_other_size}
use Rattle.module_semantics.specs.Setting.{Setting}
use Rattle.list_law.proofs.Numbers.{same_count}
use Rattle.list_law.proofs.Tests.{or_left, or_right, clash}
use Rattle.fits_law.specs.Takes.{numbers, truths}
use Rattle.fits_law.specs.State.{value_shape}
use Rattle.fits_law.specs.Typed.{HaveShapes}
use Rattle.fits_law.proofs.Steps.{named}
use Rattle.type_law.proofs.Rows.{int_has, bool_has, by_kind, vector_parts, is_a_type}
use Rattle.type_law.proofs.Scalars.{is_counted}
use Rattle.type_law.proofs.Parts.{array_kind, struct_kind, fixed_word, all_nth, row, earlier_is, nothing_on}
use Rattle.typed_law.specs.Conforms.{IsConforming}
use Rattle.typed_law.proofs.Types.{row_is}
use Rattle.typed_law.proofs.Values.{IsRow, T, HasType, HasItsShape, type_row_of, one_type, shape_of, same_type, counted, none_counted, vector_shaped, shapeless_no_vector, shapeless_no_int, shapeless_no_bool}

-- opcodes of types without a shape
shapeless_no_array : (o : Op) → is_shapeless o ≡ true → (is o code.TypeArray ≡ false) × (is o code.TypeRuntimeArray ≡ false) × (is o code.TypeStruct ≡ false)
unfolding number
shapeless_no_array code.TypeArray e = cc
shapeless_no_array code.TypeRuntimeArray e = cc
shapeless_no_array code.TypeStruct e = cc
shapeless_no_array o e = (refl, refl, refl)

array_shaped : (o : Op) → is o code.TypeArray ≡ true → is_shapeless o ≡ false
unfolding number
array_shaped code.TypeArray e = refl
array_shaped o e = cc

struct_shaped : (o : Op) → is o code.TypeStruct ≡ true → is_shapeless o ≡ false
unfolding number
struct_shaped code.TypeStruct e = refl
struct_shaped o e = cc

pub no_int : (g : Inst) → is_shapeless g.op ≡ true → is_int g ≡ false
no_int g e = shapeless_no_int g.op e

pub no_bool : (g : Inst) → is_shapeless g.op ≡ true → is_bool g ≡ false
no_bool g e = shapeless_no_bool g.op e

module _ (s : Setting) (entry : Option (List ℕ)) (right : IsConforming s.of entry) (f : Function) (in_it : Contains s.of.functions f) where
  abbrev Gs : List Inst
  Gs = s.of.globals

  abbrev V : ℕ → Option ℕ
  V = T s entry right f in_it

  abbrev IsTypedId : ℕ → Type 0
  IsTypedId id = HasType s entry right f in_it id

  -- each of these ids has a type
  abbrev pub AreTyped : List ℕ → Type 0
  AreTyped ids = (k : ℕ) → k < length ids → HasType s entry right f in_it (slice_index ids k)

  pub first_typed : (id : ℕ) (ids : List ℕ) → AreTyped (id ∷ ids) → HasType s entry right f in_it id
  first_typed id ids typed = typed 0 (let less : 0 < suc (length ids) = omega arith in less)

  pub later_typed : (id : ℕ) (ids : List ℕ) → AreTyped (id ∷ ids) → AreTyped ids
  later_typed id ids typed k less = typed (suc k) (let more : suc k < suc (length ids) = omega (arith, less) in more)

  -- each has a shape
  abbrev pub HaveTheirShapes : List ℕ → Type 0
  HaveTheirShapes ids = (us : List Tree) × HaveShapes s f ids us × (length us ≡ length ids)

  pub all_shapes : (ids : List ℕ) → ((k : ℕ) → k < length ids → HasItsShape s entry right f in_it (slice_index ids k)) → HaveTheirShapes ids
  all_shapes [] each = ([], tt, refl)
  all_shapes (id ∷ ids) each =
      let first = each 0 (let less : 0 < suc (length ids) = omega arith in less) in
      let rest = all_shapes ids (λ k less. each (suc k) (let more : suc k < suc (length ids) = omega (arith, less) in more)) in
      (first.0 ∷ rest.0, (first.1, rest.1), ap (λ n. suc n) rest.2)

  pub all_counted : (test : Inst → Bool) → ((g : Inst) → is_shapeless g.op ≡ true → test g ≡ false) → (n : ℕ) (ids : List ℕ) → AreTyped ids → (n == 0) ≡ false
      → list_any (λ id. is_not n (option_and_then (λ (ty : ℕ). option_and_then (count_in test Gs) (type_row Gs ty)) (V id))) ids ≡ false → HaveTheirShapes ids
  all_counted test none n [] typed some off = ([], tt, refl)
  all_counted test none n (id ∷ ids) typed some off =
      let first = counted s entry right f in_it test none n id (first_typed id ids typed) some (or_left (is_not n (option_and_then (λ (ty : ℕ). option_and_then (count_in test Gs) (type_row Gs ty)) (V id))) (list_any (λ x. is_not n (option_and_then (λ (ty : ℕ). option_and_then (count_in test Gs) (type_row Gs ty)) (V x))) ids) off) in
      let rest = all_counted test none n ids (later_typed id ids typed) some (or_right (is_not n (option_and_then (λ (ty : ℕ). option_and_then (count_in test Gs) (type_row Gs ty)) (V id))) (list_any (λ x. is_not n (option_and_then (λ (ty : ℕ). option_and_then (count_in test Gs) (type_row Gs ty)) (V x))) ids) off) in
      (first.0 ∷ rest.0, (first.1, rest.1), ap (λ n. suc n) rest.2)

  -- where what the result counts is counted of the operands
  pub number_shapes : (ty : ℕ) (t : Tree) (ids : List ℕ) → type_tree Gs ty ≡ Some t → AreTyped ids → are_unlike_ints Gs V ty ids ≡ false → HaveTheirShapes ids
  number_shapes ty t ids shape typed off =
      let count = is_counted is_int numbers int_has Gs ty t shape in
      let tests : ((count.0 == 0) || list_any (λ id. is_not count.0 (ints_of Gs V id)) ids) ≡ false = ap (λ o. option_map_or (λ n. (n == 0) || list_any (λ id. is_not n (ints_of Gs V id)) ids) o false) (sym count.1) ∙ off in
      all_counted is_int no_int count.0 ids typed (or_left (count.0 == 0) (list_any (λ id. is_not count.0 (ints_of Gs V id)) ids) tests) (or_right (count.0 == 0) (list_any (λ id. is_not count.0 (ints_of Gs V id)) ids) tests)

  pub compared_shapes : (ty : ℕ) (t : Tree) (ids : List ℕ) → type_tree Gs ty ≡ Some t → AreTyped ids → option_map_or (λ n. (n == 0) || list_any (λ id. is_not n (ints_of Gs V id)) ids) (bools Gs ty) false ≡ false → HaveTheirShapes ids
  compared_shapes ty t ids shape typed off =
      let count = is_counted is_bool truths bool_has Gs ty t shape in
      let tests : ((count.0 == 0) || list_any (λ id. is_not count.0 (ints_of Gs V id)) ids) ≡ false = ap (λ o. option_map_or (λ n. (n == 0) || list_any (λ id. is_not n (ints_of Gs V id)) ids) o false) (sym count.1) ∙ off in
      all_counted is_int no_int count.0 ids typed (or_left (count.0 == 0) (list_any (λ id. is_not count.0 (ints_of Gs V id)) ids) tests) (or_right (count.0 == 0) (list_any (λ id. is_not count.0 (ints_of Gs V id)) ids) tests)

  pub truth_shapes : (ty : ℕ) (t : Tree) (ids : List ℕ) → type_tree Gs ty ≡ Some t → AreTyped ids → option_map_or (λ n. (n == 0) || list_any (λ id. is_not n (bools_of Gs V id)) ids) (bools Gs ty) false ≡ false → HaveTheirShapes ids
  truth_shapes ty t ids shape typed off =
      let count = is_counted is_bool truths bool_has Gs ty t shape in
      let tests : ((count.0 == 0) || list_any (λ id. is_not count.0 (bools_of Gs V id)) ids) ≡ false = ap (λ o. option_map_or (λ n. (n == 0) || list_any (λ id. is_not n (bools_of Gs V id)) ids) o false) (sym count.1) ∙ off in
      all_counted is_bool no_bool count.0 ids typed (or_left (count.0 == 0) (list_any (λ id. is_not count.0 (bools_of Gs V id)) ids) tests) (or_right (count.0 == 0) (list_any (λ id. is_not count.0 (bools_of Gs V id)) ids) tests)

  -- a condition is made of truth values
  pub condition_shape : (ty id : ℕ) (w : HasType s entry right f in_it id) → is_no_condition Gs ty w.0 ≡ false → HasItsShape s entry right f in_it id
  condition_shape ty id w off =
      let g = type_row_of s entry right f in_it id w.0 w.1 in
      by_shape g.0 g.1 g.2 (is_shapeless g.0.op) refl (ap (λ o. option_map_or (λ n. (n == 0) || (fails is_bool Gs w.0 && has_other_size Gs ty n)) (option_and_then (count_in is_bool Gs) o) false) (sym (row_is s.of entry right w.0 g.0 g.1 g.2)) ∙ off)
    where
      by_shape : (g : Inst) → global Gs w.0 ≡ Some g → is_type g ≡ true → (b : Bool) → is_shapeless g.op ≡ b → option_map_or (λ n. (n == 0) || (fails is_bool Gs w.0 && has_other_size Gs ty n)) (count_in is_bool Gs g) false ≡ false → HasItsShape s entry right f in_it id
      by_shape g at typed false shaped off = shape_of s entry right f in_it id w g at typed shaped
      by_shape g at typed true shaped off = clash (ap (λ o. option_map_or (λ n. (n == 0) || (fails is_bool Gs w.0 && has_other_size Gs ty n)) o false) (sym (none_counted s entry right f in_it is_bool no_bool g shaped)) ∙ off)

  -- a type with a shape
  pub row_of_shape : (ty : ℕ) (t : Tree) → type_tree Gs ty ≡ Some t → IsRow s entry right ty
  row_of_shape ty t shape = by_global (global Gs ty) refl shape
    where
      by_global : (o : Option Inst) → global Gs ty ≡ o → option_map_or (tree_at Gs) o None ≡ Some t → IsRow s entry right ty
      by_global None at e = cc
      by_global (Some g) at e = (g, at, is_a_type Gs (tree_before Gs g.at) g t e)

  pub shaped_type : (ty id : ℕ) (t : Tree) → type_tree Gs ty ≡ Some t → HasType s entry right f in_it id → is_other Gs V ty id ≡ false → value_shape s f id ≡ Some t
  shaped_type ty id t shape w off = ap (option_and_then (type_tree Gs)) (same_type s entry right f in_it ty id (row_of_shape ty t shape) w off) ∙ shape

  -- parts of a composite that is made
  same_shapes : (ty : ℕ) (t : Tree) (ids : List ℕ) → type_tree Gs ty ≡ Some t → AreTyped ids → list_any (is_other Gs V ty) ids ≡ false → HaveTheirShapes ids
  same_shapes ty t [] shape typed off = ([], tt, refl)
  same_shapes ty t (id ∷ ids) shape typed off =
      let first = shaped_type ty id t shape (first_typed id ids typed) (or_left (is_other Gs V ty id) (list_any (is_other Gs V ty) ids) off) in
      let rest = same_shapes ty t ids shape (later_typed id ids typed) (or_right (is_other Gs V ty id) (list_any (is_other Gs V ty) ids) off) in
      (t ∷ rest.0, (first, rest.1), ap (λ n. suc n) rest.2)

  member_shapes : (tys ids : List ℕ) → ((k : ℕ) → k < length tys → (u : Tree) × (type_tree Gs (slice_index tys k) ≡ Some u)) → length ids ≡ length tys → AreTyped ids → list_any (λ (p : ℕ × ℕ). is_other Gs V p.0 p.1) (zip tys ids) ≡ false → HaveTheirShapes ids
  member_shapes tys [] each many typed off = ([], tt, refl)
  member_shapes [] (id ∷ ids) each many typed off = absurd (omega (arith, many))
  member_shapes (ty ∷ tys) (id ∷ ids) each many typed off =
      let t = each 0 (let less : 0 < suc (length tys) = omega arith in less) in
      let first = shaped_type ty id t.0 t.1 (first_typed id ids typed) (or_left (is_other Gs V ty id) (list_any (λ (p : ℕ × ℕ). is_other Gs V p.0 p.1) (zip tys ids)) off) in
      let rest = member_shapes tys ids (λ k less. each (suc k) (let more : suc k < suc (length tys) = omega (arith, less) in more)) (let same : length ids ≡ length tys = omega (arith, many) in same) (later_typed id ids typed) (or_right (is_other Gs V ty id) (list_any (λ (p : ℕ × ℕ). is_other Gs V p.0 p.1) (zip tys ids)) off) in
      (t.0 ∷ rest.0, (first, rest.1), ap (λ n. suc n) rest.2)

  -- what gives a component is one, or a vector
  giving_shape : (c : ℕ) (u : Tree) (id : ℕ) → type_tree Gs c ≡ Some u → HasType s entry right f in_it id → gives_none Gs V c id ≡ false → HasItsShape s entry right f in_it id
  giving_shape c u id shape w off =
      let g = type_row_of s entry right f in_it id w.0 w.1 in
      by_vector g.0 g.1 g.2 (is_vector g.0) refl (differ Gs c w.0) refl (ap (λ o. option_map_or (λ m. m == 0) (option_map (given_by Gs c w.0) o) false) (sym (row_is s.of entry right w.0 g.0 g.1 g.2)) ∙ (ap (λ o. option_map_or (λ m. m == 0) (option_and_then (given_of Gs c) o) false) (sym w.1) ∙ off))
    where
      by_vector : (g : Inst) → global Gs w.0 ≡ Some g → is_type g ≡ true → (v : Bool) → is_vector g ≡ v → (d : Bool) → differ Gs c w.0 ≡ d → ((if v then (if differ Gs c (word g 0) then 0 else word g 1) else (if d then 0 else 1)) == 0) ≡ false → HasItsShape s entry right f in_it id
      by_vector g at typed true on d different off = shape_of s entry right f in_it id w g at typed (vector_shaped g.op on)
      by_vector g at typed false on true different off = cc
      by_vector g at typed false on false different off =
          let same = one_type s entry right f in_it c w.0 (row_of_shape c u shape) (g, at, typed) different in
          (u, ap (option_and_then (type_tree Gs)) w.1 ∙ (ap (type_tree Gs) (sym same) ∙ shape))

  giving_shapes : (c : ℕ) (u : Tree) (ids : List ℕ) → type_tree Gs c ≡ Some u → AreTyped ids → list_any (gives_none Gs V c) ids ≡ false → HaveTheirShapes ids
  giving_shapes c u [] shape typed off = ([], tt, refl)
  giving_shapes c u (id ∷ ids) shape typed off =
      let first = giving_shape c u id shape (first_typed id ids typed) (or_left (gives_none Gs V c id) (list_any (gives_none Gs V c) ids) off) in
      let rest = giving_shapes c u ids shape (later_typed id ids typed) (or_right (gives_none Gs V c id) (list_any (gives_none Gs V c) ids) off) in
      (first.0 ∷ rest.0, (first.1, rest.1), ap (λ n. suc n) rest.2)

  array_shapes : (g : Inst) (t : Tree) (ids : List ℕ) → is g.op code.TypeArray ≡ true → tree_at Gs g ≡ Some t → IsSized t → AreTyped ids → option_map_or (λ n. are_other_parts Gs V n (word g 0) ids) (constant_word Gs (word g 1)) false ≡ false → HaveTheirShapes ids
  array_shapes g t ids on shape sized typed off = by_part (tree_before Gs g.at (word g 0)) refl (length_by (word g 1) (global Gs (word g 1))) refl (by_kind Gs (tree_before Gs g.at) g Array t (array_kind g.op on) shape)
    where
      by_length : (u : Tree) (l : Length) → type_tree Gs (word g 0) ≡ Some u → length_by (word g 1) (global Gs (word g 1)) ≡ Some l → t ≡ array u l → HaveTheirShapes ids
      by_length u (Fixed n) there is same =
          same_shapes (word g 0) u ids there typed (or_right (not (length ids == n)) (list_any (is_other Gs V (word g 0)) ids) (ap (λ o. option_map_or (λ n. are_other_parts Gs V n (word g 0) ids) o false) (sym (fixed_word Gs (word g 1) n is)) ∙ off))
      by_length u (Spec id) there is same = absurd (subst IsSized same sized)

      by_part : (o : Option Tree) → tree_before Gs g.at (word g 0) ≡ o → (l : Option Length) → length_by (word g 1) (global Gs (word g 1)) ≡ l → array_tree o l ≡ Some t → HaveTheirShapes ids
      by_part None there l is e = cc
      by_part (Some u) there None is e = cc
      by_part (Some u) there (Some l) is e = by_length u l (earlier_is s f g.at (word g 0) u there) is (sym (same_Some (array u l) t e))

  struct_shapes : (g : Inst) (t : Tree) (ids : List ℕ) → is g.op code.TypeStruct ≡ true → tree_at Gs g ≡ Some t → AreTyped ids → are_other_members Gs V g.args ids ≡ false → HaveTheirShapes ids
  struct_shapes g t ids on shape typed off = by_members (all_trees (tree_before Gs g.at) g.args) refl (by_kind Gs (tree_before Gs g.at) g Struct t (struct_kind g.op on) shape)
    where
      by_members : (o : Option Trees) → all_trees (tree_before Gs g.at) g.args ≡ o → option_map (struct g.result) o ≡ Some t → HaveTheirShapes ids
      by_members None is e = cc
      by_members (Some ts) is e =
          member_shapes g.args ids (λ k less. let w = all_nth (tree_before Gs g.at) g.args ts k is (let low : nat_lt k (length g.args) ≡ true = grind (arith, nat_tests, less) in low) in (w.0, earlier_is s f g.at (slice_index g.args k) w.0 w.1))
          (same_count (length ids) (length g.args) (or_left (not (length ids == length g.args)) (list_any (λ (p : ℕ × ℕ). is_other Gs V p.0 p.1) (zip g.args ids)) off)) typed
          (or_right (not (length ids == length g.args)) (list_any (λ (p : ℕ × ℕ). is_other Gs V p.0 p.1) (zip g.args ids)) off)

  pub made_shapes : (i : Inst) (t : Tree) → type_tree Gs i.ty ≡ Some t → IsSized t → AreTyped i.args → breaks_t10 Gs V i ≡ false → HaveTheirShapes i.args
  made_shapes i t shape sized typed off =
      let g = row s f i.ty t shape in
      by_opcode g.0 g.2 (is_vector g.0) refl (is g.0.op code.TypeArray) refl (is g.0.op code.TypeStruct) refl (ap (λ o. option_map_or (is_misbuilt Gs V i.args) o false) (sym g.1) ∙ off)
    where
      vector_shapes : (g : Inst) → tree_at Gs g ≡ Some t → is_vector g ≡ true → is_other_count Gs V (word g 1) (word g 0) i.args ≡ false → HaveTheirShapes i.args
      vector_shapes g at on off =
          let parts = vector_parts Gs g t on at in
          giving_shapes (word g 0) parts.0 i.args (earlier_is s f g.at (word g 0) parts.0 parts.2) typed (or_left (list_any (gives_none Gs V (word g 0)) i.args) (list_all (λ id. is_some (given Gs V (word g 0) id)) i.args && not (sum_by (given_or_zero Gs V (word g 0)) i.args == word g 1)) off)

      by_opcode : (g : Inst) → tree_at Gs g ≡ Some t → (v : Bool) → is_vector g ≡ v → (a : Bool) → is g.op code.TypeArray ≡ a → (q : Bool) → is g.op code.TypeStruct ≡ q
          → (if v then is_other_count Gs V (word g 1) (word g 0) i.args else (if v then are_other_parts Gs V (word g 1) (word g 0) i.args else (if a then option_map_or (λ n. are_other_parts Gs V n (word g 0) i.args) (constant_word Gs (word g 1)) false else (if q then are_other_members Gs V g.args i.args else true)))) ≡ false → HaveTheirShapes i.args
      by_opcode g at true on a an q aq off = vector_shapes g at on off
      by_opcode g at false on true an q aq off = array_shapes g t i.args an at sized typed off
      by_opcode g at false on false an true aq off = struct_shapes g t i.args aq at typed off
      by_opcode g at false on false an false aq off = cc

  -- what literals lead into is a composite
  pub whole_shape : (id k : ℕ) (ks : List ℕ) (w : HasType s entry right f in_it id) → (walk (literal_step Gs) (Part w.0) (k ∷ ks) ≡ Nothing → ⊥) → HasItsShape s entry right f in_it id
  whole_shape id k ks w leads =
      let g = type_row_of s entry right f in_it id w.0 w.1 in
      by_shape g.0 g.1 g.2 (is_shapeless g.0.op) refl
    where
      by_shape : (g : Inst) → global Gs w.0 ≡ Some g → is_type g ≡ true → (b : Bool) → is_shapeless g.op ≡ b → HasItsShape s entry right f in_it id
      by_shape g at typed false shaped = shape_of s entry right f in_it id w g at typed shaped
      by_shape g at typed true shaped =
          let none = shapeless_no_array g.op shaped in
          let part : literal_part Gs g k ≡ Nothing = no_part g (is_vector g) (is g.op code.TypeArray) (is_runtime_array g) (is g.op code.TypeStruct) (shapeless_no_vector g.op shaped) none.0 none.1 none.2 in
          let step : literal_step Gs w.0 k ≡ Nothing = ap (λ o. option_map_or (λ x. literal_part Gs x k) o Unknown) (row_is s.of entry right w.0 g at typed) ∙ part in
          absurd (leads (ap (λ r. walk (literal_step Gs) r ks) step ∙ nothing_on s f ks))
        where
          no_part : (g : Inst) (v a r q : Bool) → v ≡ false → a ≡ false → r ≡ false → q ≡ false → (if v then one_of (word g 1) g k else (if a then option_map_or (λ n. one_of n g k) (constant_word Gs (word g 1)) Unknown else (if r then Part (word g 0) else (if q then nth_member g k else Nothing)))) ≡ Nothing
          no_part g false false false false ev ea er eq = refl
          no_part g v a r q ev ea er eq = cc

  -- T12: what is copied part by part is of the result's type, or an array or a struct
  pub copied_shape : (ty id : ℕ) (t : Tree) → type_tree Gs ty ≡ Some t → (w : HasType s entry right f in_it id) → do_match Gs w.0 ty ≡ true → HasItsShape s entry right f in_it id
  copied_shape ty id t shape w on =
      let g = type_row_of s entry right f in_it id w.0 w.1 in
      let h = row_of_shape ty t shape in
      by_match g.0 h.0 g.1 g.2 (g.0.result == ty) (eqb_tells g.0.result ty) (ap (λ o. option_map_or (λ x. ((g.0.result == ty) && not (is_void g.0)) || do_parts_match Gs (match_before Gs g.0.at) g.0 x) o true) (sym (row_is s.of entry right ty h.0 h.1 h.2)) ∙ (ap (λ o. option_map_or (λ x. match_at Gs x ty) o true) (sym (row_is s.of entry right w.0 g.0 g.1 g.2)) ∙ on))
    where
      by_parts : (g h : Inst) → global Gs w.0 ≡ Some g → is_type g ≡ true → (a q : Bool) → is g.op code.TypeArray ≡ a → is g.op code.TypeStruct ≡ q
          → ((a && (is h.op code.TypeArray) && match_before Gs g.at (word g 0) (word h 0) && is_same_length Gs (word g 1) (word h 1))
          || (q && (is h.op code.TypeStruct) && (length g.args == length h.args) && list_all (λ (p : ℕ × ℕ). match_before Gs g.at p.0 p.1) (zip g.args h.args))) ≡ true → HasItsShape s entry right f in_it id
      by_parts g h at typed true q an aq e = shape_of s entry right f in_it id w g at typed (array_shaped g.op an)
      by_parts g h at typed false true an aq e = shape_of s entry right f in_it id w g at typed (struct_shaped g.op aq)
      by_parts g h at typed false false an aq e = cc

      by_match : (g h : Inst) → global Gs w.0 ≡ Some g → is_type g ≡ true → (b : Bool) → ((b ≡ true) × (g.result ≡ ty)) ⊎ ((b ≡ false) × (g.result ≡ ty → ⊥)) → ((b && not (is_void g)) || do_parts_match Gs (match_before Gs g.at) g h) ≡ true → HasItsShape s entry right f in_it id
      by_match g h at typed b (inl own) e = (t, ap (option_and_then (type_tree Gs)) w.1 ∙ (ap (type_tree Gs) (sym (named Gs w.0 g at) ∙ own.1) ∙ shape))
      by_match g h at typed true (inr own) e = cc
      by_match g h at typed false (inr own) e = by_parts g h at typed (is g.op code.TypeArray) (is g.op code.TypeStruct) refl refl e
