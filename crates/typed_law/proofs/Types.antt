-- In a conforming module each type has a shape, but void, pointers and functions.
use Rattle.std.proofs.Common.{◌≡◌, ◌<◌, ◌≤◌, ◌+◌, ◌==◌, ◌||◌, ◌&&◌, not, ℕ, zero, suc, Bool, true, false, List, [], ◌∷◌, length, take, Option, Some, None, inl, inr, refl, sym, ap, subst, ◌∙◌, if◌then◌else◌, arith}
use Rattle.std.specs.Prelude.{◌⊎◌, nat_le, option_map, option_and_then, slice_index}
use Rattle.std.specs.Option.{option_map_or}
use Rattle.std.specs.List.{list_any}
use Rattle.std.proofs.lemmas.Bool.Decides.{nat_tests}
use Rattle.std.proofs.lemmas.Bool.{not-false}
use Rattle.spv_ops.specs.Opcode.{is, number}
use Rattle.spv_ops.specs.Groups.{is_type as is_type_op, is_specialization}
use Rattle.spv_ops.specs.Operands.{is_id}
use Rattle.spv_ops.specs.OpGroups.{takes_of, group_of}
use Rattle.spv_ops.specs.Shape.{shape, count_of}
use Rattle.spv_ops.specs.declared.Op.{Op}
use Rattle.spv_ops.specs.declared.Op.TheVariants as code
use Rattle.spv_module.specs.State.{ModuleState}
use Rattle.spv_module.specs.Held.{global}
use Rattle.spv_module.specs.Types.{is_uint, is_sint}
use Rattle.spv_module.specs.Inst.{has_type, has_result}
use Rattle.spv_module.specs.declared.inst.Inst.{Inst}
use Rattle.spv_module.specs.declared.tree.Elem.{Elem}
use Rattle.spv_module.specs.declared.tree.Elem.TheVariants as elem
use Rattle.spv_module.specs.declared.tree.Length.{Length}
use Rattle.spv_types.specs.declared.kind.TypeKind.{TypeKind}
use Rattle.spv_types.specs.declared.kind.TypeKind.TheVariants.{Bool as BoolKind, Int, Vector, Array, Runtime, Struct}
use Rattle.spv_types.specs.Tree.{Tree, boolean, int, uint, vector, array, runtime, struct, Trees, no_trees, tree}
use Rattle.spv_types.specs.Types.{kind, is_shapeless, int_tree, elem_of, sized_vector, vector_tree, length_of, length_by, array_tree, both, all_trees, tree_by_kind, tree_before, tree_at, type_tree, earlier, ids_by_kind}
use Rattle.spv_types.proofs.Below.{tree_before_is}
use Rattle.spv_decor.specs.Rows.{word}
use Rattle.spv_index.specs.Pointers.{pointee, as_pointer}
use Rattle.profile_rules.specs.declared.needs.Need.TheVariants.{AnyType, Constant}
use Rattle.profile_rules.specs.Operands.{need, suits, is_there}
use Rattle.profile_rules.specs.TypeRows.{is_type, is_pointer, if_type, type_row}
use Rattle.profile_rules.specs.TypeForm.{parts_of, is_other_int, is_no_scalar, is_other_vector, is_length, is_other_array, is_empty_struct, is_no_data, is_other_pointer as is_other_pointer_type, is_other_function, is_above_zero, is_workgroup_length}
use Rattle.profile_rules.specs.Places.{is_defined_elsewhere}
use Rattle.list_law.proofs.Options.{some_by}
use Rattle.list_law.proofs.Numbers.{from_zero}
use Rattle.list_law.proofs.Tests.{or_left, or_right, and_off, and_left}
use Rattle.fits_law.specs.Takes.{Has, numbers, truths}
use Rattle.plan_law.specs.InOrder.{IsAmong}
use Rattle.type_law.proofs.Rows.{int_has, bool_has}
use Rattle.type_law.proofs.Vectors.{five_off}
use Rattle.typed_law.specs.Conforms.{size_of, IsConforming}
use Rattle.typed_law.proofs.Lists.{any_none, found_in, earlier_some}
use Rattle.typed_law.proofs.Rules.{operand_there, global_there, formed_type, pointed_type}
use Rattle.typed_law.proofs.Opcodes.{of_number}

-- the opcodes of types that have shapes, and what T1 asks of their operands
data ShapedOp (o : Op) : Type 0 where
  of_bool : kind o ≡ BoolKind → ShapedOp o
  of_int : kind o ≡ Int → is o code.TypeInt ≡ true → ShapedOp o
  of_vector : kind o ≡ Vector → is o code.TypeVector ≡ true → (3 ≤ (shape o).least) → ((args : List ℕ) → is_id o args 0 ≡ true) → need o 0 ≡ AnyType → ShapedOp o
  of_array : kind o ≡ Array → is o code.TypeArray ≡ true → ((args : List ℕ) (k : ℕ) → is_id o args k ≡ true) → need o 0 ≡ AnyType → need o 1 ≡ Constant → ShapedOp o
  of_runtime : kind o ≡ Runtime → ((args : List ℕ) (k : ℕ) → is_id o args k ≡ true) → need o 0 ≡ AnyType → ShapedOp o
  of_struct : kind o ≡ Struct → ((args : List ℕ) (k : ℕ) → is_id o args k ≡ true) → ((k : ℕ) → need o k ≡ AnyType) → ShapedOp o

shaped_op : (o : Op) → is_type_op o ≡ true → is_shapeless o ≡ false → ShapedOp o
unfolding kind number is_id need takes_of group_of shape
shaped_op code.TypeBool a b = of_bool refl
shaped_op code.TypeInt a b = of_int refl refl
shaped_op code.TypeVector a b = of_vector refl refl (omega arith) (λ args. refl) refl
shaped_op code.TypeArray a b = of_array refl refl (λ args k. from_zero k) refl refl
shaped_op code.TypeRuntimeArray a b = of_runtime refl (λ args k. from_zero k) refl
shaped_op code.TypeStruct a b = of_struct refl (λ args k. from_zero k) (λ k. refl)
shaped_op o a b = cc

-- how many operands an array, a runtime array and a pointer have
operands_least : (o : Op) (n : ℕ) → (kind o ≡ Array) ⊎ (is o code.TypePointer ≡ true) → (shape o).least ≤ 1 + count_of (has_type o) + count_of (has_result o) + n → 2 ≤ n
unfolding kind number shape
operands_least code.TypeArray n is_it le = omega (arith, le)
operands_least code.TypePointer n is_it le = omega (arith, le)
operands_least o n (inl e) le = cc
operands_least o n (inr e) le = cc

runtime_least : (o : Op) (n : ℕ) → kind o ≡ Runtime → (shape o).least ≤ 1 + count_of (has_type o) + count_of (has_result o) + n → 1 ≤ n
unfolding kind shape
runtime_least code.TypeRuntimeArray n is_it le = omega (arith, le)
runtime_least o n e le = cc

vector_least : (o : Op) (n : ℕ) → kind o ≡ Vector → (shape o).least ≤ 1 + count_of (has_type o) + count_of (has_result o) + n → 2 ≤ n
unfolding kind shape
vector_least code.TypeVector n is_it le = omega (arith, le)
vector_least o n e le = cc

-- a pointer's second operand is a type
pub pointer_id : (o : Op) (args : List ℕ) → is o code.TypePointer ≡ true → is_id o args 1 ≡ true
unfolding number is_id
pointer_id o args = of_number code.TypePointer (λ (p : Op). is_id p args 1 ≡ true) refl o

pointer_need : (o : Op) → is o code.TypePointer ≡ true → need o 1 ≡ AnyType
unfolding number need takes_of group_of
pointer_need = of_number code.TypePointer (λ (p : Op). need p 1 ≡ AnyType) refl

-- opcodes of lengths
constant_length : (o : Op) (id w : ℕ) → (is o code.Constant ≡ true) ⊎ (is_specialization o ≡ true) → (l : Length) × (length_of o id w ≡ Some l)
unfolding number
constant_length code.Constant id w e = (_, refl)
constant_length code.SpecConstantTrue id w e = (_, refl)
constant_length code.SpecConstantFalse id w e = (_, refl)
constant_length code.SpecConstant id w e = (_, refl)
constant_length code.SpecConstantComposite id w e = (_, refl)
constant_length code.SpecConstantOp id w e = (_, refl)
constant_length o id w (inl e) = cc
constant_length o id w (inr e) = cc

-- types without a shape
no_shape : (o : Op) → ((is o code.TypeVoid) || (is o code.TypePointer) || (is o code.TypeFunction)) ≡ false → is_shapeless o ≡ false
unfolding number
no_shape code.TypeVoid e = cc
no_shape code.TypePointer e = cc
no_shape code.TypeFunction e = cc
no_shape o e = refl

scalar_shaped : (o : Op) → ((is o code.TypeBool) || (is o code.TypeInt)) ≡ true → is_shapeless o ≡ false
unfolding number
scalar_shaped code.TypeBool e = refl
scalar_shaped code.TypeInt e = refl
scalar_shaped o e = cc

-- the words of a type of integers without a sign, or with one
int_words : (on wide : Bool) (s : ℕ) → ((on && wide && (s == 0)) || (on && wide && (s == 1))) ≡ true → (wide && nat_le s 1) ≡ true
int_words false wide s h = cc
int_words true false s h = cc
int_words true true s h = by_sign (s == 0) refl h
  where
    by_sign : (plain : Bool) → (s == 0) ≡ plain → (plain || (s == 1)) ≡ true → nat_le s 1 ≡ true
    by_sign true at some = grind (arith, nat_tests, at)
    by_sign false at some = grind (arith, nat_tests, some)

int_shape : (w s : ℕ) → ((w == 32) && nat_le s 1) ≡ true → (t : Tree) × (int_tree w s ≡ Some t)
int_shape w s e = by_width (w == 32) refl e
  where
    by_sign : (a b : Bool) → (s == 0) ≡ a → (s == 1) ≡ b → nat_le s 1 ≡ true → (t : Tree) × ((if a then Some uint else (if b then Some int else None)) ≡ Some t)
    by_sign true b at at_one le = (uint, refl)
    by_sign false true at at_one le = (int, refl)
    by_sign false false at at_one le = absurd (grind (arith, nat_tests, at, at_one, le))

    by_width : (a : Bool) → (w == 32) ≡ a → (a && nat_le s 1) ≡ true → (t : Tree) × ((if a then (if s == 0 then Some uint else (if s == 1 then Some int else None)) else None) ≡ Some t)
    by_width true at e = by_sign (s == 0) (s == 1) refl refl e
    by_width false at e = cc

number_elem : (u : Tree) → Has numbers None u → (e : Elem) × (elem_of u ≡ Some e)
number_elem int h = (elem.Int, refl)
number_elem uint h = (elem.Uint, refl)
number_elem boolean h = absurd h
number_elem (vector e n) h = absurd h
number_elem (array t l) h = absurd h
number_elem (runtime t) h = absurd h
number_elem (struct id ts) h = absurd h

truth_elem : (u : Tree) → Has truths None u → (e : Elem) × (elem_of u ≡ Some e)
truth_elem boolean h = (elem.Bool, refl)
truth_elem int h = absurd h
truth_elem uint h = absurd h
truth_elem (vector e n) h = absurd h
truth_elem (array t l) h = absurd h
truth_elem (runtime t) h = absurd h
truth_elem (struct id ts) h = absurd h

vector_shape : (u : Tree) (e : Elem) (n : ℕ) → elem_of u ≡ Some e → (nat_le 2 n && nat_le n 4) ≡ true → (t : Tree) × (vector_tree (Some u) n ≡ Some t)
vector_shape u e n is size =
    (vector e n, ap (λ o. option_map_or (sized_vector n) o None) is ∙ ap (λ (b : Bool). if b then Some (vector e n) else None) size)

-- all members have shapes
all_shaped : (f : ℕ → Option Tree) (ids : List ℕ) → ((k : ℕ) → k < length ids → (u : Tree) × (f (slice_index ids k) ≡ Some u)) → (ts : Trees) × (all_trees f ids ≡ Some ts)
all_shaped f [] each = (no_trees, refl)
all_shaped f (id ∷ ids) each =
    let first = each 0 (let less : 0 < suc (length ids) = omega arith in less) in
    let rest = all_shaped f ids (λ k less. each (suc k) (let more : suc k < suc (length ids) = omega (arith, less) in more)) in
    (tree first.0 rest.0, ap (λ o. both o (all_trees f ids)) first.1 ∙ ap (both (Some first.0)) rest.1)

module _ (m : ModuleState) (entry : Option (List ℕ)) (right : IsConforming m entry) where
  abbrev Gs : List Inst
  Gs = m.globals

  -- a type that stands before
  pub type_before : (n id : ℕ) → is_there Gs n AnyType id ≡ true → (h : Inst) × (earlier Gs n id ≡ Some h) × (is_type h ≡ true)
  type_before n id e = some_by (suits AnyType) (earlier Gs n id) e

  pub row_is : (id : ℕ) (h : Inst) → global Gs id ≡ Some h → is_type h ≡ true → type_row Gs id ≡ Some h
  row_is id h e on = ap (option_and_then if_type) e ∙ ap (λ (b : Bool). if b then Some h else None) on

  shaped_by : (id : ℕ) (h : Inst) → global Gs id ≡ Some h → is_no_data Gs id ≡ false → is_shapeless h.op ≡ false
  shaped_by id h e data_is = no_shape h.op (ap (λ o. option_map_or (λ (t : Inst). (is t.op code.TypeVoid) || (is t.op code.TypePointer) || (is t.op code.TypeFunction)) o false) (sym e) ∙ data_is)

  -- what P18 says of a type
  pub of_form : (g : Inst) → IsAmong g Gs → (is_other_int g ≡ false) × (is_other_vector m g ≡ false) × (is_other_array m g ≡ false) × (is_empty_struct g ≡ false) × (list_any (is_no_data Gs) (parts_of g) ≡ false)
  of_form g there = five_off (is_other_int g) (is_other_vector m g) (is_other_array m g) (is_empty_struct g) (list_any (is_no_data Gs) (parts_of g)) (formed_type m entry right g there)

  -- a type has a shape, where those before it have
  module _ (g : Inst) (there : IsAmong g Gs) (known : (h : Inst) → IsAmong h Gs → h.at < g.at → is_type h ≡ true → is_shapeless h.op ≡ false → (t : Tree) × (tree_at Gs h ≡ Some t)) where
    part_of : (id : ℕ) (h : Inst) → earlier Gs g.at id ≡ Some h → is_type h ≡ true → is_shapeless h.op ≡ false → (u : Tree) × (tree_before Gs g.at id ≡ Some u) × (tree_at Gs h ≡ Some u)
    part_of id h e on data_is =
        let w = earlier_some Gs g.at id h e in
        let u = known h (found_in Gs id h w.0) w.1 on data_is in
        (u.0, tree_before_is Gs g.at id ∙ ap (λ o. option_map_or (tree_at Gs) o None) e ∙ u.1, u.1)

    operand : (k : ℕ) → k < length g.args → is_id g.op g.args k ≡ true → is_there Gs g.at (need g.op k) (slice_index g.args k) ≡ true
    operand k inside has = operand_there (is_there Gs g.at) g (global_there m entry right g there) k inside has

    part : (k : ℕ) → k < length g.args → is_id g.op g.args k ≡ true → need g.op k ≡ AnyType → is_no_data Gs (slice_index g.args k) ≡ false → (u : Tree) × (tree_before Gs g.at (slice_index g.args k) ≡ Some u)
    part k inside has needed data_is =
        let h = type_before g.at (slice_index g.args k) (subst (λ q. is_there Gs g.at q (slice_index g.args k) ≡ true) needed (operand k inside has)) in
        let w = earlier_some Gs g.at (slice_index g.args k) h.0 h.1 in
        let u = part_of (slice_index g.args k) h.0 h.1 h.2 (shaped_by (slice_index g.args k) h.0 w.0 data_is) in
        (u.0, u.1)

    least : (shape g.op).least ≤ size_of g
    least = (right.formed g there).least

    first_part : (kind g.op ≡ Array) ⊎ (kind g.op ≡ Runtime) → 0 < length g.args → is_no_data Gs (slice_index g.args 0) ≡ false
    first_part of_kind inside = by_args g.args inside (by_part of_kind)
      where
        by_part : (kind g.op ≡ Array) ⊎ (kind g.op ≡ Runtime) → list_any (is_no_data Gs) (take 1 g.args) ≡ false
        by_part (inl e) = ap (λ k. list_any (is_no_data Gs) (option_map_or (λ ids. ids) (ids_by_kind k g.args) [])) (sym e) ∙ (of_form g there).4
        by_part (inr e) = ap (λ k. list_any (is_no_data Gs) (option_map_or (λ ids. ids) (ids_by_kind k g.args) [])) (sym e) ∙ (of_form g there).4

        by_args : (args : List ℕ) → 0 < length args → list_any (is_no_data Gs) (take 1 args) ≡ false → is_no_data Gs (slice_index args 0) ≡ false
        by_args [] inside e = absurd (omega (arith, inside))
        by_args (a ∷ args) inside e = or_left (is_no_data Gs a) false e

    by_kind : (k : TypeKind) → kind g.op ≡ k → (t : Tree) × (tree_by_kind Gs (tree_before Gs g.at) g k ≡ Some t) → (t : Tree) × (tree_at Gs g ≡ Some t)
    by_kind k e w = (w.0, ap (tree_by_kind Gs (tree_before Gs g.at) g) e ∙ w.1)

    vector_of : is g.op code.TypeVector ≡ true → ((args : List ℕ) → is_id g.op args 0 ≡ true) → need g.op 0 ≡ AnyType → 2 ≤ length g.args → (t : Tree) × (tree_by_kind Gs (tree_before Gs g.at) g Vector ≡ Some t)
    vector_of on ids needed many =
        let tests = and_off (is g.op code.TypeVector) (not (nat_le 2 (word g 1) && nat_le (word g 1) 4) || is_no_scalar m (word g 0)) (of_form g there).1 on in
        let size = not-false (nat_le 2 (word g 1) && nat_le (word g 1) 4) (or_left (not (nat_le 2 (word g 1) && nat_le (word g 1) 4)) (is_no_scalar m (word g 0)) tests) in
        let scalar = or_right (not (nat_le 2 (word g 1) && nat_le (word g 1) 4)) (is_no_scalar m (word g 0)) tests in
        let h = type_before g.at (word g 0) (subst (λ q. is_there Gs g.at q (word g 0) ≡ true) needed (operand 0 (let inside : 0 < length g.args = omega (arith, many) in inside) (ids g.args))) in
        let w = earlier_some Gs g.at (word g 0) h.0 h.1 in
        let on_h : ((is h.0.op code.TypeBool) || (is h.0.op code.TypeInt)) ≡ true =
        not-false ((is h.0.op code.TypeBool) || (is h.0.op code.TypeInt)) (ap (λ o. option_map_or (λ (t : Inst). not ((is t.op code.TypeBool) || (is t.op code.TypeInt))) o (is_defined_elsewhere m (word g 0))) (sym w.0) ∙ scalar) in
        let u = part_of (word g 0) h.0 h.1 h.2 (scalar_shaped h.0.op on_h) in
        let e = by_scalar h.0 u.0 (is h.0.op code.TypeBool) refl on_h u.2 in
        let t = vector_shape u.0 e.0 (word g 1) e.1 size in
        (t.0, ap (λ o. vector_tree o (word g 1)) u.1 ∙ t.1)
      where
        by_scalar : (h : Inst) (u : Tree) (b : Bool) → is h.op code.TypeBool ≡ b → (b || (is h.op code.TypeInt)) ≡ true → tree_at Gs h ≡ Some u → (e : Elem) × (elem_of u ≡ Some e)
        by_scalar h u true at on shape_is = truth_elem u (bool_has Gs (tree_before Gs h.at) h u at shape_is)
        by_scalar h u false at on shape_is = number_elem u (int_has Gs (tree_before Gs h.at) h u on shape_is)

    array_of : kind g.op ≡ Array → is g.op code.TypeArray ≡ true → ((args : List ℕ) (k : ℕ) → is_id g.op args k ≡ true) → need g.op 0 ≡ AnyType → need g.op 1 ≡ Constant → 2 ≤ length g.args → (t : Tree) × (tree_by_kind Gs (tree_before Gs g.at) g Array ≡ Some t)
    array_of of_kind on ids needed constant many =
        let inside : 0 < length g.args = omega (arith, many) in
        let behind : 1 < length g.args = omega (arith, many) in
        let u = part 0 inside (ids g.args 0) needed (first_part (inl of_kind) inside) in
        let c = some_by (suits Constant) (earlier Gs g.at (word g 1)) (subst (λ q. is_there Gs g.at q (word g 1) ≡ true) constant (operand 1 behind (ids g.args 1))) in
        let w = earlier_some Gs g.at (word g 1) c.0 c.1 in
        let length_is : is_length m g.result c.0 ≡ true =
        not-false (is_length m g.result c.0) (ap (λ o. option_map_or (λ (x : Inst). not (is_length m g.result x)) o (is_defined_elsewhere m (word g 1))) (sym w.0) ∙ and_off (is g.op code.TypeArray) (option_map_or (λ (x : Inst). not (is_length m g.result x)) (global Gs (word g 1)) (is_defined_elsewhere m (word g 1))) (of_form g there).2 on) in
        let l = constant_length c.0.op (word g 1) (slice_index c.0.args 0) (by_constant c.0 (is c.0.op code.Constant) refl length_is) in
        (array u.0 l.0, ap (λ o. array_tree o (length_by (word g 1) (global Gs (word g 1)))) u.1 ∙ ap (λ o. array_tree (Some u.0) (length_by (word g 1) o)) w.0 ∙ ap (array_tree (Some u.0)) l.1)
      where
        by_constant : (c : Inst) (b : Bool) → is c.op code.Constant ≡ b → (if b then is_above_zero Gs c else (is_specialization c.op && is_workgroup_length m c g.result)) ≡ true → (is c.op code.Constant ≡ true) ⊎ (is_specialization c.op ≡ true)
        by_constant c true at e = inl at
        by_constant c false at e = inr (and_left (is_specialization c.op) (is_workgroup_length m c g.result) e)

    runtime_of : kind g.op ≡ Runtime → ((args : List ℕ) (k : ℕ) → is_id g.op args k ≡ true) → need g.op 0 ≡ AnyType → 1 ≤ length g.args → (t : Tree) × (tree_by_kind Gs (tree_before Gs g.at) g Runtime ≡ Some t)
    runtime_of of_kind ids needed many =
        let inside : 0 < length g.args = omega (arith, many) in
        let u = part 0 inside (ids g.args 0) needed (first_part (inr of_kind) inside) in
        (runtime u.0, ap (option_map runtime) u.1)

    struct_of : kind g.op ≡ Struct → ((args : List ℕ) (k : ℕ) → is_id g.op args k ≡ true) → ((k : ℕ) → need g.op k ≡ AnyType) → (t : Tree) × (tree_by_kind Gs (tree_before Gs g.at) g Struct ≡ Some t)
    struct_of of_kind ids needed =
        let none : list_any (is_no_data Gs) g.args ≡ false = ap (λ k. list_any (is_no_data Gs) (option_map_or (λ ids. ids) (ids_by_kind k g.args) [])) (sym of_kind) ∙ (of_form g there).4 in
        let ts = all_shaped (tree_before Gs g.at) g.args (λ k inside. part k inside (ids g.args k) (needed k) (any_none (is_no_data Gs) g.args (slice_index g.args k) k 0 none inside refl)) in
        (struct g.result ts.0, ap (option_map (struct g.result)) ts.1)

    by_op : ShapedOp g.op → (t : Tree) × (tree_at Gs g ≡ Some t)
    by_op (of_bool k) = by_kind BoolKind k (boolean, refl)
    by_op (of_int k on) = by_kind Int k (int_shape (word g 0) (word g 1) (int_words (is g.op code.TypeInt) (word g 0 == 32) (word g 1) (not-false (is_uint g || is_sint g) (and_off (is g.op code.TypeInt) (not (is_uint g || is_sint g)) (of_form g there).0 on))))
    by_op (of_vector k on three ids needed) = by_kind Vector k (vector_of on ids needed (vector_least g.op (length g.args) k least))
    by_op (of_array k on ids needed constant) = by_kind Array k (array_of k on ids needed constant (operands_least g.op (length g.args) (inl k) least))
    by_op (of_runtime k ids needed) = by_kind Runtime k (runtime_of k ids needed (runtime_least g.op (length g.args) k least))
    by_op (of_struct k ids needed) = by_kind Struct k (struct_of k ids needed)

  tree_of : (n : ℕ) (g : Inst) → IsAmong g Gs → g.at < n → is_type g ≡ true → is_shapeless g.op ≡ false → (t : Tree) × (tree_at Gs g ≡ Some t)
  tree_of zero g there less typed shaped = absurd (omega (arith, less))
  tree_of (suc n) g there less typed shaped = by_op g there (λ h h_in before a b. tree_of n h h_in (let low : h.at < n = omega (arith, less, before) in low) a b) (shaped_op g.op typed shaped)

  -- the shape of a type that has one
  pub type_shaped : (ty : ℕ) (g : Inst) → global Gs ty ≡ Some g → is_type g ≡ true → is_shapeless g.op ≡ false → (t : Tree) × (type_tree Gs ty ≡ Some t)
  type_shaped ty g e typed shaped =
      let t = tree_of (suc g.at) g (found_in Gs ty g e) (let less : g.at < suc g.at = omega arith in less) typed shaped in
      (t.0, ap (λ o. option_map_or (tree_at Gs) o None) e ∙ t.1)

  -- what a pointer type points to has a shape
  pub pointee_shaped : (ty : ℕ) (g : Inst) → global Gs ty ≡ Some g → is_pointer g ≡ true → (q : ℕ) × (t : Tree) × (pointee Gs ty ≡ Some q) × (type_tree Gs q ≡ Some t)
  pointee_shaped ty g e on =
      let there = found_in Gs ty g e in
      let many = pointer_operands g there on in
      let h = type_before g.at (word g 1) (subst (λ q. is_there Gs g.at q (word g 1) ≡ true) (pointer_need g.op on) (operand_there (is_there Gs g.at) g (global_there m entry right g there) 1 (let behind : 1 < length g.args = omega (arith, many) in behind) (pointer_id g.op g.args on))) in
      let w = earlier_some Gs g.at (word g 1) h.0 h.1 in
      let data_is = and_off (is g.op code.TypePointer) (is_no_data Gs (word g 1)) (or_left (is_other_pointer_type Gs g) (is_other_function m.heads Gs g) (pointed_type m entry right g there)) on in
      let t = type_shaped (word g 1) h.0 w.0 h.2 (shaped_by (word g 1) h.0 w.0 data_is) in
      (word g 1, t.0, ap (λ o. option_map (λ (p : Inst). slice_index p.args 1) (option_and_then as_pointer o)) e ∙ ap (λ (b : Bool). option_map (λ (p : Inst). slice_index p.args 1) (if b then Some g else None)) on, t.1)
    where
      pointer_operands : (g : Inst) → IsAmong g Gs → is_pointer g ≡ true → 2 ≤ length g.args
      pointer_operands g there on = operands_least g.op (length g.args) (inr on) (right.formed g there).least
