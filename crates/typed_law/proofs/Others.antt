-- Chains, loads, stores, atomics, lengths, calls, phis and returns of a conforming module's functions are typed.
use Rattle.std.proofs.Common.{◌≡◌, ◌<◌, ◌+◌, ◌==◌, ◌||◌, ◌&&◌, not, ℕ, zero, suc, Bool, true, false, List, [], ◌∷◌, length, take, drop, Option, Some, None, inl, inr, refl, sym, ap, subst, ◌∙◌, if◌then◌else◌, arith}
use Rattle.std.specs.Prelude.{◌%◌, is_some, option_map, option_and_then, slice_get, take_while, Contains, slice_index}
use Rattle.std.specs.Option.{option_map_or}
use Rattle.std.specs.List.{list_any, position_from, prefix_len}
use Rattle.std.proofs.lemmas.Bool.{not-false}
use Rattle.std.proofs.lemmas.Option.{same_Some}
use Rattle.spv_ops.specs.Opcode.{is, number}
use Rattle.spv_ops.specs.Groups.{is_atomic}
use Rattle.spv_ops.specs.Shape.{shape}
use Rattle.spv_ops.specs.Operands.{is_id}
use Rattle.spv_ops.specs.OpGroups.{takes_of, group_of}
use Rattle.spv_ops.specs.declared.Op.{Op}
use Rattle.spv_ops.specs.declared.Op.TheVariants as code
use Rattle.spv_ops.specs.declared.OpGroup.TheVariants as groups
use Rattle.spv_module.specs.Held.{global}
use Rattle.spv_module.specs.Inst.{has_type}
use Rattle.spv_module.specs.declared.inst.Inst.{Inst}
use Rattle.spv_module.specs.declared.inst.Block.{Block}
use Rattle.spv_module.specs.declared.inst.Function.{Function}
use Rattle.spv_types.specs.Tree.{Tree}
use Rattle.spv_types.specs.Types.{is_shapeless, type_tree, earlier}
use Rattle.spv_decor.specs.Rows.{word}
use Rattle.spv_index.specs.Locals.{insts_of, type_in}
use Rattle.spv_index.specs.Pointers.{pointee, pointer, as_pointer, pointee_of, storage_class}
use Rattle.spv_index.specs.ValueTypes.{is_no_value_type}
use Rattle.profile_rules.specs.declared.needs.Need.TheVariants.{PhiValue, Label}
use Rattle.profile_rules.specs.Operands.{need, type_need, suits, is_global, is_in_function, is_there_in}
use Rattle.profile_rules.specs.TypeRows.{is_int, is_uint, is_pointer, is_void, fails, differ, value_fails, is_other}
use Rattle.profile_rules.specs.ValueRules.{breaks_t4, breaks_t5, breaks_t6, breaks_t7, is_no_array_id, leads_elsewhere, chain_end}
use Rattle.profile_rules.specs.NumberRules.{points_to_other, is_no_content}
use Rattle.profile_rules.specs.AtomicRules.{is_other_number, is_of_other_sign, is_other_place, is_shared_class, leads_elsewhere as leads_to_other}
use Rattle.profile_rules.specs.MemoryRules.{is_through}
use Rattle.profile_rules.specs.declared.way.Way.TheVariants.{BufferBlock}
use Rattle.profile_rules.specs.FlowRules.{callee, every_second, is_from_elsewhere, breaks_t22, breaks_t24_value}
use Rattle.profile_rules.specs.TypeRules.{is_flow_broken}
use Rattle.profile_rules.specs.Entry.{function_of}
use Rattle.list_law.proofs.Options.{some_by, none_some}
use Rattle.list_law.proofs.Tests.{or_left, or_right, and_off, and_left, clash}
use Rattle.list_law.proofs.Numbers.{even_after, from_zero}
use Rattle.plan_law.specs.InOrder.{IsAmong}
use Rattle.plan_law.proofs.Listed.{flat}
use Rattle.plan_law.proofs.Order.{among_left, among_right}
use Rattle.module_semantics.specs.Setting.{Setting}
use Rattle.module_semantics.specs.Operands.{arg}
use Rattle.module_semantics.specs.Steps.{is_phi, phis, source_from}
use Rattle.fits_law.specs.State.{value_shape, target_shape, result_shape, IsLocal}
use Rattle.fits_law.specs.Typed.{IsOfWords, ArePhis, IsLoad, IsChain}
use Rattle.type_law.specs.Shaped.{AreConstants}
use Rattle.type_law.proofs.Vectors.{three_off}
use Rattle.type_law.proofs.Accessed.{int_words, length_typed, source_passes}
use Rattle.type_law.proofs.Made.{load_typed}
use Rattle.type_law.proofs.Chains as chains
use Rattle.type_law.proofs.Chains.{chain_typed}
use Rattle.typed_law.specs.Conforms.{IsConforming}
use Rattle.typed_law.proofs.Lists.{earlier_some}
use Rattle.typed_law.proofs.Rules.{type_there, operand_there, flow_right, access_right}
use Rattle.typed_law.proofs.Types.{row_is, pointee_shaped}
use Rattle.typed_law.proofs.Values.{IsRow, shape_of_row, value_type_has, inside, local_row, result_row, HasType, type_row_of, one_type, same_type, typed_source, own_type, own_local, own_shape, int_shaped, type_suits, type_outside}
use Rattle.typed_law.proofs.Shapes.{row_of_shape, shaped_type}
pub use Rattle.typed_law.proofs.Operations.{typed_operand}

pub uint_shaped : (g : Inst) → is_uint g ≡ true → is_shapeless g.op ≡ false
uint_shaped g e = int_shaped g.op (and_left (is g.op code.TypeInt) (word g 0 == 32) (and_left ((is g.op code.TypeInt) && (word g 0 == 32)) (word g 1 == 0) e))

pub phi_group : (o : Op) → is o code.Phi ≡ true → group_of o ≡ groups.Phi
unfolding number group_of
phi_group code.Phi e = refl
phi_group o e = cc

phi_typed_op : (o : Op) → is o code.Phi ≡ true → has_type o ≡ true
unfolding number shape
phi_typed_op code.Phi e = refl
phi_typed_op o e = cc

phi_source : (o : Op) (args : List ℕ) (k : ℕ) → is o code.Phi ≡ true → (k % 2 == 0) ≡ true → (is_id o args k ≡ true) × (need o k ≡ PhiValue)
unfolding number is_id need takes_of group_of
phi_source code.Phi args k e even = (from_zero k, ap (λ (b : Bool). if b then PhiValue else Label) even)
phi_source o args k e even = cc

-- a source of a phi stands at an even place
source_place : (from id : ℕ) (args : List ℕ) → source_from from args ≡ Some id → (k : ℕ) × (k < length args) × ((k % 2 == 0) ≡ true) × (slice_index args k ≡ id)
source_place from id [] e = cc
source_place from id (a ∷ []) e = cc
source_place from id (a ∷ b ∷ args) e = by_label (b == from) e (λ later. source_place from id args later)
  where
    by_label : (t : Bool) → elim t [ true ↦ Some a | false ↦ source_from from args ] ≡ Some id → (source_from from args ≡ Some id → (k : ℕ) × (k < length args) × ((k % 2 == 0) ≡ true) × (slice_index args k ≡ id)) → (k : ℕ) × (k < length (a ∷ b ∷ args)) × ((k % 2 == 0) ≡ true) × (slice_index (a ∷ b ∷ args) k ≡ id)
    by_label true e next = (0, (let less : 0 < suc (suc (length args)) = omega arith in less), refl, same_Some a id e)
    by_label false e next =
        let w = next e in
        let less = w.1 in
        (suc (suc w.0), (let more : suc (suc w.0) < suc (suc (length args)) = omega (arith, less) in more), subst (λ n. (n % 2 == 0) ≡ true) (let two : w.0 + 2 ≡ suc (suc w.0) = omega arith in two) (even_after w.0 w.2), w.3)

-- a function that is found by its id
pub contains_found : (fs : List Function) (id : ℕ) (g : Function) → function_of fs id ≡ Some g → Contains fs g
contains_found [] id g e = cc
contains_found (h ∷ fs) id g e = by_test (h.id.0 == id) e (λ rest. contains_found fs id g rest)
  where
    by_test : (b : Bool) → (if b then Some h else function_of fs id) ≡ Some g → (function_of fs id ≡ Some g → Contains fs g) → Contains (h ∷ fs) g
    by_test true e next = (0, (let less : 0 < suc (length fs) = omega arith in less), same_Some h g e)
    by_test false e next = let w = next e in let less = w.1 in (suc w.0, (let more : suc w.0 < suc (length fs) = omega (arith, less) in more), w.2)

-- the place of a function leads to it
place_found : (fs : List Function) (id n : ℕ) (g : Function) → function_of fs id ≡ Some g → (k : ℕ) × (position_from (λ (f : Function). f.id.0 == id) n fs ≡ Some (n + k)) × (slice_get fs k ≡ Some g)
place_found [] id n g e = cc
place_found (h ∷ fs) id n g e = by_test (h.id.0 == id) e (λ rest. place_found fs id (n + 1) g rest)
  where
    by_test : (b : Bool) → (if b then Some h else function_of fs id) ≡ Some g → (function_of fs id ≡ Some g → (k : ℕ) × (position_from (λ (f : Function). f.id.0 == id) (n + 1) fs ≡ Some (n + 1 + k)) × (slice_get fs k ≡ Some g))
        → (k : ℕ) × ((if b then Some n else position_from (λ (f : Function). f.id.0 == id) (n + 1) fs) ≡ Some (n + k)) × (slice_get (h ∷ fs) k ≡ Some g)
    by_test true e next = (0, ap (λ x. Some x) (let same : n ≡ n + 0 = omega arith in same), e)
    by_test false e next = let w = next e in (suc w.0, w.1 ∙ ap (λ x. Some x) (let same : n + 1 + w.0 ≡ n + suc w.0 = omega arith in same), w.2)

pub callee_is : (fs : List Function) (id : ℕ) (g : Function) → function_of fs id ≡ Some g → callee fs id ≡ Some g
callee_is fs id g e = let w = place_found fs id 0 g e in ap (option_and_then (slice_get fs)) (w.1 ∙ ap (λ x. Some x) (let same : 0 + w.0 ≡ w.0 = omega arith in same)) ∙ w.2

pub among_block : (bs : List Block) (k : ℕ) (b : Block) (i : Inst) → slice_get bs k ≡ Some b → IsAmong i b.insts → IsAmong i (flat bs)
among_block [] k b i at there = cc
among_block (c ∷ bs) zero b i at there = among_left i c.insts (flat bs) (subst (λ (x : Block). IsAmong i x.insts) (sym (same_Some c b at)) there)
among_block (c ∷ bs) (suc k) b i at there = among_right i c.insts (flat bs) (among_block bs k b i at there)

module _ (s : Setting) (entry : Option (List ℕ)) (right : IsConforming s.of entry) (f : Function) (in_it : Contains s.of.functions f) where
  abbrev Gs : List Inst
  Gs = s.of.globals

  abbrev V : ℕ → Option ℕ
  V = type_in s.of.globals f

  abbrev IsTypedId : ℕ → Type 0
  IsTypedId id = HasType s entry right f in_it id

  -- what a pointer leads to has a shape
  pub target_of : (id : ℕ) → IsTypedId id → value_fails is_pointer Gs V id ≡ false → (q : ℕ) × (t : Tree) × (pointee_of Gs f id ≡ Some q) × (type_tree Gs q ≡ Some t)
  target_of id w off =
      let g = type_row_of s entry right f in_it id w.0 w.1 in
      let on : is_pointer g.0 ≡ true = not-false (is_pointer g.0) (ap (λ o. option_map_or (λ (x : Inst). not (is_pointer x)) o false) (sym (row_is s.of entry right w.0 g.0 g.1 g.2)) ∙ (ap (λ o. option_map_or (fails is_pointer Gs) o false) (sym w.1) ∙ off)) in
      let q = pointee_shaped s.of entry right w.0 g.0 g.1 on in
      (q.0, q.1, ap (option_and_then (pointee Gs)) w.1 ∙ q.2, q.3)

  target_is : (id q : ℕ) (t : Tree) → pointee_of Gs f id ≡ Some q → type_tree Gs q ≡ Some t → target_shape s f id ≡ Some t
  target_is id q t at shape = ap (option_and_then (type_tree Gs)) at ∙ shape

  -- an instruction with a type has one that is not 0
  pub typed_some : (i : Inst) → IsAmong i (insts_of f) → has_type i.op ≡ true → i.ty ≡ 0 → ⊥
  typed_some i there has zero_is =
      let on = type_there (is_there_in s.of f i.at) i ((inside s entry right f in_it).order.there i there) has in
      let g = some_by (suits (type_need i.op)) (earlier Gs i.at i.ty) (alone (is_global Gs i.at (type_need i.op) i.ty) on) in
      none_some (sym right.results.none ∙ (ap (global Gs) (sym zero_is) ∙ (earlier_some Gs i.at i.ty g.0 g.1).0))
    where
      alone : (a : Bool) → (a || is_in_function s.of f i.at (type_need i.op) i.ty) ≡ true → a ≡ true
      alone true e = refl
      alone false e = clash (sym e ∙ type_outside s.of f i.at i.ty i.op)

  module _ (i : Inst) (there : IsAmong i (insts_of f)) where
    has_row : has_type i.op ≡ true → IsRow s entry right i.ty
    has_row has = let g = local_row s entry right f in_it i there (typed_some i there has) in (g.0, g.1, type_suits i.op g.0 g.2)

    -- T4
    pub as_load : has_type i.op ≡ true → breaks_t4 s.of.heads Gs V i ≡ false → IsTypedId (word i 0) → IsLoad s f i
    as_load has off w =
        let t = value_type_has s entry right i.ty (has_row has) (or_left (is_no_value_type s.of.heads Gs i.ty) (points_to_other Gs V (word i 0) i.ty) off) in
        let other = or_right (is_no_value_type s.of.heads Gs i.ty) (points_to_other Gs V (word i 0) i.ty) off in
        let q = target_of (word i 0) w (or_left (value_fails is_pointer Gs V (word i 0)) (option_map_or (λ p. differ Gs p i.ty) (pointee_of Gs f (word i 0)) false) other) in
        load_typed s f i t.0 q.1 other t.1 (own_shape s entry right f in_it i there t.0 t.1) (target_is (word i 0) q.0 q.1 q.2 q.3) t.2 (own_local s entry right f in_it i there)

    -- T5
    pub as_store : breaks_t5 s.of.heads Gs V i ≡ false → IsTypedId (word i 0) → IsTypedId (word i 1) → value_shape s f (arg i 1) ≡ target_shape s f (arg i 0)
    as_store off pointer_has object_has =
        let content = or_right (option_map_or (is_no_value_type s.of.heads Gs) (pointee_of Gs f (word i 0)) false) (is_no_content Gs V (word i 0) (word i 1)) off in
        let q = target_of (word i 0) pointer_has (or_left (value_fails is_pointer Gs V (word i 0)) (option_map_or (λ p. is_other Gs V p (word i 1)) (pointee_of Gs f (word i 0)) false) content) in
        let other = or_right (value_fails is_pointer Gs V (word i 0)) (option_map_or (λ p. is_other Gs V p (word i 1)) (pointee_of Gs f (word i 0)) false) content in
        shaped_type s entry right f in_it q.0 (word i 1) q.1 q.3 object_has (ap (λ o. option_map_or (λ p. is_other Gs V p (word i 1)) o false) (sym q.2) ∙ other) ∙ sym (target_is (word i 0) q.0 q.1 q.2 q.3)

    -- T7
    pub as_length : has_type i.op ≡ true → breaks_t7 Gs V i ≡ false → IsOfWords (value_shape s f i.result)
    as_length has off =
        let g = has_row has in
        let right_type = or_left (fails is_uint Gs i.ty) (is_some (V (word i 0)) && is_no_array_id Gs (word i 1) (word i 0)) off in
        let on = not-false (is_uint g.0) (ap (λ o. option_map_or (λ (x : Inst). not (is_uint x)) o false) (sym (row_is s.of entry right i.ty g.0 g.1 g.2)) ∙ right_type) in
        let t = shape_of_row s entry right i.ty g (uint_shaped g.0 on) in
        length_typed s f i.ty i.result t.0 right_type t.1 (own_shape s entry right f in_it i there t.0 t.1)

    -- T25, A3: an atomic instruction is on an int
    pub as_atomic : is_atomic i.op ≡ true → has_type i.op ≡ true → points_to_other Gs V (word i 0) i.ty ≡ false → IsTypedId (word i 0) → IsOfWords (value_shape s f i.result) × IsLocal s i.result
    as_atomic atomic has other w =
        let g = type_row_of s entry right f in_it (word i 0) w.0 w.1 in
        let row = row_is s.of entry right w.0 g.0 g.1 g.2 in
        let off = or_left (value_fails is_pointer Gs V (word i 0)) (option_map_or (λ p. differ Gs p i.ty) (pointee_of Gs f (word i 0)) false) other in
        let on : is_pointer g.0 ≡ true = not-false (is_pointer g.0) (ap (λ o. option_map_or (λ (x : Inst). not (is_pointer x)) o false) (sym row) ∙ (ap (λ o. option_map_or (fails is_pointer Gs) o false) (sym w.1) ∙ off)) in
        let pointer_is : pointer Gs w.0 ≡ Some g.0 = ap (option_and_then as_pointer) g.1 ∙ ap (λ (b : Bool). if b then Some g.0 else None) on in
        let q : pointee Gs w.0 ≡ Some (word g.0 1) = ap (λ o. option_map (λ (p : Inst). slice_index p.args 1) o) pointer_is in
        let shape_q = pointee_shaped s.of entry right w.0 g.0 g.1 on in
        let same_q : shape_q.0 ≡ word g.0 1 = same_Some shape_q.0 (word g.0 1) (sym shape_q.2 ∙ q) in
        let tree_q : type_tree Gs (word g.0 1) ≡ Some shape_q.1 = ap (type_tree Gs) (sym same_q) ∙ shape_q.3 in
        let h = row_of_shape s entry right f in_it (word g.0 1) shape_q.1 tree_q in
        let differs : differ Gs (word g.0 1) i.ty ≡ false = ap (λ o. option_map_or (λ p. differ Gs p i.ty) o false) (sym (ap (option_and_then (pointee Gs)) w.1 ∙ q)) ∙ or_right (value_fails is_pointer Gs V (word i 0)) (option_map_or (λ p. differ Gs p i.ty) (pointee_of Gs f (word i 0)) false) other in
        let same : word g.0 1 ≡ i.ty = one_type s entry right f in_it (word g.0 1) i.ty h (has_row has) differs in
        let accessed = and_off (is_atomic i.op) (option_map_or (leads_to_other Gs i.op (is_through s.of.heads Gs f BufferBlock (word i 0))) (V (word i 0)) false) (access_right s.of entry right f in_it i there) atomic in
        let leads : leads_to_other Gs i.op (is_through s.of.heads Gs f BufferBlock (word i 0)) w.0 ≡ false = ap (λ o. option_map_or (leads_to_other Gs i.op (is_through s.of.heads Gs f BufferBlock (word i 0))) o false) (sym w.1) ∙ accessed in
        let place : is_other_place Gs i.op (is_through s.of.heads Gs f BufferBlock (word i 0)) g.0 ≡ false = ap (λ o. option_map_or (is_other_place Gs i.op (is_through s.of.heads Gs f BufferBlock (word i 0))) o false) (sym pointer_is) ∙ leads in
        let number_is : is_other_number i.op h.0 ≡ false =
        ap (λ o. option_map_or (is_other_number i.op) o false) (sym h.1) ∙ or_right (not (is_shared_class (is_through s.of.heads Gs f BufferBlock (word i 0)) (word g.0 0))) (option_map_or (is_other_number i.op) (global Gs (word g.0 1)) false) place in
        let int_is : is h.0.op code.TypeInt ≡ true = not-false (is h.0.op code.TypeInt) (or_left (not (is h.0.op code.TypeInt)) (is_of_other_sign i.op (word h.0 1)) number_is) in
        let tree_ty : type_tree Gs i.ty ≡ Some shape_q.1 = ap (type_tree Gs) (sym same) ∙ tree_q in
        let fails_not : fails is_int Gs (word g.0 1) ≡ false = ap (λ o. option_map_or (λ (x : Inst). not (is_int x)) o false) (row_is s.of entry right (word g.0 1) h.0 h.1 h.2) ∙ ap not int_is in
        (int_words s f i.ty i.result shape_q.1 (subst (λ x. fails is_int Gs x ≡ false) same fails_not) tree_ty (own_shape s entry right f in_it i there shape_q.1 tree_ty), own_local s entry right f in_it i there)

    -- T6
    pub chain_types : (ids : List ℕ) → ((k : ℕ) → k < length ids → IsTypedId (slice_index ids k)) → chains.HaveTypes s f ids
    chain_types [] each = tt
    chain_types (id ∷ ids) each =
        let first = each 0 (let less : 0 < suc (length ids) = omega arith in less) in
        (ap is_some first.1, chain_types ids (λ k less. each (suc k) (let more : suc k < suc (length ids) = omega (arith, less) in more)))

    pub as_chain : AreConstants s → has_type i.op ≡ true → breaks_t6 Gs V i ≡ false → ((k : ℕ) → k < length i.args → IsTypedId (slice_index i.args k)) → 0 < length i.args → IsChain s f i
    as_chain known has off each some =
        let parts = three_off (value_fails is_pointer Gs V (word i 0)) (list_any (value_fails is_int Gs V) (drop 1 i.args)) (leads_elsewhere Gs i.ty (option_and_then (storage_class Gs) (V (word i 0))) (chain_end Gs V i)) off in
        let q = target_of (word i 0) (each 0 some) parts.0 in
        chain_typed s f i q.1 off known (chain_types (drop 1 i.args) (dropped i.args each)) (target_is (word i 0) q.0 q.1 q.2 q.3) (own_type s entry right f in_it i there (typed_some i there has)) (λ points.
        let g = has_row has in
        let on = not-false (is_pointer g.0) (ap (λ o. option_map_or (λ (x : Inst). not (is_pointer x)) o false) (sym (row_is s.of entry right i.ty g.0 g.1 g.2)) ∙ points) in
        pointee_shaped s.of entry right i.ty g.0 g.1 on)
      where
        dropped : (args : List ℕ) → ((k : ℕ) → k < length args → IsTypedId (slice_index args k)) → (k : ℕ) → k < length (drop 1 args) → IsTypedId (slice_index (drop 1 args) k)
        dropped [] each k less = absurd (omega (arith, less))
        dropped (a ∷ args) each k less = each (suc k) (let more : suc k < suc (length args) = omega (arith, less) in more)

    -- T24
    pub as_return : breaks_t24_value Gs V f i ≡ false → IsTypedId (word i 0) → value_shape s f (arg i 0) ≡ result_shape s f
    as_return off w =
        let other = or_right (fails (λ g. not (is_void g)) Gs f.result.0) (is_other Gs V f.result.0 (word i 0)) off in
        ap (option_and_then (type_tree Gs)) (same_type s entry right f in_it f.result.0 (word i 0) (result_row s entry right f in_it) w other)

    -- T22
    pub as_phi : is_phi i ≡ true → ((from id : ℕ) → source_from from i.args ≡ Some id → value_shape s f id ≡ value_shape s f i.result)
    as_phi on from id at =
        let b = flow_right s.of entry right f in_it i there in
        let told : breaks_t22 s.of.heads Gs V f b.0 i ≡ false = ap (is_flow_broken s.of f b.0 i) (sym (phi_group i.op on)) ∙ b.1 in
        let parts = three_off (is_no_value_type s.of.heads Gs i.ty) (list_any (is_other Gs V i.ty) (every_second 0 i.args)) (is_from_elsewhere f b.0.label.0 i) told in
        let t = value_type_has s entry right i.ty (has_row (phi_typed_op i.op on)) parts.0 in
        let k = source_place from id i.args at in
        let place = phi_source i.op i.args k.0 on k.2 in
        let has = operand_there (is_there_in s.of f i.at) i ((inside s entry right f in_it).order.there i there) k.0 k.1 place.0 in
        let w = typed_source s entry right f in_it i.at id (subst (λ x. is_there_in s.of f i.at PhiValue x ≡ true) k.3 (subst (λ q. is_there_in s.of f i.at q (slice_index i.args k.0) ≡ true) place.1 has)) in
        shaped_type s entry right f in_it i.ty id t.0 t.1 w (source_passes (is_other Gs V i.ty) 0 from id i.args refl parts.1 at) ∙ sym (own_shape s entry right f in_it i there t.0 t.1)

  -- all phis of a block
  phis_of : (js : List Inst) → ((i : Inst) → IsAmong i js → IsAmong i (insts_of f)) → ArePhis s f (take_while is_phi js)
  phis_of [] sub = tt
  phis_of (i ∷ js) sub = by_test (is_phi i) refl (phis_of js (λ j there. sub j (inr there)))
    where
      by_test : (b : Bool) → is_phi i ≡ b → ArePhis s f (take_while is_phi js) → ArePhis s f (take (if b then 1 + prefix_len is_phi js else 0) (i ∷ js))
      by_test false off rest = tt
      by_test true on rest = subst (λ n. ArePhis s f (take n (i ∷ js))) (let next : suc (prefix_len is_phi js) ≡ 1 + prefix_len is_phi js = omega arith in next) (as_phi i (sub i (inl refl)) on, own_local s entry right f in_it i (sub i (inl refl)), rest)

  pub as_branch : (t : ℕ) (b : Block) → slice_get f.blocks t ≡ Some b → ArePhis s f (phis b)
  as_branch t b at = phis_of b.insts (λ i there. among_block f.blocks t b i at there)
