-- The types of constants and of what functions compute hold no runtime array, and no array whose length is a specialization constant (P17, P18); and blocks hold none but a runtime array as a member.
use Rattle.std.proofs.Common.{◌≡◌, ◌<◌, ◌≤◌, ◌+◌, ◌==◌, ◌||◌, ◌&&◌, not, ℕ, zero, suc, Bool, true, false, List, [], ◌∷◌, ◌++◌, length, take, Option, Some, None, inl, inr, refl, sym, ap, subst, ◌∙◌, if◌then◌else◌, arith}
use Rattle.std.specs.Prelude.{◌⊎◌, flat_map, option_map, slice_index, ◌-◌}
use Rattle.std.specs.Option.{option_map_or}
use Rattle.std.specs.List.{list_any, filter_map, cons_option}
use Rattle.std.proofs.lemmas.Bool.Decides.{eqb_tells, nat_tests}
use Rattle.std.proofs.lemmas.Bool.{and_from, false_from_ne_true, not-false, not-true, or_cases, or_left as or_on_left, or_right as or_on_right}
use Rattle.std.proofs.lemmas.Option.{same_Some}
use Rattle.std.proofs.lemmas.List.Folds.{list_any-append}
use Rattle.spv_ops.specs.Opcode.{is, number}
use Rattle.spv_ops.specs.Groups.{is_specialization}
use Rattle.spv_ops.specs.Operands.{is_id}
use Rattle.spv_ops.specs.OpGroups.{takes_of, group_of}
use Rattle.spv_ops.specs.Shape.{shape, count_of}
use Rattle.spv_ops.specs.declared.Op.{Op}
use Rattle.spv_ops.specs.declared.Op.TheVariants as code
use Rattle.spv_module.specs.State.{ModuleState}
use Rattle.spv_module.specs.Held.{global}
use Rattle.spv_module.specs.Inst.{has_type, has_result}
use Rattle.spv_module.specs.declared.inst.Inst.{Inst}
use Rattle.spv_types.specs.Tree.{Tree, runtime}
use Rattle.spv_types.specs.Types.{kind, ids_by_kind, tree_by_kind, tree_before, tree_at, type_tree, earlier}
use Rattle.spv_types.specs.Leaves.{IsSized}
use Rattle.spv_types.proofs.Below.{tree_before_is}
use Rattle.spv_decor.specs.Rows.{word}
use Rattle.spv_index.specs.Pointers.{pointee}
use Rattle.spv_index.specs.BlockStructs.{is_block, is_storage_block, is_some_block}
use Rattle.profile_rules.specs.declared.needs.Need.TheVariants.{AnyType, Constant}
use Rattle.profile_rules.specs.Operands.{need, first_or, is_there}
use Rattle.profile_rules.specs.Places.{is_among, is_variable, is_defined_elsewhere, body_insts}
use Rattle.profile_rules.specs.TypeForm.{parts_of, value_type, value_types, signature_types, pointee_by, pointees, block_misuses, fixed_parts, runtime_misuses, with_parts, held, is_held, other_types, is_workgroup, is_above_zero, is_no_int, is_workgroup_length, is_length}
use Rattle.list_law.proofs.Numbers.{from_zero, number_itself}
use Rattle.list_law.proofs.Tests.{or_left, or_right, and_off, and_right, clash}
use Rattle.plan_law.specs.InOrder.{IsAmong, AreRising}
use Rattle.fits_law.proofs.Steps.{named}
use Rattle.type_law.specs.Shaped.{EachFound}
use Rattle.typed_law.specs.Conforms.{IsConforming}
use Rattle.typed_law.proofs.Lists.{found_in, earlier_some}
use Rattle.typed_law.proofs.Rules.{operand_there, global_there, used_type}
use Rattle.typed_law.proofs.Types.{type_before, of_form}
use Rattle.typed_law.proofs.Sized.{rising_low, sized_by}
use Rattle.typed_law.proofs.Opcodes.{of_number}

-- the first of a list is among it
pub first_among : (id : ℕ) (ids : List ℕ) → is_among (id ∷ ids) id ≡ true
first_among id ids = ap (λ b. b || is_among ids id) (number_itself id)

pub among_left : (xs ys : List ℕ) (id : ℕ) → is_among xs id ≡ true → is_among (xs ++ ys) id ≡ true
among_left xs ys id there = list_any-append (λ x. x == id) xs ys ∙ or_on_left (is_among xs id) (is_among ys id) there

pub among_right : (xs ys : List ℕ) (id : ℕ) → is_among ys id ≡ true → is_among (xs ++ ys) id ≡ true
among_right xs ys id there = list_any-append (λ x. x == id) xs ys ∙ or_on_right (is_among xs id) (is_among ys id) there

among_either : (xs ys : List ℕ) (id : ℕ) → is_among (xs ++ ys) id ≡ true → (is_among xs id ≡ true) ⊎ (is_among ys id ≡ true)
among_either xs ys id there = or_cases (is_among xs id) (is_among ys id) (sym (list_any-append (λ x. x == id) xs ys) ∙ there)

pub among_flat : (f : Inst → List ℕ) (xs : List Inst) (x : Inst) (id : ℕ) → IsAmong x xs → is_among (f x) id ≡ true → is_among (flat_map f xs) id ≡ true
among_flat f [] x id there own = absurd there
among_flat f (y ∷ xs) x id (inl same) own = among_left (f y) (flat_map f xs) id (subst (λ z. is_among (f z) id ≡ true) (sym same) own)
among_flat f (y ∷ xs) x id (inr there) own = among_right (f y) (flat_map f xs) id (among_flat f xs x id there own)

among_place : (ids : List ℕ) (p : ℕ) → is_among ids p ≡ true → (k : ℕ) × (k < length ids) × (slice_index ids k ≡ p)
among_place [] p e = cc
among_place (id ∷ ids) p e = by_test (id == p) (eqb_tells id p) e (λ later. among_place ids p later)
  where
    by_test : (b : Bool) → ((b ≡ true) × (id ≡ p)) ⊎ ((b ≡ false) × (id ≡ p → ⊥)) → (b || list_any (λ other. other == p) ids) ≡ true → (is_among ids p ≡ true → (k : ℕ) × (k < length ids) × (slice_index ids k ≡ p)) → (k : ℕ) × (k < length (id ∷ ids)) × (slice_index (id ∷ ids) k ≡ p)
    by_test b (inl w) there next = (0, (let less : 0 < suc (length ids) = omega arith in less), w.1)
    by_test true (inr w) there next = cc
    by_test false (inr w) there next = let k = next there in let less = k.1 in (suc k.0, (let more : suc k.0 < suc (length ids) = omega (arith, less) in more), k.2)

among_first : (args : List ℕ) (p : ℕ) → is_among (take 1 args) p ≡ true → (k : ℕ) × (k ≡ 0) × (k < length args) × (slice_index args k ≡ p)
among_first [] p e = cc
among_first (a ∷ args) p e = by_test (a == p) (eqb_tells a p) e
  where
    by_test : (b : Bool) → ((b ≡ true) × (a ≡ p)) ⊎ ((b ≡ false) × (a ≡ p → ⊥)) → (b || false) ≡ true → (k : ℕ) × (k ≡ 0) × (k < length (a ∷ args)) × (slice_index (a ∷ args) k ≡ p)
    by_test b (inl w) there = (0, refl, (let less : 0 < suc (length args) = omega arith in less), w.1)
    by_test true (inr w) there = cc
    by_test false (inr w) there = cc

-- a part of a type is an operand, which has to be a type
abbrev IsPlace : Op → List ℕ → ℕ → Type 0
IsPlace o args p = (k : ℕ) × (k < length args) × (slice_index args k ≡ p) × (is_id o args k ≡ true) × (need o k ≡ AnyType)

part_place : (o : Op) (args : List ℕ) (p : ℕ) → is_among (option_map_or (λ (ids : List ℕ). ids) (ids_by_kind (kind o) args) []) p ≡ true → IsPlace o args p
unfolding kind is_id need takes_of group_of
part_place code.TypeArray args p e = let w = among_first args p e in (w.0, w.2, w.3, from_zero w.0, subst (λ k. first_or k AnyType Constant ≡ AnyType) (sym w.1) refl)
part_place code.TypeRuntimeArray args p e = let w = among_first args p e in (w.0, w.2, w.3, from_zero w.0, refl)
part_place code.TypeStruct args p e = let w = among_place args p e in (w.0, w.1, w.2, from_zero w.0, refl)
part_place o args p e = cc

-- the parts of an array, and of a struct
array_part : (o : Op) (args : List ℕ) → is o code.TypeArray ≡ true → 0 < length args → is_among (option_map_or (λ (ids : List ℕ). ids) (ids_by_kind (kind o) args) []) (slice_index args 0) ≡ true
unfolding kind number
array_part code.TypeArray [] e inside = absurd (omega (arith, inside))
array_part code.TypeArray (a ∷ args) e inside = or_on_left (a == a) false (grind (arith, nat_tests))
array_part o args e inside = cc

pub struct_part : (o : Op) (args : List ℕ) (p : ℕ) → is o code.TypeStruct ≡ true → is_among args p ≡ true → is_among (option_map_or (λ (ids : List ℕ). ids) (ids_by_kind (kind o) args) []) p ≡ true
unfolding kind number
struct_part o args p =
    of_number code.TypeStruct (λ (q : Op). is_among args p ≡ true → is_among (option_map_or (λ (ids : List ℕ). ids) (ids_by_kind (kind q) args) []) p ≡ true) (λ there. there) o

array_least : (o : Op) (n : ℕ) → is o code.TypeArray ≡ true → (shape o).least ≤ 1 + count_of (has_type o) + count_of (has_result o) + n → 2 ≤ n
unfolding number shape
array_least code.TypeArray n is_it le = omega (arith, le)
array_least o n e le = cc

-- the part of a runtime array
no_struct : (o : Op) (b : Bool) → is o code.TypeRuntimeArray ≡ true → ((is o code.TypeStruct) && b) ≡ false
unfolding number
no_struct code.TypeRuntimeArray b e = refl
no_struct o b e = cc

runtime_part : (o : Op) (args : List ℕ) → is o code.TypeRuntimeArray ≡ true → 0 < length args → is_among (option_map_or (λ (ids : List ℕ). ids) (ids_by_kind (kind o) args) []) (slice_index args 0) ≡ true
unfolding kind number
runtime_part code.TypeRuntimeArray [] e inside = absurd (omega (arith, inside))
runtime_part code.TypeRuntimeArray (a ∷ args) e inside = or_on_left (a == a) false (grind (arith, nat_tests))
runtime_part o args e inside = cc

runtime_least : (o : Op) (n : ℕ) → is o code.TypeRuntimeArray ≡ true → (shape o).least ≤ 1 + count_of (has_type o) + count_of (has_result o) + n → 0 < n
unfolding number shape
runtime_least code.TypeRuntimeArray n is_it le = omega (arith, le)
runtime_least o n e le = cc

runtime_shape : (gs : List Inst) (before : ℕ → Option Tree) (g : Inst) (o : Op) (u : Tree) → is o code.TypeRuntimeArray ≡ true → tree_by_kind gs before g (kind o) ≡ Some u → (t : Tree) × (before (slice_index g.args 0) ≡ Some t) × (u ≡ runtime t)
unfolding kind number
runtime_shape gs before g code.TypeRuntimeArray u on e = by_part (before (slice_index g.args 0)) refl e
  where
    by_part : (q : Option Tree) → before (slice_index g.args 0) ≡ q → option_map runtime q ≡ Some u → (t : Tree) × (before (slice_index g.args 0) ≡ Some t) × (u ≡ runtime t)
    by_part None is e = cc
    by_part (Some t) is e = (t, is, sym (same_Some (runtime t) u e))
runtime_shape gs before g o u on e = cc

-- what has values, or is a runtime array of what has
abbrev pub IsMemberSized : Tree → Type 0
IsMemberSized u = IsSized u ⊎ ((t : Tree) × (u ≡ runtime t) × IsSized t)

module _ (m : ModuleState) (entry : Option (List ℕ)) (right : IsConforming m entry) where
  abbrev Gs : List Inst
  Gs = m.globals

  -- parts stand before
  part_before : (g : Inst) → IsAmong g Gs → (p : ℕ) → is_among (parts_of g) p ≡ true → (h : Inst) × (global Gs p ≡ Some h) × (h.at < g.at)
  part_before g there p part =
      let k = part_place g.op g.args p part in
      let on = operand_there (is_there Gs g.at) g (global_there m entry right g there) k.0 k.1 k.3 in
      let h = type_before m entry right g.at p (subst (λ x. is_there Gs g.at AnyType x ≡ true) k.2 (subst (λ q. is_there Gs g.at q (slice_index g.args k.0) ≡ true) k.4 on)) in
      let w = earlier_some Gs g.at p h.0 h.1 in
      (h.0, w.0, w.1)

  -- these types and all that they hold are closed
  grow : (t : Inst) (ids : List ℕ) (id : ℕ) → is_among ids id ≡ true → is_among (with_parts t ids) id ≡ true
  grow t ids id there = by_test (is_among ids t.result)
    where
      by_test : (b : Bool) → is_among (if b then parts_of t ++ ids else ids) id ≡ true
      by_test true = among_right (parts_of t) ids id there
      by_test false = there

  closed : (list : List Inst) (types : List ℕ) (n : ℕ) → AreRising n list → ((h : Inst) → IsAmong h list → IsAmong h Gs × (global Gs h.result ≡ Some h)) → (g : Inst) → IsAmong g list → is_among (held list types) g.result ≡ true → (p : ℕ) → is_among (parts_of g) p ≡ true → is_among (held list types) p ≡ true
  closed [] types n rise all g there has p part = absurd there
  closed (t ∷ ts) types n rise all g (inl same) has p part = by_test (is_among (held ts types) t.result) refl (ap (is_among (with_parts t (held ts types))) (ap (λ (x : Inst). x.result) same) ∙ has)
    where
      by_test : (b : Bool) → is_among (held ts types) t.result ≡ b → is_among (if b then parts_of t ++ held ts types else held ts types) t.result ≡ true → is_among (if b then parts_of t ++ held ts types else held ts types) p ≡ true
      by_test true at has = among_left (parts_of t) (held ts types) p (subst (λ (x : Inst). is_among (parts_of x) p ≡ true) (sym same) part)
      by_test false at has = clash (sym has ∙ at)
  closed (t ∷ ts) types n rise all g (inr there) has p part = by_test (is_among (held ts types) t.result) refl has (λ own. grow t (held ts types) p (closed ts types (t.at + 1) rise.1 (λ h h_in. all h (inr h_in)) g there own p part))
    where
      by_test : (b : Bool) → is_among (held ts types) t.result ≡ b → is_among (if b then parts_of t ++ held ts types else held ts types) g.result ≡ true → (is_among (held ts types) g.result ≡ true → is_among (with_parts t (held ts types)) p ≡ true) → is_among (with_parts t (held ts types)) p ≡ true
      by_test true at has next = elim (among_either (parts_of t) (held ts types) g.result has) [
        | inl early ↦
            let w = part_before t (all t (inl refl)).0 g.result early in
            let one : w.0 ≡ g = same_Some w.0 g (sym w.1 ∙ (all g (inr there)).1) in
            let less : g.at < t.at = subst (λ (x : Inst). x.at < t.at) one w.2 in
            let far = rising_low (t.at + 1) ts g rise.1 there in
            absurd (omega (arith, less, far))
        | inr own ↦ next own
      ]
      by_test false at has next = next has

  found_all : (gs js : List Inst) → EachFound gs js → (h : Inst) → IsAmong h js → global gs h.result ≡ Some h
  found_all gs [] each h there = absurd there
  found_all gs (j ∷ js) each h (inl same) = subst (λ (x : Inst). global gs x.result ≡ Some x) same each.0
  found_all gs (j ∷ js) each h (inr there) = found_all gs js each.1 h there

  pub global_found : (h : Inst) → IsAmong h Gs → global Gs h.result ≡ Some h
  global_found h there = found_all Gs Gs right.results.each h there

  -- a type that values use, or hold: it is no block, and no runtime array
  record IsUsed (g : Inst) : Type 0 where
    holds : is_held Gs (other_types m) g.result ≡ true
    no_block : ((is g.op code.TypeStruct) && is_block m.heads g.result) ≡ false
    no_runtime : is g.op code.TypeRuntimeArray ≡ false

  unblocked : (g : Inst) → IsAmong g Gs → is_among (block_misuses m) g.result ≡ true → ((is g.op code.TypeStruct) && is_block m.heads g.result) ≡ false
  unblocked g there blocks =
      let a = (is g.op code.TypeStruct) && is_block m.heads g.result in
      false_from_ne_true a (λ on. clash (sym (and_from a (is_among (block_misuses m) g.result) on blocks) ∙ or_left (a && is_among (block_misuses m) g.result) ((is g.op code.TypeRuntimeArray) && is_among (runtime_misuses m) g.result) (used_type m entry right g there)))

  misused : (g : Inst) → IsAmong g Gs → (is_among (block_misuses m) g.result ≡ true) → (is_among (runtime_misuses m) g.result ≡ true) → (((is g.op code.TypeStruct) && is_block m.heads g.result) ≡ false) × (is g.op code.TypeRuntimeArray ≡ false)
  misused g there blocks runtimes =
      let a = (is g.op code.TypeStruct) && is_block m.heads g.result in (
        unblocked g there blocks,
        false_from_ne_true (is g.op code.TypeRuntimeArray) (λ on. clash (sym (and_from (is g.op code.TypeRuntimeArray) (is_among (runtime_misuses m) g.result) on runtimes) ∙ or_right (a && is_among (block_misuses m) g.result) ((is g.op code.TypeRuntimeArray) && is_among (runtime_misuses m) g.result) (used_type m entry right g there))),
      )

  -- a part of a type of the module
  part_among : (g : Inst) (p : ℕ) (h : Inst) → is_among (parts_of g) p ≡ true → global Gs p ≡ Some h → is_among (parts_of g) h.result ≡ true
  part_among g p h part at = subst (λ x. is_among (parts_of g) x ≡ true) (sym (named Gs p h at)) part

  part_blocks : (g : Inst) → IsAmong g Gs → (h : Inst) → is_among (parts_of g) h.result ≡ true → is_among (block_misuses m) h.result ≡ true
  part_blocks g there h among =
      among_left (flat_map parts_of Gs ++ pointees m (λ v. not (is_some_block m.heads m.globals v)) ++ value_types m) (signature_types m) h.result
      (among_left (flat_map parts_of Gs ++ pointees m (λ v. not (is_some_block m.heads m.globals v))) (value_types m) h.result
      (among_left (flat_map parts_of Gs) (pointees m (λ v. not (is_some_block m.heads m.globals v))) h.result (among_flat parts_of Gs g h.result there among)))

  part_held : (g : Inst) → IsAmong g Gs → is_held Gs (other_types m) g.result ≡ true → (h : Inst) → is_among (parts_of g) h.result ≡ true → is_held Gs (other_types m) h.result ≡ true
  part_held g there holds h among = closed Gs (other_types m) 0 right.rising (λ k k_in. (k_in, global_found k k_in)) g there holds h.result among

  part_used : (g : Inst) → IsAmong g Gs → is_held Gs (other_types m) g.result ≡ true → ((is g.op code.TypeStruct) && is_block m.heads g.result) ≡ false → (p : ℕ) (h : Inst) → is_among (parts_of g) p ≡ true → global Gs p ≡ Some h → IsUsed h
  part_used g there holds no_block p h part at =
      let among : is_among (parts_of g) h.result ≡ true = part_among g p h part at in
      let fixed : is_among (fixed_parts m g) h.result ≡ true = by_storage (is g.op code.TypeStruct) (is_block m.heads g.result) (not (is_among (pointees m (λ v. not (is_storage_block m.heads m.globals v))) g.result)) no_block among in
      let runtimes : is_among (runtime_misuses m) h.result ≡ true =
      among_left (flat_map (fixed_parts m) Gs ++ pointees m (λ v. true) ++ value_types m) (signature_types m) h.result
      (among_left (flat_map (fixed_parts m) Gs ++ pointees m (λ v. true)) (value_types m) h.result
      (among_left (flat_map (fixed_parts m) Gs) (pointees m (λ v. true)) h.result (among_flat (fixed_parts m) Gs g h.result there fixed))) in
      let w = misused h (found_in Gs p h at) (part_blocks g there h among) runtimes in
      record { holds = part_held g there holds h among; no_block = w.0; no_runtime = w.1 }
    where
      by_storage : (a b c : Bool) → (a && b) ≡ false → is_among (parts_of g) h.result ≡ true → is_among (if a && (b && c) then take (length g.args - 1) g.args else parts_of g) h.result ≡ true
      by_storage true true c none there = cc
      by_storage true false c none there = there
      by_storage false b c none there = there

  -- the length of an array that values use is an OpConstant
  used_length : (g : Inst) → IsAmong g Gs → IsUsed g → is g.op code.TypeArray ≡ true → (c : Inst) → global Gs (word g 1) ≡ Some c → is c.op code.Constant ≡ true
  used_length g there used on c at =
      let length_is : is_length m g.result c ≡ true =
      not-false (is_length m g.result c) (ap (λ o. option_map_or (λ (x : Inst). not (is_length m g.result x)) o (is_defined_elsewhere m (word g 1))) (sym at) ∙ and_off (is g.op code.TypeArray) (option_map_or (λ (x : Inst). not (is_length m g.result x)) (global Gs (word g 1)) (is_defined_elsewhere m (word g 1))) (of_form m entry right g there).2 on) in
      by_constant (is c.op code.Constant) length_is
    where
      by_constant : (b : Bool) → (if b then is_above_zero Gs c else (is_specialization c.op && is_workgroup_length m c g.result)) ≡ true → b ≡ true
      by_constant true e = refl
      by_constant false e = clash (sym used.holds ∙ not-true (is_held Gs (other_types m) g.result) (and_right (not (is_no_int Gs c) && is_held Gs (pointees m is_workgroup) g.result) (not (is_held Gs (other_types m) g.result)) (and_right (is_specialization c.op) (is_workgroup_length m c g.result) e)))

  -- so the shape of a type that values use has values, where those before it have
  module _ (g : Inst) (there : IsAmong g Gs) (used : IsUsed g) (known : (h : Inst) → IsAmong h Gs → h.at < g.at → IsUsed h → (u : Tree) → tree_at Gs h ≡ Some u → IsSized u) where
    part_sized : (p : ℕ) (u : Tree) → tree_before Gs g.at p ≡ Some u → is_among (parts_of g) p ≡ true → IsSized u
    part_sized p u e part = by_earlier (earlier Gs g.at p) refl (sym (tree_before_is Gs g.at p) ∙ e)
      where
        by_earlier : (o : Option Inst) → earlier Gs g.at p ≡ o → option_map_or (tree_at Gs) o None ≡ Some u → IsSized u
        by_earlier None at e = cc
        by_earlier (Some h) at e = let w = earlier_some Gs g.at p h at in known h (found_in Gs p h w.0) w.1 (part_used g there used.holds used.no_block p h part w.0) u e

    used_whole : (t : Tree) → tree_at Gs g ≡ Some t → IsSized t
    used_whole t shape =
        sized_by Gs (tree_before Gs g.at) g (λ p. is_among (parts_of g) p ≡ true) part_sized g.op t used.no_runtime
        (λ on. (array_part g.op g.args on (let many = array_least g.op (length g.args) on (right.formed g there).least in omega (arith, many)), used_length g there used on))
        (λ on p p_in. struct_part g.op g.args p on p_in) shape

  used_by : (n : ℕ) (g : Inst) → IsAmong g Gs → g.at < n → IsUsed g → (t : Tree) → tree_at Gs g ≡ Some t → IsSized t
  used_by zero g there less used t shape = absurd (omega (arith, less))
  used_by (suc n) g there less used t shape = used_whole g there used (λ h h_in before. used_by n h h_in (let low : h.at < n = omega (arith, less, before) in low)) t shape

  -- the types of instructions that are no variables
  pub body_type : (is : List Inst) (i : Inst) → IsAmong i is → is_variable i ≡ false → is_among (filter_map value_type is) i.ty ≡ true
  body_type [] i there off = absurd there
  body_type (j ∷ is) i (inl same) off = subst (λ (x : Inst). is_among (filter_map value_type (x ∷ is)) i.ty ≡ true) (sym same) (by_test (is_variable i) off)
    where
      by_test : (b : Bool) → b ≡ false → is_among (cons_option (if b then None else Some i.ty) (filter_map value_type is)) i.ty ≡ true
      by_test true e = cc
      by_test false e = or_on_left (i.ty == i.ty) (is_among (filter_map value_type is) i.ty) (grind (arith, nat_tests))
  body_type (j ∷ is) i (inr there) off = by_option (value_type j) (body_type is i there off)
    where
      by_option : (o : Option ℕ) → is_among (filter_map value_type is) i.ty ≡ true → is_among (cons_option o (filter_map value_type is)) i.ty ≡ true
      by_option None e = e
      by_option (Some x) e = or_on_right (x == i.ty) (is_among (filter_map value_type is) i.ty) e

  held_own : (list : List Inst) (types : List ℕ) (id : ℕ) → is_among types id ≡ true → is_among (held list types) id ≡ true
  held_own [] types id there = there
  held_own (t ∷ ts) types id there = grow t (held ts types) id (held_own ts types id there)

  pub used_sized : (i : Inst) → IsAmong i (body_insts m) → is_variable i ≡ false → (t : Tree) → type_tree Gs i.ty ≡ Some t → IsSized t
  used_sized i there off t shape = by_global (global Gs i.ty) refl shape
    where
      among : is_among (value_types m) i.ty ≡ true
      among = body_type (body_insts m) i there off

      by_global : (o : Option Inst) → global Gs i.ty ≡ o → option_map_or (tree_at Gs) o None ≡ Some t → IsSized t
      by_global None at e = cc
      by_global (Some g) at e =
          let own : g.result ≡ i.ty = named Gs i.ty g at in
          let mine : is_among (value_types m) g.result ≡ true = subst (λ x. is_among (value_types m) x ≡ true) (sym own) among in
          let blocks : is_among (block_misuses m) g.result ≡ true =
          among_left (flat_map parts_of Gs ++ pointees m (λ v. not (is_some_block m.heads m.globals v)) ++ value_types m) (signature_types m) g.result
          (among_right (flat_map parts_of Gs ++ pointees m (λ v. not (is_some_block m.heads m.globals v))) (value_types m) g.result mine) in
          let runtimes : is_among (runtime_misuses m) g.result ≡ true =
          among_left (flat_map (fixed_parts m) Gs ++ pointees m (λ v. true) ++ value_types m) (signature_types m) g.result
          (among_right (flat_map (fixed_parts m) Gs ++ pointees m (λ v. true)) (value_types m) g.result mine) in
          let w = misused g (found_in Gs i.ty g at) blocks runtimes in
          used_by (suc g.at) g (found_in Gs i.ty g at) (let less : g.at < suc g.at = omega arith in less)
          (record { holds = held_own Gs (other_types m) g.result (among_right (pointees m (λ v. not (is_workgroup v))) (value_types m) g.result mine); no_block = w.0; no_runtime = w.1 }) t e

  -- so has the type that a variable points to which is neither a block nor of class Workgroup
  pub pointee_among : (test : Inst → Bool) (is : List Inst) (v : Inst) (q : ℕ) → IsAmong v is → is_variable v ≡ true → test v ≡ true → pointee Gs v.ty ≡ Some q → is_among (filter_map (pointee_by Gs test) is) q ≡ true
  pointee_among test [] v q there on passed at = absurd there
  pointee_among test (j ∷ is) v q (inl same) on passed at =
      subst (λ (x : Inst). is_among (filter_map (pointee_by Gs test) (x ∷ is)) q ≡ true) (sym same)
      (subst (λ o. is_among (cons_option o (filter_map (pointee_by Gs test) is)) q ≡ true) (sym (ap (λ (b : Bool). if b && test v then pointee Gs v.ty else None) on ∙ (ap (λ (b : Bool). if b then pointee Gs v.ty else None) passed ∙ at))) (or_on_left (q == q) (is_among (filter_map (pointee_by Gs test) is) q) (grind (arith, nat_tests))))
  pointee_among test (j ∷ is) v q (inr there) on passed at = by_option (pointee_by Gs test j) (pointee_among test is v q there on passed at)
    where
      by_option : (o : Option ℕ) → is_among (filter_map (pointee_by Gs test) is) q ≡ true → is_among (cons_option o (filter_map (pointee_by Gs test) is)) q ≡ true
      by_option None e = e
      by_option (Some x) e = or_on_right (x == q) (is_among (filter_map (pointee_by Gs test) is) q) e

  pub pointee_sized : (v : Inst) (q : ℕ) → IsAmong v (body_insts m) → is_variable v ≡ true → is_workgroup v ≡ false → is_some_block m.heads Gs v ≡ false → pointee Gs v.ty ≡ Some q → (t : Tree) → type_tree Gs q ≡ Some t → IsSized t
  pointee_sized v q there on own block_off at t shape = by_global (global Gs q) refl shape
    where
      among : (test : Inst → Bool) → test v ≡ true → is_among (pointees m test) q ≡ true
      among test passed = pointee_among test (body_insts m) v q there on passed at

      by_global : (o : Option Inst) → global Gs q ≡ o → option_map_or (tree_at Gs) o None ≡ Some t → IsSized t
      by_global None at e = cc
      by_global (Some g) at e =
          let here : g.result ≡ q = named Gs q g at in
          let mine : (test : Inst → Bool) → test v ≡ true → is_among (pointees m test) g.result ≡ true = λ test passed. subst (λ x. is_among (pointees m test) x ≡ true) (sym here) (among test passed) in
          let blocks : is_among (block_misuses m) g.result ≡ true =
          among_left (flat_map parts_of Gs ++ pointees m (λ v. not (is_some_block m.heads m.globals v)) ++ value_types m) (signature_types m) g.result
          (among_left (flat_map parts_of Gs ++ pointees m (λ v. not (is_some_block m.heads m.globals v))) (value_types m) g.result
          (among_right (flat_map parts_of Gs) (pointees m (λ v. not (is_some_block m.heads m.globals v))) g.result (mine (λ v. not (is_some_block m.heads m.globals v)) (ap not block_off)))) in
          let runtimes : is_among (runtime_misuses m) g.result ≡ true =
          among_left (flat_map (fixed_parts m) Gs ++ pointees m (λ v. true) ++ value_types m) (signature_types m) g.result
          (among_left (flat_map (fixed_parts m) Gs ++ pointees m (λ v. true)) (value_types m) g.result
          (among_right (flat_map (fixed_parts m) Gs) (pointees m (λ v. true)) g.result (mine (λ v. true) refl))) in
          let w = misused g (found_in Gs q g at) blocks runtimes in
          used_by (suc g.at) g (found_in Gs q g at) (let less : g.at < suc g.at = omega arith in less)
          (record { holds = held_own Gs (other_types m) g.result (among_left (pointees m (λ v. not (is_workgroup v))) (value_types m) g.result (mine (λ v. not (is_workgroup v)) (ap not own))); no_block = w.0; no_runtime = w.1 }) t e

  -- a part of what no variable of a workgroup points to
  member_of : (g : Inst) → IsAmong g Gs → is_held Gs (other_types m) g.result ≡ true → (p : ℕ) (h : Inst) → is_among (parts_of g) p ≡ true → global Gs p ≡ Some h → (u : Tree) → tree_at Gs h ≡ Some u → IsMemberSized u
  member_of g there holds p h part at u shape = by_test (is h.op code.TypeRuntimeArray) refl
    where
      h_in : IsAmong h Gs
      h_in = found_in Gs p h at

      among : is_among (parts_of g) h.result ≡ true
      among = part_among g p h part at

      h_holds : is_held Gs (other_types m) h.result ≡ true
      h_holds = part_held g there holds h among

      by_element : (on : is h.op code.TypeRuntimeArray ≡ true) (t : Tree) (o : Option Inst) → earlier Gs h.at (slice_index h.args 0) ≡ o → option_map_or (tree_at Gs) o None ≡ Some t → IsSized t
      by_element on t None found e = cc
      by_element on t (Some k) found e =
          let w = earlier_some Gs h.at (slice_index h.args 0) k found in
          let inside : 0 < length h.args = runtime_least h.op (length h.args) on (right.formed h h_in).least in
          used_by (suc k.at) k (found_in Gs (slice_index h.args 0) k w.0) (let less : k.at < suc k.at = omega arith in less)
          (part_used h h_in h_holds (no_struct h.op (is_block m.heads h.result) on) (slice_index h.args 0) k (runtime_part h.op h.args on inside) w.0) t e

      by_test : (b : Bool) → is h.op code.TypeRuntimeArray ≡ b → IsMemberSized u
      by_test false off =
          inl (used_by (suc h.at) h h_in (let less : h.at < suc h.at = omega arith in less) (record { holds = h_holds; no_block = unblocked h h_in (part_blocks g there h among); no_runtime = off }) u shape)
      by_test true on =
          let w = runtime_shape Gs (tree_before Gs h.at) h h.op u on shape in
          inr (w.0, w.2, by_element on w.0 (earlier Gs h.at (slice_index h.args 0)) refl (sym (tree_before_is Gs h.at (slice_index h.args 0)) ∙ w.1))

  -- so has each part of the type that a variable points to which is not of class Workgroup
  pub member_sized : (v : Inst) (q : ℕ) (g : Inst) → IsAmong v (body_insts m) → is_variable v ≡ true → is_workgroup v ≡ false → pointee Gs v.ty ≡ Some q → global Gs q ≡ Some g → (p : ℕ) (h : Inst) → is_among (parts_of g) p ≡ true → global Gs p ≡ Some h → (u : Tree) → tree_at Gs h ≡ Some u → IsMemberSized u
  member_sized v q g there on own points at p h part found u shape =
      let among : is_among (pointees m (λ v. not (is_workgroup v))) q ≡ true = pointee_among (λ v. not (is_workgroup v)) (body_insts m) v q there on (ap not own) points in
      let mine : is_among (pointees m (λ v. not (is_workgroup v))) g.result ≡ true = subst (λ x. is_among (pointees m (λ v. not (is_workgroup v))) x ≡ true) (sym (named Gs q g at)) among in
      member_of g (found_in Gs q g at) (held_own Gs (other_types m) g.result (among_left (pointees m (λ v. not (is_workgroup v))) (value_types m) g.result mine)) p h part found u shape
