-- The structs in a type of a conforming module, and the constants that give the lengths of its arrays, stand before what is of the type.
use Rattle.std.proofs.Common.{◌≡◌, ◌<◌, ◌≤◌, ◌+◌, ◌==◌, ◌||◌, ◌&&◌, ℕ, zero, suc, Bool, true, false, List, [], ◌∷◌, ◌++◌, length, take, not, Option, Some, None, inl, inr, refl, sym, ap, subst, ◌∙◌, if◌then◌else◌, arith}
use Rattle.std.specs.Prelude.{◌⊎◌, flat_map, fold, nat_le, option_map, option_and_then, slice_index}
use Rattle.std.specs.Option.{option_map_or}
use Rattle.std.specs.List.{list_any}
use Rattle.std.proofs.lemmas.Bool.Decides.{nat_tests}
use Rattle.std.proofs.lemmas.Bool.{or_left as or_on_left, or_right as or_on_right}
use Rattle.std.proofs.lemmas.Option.{same_Some}
use Rattle.spv_ops.specs.Opcode.{is, number}
use Rattle.spv_ops.specs.Groups.{is_constant as is_constant_op}
use Rattle.spv_ops.specs.Operands.{is_id}
use Rattle.spv_ops.specs.Shape.{shape}
use Rattle.spv_ops.specs.declared.Op.{Op}
use Rattle.spv_ops.specs.declared.Op.TheVariants as code
use Rattle.spv_module.specs.Held.{global}
use Rattle.spv_module.specs.Inst.{has_type}
use Rattle.spv_module.specs.State.{ModuleState}
use Rattle.spv_module.specs.declared.inst.Id.{Id}
use Rattle.spv_module.specs.declared.inst.Inst.{Inst}
use Rattle.spv_module.specs.declared.tree.Elem.{Elem}
use Rattle.spv_module.specs.declared.tree.Length.{Length}
use Rattle.spv_module.specs.declared.tree.Length.TheVariants.{Fixed, Spec}
use Rattle.spv_types.specs.declared.kind.TypeKind.{TypeKind}
use Rattle.spv_types.specs.declared.kind.TypeKind.TheVariants as kinds
use Rattle.spv_types.specs.Tree as plain
use Rattle.spv_types.specs.Tree.{Tree, Trees, no_trees, tree}
use Rattle.spv_types.specs.Types.{kind, elem_of, sized_vector, vector_tree, length_of, length_by, array_tree, both, all_trees, ids_by_kind, tree_by_kind, tree_before, tree_at, type_tree, earlier}
use Rattle.spv_types.proofs.Below.{tree_before_is}
use Rattle.spv_decor.specs.Decorations.{local_insts}
use Rattle.spv_index.specs.BlockStructs.{is_block, is_some_block}
use Rattle.spv_index.specs.Pointers.{pointee, as_pointer}
use Rattle.spv_index.specs.ValueTypes.{other_by, other_step, with_other, is_no_value_type}
use Rattle.profile_rules.specs.Operands.{need, type_need, suits, is_there}
use Rattle.profile_rules.specs.Places.{is_among, is_variable, body_insts}
use Rattle.profile_rules.specs.TypeForm.{parts_of, value_types, signature_types, pointees, block_misuses, runtime_misuses}
use Rattle.list_law.proofs.Options.{none_some}
use Rattle.plan_law.specs.InOrder.{IsAmong}
use Rattle.plan_law.proofs.Order.{among_left as inst_left}
use Rattle.fits_law.proofs.Steps.{named}
use Rattle.type_law.proofs.Parts.{struct_kind, array_op, struct_op}
use Rattle.global_law.proofs.Path.Types.{spec_is}
use Rattle.typed_law.specs.Conforms.{IsConforming}
use Rattle.typed_law.proofs.Lists.{or_left, or_right, and_off, found_in, earlier_some, some_by, from_zero}
use Rattle.typed_law.proofs.Rules.{type_there, operand_there, global_there, used_type}
use Rattle.typed_law.proofs.Used.{among_left, among_right, global_found, among_flat, body_type, pointee_among}
use Rattle.typed_law.proofs.Types.{pointer_id}
use Rattle.typed_law.proofs.Calls.{variable_typed}
use Rattle.global_law.specs.Within.{IsStructBefore, IsLengthBefore, IsWithin, AreWithin, IsNoBlock, Anything}

middle_off : (a b c d : Bool) → a ≡ true → c ≡ true → (a && b && c || d) ≡ false → b ≡ false
middle_off true false c d on has e = refl
middle_off true true true d on has e = cc
middle_off true true false d on has e = cc
middle_off false b c d on has e = cc

-- opcodes
array_ids : (o : Op) (args : List ℕ) (k : ℕ) → kind o ≡ kinds.Array → is_id o args k ≡ true
unfolding kind is_id
array_ids code.TypeArray args k e = from_zero k
array_ids o args k e = cc

pub typed_constant : (o : Op) → is_constant_op o ≡ true → has_type o ≡ true
unfolding shape
typed_constant code.ConstantTrue on = refl
typed_constant o on = cc

pub constant_no_variable : (o : Op) → is_constant_op o ≡ true → is o code.Variable ≡ false
unfolding number
constant_no_variable code.Variable on = cc
constant_no_variable o on = refl

spec_other : (o : Op) (q w : ℕ) (l : Id) → length_of o q w ≡ Some (Spec l) → is o code.Constant ≡ false
unfolding number
spec_other code.Constant q w l e = cc
spec_other o q w l e = refl

two_to_four : (n : ℕ) → nat_le 2 n ≡ true → nat_le n 4 ≡ true → (n ≡ 2) ⊎ ((n ≡ 3) ⊎ (n ≡ 4))
two_to_four n a b = by_number n (let low : 2 ≤ n = grind (arith, nat_tests, a) in low) (let high : n ≤ 4 = grind (arith, nat_tests, b) in high)
  where
    by_number : (n : ℕ) → 2 ≤ n → n ≤ 4 → (n ≡ 2) ⊎ ((n ≡ 3) ⊎ (n ≡ 4))
    by_number zero low high = absurd (omega (arith, low))
    by_number (suc zero) low high = absurd (omega (arith, low))
    by_number (suc (suc zero)) low high = inl refl
    by_number (suc (suc (suc zero))) low high = inr (inl refl)
    by_number (suc (suc (suc (suc zero)))) low high = inr (inr refl)
    by_number (suc (suc (suc (suc (suc n))))) low high = absurd (omega (arith, high))

pub other_struct : (heads gs : List Inst) (f : ℕ → Bool) (g : Inst) (o : Op) → is o code.TypeStruct ≡ true → other_by heads gs f g o ≡ false → is_block heads g.result ≡ false
unfolding number
other_struct heads gs f g code.TypeStruct on off = or_left (is_block heads g.result) (list_any f g.args) off
other_struct heads gs f g o on off = cc

-- of a later word as well
module _ (Q : Inst → Type 0) (m : ModuleState) (n k : ℕ) (le : n ≤ k) where
  wider_length : (l : Length) → IsLengthBefore m n l → IsLengthBefore m k l
  wider_length (Fixed j) w = tt
  wider_length (Spec l) w = record { inst = w.inst; there = w.there; less = (let less = w.less in let low : w.inst.at < k = omega (arith, less, le) in low); specialized = w.specialized; array = w.array; among = w.among; opcode = w.opcode; length = w.length }

  wider_struct : (j : ℕ) (ts : Trees) → IsStructBefore Q m n j ts → IsStructBefore Q m k j ts
  wider_struct j ts w = record { inst = w.inst; there = w.there; opcode = w.opcode; members = w.members; less = (let less = w.less in let low : w.inst.at < k = omega (arith, less, le) in low); asked = w.asked }

  mutual
    pub wider : (t : Tree) → IsWithin Q m n t → IsWithin Q m k t
    wider plain.boolean w = tt
    wider plain.int w = tt
    wider plain.uint w = tt
    wider (plain.vector e j) w = w
    wider (plain.array t l) w = (wider t w.0, wider_length l w.1)
    wider (plain.runtime t) w = wider t w
    wider (plain.struct j ts) w = (wider_struct j ts w.0, all_wider ts w.1)

    pub all_wider : (ts : Trees) → AreWithin Q m n ts → AreWithin Q m k ts
    all_wider no_trees w = tt
    all_wider (tree t ts) w = (wider t w.0, all_wider ts w.1)

module _ (m : ModuleState) (entry : Option (List ℕ)) (right : IsConforming m entry) where
  abbrev Gs : List Inst
  Gs = m.globals

  -- P17: a struct that is a part, or of which values are, is no block
  unblocked_by : (h : Inst) → IsAmong h Gs → is h.op code.TypeStruct ≡ true → is_among (block_misuses m) h.result ≡ true → is_block m.heads h.result ≡ false
  unblocked_by h there on misused =
      middle_off (is h.op code.TypeStruct) (is_block m.heads h.result) (is_among (block_misuses m) h.result) ((is h.op code.TypeRuntimeArray) && is_among (runtime_misuses m) h.result) on misused (used_type m entry right h there)

  part_plain : (g h : Inst) (p : ℕ) → IsAmong g Gs → is_among (parts_of g) p ≡ true → global Gs p ≡ Some h → is h.op code.TypeStruct ≡ true → is_block m.heads h.result ≡ false
  part_plain g h p there part at on =
      let among : is_among (parts_of g) h.result ≡ true = subst (λ x. is_among (parts_of g) x ≡ true) (sym (named Gs p h at)) part in
      unblocked_by h (found_in Gs p h at) on
      (among_left (flat_map parts_of Gs ++ pointees m (λ v. not (is_some_block m.heads m.globals v)) ++ value_types m) (signature_types m) h.result
      (among_left (flat_map parts_of Gs ++ pointees m (λ v. not (is_some_block m.heads m.globals v))) (value_types m) h.result
      (among_left (flat_map parts_of Gs) (pointees m (λ v. not (is_some_block m.heads m.globals v))) h.result (among_flat parts_of Gs g h.result there among))))

  -- no operand is 0
  first_among : (args : List ℕ) (h : Inst) → global Gs (slice_index args 0) ≡ Some h → is_among (take 1 args) (slice_index args 0) ≡ true
  first_among [] h at = none_some (sym right.results.none ∙ at)
  first_among (a ∷ args) h at = or_on_left (a == a) false (grind (arith, nat_tests))

  second_less : (args : List ℕ) (h : Inst) → global Gs (slice_index args 1) ≡ Some h → 1 < length args
  second_less [] h at = none_some (sym right.results.none ∙ at)
  second_less (a ∷ []) h at = none_some (sym right.results.none ∙ at)
  second_less (a ∷ b ∷ args) h at = omega arith

  -- what an operand of a global is stands before it
  pub operand_before : (g h : Inst) (k : ℕ) → IsAmong g Gs → k < length g.args → is_id g.op g.args k ≡ true → global Gs (slice_index g.args k) ≡ Some h → h.at < g.at
  operand_before g h k there inside has at =
      let c = some_by (suits (need g.op k)) (earlier Gs g.at (slice_index g.args k)) (operand_there (is_there Gs g.at) g (global_there m entry right g there) k inside has) in
      let w = earlier_some Gs g.at (slice_index g.args k) c.0 c.1 in
      subst (λ (x : Inst). x.at < g.at) (same_Some c.0 h (sym w.0 ∙ at)) w.1

  -- the type of a global stands before it
  pub type_before : (g : Inst) → IsAmong g Gs → has_type g.op ≡ true → (h : Inst) × (global Gs g.ty ≡ Some h) × (h.at < g.at)
  type_before g there has =
      let c = some_by (suits (type_need g.op)) (earlier Gs g.at g.ty) (type_there (is_there Gs g.at) g (global_there m entry right g there) has) in
      let w = earlier_some Gs g.at g.ty c.0 c.1 in
      (c.0, w.0, w.1)

  -- what is asked holds of parts that are structs
  module _ (Q : Inst → Type 0) (of_parts : (g h : Inst) (p : ℕ) → IsAmong g Gs → is_among (parts_of g) p ≡ true → global Gs p ≡ Some h → is h.op code.TypeStruct ≡ true → Q h) where
    abbrev pub IsAsked : Inst → Type 0
    IsAsked g = is g.op code.TypeStruct ≡ true → Q g

    module _ (g : Inst) (there : IsAmong g Gs) (known : (h : Inst) → IsAmong h Gs → h.at < g.at → (u : Tree) → tree_at Gs h ≡ Some u → IsAsked h → IsWithin Q m (h.at + 1) u) where
      abbrev In : Tree → Type 0
      In t = IsWithin Q m (g.at + 1) t

      part_within : (p : ℕ) (u : Tree) → tree_before Gs g.at p ≡ Some u → ((h : Inst) → global Gs p ≡ Some h → is_among (parts_of g) p ≡ true) → IsWithin Q m g.at u
      part_within p u e part = by_earlier (earlier Gs g.at p) refl (sym (tree_before_is Gs g.at p) ∙ e)
        where
          by_earlier : (o : Option Inst) → earlier Gs g.at p ≡ o → option_map_or (tree_at Gs) o None ≡ Some u → IsWithin Q m g.at u
          by_earlier None at e = none_some e
          by_earlier (Some h) at e =
              let w = earlier_some Gs g.at p h at in
              let less = w.1 in
              wider Q m (h.at + 1) g.at (let low : h.at + 1 ≤ g.at = omega (arith, less) in low) u (known h (found_in Gs p h w.0) w.1 u e (λ on. of_parts g h p there (part h w.0) w.0 on))

      members_within : (ids : List ℕ) (ts : Trees) → all_trees (tree_before Gs g.at) ids ≡ Some ts → ((p : ℕ) → is_among ids p ≡ true → is_among (parts_of g) p ≡ true) → AreWithin Q m g.at ts
      members_within [] ts all parts = subst (AreWithin Q m g.at) (same_Some no_trees ts all) tt
      members_within (p ∷ ps) ts all parts = by_parts (tree_before Gs g.at p) refl (all_trees (tree_before Gs g.at) ps) refl all (λ us more. members_within ps us more (λ q among. parts q (or_on_right (p == q) (is_among ps q) among)))
        where
          by_parts : (o : Option Tree) → tree_before Gs g.at p ≡ o → (q : Option Trees) → all_trees (tree_before Gs g.at) ps ≡ q → both o q ≡ Some ts → ((us : Trees) → all_trees (tree_before Gs g.at) ps ≡ Some us → AreWithin Q m g.at us) → AreWithin Q m g.at ts
          by_parts None at q more e later = none_some e
          by_parts (Some u) at None more e later = none_some e
          by_parts (Some u) at (Some us) more e later = subst (AreWithin Q m g.at) (same_Some (tree u us) ts e) (part_within p u at (λ h here. parts p (or_on_left (p == p) (is_among ps p) (grind (arith, nat_tests)))), later us more)

      next : g.at ≤ g.at + 1
      next = omega arith

      int_within : (w a b : Bool) (t : Tree) → (if w then (if a then Some plain.uint else (if b then Some plain.int else None)) else None) ≡ Some t → In t
      int_within true true b t e = subst In (same_Some plain.uint t e) tt
      int_within true false true t e = subst In (same_Some plain.int t e) tt
      int_within true false false t e = none_some e
      int_within false a b t e = none_some e

      vector_within : (n : ℕ) (o : Option Tree) (t : Tree) → vector_tree o n ≡ Some t → In t
      vector_within n None t e = none_some e
      vector_within n (Some u) t e = by_elem (elem_of u) e
        where
          by_size : (d : Elem) (a b : Bool) → nat_le 2 n ≡ a → nat_le n 4 ≡ b → (if a && b then Some (plain.vector d n) else None) ≡ Some t → In t
          by_size d true true low high e = subst In (same_Some (plain.vector d n) t e) (two_to_four n low high)
          by_size d true false low high e = none_some e
          by_size d false b low high e = none_some e

          by_elem : (o : Option Elem) → option_map_or (sized_vector n) o None ≡ Some t → In t
          by_elem None e = none_some e
          by_elem (Some d) e = by_size d (nat_le 2 n) (nat_le n 4) refl refl e

      -- the parts of an array, and of a struct
      first_part : (k : TypeKind) → kind g.op ≡ k → (k ≡ kinds.Array) ⊎ (k ≡ kinds.Runtime) → (h : Inst) → global Gs (slice_index g.args 0) ≡ Some h → is_among (parts_of g) (slice_index g.args 0) ≡ true
      first_part k at (inl e) h here = subst (λ q. is_among (option_map_or (λ (ids : List ℕ). ids) (ids_by_kind q g.args) []) (slice_index g.args 0) ≡ true) (sym (at ∙ e)) (first_among g.args h here)
      first_part k at (inr e) h here = subst (λ q. is_among (option_map_or (λ (ids : List ℕ). ids) (ids_by_kind q g.args) []) (slice_index g.args 0) ≡ true) (sym (at ∙ e)) (first_among g.args h here)

      member_part : kind g.op ≡ kinds.Struct → (p : ℕ) → is_among g.args p ≡ true → is_among (parts_of g) p ≡ true
      member_part at p among = subst (λ q. is_among (option_map_or (λ (ids : List ℕ). ids) (ids_by_kind q g.args) []) p ≡ true) (sym at) among

      array_within : kind g.op ≡ kinds.Array → (o : Option Tree) → tree_before Gs g.at (slice_index g.args 0) ≡ o → (q : Option Inst) → global Gs (slice_index g.args 1) ≡ q → (t : Tree) → array_tree o (length_by (slice_index g.args 1) q) ≡ Some t → In t
      array_within at None first q second t e = none_some e
      array_within at (Some u) first None second t e = none_some e
      array_within at (Some u) first (Some c) second t e = by_length (length_of c.op (slice_index g.args 1) (slice_index c.args 0)) refl e
        where
          is_before : (l : Length) → length_of c.op (slice_index g.args 1) (slice_index c.args 0) ≡ Some l → IsLengthBefore m (g.at + 1) l
          is_before (Fixed k) l_is = tt
          is_before (Spec l) l_is =
              let less = operand_before g c 1 there (second_less g.args c second) (array_ids g.op g.args 1 at) second in
              let number = spec_is c.op (slice_index g.args 1) (slice_index c.args 0) l l_is in
              record {
                inst = c;
                there = ap (global Gs) number ∙ second;
                less = (let low : c.at < g.at + 1 = omega (arith, less) in low);
                specialized = spec_other c.op (slice_index g.args 1) (slice_index c.args 0) l l_is;
                array = g;
                among = there;
                opcode = array_op g.op at;
                length = sym number;
              }

          by_length : (l : Option Length) → length_of c.op (slice_index g.args 1) (slice_index c.args 0) ≡ l → array_tree (Some u) l ≡ Some t → In t
          by_length None l_is e = none_some e
          by_length (Some l) l_is e = subst In (same_Some (plain.array u l) t e) (wider Q m g.at (g.at + 1) next u (part_within (slice_index g.args 0) u first (first_part kinds.Array at (inl refl))), is_before l l_is)

      runtime_within : kind g.op ≡ kinds.Runtime → (o : Option Tree) → tree_before Gs g.at (slice_index g.args 0) ≡ o → (t : Tree) → option_map plain.runtime o ≡ Some t → In t
      runtime_within at None first t e = none_some e
      runtime_within at (Some u) first t e = subst In (same_Some (plain.runtime u) t e) (wider Q m g.at (g.at + 1) next u (part_within (slice_index g.args 0) u first (first_part kinds.Runtime at (inr refl))))

      struct_within : kind g.op ≡ kinds.Struct → IsAsked g → (o : Option Trees) → all_trees (tree_before Gs g.at) g.args ≡ o → (t : Tree) → option_map (plain.struct g.result) o ≡ Some t → In t
      struct_within at top None all t e = none_some e
      struct_within at top (Some ts) all t e =
          let opcode = struct_op g.op at in
          subst In (same_Some (plain.struct g.result ts) t e) (
            record { inst = g; there = global_found m entry right g there; opcode = opcode; members = all; less = (let low : g.at < g.at + 1 = omega arith in low); asked = top opcode },
            all_wider Q m g.at (g.at + 1) next ts (members_within g.args ts all (member_part at)),
          )

      by_kind : (k : TypeKind) → kind g.op ≡ k → (t : Tree) → tree_by_kind Gs (tree_before Gs g.at) g k ≡ Some t → IsAsked g → In t
      by_kind kinds.Bool at t e top = subst In (same_Some plain.boolean t e) tt
      by_kind kinds.Int at t e top = int_within (slice_index g.args 0 == 32) (slice_index g.args 1 == 0) (slice_index g.args 1 == 1) t e
      by_kind kinds.Vector at t e top = vector_within (slice_index g.args 1) (tree_before Gs g.at (slice_index g.args 0)) t e
      by_kind kinds.Array at t e top = array_within at (tree_before Gs g.at (slice_index g.args 0)) refl (global Gs (slice_index g.args 1)) refl t e
      by_kind kinds.Runtime at t e top = runtime_within at (tree_before Gs g.at (slice_index g.args 0)) refl t e
      by_kind kinds.Struct at t e top = struct_within at top (all_trees (tree_before Gs g.at) g.args) refl t e
      by_kind kinds.Other at t e top = none_some e

    within_by : (n : ℕ) (g : Inst) → IsAmong g Gs → g.at < n → (t : Tree) → tree_at Gs g ≡ Some t → IsAsked g → IsWithin Q m (g.at + 1) t
    within_by zero g there less t e top = absurd (omega (arith, less))
    within_by (suc n) g there less t e top = by_kind g there (λ h among before u whole asked. within_by n h among (let low : h.at < n = omega (arith, less, before) in low) u whole asked) (kind g.op) refl t e top

    -- a type, where it is asked
    pub type_within : (g : Inst) (t : Tree) → IsAmong g Gs → tree_at Gs g ≡ Some t → IsAsked g → IsWithin Q m (g.at + 1) t
    type_within g t there e top = within_by (suc g.at) g there (let low : g.at < suc g.at = omega arith in low) t e top

    -- the members of a struct, also of a block
    pub block_within : (g : Inst) (ts : Trees) → IsAmong g Gs → is g.op code.TypeStruct ≡ true → all_trees (tree_before Gs g.at) g.args ≡ Some ts → AreWithin Q m g.at ts
    block_within g ts there on all = members_within g there (λ h among before u whole asked. within_by (suc h.at) h among (let low : h.at < suc h.at = omega arith in low) u whole asked) g.args ts all (member_part g there (λ h among before u whole asked. within_by (suc h.at) h among (let low : h.at < suc h.at = omega arith in low) u whole asked) (struct_kind g.op on))

  -- so a value's type is used where a block may not be
  pub value_misused : (i : Inst) → IsAmong i (body_insts m) → is_variable i ≡ false → is_among (block_misuses m) i.ty ≡ true
  value_misused i there off =
      among_left (flat_map parts_of Gs ++ pointees m (λ v. not (is_some_block m.heads m.globals v)) ++ value_types m) (signature_types m) i.ty
      (among_right (flat_map parts_of Gs ++ pointees m (λ v. not (is_some_block m.heads m.globals v))) (value_types m) i.ty (body_type m entry right (body_insts m) i there off))

  pub constant_within : (h : Inst) (t : Tree) → IsAmong h Gs → is_constant_op h.op ≡ true → type_tree Gs h.ty ≡ Some t → IsWithin (IsNoBlock m) m h.at t
  constant_within h t there on shape =
      let c = type_before h there (typed_constant h.op on) in
      let less = c.2 in
      let among = found_in Gs h.ty c.0 c.1 in
      let misused : is_among (block_misuses m) c.0.result ≡ true = subst (λ x. is_among (block_misuses m) x ≡ true) (sym (named Gs h.ty c.0 c.1)) (value_misused h (inst_left h Gs (local_insts m) there) (constant_no_variable h.op on)) in
      wider (IsNoBlock m) m (c.0.at + 1) h.at (let low : c.0.at + 1 ≤ h.at = omega (arith, less) in low) t
      (type_within (IsNoBlock m) part_plain c.0 t among (sym (ap (λ o. option_map_or (tree_at Gs) o None) c.1) ∙ shape) (λ opcode. unblocked_by c.0 among opcode misused))

  pub pointee_misused : (v : Inst) (q : ℕ) → IsAmong v (body_insts m) → is_variable v ≡ true → is_some_block m.heads Gs v ≡ false → pointee Gs v.ty ≡ Some q → is_among (block_misuses m) q ≡ true
  pointee_misused v q there on off at =
      among_left (flat_map parts_of Gs ++ pointees m (λ v. not (is_some_block m.heads m.globals v)) ++ value_types m) (signature_types m) q
      (among_left (flat_map parts_of Gs ++ pointees m (λ v. not (is_some_block m.heads m.globals v))) (value_types m) q
      (among_right (flat_map parts_of Gs) (pointees m (λ v. not (is_some_block m.heads m.globals v))) q (pointee_among m entry right (λ v. not (is_some_block m.heads m.globals v)) (body_insts m) v q there on (ap not off) at)))

  -- the row of the type to which a variable points stands before the variable
  pub pointee_before : (v : Inst) (q : ℕ) (h : Inst) → IsAmong v Gs → is_variable v ≡ true → pointee Gs v.ty ≡ Some q → global Gs q ≡ Some h → h.at < v.at
  pointee_before v q h there on at here = by_pointer (is c.0.op code.TypePointer) refl (ap (λ o. option_map (λ (p : Inst). slice_index p.args 1) (option_and_then as_pointer o)) (sym c.1) ∙ at)
    where
      c : (p : Inst) × (global Gs v.ty ≡ Some p) × (p.at < v.at)
      c = type_before v there (variable_typed v.op on)

      by_pointer : (b : Bool) → is c.0.op code.TypePointer ≡ b → option_map (λ (p : Inst). slice_index p.args 1) (if b then Some c.0 else None) ≡ Some q → h.at < v.at
      by_pointer true pointer e =
          let same : slice_index c.0.args 1 ≡ q = same_Some (slice_index c.0.args 1) q e in
          let row : global Gs (slice_index c.0.args 1) ≡ Some h = ap (global Gs) same ∙ here in
          let first = operand_before c.0 h 1 (found_in Gs v.ty c.0 c.1) (second_less c.0.args h row) (pointer_id c.0.op c.0.args pointer) row in
          let second = c.2 in
          omega (arith, first, second)
      by_pointer false pointer e = none_some e

  pub pointee_within : (v : Inst) (q : ℕ) (t : Tree) → IsAmong v Gs → is_variable v ≡ true → is_some_block m.heads Gs v ≡ false → pointee Gs v.ty ≡ Some q → type_tree Gs q ≡ Some t → IsWithin (IsNoBlock m) m v.at t
  pointee_within v q t there on off at shape = by_global (global Gs q) refl shape
    where
      by_global : (o : Option Inst) → global Gs q ≡ o → option_map_or (tree_at Gs) o None ≡ Some t → IsWithin (IsNoBlock m) m v.at t
      by_global None here e = none_some e
      by_global (Some h) here e =
          let less = pointee_before v q h there on at here in
          let among = found_in Gs q h here in
          let misused : is_among (block_misuses m) h.result ≡ true = subst (λ x. is_among (block_misuses m) x ≡ true) (sym (named Gs q h here)) (pointee_misused v q (inst_left v Gs (local_insts m) there) on off at) in
          wider (IsNoBlock m) m (h.at + 1) v.at (let low : h.at + 1 ≤ v.at = omega (arith, less) in low) t (type_within (IsNoBlock m) part_plain h t among e (λ opcode. unblocked_by h among opcode misused))

  -- the members of a block
  pub members_unblocked : (g : Inst) (ts : Trees) → IsAmong g Gs → is g.op code.TypeStruct ≡ true → all_trees (tree_before Gs g.at) g.args ≡ Some ts → AreWithin (IsNoBlock m) m g.at ts
  members_unblocked g ts there on all = block_within (IsNoBlock m) part_plain g ts there on all

  -- any type is of structs and lengths of the module
  pub any_within : (ty : ℕ) (t : Tree) → type_tree Gs ty ≡ Some t → (n : ℕ) × IsWithin Anything m n t
  any_within ty t shape = by_global (global Gs ty) refl shape
    where
      by_global : (o : Option Inst) → global Gs ty ≡ o → option_map_or (tree_at Gs) o None ≡ Some t → (n : ℕ) × IsWithin Anything m n t
      by_global None at e = none_some e
      by_global (Some g) at e = (g.at + 1, type_within Anything (λ g h p there part at on. tt) g t (found_in Gs ty g at) e (λ on. tt))

  -- a type that is used where a block may not be
  pub misused_within : (ty : ℕ) (t : Tree) → is_among (block_misuses m) ty ≡ true → type_tree Gs ty ≡ Some t → (n : ℕ) × IsWithin (IsNoBlock m) m n t
  misused_within ty t misused shape = by_global (global Gs ty) refl shape
    where
      by_global : (o : Option Inst) → global Gs ty ≡ o → option_map_or (tree_at Gs) o None ≡ Some t → (n : ℕ) × IsWithin (IsNoBlock m) m n t
      by_global None at e = none_some e
      by_global (Some h) at e =
          let among = found_in Gs ty h at in
          (h.at + 1, type_within (IsNoBlock m) part_plain h t among e (λ opcode. unblocked_by h among opcode (subst (λ x. is_among (block_misuses m) x ≡ true) (sym (named Gs ty h at)) misused)))

  -- and a value type
  others_off : (gs : List Inst) (others : ℕ → Bool) (n : ℕ) → fold (with_other m.heads Gs) others gs n ≡ false → others n ≡ false
  others_off [] others n off = off
  others_off (x ∷ gs) others n off = or_left (others n) ((x.result == n) && other_step m.heads Gs others x) (others_off gs (with_other m.heads Gs others x) n off)

  unblocked_value : (gs : List Inst) (others : ℕ → Bool) (g : Inst) → IsAmong g gs → fold (with_other m.heads Gs) others gs g.result ≡ false → is g.op code.TypeStruct ≡ true → is_block m.heads g.result ≡ false
  unblocked_value [] others g there off on = absurd there
  unblocked_value (x ∷ gs) others g (inl same) off on =
      let here = or_right (others g.result) ((x.result == g.result) && other_step m.heads Gs others x) (others_off gs (with_other m.heads Gs others x) g.result off) in
      let step = and_off (x.result == g.result) (other_step m.heads Gs others x) here (let one : x.result ≡ g.result = ap (λ (y : Inst). y.result) same in grind (arith, nat_tests, one)) in
      other_struct m.heads Gs others g g.op on (subst (λ (y : Inst). other_step m.heads Gs others y ≡ false) same step)
  unblocked_value (x ∷ gs) others g (inr there) off on = unblocked_value gs (with_other m.heads Gs others x) g there off on

  pub value_within : (ty : ℕ) (t : Tree) → is_no_value_type m.heads Gs ty ≡ false → type_tree Gs ty ≡ Some t → (n : ℕ) × IsWithin (IsNoBlock m) m n t
  value_within ty t off shape = by_global (global Gs ty) refl shape
    where
      by_global : (o : Option Inst) → global Gs ty ≡ o → option_map_or (tree_at Gs) o None ≡ Some t → (n : ℕ) × IsWithin (IsNoBlock m) m n t
      by_global None at e = none_some e
      by_global (Some h) at e =
          let among = found_in Gs ty h at in
          (h.at + 1, type_within (IsNoBlock m) part_plain h t among e (λ opcode. unblocked_value Gs (λ id. false) h among (subst (λ x. is_no_value_type m.heads Gs x ≡ false) (sym (named Gs ty h at)) off) opcode))
