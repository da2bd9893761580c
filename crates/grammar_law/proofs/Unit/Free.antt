-- A struct that is part of another type, or of which a value is, is no block's (P17).
use Rattle.std.proofs.Common.{◌≡◌, ◌<◌, ◌≤◌, ◌+◌, ◌&&◌, ◌||◌, ◌==◌, not, ℕ, zero, suc, Bool, true, false, List, [], ◌∷◌, ◌++◌, length, nat_le, Option, Some, None, option_map, inl, inr, refl, sym, ap, ◌∙◌, subst, arith, if◌then◌else◌}
use Rattle.std.specs.Prelude.{◌⊎◌, flat_map, slice_index}
use Rattle.std.specs.Option.{option_map_or}
use Rattle.std.proofs.lemmas.Bool.{and_from, false_from_ne_true, or_right}
use Rattle.std.proofs.lemmas.Option.{same_Some}
use Rattle.spv_ops.specs.Opcode.{is, number}
use Rattle.spv_ops.specs.Shape.{shape, count_of}
use Rattle.spv_ops.specs.declared.Op.{Op}
use Rattle.spv_ops.specs.declared.Op.TheVariants as code
use Rattle.spv_module.specs.Inst.{has_type, has_result}
use Rattle.spv_module.specs.State.{ModuleState}
use Rattle.spv_module.specs.Held.{global}
use Rattle.spv_module.specs.declared.inst.Inst.{Inst}
use Rattle.spv_module.specs.declared.tree.Elem.{Elem}
use Rattle.spv_module.specs.declared.tree.Length.{Length}
use Rattle.spv_types.specs.Tree.{Tree, boolean, int, uint, vector, array, runtime, struct, Trees, no_trees, tree}
use Rattle.spv_types.specs.declared.kind.TypeKind.{TypeKind}
use Rattle.spv_types.specs.declared.kind.TypeKind.TheVariants as kinds
use Rattle.spv_types.specs.Types.{kind, ids_by_kind, elem_of, sized_vector, vector_tree, length_by, array_tree, both, all_trees, tree_by_kind, tree_before, tree_at, type_tree, earlier}
use Rattle.spv_types.proofs.Below.{tree_before_is}
use Rattle.spv_index.specs.BlockStructs.{is_block, is_some_block}
use Rattle.profile_rules.specs.Places.{is_among}
use Rattle.profile_rules.specs.TypeForm.{parts_of, pointees, value_types, signature_types, block_misuses, runtime_misuses}
use Rattle.text_rules.specs.Printed.{has_struct, have_struct}
use Rattle.list_law.proofs.Numbers.{same_number}
use Rattle.list_law.proofs.Tests.{off_on}
use Rattle.type_law.proofs.Parts.{array_op, struct_op}
use Rattle.typed_law.specs.Conforms.{IsConforming}
use Rattle.typed_law.proofs.Lists.{or_left, clash, earlier_some}
use Rattle.typed_law.proofs.Rules.{used_type}
use Rattle.typed_law.proofs.Used.{among_left, among_right, struct_part, first_among}
use Rattle.claim_law.specs.Claimed.{IsIn}
use Rattle.claim_law.proofs.Claim.Constants.{found_in}
use Rattle.grammar_law.proofs.Unit.Lists.{as_among}

in_flat_list : (f : Inst → List ℕ) (xs : List Inst) (x : Inst) (id : ℕ) → IsIn x xs → is_among (f x) id ≡ true → is_among (flat_map f xs) id ≡ true
in_flat_list f [] x id there own = absurd there
in_flat_list f (y ∷ xs) x id (inl same) own = among_left (f y) (flat_map f xs) id (subst (λ (z : Inst). is_among (f z) id ≡ true) (sym same) own)
in_flat_list f (y ∷ xs) x id (inr there) own = among_right (f y) (flat_map f xs) id (in_flat_list f xs x id there own)

-- the parts of types
element_part : (o : Op) (args : List ℕ) → (is o code.TypeArray ≡ true) ⊎ (is o code.TypeRuntimeArray ≡ true) → (shape o).least ≤ 1 + count_of (has_type o) + count_of (has_result o) + length args
    → is_among (option_map_or (λ (ids : List ℕ). ids) (ids_by_kind (kind o) args) []) (slice_index args 0) ≡ true
unfolding kind number shape
element_part code.TypeArray [] on least = absurd (omega (arith, least))
element_part code.TypeArray (a ∷ args) on least = first_among a []
element_part code.TypeRuntimeArray [] on least = absurd (omega (arith, least))
element_part code.TypeRuntimeArray (a ∷ args) on least = first_among a []
element_part o args (inl on) least = cc
element_part o args (inr on) least = cc

runtime_op : (o : Op) → kind o ≡ kinds.Runtime → is o code.TypeRuntimeArray ≡ true
unfolding kind number
runtime_op code.TypeRuntimeArray e = refl
runtime_op o e = cc

module _ (m : ModuleState) (entry : Option (List ℕ)) (right : IsConforming m entry) where
  -- it is that of a struct type without Block and BufferBlock
  pub record IsFree (n : ℕ) : Type 0 where
    pub ty : Inst
    pub among : IsIn ty m.globals
    pub is_struct : is ty.op code.TypeStruct ≡ true
    pub result : ty.result ≡ n
    pub free : is_block m.heads n ≡ false

  abbrev pub AreFree : Tree → Type 0
  AreFree t = (n : ℕ) → has_struct n t ≡ true → IsFree n

  abbrev pub AreAllFree : Trees → Type 0
  AreAllFree ts = (n : ℕ) → have_struct n ts ≡ true → IsFree n

  free_struct : (g : Inst) → IsIn g m.globals → is g.op code.TypeStruct ≡ true → is_among (block_misuses m) g.result ≡ true → is_block m.heads g.result ≡ false
  free_struct g among on misused =
      false_from_ne_true (is_block m.heads g.result) (λ marked. clash (sym (and_from ((is g.op code.TypeStruct) && is_block m.heads g.result) (is_among (block_misuses m) g.result) (and_from (is g.op code.TypeStruct) (is_block m.heads g.result) on marked) misused)
      ∙ or_left (((is g.op code.TypeStruct) && is_block m.heads g.result) && is_among (block_misuses m) g.result) ((is g.op code.TypeRuntimeArray) && is_among (runtime_misuses m) g.result) (used_type m entry right g (as_among m.globals g among))))

  part_misused : (g : Inst) (p : ℕ) → IsIn g m.globals → is_among (parts_of g) p ≡ true → is_among (block_misuses m) p ≡ true
  part_misused g p among part =
      among_left (flat_map parts_of m.globals ++ pointees m (λ v. not (is_some_block m.heads m.globals v)) ++ value_types m) (signature_types m) p
      (among_left (flat_map parts_of m.globals ++ pointees m (λ v. not (is_some_block m.heads m.globals v))) (value_types m) p
      (among_left (flat_map parts_of m.globals) (pointees m (λ v. not (is_some_block m.heads m.globals v))) p (in_flat_list parts_of m.globals g p among part)))

  module _ (g : Inst) (among : IsIn g m.globals) (known : (p : ℕ) (v : Tree) → is_among (block_misuses m) p ≡ true → tree_before m.globals g.at p ≡ Some v → AreFree v) where
    part_free : (p : ℕ) (v : Tree) → is_among (parts_of g) p ≡ true → tree_before m.globals g.at p ≡ Some v → AreFree v
    part_free p v part is = known p v (part_misused g p among part) is

    either_free : (n : ℕ) (v : Tree) (vs : Trees) → AreFree v → AreAllFree vs → (a b : Bool) → has_struct n v ≡ a → have_struct n vs ≡ b → (a || b) ≡ true → IsFree n
    either_free n v vs one rest true b on more e = one n on
    either_free n v vs one rest false true on more e = rest n more
    either_free n v vs one rest false false on more e = off_on e

    all_free : (ids : List ℕ) (ts : Trees) → ((p : ℕ) → is_among ids p ≡ true → is_among (parts_of g) p ≡ true) → all_trees (tree_before m.globals g.at) ids ≡ Some ts → AreAllFree ts
    all_free [] ts sub is = subst AreAllFree (same_Some no_trees ts is) (λ n has. off_on has)
    all_free (id ∷ ids) ts sub is = by_both (tree_before m.globals g.at id) refl (all_trees (tree_before m.globals g.at) ids) refl is (all_free ids)
      where
        by_both : (o : Option Tree) → tree_before m.globals g.at id ≡ o → (q : Option Trees) → all_trees (tree_before m.globals g.at) ids ≡ q → both o q ≡ Some ts
            → ((us : Trees) → ((p : ℕ) → is_among ids p ≡ true → is_among (parts_of g) p ≡ true) → all_trees (tree_before m.globals g.at) ids ≡ Some us → AreAllFree us) → AreAllFree ts
        by_both None part q rest is later = cc
        by_both (Some v) part None rest is later = cc
        by_both (Some v) part (Some vs) rest is later =
            subst AreAllFree (same_Some (tree v vs) ts is)
            (λ n has. either_free n v vs (part_free id v (sub id (first_among id ids)) part) (later vs (λ p there. sub p (or_right (id == p) (is_among ids p) there)) rest) (has_struct n v) (have_struct n vs) refl refl has)

    least_is : (shape g.op).least ≤ 1 + count_of (has_type g.op) + count_of (has_result g.op) + length g.args
    least_is = (right.formed g (as_among m.globals g among)).least

    array_free : (o : Option Tree) (l : Option Length) (t : Tree) → tree_before m.globals g.at (slice_index g.args 0) ≡ o → is g.op code.TypeArray ≡ true → array_tree o l ≡ Some t → AreFree t
    array_free None l t part on is = cc
    array_free (Some v) None t part on is = cc
    array_free (Some v) (Some l) t part on is = subst AreFree (same_Some (array v l) t is) (part_free (slice_index g.args 0) v (element_part g.op g.args (inl on) least_is) part)

    runtime_free : (o : Option Tree) (t : Tree) → tree_before m.globals g.at (slice_index g.args 0) ≡ o → is g.op code.TypeRuntimeArray ≡ true → option_map runtime o ≡ Some t → AreFree t
    runtime_free None t part on is = cc
    runtime_free (Some v) t part on is = subst AreFree (same_Some (runtime v) t is) (part_free (slice_index g.args 0) v (element_part g.op g.args (inr on) least_is) part)

    -- the parts of a struct, be it a block's or not
    members_free : (ts : Trees) → is g.op code.TypeStruct ≡ true → all_trees (tree_before m.globals g.at) g.args ≡ Some ts → AreAllFree ts
    members_free ts on all = all_free g.args ts (λ p there. struct_part g.op g.args p on there) all

    struct_free : (is g.op code.TypeStruct ≡ true → is_block m.heads g.result ≡ false) → (q : Option Trees) (t : Tree) → all_trees (tree_before m.globals g.at) g.args ≡ q → is g.op code.TypeStruct ≡ true → option_map (struct g.result) q ≡ Some t → AreFree t
    struct_free top None t all on is = cc
    struct_free top (Some ts) t all on is = subst AreFree (same_Some (struct g.result ts) t is) (λ n has. by_own n (g.result == n) refl has)
      where
        by_own : (n : ℕ) (b : Bool) → (g.result == n) ≡ b → (b || have_struct n ts) ≡ true → IsFree n
        by_own n true same has =
            let here : g.result ≡ n = same_number g.result n same in
            record { ty = g; among = among; is_struct = on; result = here; free = subst (λ (k : ℕ). is_block m.heads k ≡ false) here (top on) }
        by_own n false other has = members_free ts on all n has

    vector_free : (o : Option Tree) (n : ℕ) (t : Tree) → vector_tree o n ≡ Some t → AreFree t
    vector_free None n t is = cc
    vector_free (Some v) n t is = by_elem (elem_of v) is
      where
        by_size : (e : Elem) (a b : Bool) → (if a && b then Some (vector e n) else None) ≡ Some t → AreFree t
        by_size e true true is = subst AreFree (same_Some (vector e n) t is) (λ k has. off_on has)
        by_size e true false is = cc
        by_size e false b is = cc

        by_elem : (o : Option Elem) → option_map_or (sized_vector n) o None ≡ Some t → AreFree t
        by_elem None is = cc
        by_elem (Some e) is = by_size e (nat_le 2 n) (nat_le n 4) is

    kind_free : (is g.op code.TypeStruct ≡ true → is_block m.heads g.result ≡ false) → (k : TypeKind) (t : Tree) → kind g.op ≡ k → tree_by_kind m.globals (tree_before m.globals g.at) g k ≡ Some t → AreFree t
    kind_free top kinds.Bool t on is = subst AreFree (same_Some boolean t is) (λ n has. off_on has)
    kind_free top kinds.Int t on is = by_width (slice_index g.args 0 == 32) (slice_index g.args 1 == 0) (slice_index g.args 1 == 1) is
      where
        by_width : (a b c : Bool) → (if a then (if b then Some uint else (if c then Some int else None)) else None) ≡ Some t → AreFree t
        by_width true true c is = subst AreFree (same_Some uint t is) (λ n has. off_on has)
        by_width true false true is = subst AreFree (same_Some int t is) (λ n has. off_on has)
        by_width true false false is = cc
        by_width false b c is = cc
    kind_free top kinds.Vector t on is = vector_free (tree_before m.globals g.at (slice_index g.args 0)) (slice_index g.args 1) t is
    kind_free top kinds.Array t on is = array_free (tree_before m.globals g.at (slice_index g.args 0)) (length_by (slice_index g.args 1) (global m.globals (slice_index g.args 1))) t refl (array_op g.op on) is
    kind_free top kinds.Runtime t on is = runtime_free (tree_before m.globals g.at (slice_index g.args 0)) t refl (runtime_op g.op on) is
    kind_free top kinds.Struct t on is = struct_free top (all_trees (tree_before m.globals g.at) g.args) t refl (struct_op g.op on) is
    kind_free top kinds.Other t on is = cc

  free_at : (k : ℕ) (g : Inst) (t : Tree) → IsIn g m.globals → g.at < k → is_among (block_misuses m) g.result ≡ true → tree_at m.globals g ≡ Some t → AreFree t
  free_at zero g t among less own is = absurd (omega (arith, less))
  free_at (suc k) g t among less own is = kind_free g among (λ p v misused part. part_of p v misused part (free_at k)) (λ on. free_struct g among on own) (kind g.op) t refl is
    where
      part_of : (p : ℕ) (v : Tree) → is_among (block_misuses m) p ≡ true → tree_before m.globals g.at p ≡ Some v → ((h : Inst) (w : Tree) → IsIn h m.globals → h.at < k → is_among (block_misuses m) h.result ≡ true → tree_at m.globals h ≡ Some w → AreFree w) → AreFree v
      part_of p v misused part known = by_earlier (earlier m.globals g.at p) refl (sym (tree_before_is m.globals g.at p) ∙ part)
        where
          by_earlier : (o : Option Inst) → earlier m.globals g.at p ≡ o → option_map_or (tree_at m.globals) o None ≡ Some v → AreFree v
          by_earlier None at e = cc
          by_earlier (Some h) at e =
              let w = earlier_some m.globals g.at p h at in
              let there = found_in m.globals p h w.0 in
              known h v there.0 (let before = w.1 in let low : h.at < k = omega (arith, less, before) in low) (subst (λ (n : ℕ). is_among (block_misuses m) n ≡ true) (sym there.1) misused) e

  -- the structs in a type that is used where a block may not be
  pub misused_free : (ty : ℕ) (t : Tree) → is_among (block_misuses m) ty ≡ true → type_tree m.globals ty ≡ Some t → AreFree t
  misused_free ty t misused is = by_global (global m.globals ty) refl is
    where
      by_global : (o : Option Inst) → global m.globals ty ≡ o → option_map_or (tree_at m.globals) o None ≡ Some t → AreFree t
      by_global None at is = cc
      by_global (Some g) at is =
          let there = found_in m.globals ty g at in
          free_at (suc g.at) g t there.0 (let less : g.at < suc g.at = omega arith in less) (subst (λ (n : ℕ). is_among (block_misuses m) n ≡ true) (sym there.1) misused) is

  -- the parts of any type
  part_known : (g : Inst) → IsIn g m.globals → (p : ℕ) (v : Tree) → is_among (block_misuses m) p ≡ true → tree_before m.globals g.at p ≡ Some v → AreFree v
  part_known g among p v misused part = by_earlier (earlier m.globals g.at p) refl (sym (tree_before_is m.globals g.at p) ∙ part)
    where
      by_earlier : (o : Option Inst) → earlier m.globals g.at p ≡ o → option_map_or (tree_at m.globals) o None ≡ Some v → AreFree v
      by_earlier None at e = cc
      by_earlier (Some h) at e = misused_free p v misused (ap (λ (o : Option Inst). option_map_or (tree_at m.globals) o None) (earlier_some m.globals g.at p h at).0 ∙ e)

  -- a type that is itself no block's, and the members of any struct
  pub open_free : (g : Inst) (t : Tree) → IsIn g m.globals → (is g.op code.TypeStruct ≡ true → is_block m.heads g.result ≡ false) → tree_at m.globals g ≡ Some t → AreFree t
  open_free g t among top is = kind_free g among (part_known g among) top (kind g.op) t refl is

  pub inner_free : (g : Inst) (ts : Trees) → IsIn g m.globals → is g.op code.TypeStruct ≡ true → all_trees (tree_before m.globals g.at) g.args ≡ Some ts → AreAllFree ts
  inner_free g ts among on all = members_free g among (part_known g among) ts on all
