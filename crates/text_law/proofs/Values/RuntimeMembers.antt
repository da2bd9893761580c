-- A struct with a runtime array as a member is pointed to by storage blocks alone (P17); and such a member has the shape of a runtime array.
use Rattle.std.proofs.Common.{◌≡◌, ◌++◌, ◌&&◌, ◌-◌, not, ℕ, Bool, true, false, List, length, Contains, Option, Some, None, refl, sym, ap, ◌∙◌, subst, if◌then◌else◌}
use Rattle.std.specs.Prelude.{nat_lt, slice_index, take, flat_map, option_map}
use Rattle.std.specs.Option.{option_map_or}
use Rattle.std.proofs.lemmas.Bool.{and_from, false_from_ne_true, not-false}
use Rattle.spv_ops.specs.Opcode.{is, number}
use Rattle.spv_ops.specs.declared.Op.{Op}
use Rattle.spv_ops.specs.declared.Op.TheVariants as code
use Rattle.spv_module.specs.Held.{global}
use Rattle.spv_module.specs.State.{ModuleState}
use Rattle.spv_module.specs.declared.inst.Inst.{Inst}
use Rattle.spv_module.specs.declared.inst.Function.{Function}
use Rattle.spv_types.specs.Tree as plain
use Rattle.spv_types.specs.Tree.{Tree, Trees}
use Rattle.spv_types.specs.Types.{kind, tree_by_kind, tree_before, tree_at, type_tree}
use Rattle.spv_types.specs.declared.kind.TypeKind.TheVariants as kinds
use Rattle.spv_decor.specs.Decorations.{local_insts}
use Rattle.spv_decor.specs.Rows.{word}
use Rattle.spv_index.specs.BlockStructs.{is_block, is_storage_block}
use Rattle.spv_index.specs.Pointers.{pointee}
use Rattle.profile_rules.specs.Places.{is_among, is_variable, body_insts}
use Rattle.profile_rules.specs.TypeForm.{parts_of, pointees, value_types, signature_types, block_misuses, fixed_parts, runtime_misuses}
use Rattle.profile_rules.specs.TypeRows.{is_runtime_array, fails}
use Rattle.module_semantics.specs.Setting.{Setting}
use Rattle.module_semantics.specs.Memory.{part_by, part_type}
use Rattle.list_law.proofs.Tests.{clash}
use Rattle.plan_law.specs.InOrder.{IsAmong}
use Rattle.plan_law.proofs.Order.{among_left as inst_left}
use Rattle.fits_law.specs.Takes.{nth_of}
use Rattle.fits_law.proofs.Steps.{named}
use Rattle.type_law.proofs.Parts.{struct_kind, all_nth}
use Rattle.type_law.proofs.Places.{part_leads}
use Rattle.typed_law.specs.Conforms.{IsConforming}
use Rattle.typed_law.proofs.Lists.{or_right, found_in}
use Rattle.typed_law.proofs.Rules.{used_type}
use Rattle.typed_law.proofs.Shapes.{row_of_shape}
use Rattle.typed_law.proofs.Types.{row_is}
use Rattle.typed_law.proofs.Used.{among_left, among_flat, struct_part, pointee_among}
use Rattle.global_law.proofs.Path.Types.{struct_args}
use Rattle.places_law.proofs.Blocks.{struct_part_by}

runtime_kind : (o : Op) → is o code.TypeRuntimeArray ≡ true → kind o ≡ kinds.Runtime
unfolding kind number
runtime_kind code.TypeRuntimeArray on = refl
runtime_kind o on = cc

runtime_of : (o : Option Tree) (u : Tree) → option_map plain.runtime o ≡ Some u → (e : Tree) × (u ≡ plain.runtime e)
runtime_of None u is = cc
runtime_of (Some e) u is = (e, let same : plain.runtime e ≡ u = cc in sym same)

by_storage : (xs ys : List ℕ) (a b c : Bool) (k : ℕ) → c ≡ true → is_among ys k ≡ true → is_among (if a && (b && not c) then xs else ys) k ≡ true
by_storage xs ys true true true k on there = there
by_storage xs ys true false true k on there = there
by_storage xs ys false b true k on there = there
by_storage xs ys a b false k on there = cc

module _ (m : ModuleState) (entry : Option (List ℕ)) (right : IsConforming m entry) where
  abbrev Gs : List Inst
  Gs = m.globals

  abbrev others : Inst → Bool
  others v = not (is_storage_block m.heads m.globals v)

  -- P17
  pub no_runtime : (v : Inst) → IsAmong v Gs → is_variable v ≡ true → is_storage_block m.heads Gs v ≡ false → (g : Inst) (q : ℕ) → global Gs q ≡ Some g → pointee Gs v.ty ≡ Some q → is g.op code.TypeStruct ≡ true → (h : Inst) → IsAmong h Gs → is_among g.args h.result ≡ true → is h.op code.TypeRuntimeArray ≡ false
  no_runtime v there on off g q at points struct h h_there part =
      let pointed : is_among (pointees m others) g.result ≡ true =
      subst (λ (k : ℕ). is_among (pointees m others) k ≡ true) (sym (named Gs q g at)) (pointee_among m entry right others (body_insts m) v q (inst_left v Gs (local_insts m) there) on (ap not off) points) in
      let fixed : is_among (fixed_parts m g) h.result ≡ true =
      by_storage (take (length g.args - 1) g.args) (parts_of g) (is g.op code.TypeStruct) (is_block m.heads g.result) (is_among (pointees m others) g.result) h.result pointed (struct_part g.op g.args h.result struct part) in
      let runtimes : is_among (runtime_misuses m) h.result ≡ true =
      among_left (flat_map (fixed_parts m) Gs ++ pointees m (λ x. true) ++ value_types m) (signature_types m) h.result
      (among_left (flat_map (fixed_parts m) Gs ++ pointees m (λ x. true)) (value_types m) h.result
      (among_left (flat_map (fixed_parts m) Gs) (pointees m (λ x. true)) h.result (among_flat (fixed_parts m) Gs g h.result (found_in Gs q g at) fixed))) in
      false_from_ne_true (is h.op code.TypeRuntimeArray) (λ is_one. clash (sym (and_from (is h.op code.TypeRuntimeArray) (is_among (runtime_misuses m) h.result) is_one runtimes) ∙ or_right (((is h.op code.TypeStruct) && is_block m.heads h.result) && is_among (block_misuses m) h.result) ((is h.op code.TypeRuntimeArray) && is_among (runtime_misuses m) h.result) (used_type m entry right h h_there)))

module _ (s : Setting) (entry : Option (List ℕ)) (right : IsConforming s.of entry) (f : Function) (in_it : Contains s.of.functions f) where
  abbrev Gs' : List Inst
  Gs' = s.of.globals

  -- a member of a struct whose type is a runtime array
  pub record IsRuntimeMember (g : Inst) (parts : Trees) (k : ℕ) : Type 0 where
    pub row : Inst
    pub there : global Gs' (word g k) ≡ Some row
    pub is_runtime : is row.op code.TypeRuntimeArray ≡ true
    pub element : Tree
    pub at : nth_of parts k ≡ Some (plain.runtime element)

  pub runtime_member : (g : Inst) (ty id : ℕ) (parts : Trees) (k : ℕ) → global Gs' ty ≡ Some g → type_tree Gs' ty ≡ Some (plain.struct id parts) → is g.op code.TypeStruct ≡ true → nat_lt k (length g.args) ≡ true → fails is_runtime_array Gs' (word g k) ≡ false → IsRuntimeMember g parts k
  runtime_member g ty id parts k at shape struct less off =
      let here : tree_at Gs' g ≡ Some (plain.struct id parts) = ap (λ (o : Option Inst). option_map_or (tree_at Gs') o None) (sym at) ∙ shape in
      let args = struct_args s (tree_before Gs' g.at) g id parts (ap (tree_by_kind Gs' (tree_before Gs' g.at) g) (sym (struct_kind g.op struct)) ∙ here) in
      let u = all_nth (tree_before Gs' g.at) g.args parts k args less in
      let part_is : part_type s ty k ≡ word g k = ap (λ (o : Option Inst). option_map_or (λ (x : Inst). part_by x.op x.args k) o 0) at ∙ struct_part_by g.op g.args k struct in
      let tree : type_tree Gs' (word g k) ≡ Some u.0 = sym (ap (type_tree Gs') part_is) ∙ part_leads s ty k (plain.struct id parts) u.0 shape u.2 in
      let h = row_of_shape s entry right f in_it (word g k) u.0 tree in
      let on : is h.0.op code.TypeRuntimeArray ≡ true = not-false (is_runtime_array h.0) (ap (λ (o : Option Inst). option_map_or (λ (x : Inst). not (is_runtime_array x)) o false) (sym (row_is s.of entry right (word g k) h.0 h.1 h.2)) ∙ off) in
      let own : tree_at Gs' h.0 ≡ Some u.0 = ap (λ (o : Option Inst). option_map_or (tree_at Gs') o None) (sym h.1) ∙ tree in
      let e = runtime_of (tree_before Gs' h.0.at (slice_index h.0.args 0)) u.0 (ap (tree_by_kind Gs' (tree_before Gs' h.0.at) h.0) (sym (runtime_kind h.0.op on)) ∙ own) in
      record { row = h.0; there = h.1; is_runtime = on; element = e.0; at = u.2 ∙ ap (λ (t : Tree). Some t) e.1 }
