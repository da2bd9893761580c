-- What the rules on decorations and on the size of workgroups (P10, P11) say of SpecIds and of the constants that give the size.
use Rattle.std.proofs.Common.{◌≡◌, ◌⊎◌, ◌<◌, ◌==◌, ◌||◌, ◌&&◌, ◌++◌, ℕ, suc, Bool, true, false, List, [], ◌∷◌, length, drop, filter, find, not, Option, Some, None, inl, inr, refl, sym, ap, ◌∙◌, subst, if◌then◌else◌, arith}
use Rattle.std.specs.Prelude.{Contains, is_some, nat_le, nat_lt, option_map}
use Rattle.std.specs.Option.{option_map_or}
use Rattle.std.specs.List.{list_any, count_by}
use Rattle.std.proofs.lemmas.Bool.Decides.{nat_tests}
use Rattle.std.proofs.lemmas.List.Elements.{Contains-append_left, Contains-append_right}
use Rattle.std.proofs.lemmas.List.Sums.{length-filter}
use Rattle.std.proofs.lemmas.Bool.{not-false}
use Rattle.std.proofs.lemmas.Option.{same_Some}
use Rattle.spv_words.specs.declared.rule.Rule.TheVariants.{P11}
use Rattle.spv_ops.specs.Opcode.{is, number}
use Rattle.spv_ops.specs.Groups.{is_constant as is_constant_op}
use Rattle.spv_ops.specs.Enumerants.{decoration_number}
use Rattle.spv_ops.specs.declared.Decoration.TheVariants as decoration
use Rattle.spv_ops.specs.declared.Op.{Op}
use Rattle.spv_ops.specs.declared.Op.TheVariants as code
use Rattle.spv_module.specs.Held.{global}
use Rattle.spv_module.specs.Inst.{has_type}
use Rattle.spv_module.specs.State.{ModuleState}
use Rattle.spv_module.specs.declared.inst.Inst.{Inst}
use Rattle.spv_module.specs.declared.tree.Elem.TheVariants as elem
use Rattle.spv_types.specs.declared.kind.TypeKind.TheVariants as type_kinds
use Rattle.spv_types.specs.Tree as plain
use Rattle.spv_types.specs.Tree.{Tree}
use Rattle.spv_types.specs.Types.{kind, elem_of, tree_by_kind, tree_before, tree_at, type_tree}
use Rattle.spv_decor.specs.Rows.{word, is_same, key_by, key_of, has_key, first_row}
use Rattle.spv_decor.specs.declared.target.Target.TheVariants.{SpecConstant}
use Rattle.spv_decor.specs.Decorations.{target_of, is_target, is_misplaced_by, is_misplaced}
use Rattle.spv_decor.specs.Broken.{nth_row, Broken}
use Rattle.profile_rules.specs.declared.given.Given.{Given}
use Rattle.profile_rules.specs.declared.constant.ConstantKind.TheVariants as kinds
use Rattle.profile_rules.specs.Constants.{constant_kind}
use Rattle.profile_rules.specs.Entry.{chosen, is_size_composite, is_local_size_id, is_no_uint, is_no_uvec3, is_no_size, is_no_part, are_no_sizes, is_same_spec, is_bad_composite, is_bad_size, is_bad_size_id, composite_faults, p10_of, p10}
use Rattle.profile_rules.specs.Places.{places, is_defined_elsewhere}
use Rattle.profile_rules.specs.TypeRows.{is_uint, type_row}
use Rattle.module_semantics.specs.Setting.{Setting}
use Rattle.list_law.proofs.Options.{none_some}
use Rattle.list_law.proofs.Numbers.{same_number}
use Rattle.plan_law.specs.InOrder.{IsAmong}
use Rattle.text_rules.specs.Constants.{Source, size_ids}
use Rattle.type_law.proofs.Rows.{vector_parts}
use Rattle.type_law.proofs.Parts.{row, earlier_is}
use Rattle.typed_law.specs.Conforms.{IsConforming}
use Rattle.typed_law.proofs.Lists.{or_left, or_right, and_left, and_right, and_off, found_in, none_at_fault, clash}
use Rattle.typed_law.proofs.Operations.{four_off}
use Rattle.typed_law.proofs.Types.{row_is, type_shaped}
use Rattle.typed_law.proofs.Used.{global_found}
use Rattle.typed_law.proofs.Values.{type_suits, vector_shaped, global_row, global_typed_some}
use Rattle.global_law.specs.Sources.{source_of}
use Rattle.global_law.specs.Items.{IsScalarSpec, AreSpecIds, AreSizes}
use Rattle.global_law.proofs.Constant.Within.{typed_constant}
use Rattle.global_law.proofs.Constant.Constituents.{nothing}

-- what is found
found_row : (test : Inst → Bool) (rows : List Inst) (i : Inst) → find test rows ≡ Some i → (k : ℕ) × (k < length rows) × (nth_row rows k ≡ i) × (test i ≡ true)
found_row test [] i e = none_some e
found_row test (h ∷ rows) i e = by_test (test h) refl e (λ later. found_row test rows i later)
  where
    by_test : (b : Bool) → test h ≡ b → (if b then Some h else find test rows) ≡ Some i → (find test rows ≡ Some i → (k : ℕ) × (k < length rows) × (nth_row rows k ≡ i) × (test i ≡ true)) → (k : ℕ) × (k < length (h ∷ rows)) × (nth_row (h ∷ rows) k ≡ i) × (test i ≡ true)
    by_test true on e next = let same = same_Some h i e in (0, (let low : 0 < suc (length rows) = omega arith in low), same, subst (λ x. test x ≡ true) same on)
    by_test false off e next = let w = next e in let less = w.1 in (suc w.0, (let low : suc w.0 < suc (length rows) = omega (arith, less) in low), w.2, w.3)

found_among : (test : Inst → Bool) (rows : List Inst) (i : Inst) → find test rows ≡ Some i → IsAmong i rows × (test i ≡ true)
found_among test [] i e = none_some e
found_among test (h ∷ rows) i e = by_test (test h) refl e (λ later. found_among test rows i later)
  where
    by_test : (b : Bool) → test h ≡ b → (if b then Some h else find test rows) ≡ Some i → (find test rows ≡ Some i → IsAmong i rows × (test i ≡ true)) → ((h ≡ i) ⊎ IsAmong i rows) × (test i ≡ true)
    by_test true on e next = let same = same_Some h i e in (inl same, subst (λ x. test x ≡ true) same on)
    by_test false off e next = let w = next e in (inr w.0, w.1)

kept_some : (test : Inst → Bool) (rows : List Inst) (i : Inst) → IsAmong i rows → test i ≡ true → 0 < length (filter test rows)
kept_some test [] i there on = absurd there
kept_some test (h ∷ rows) i there on = by_test (test h) refl there (λ later. kept_some test rows i later on)
  where
    by_test : (b : Bool) → test h ≡ b → (h ≡ i) ⊎ IsAmong i rows → (IsAmong i rows → 0 < length (filter test rows)) → 0 < length (if b then h ∷ filter test rows else filter test rows)
    by_test true at there next = omega arith
    by_test false at (inl same) next = clash (sym on ∙ ap test (sym same) ∙ at)
    by_test false at (inr more) next = next more

-- the only one is the one that is found
found_only : (test : Inst → Bool) (rows : List Inst) (i : Inst) → IsAmong i rows → test i ≡ true → length (filter test rows) < 2 → find test rows ≡ Some i
found_only test [] i there on few = absurd there
found_only test (h ∷ rows) i there on few = by_test (test h) refl there few (λ later fewer. found_only test rows i later on fewer)
  where
    by_test : (b : Bool) → test h ≡ b → (h ≡ i) ⊎ IsAmong i rows → length (if b then h ∷ filter test rows else filter test rows) < 2 → (IsAmong i rows → length (filter test rows) < 2 → find test rows ≡ Some i) → (if b then Some h else find test rows) ≡ Some i
    by_test true at (inl same) few next = ap (λ x. Some x) same
    by_test true at (inr more) few next = let some = kept_some test rows i more on in absurd (omega (arith, few, some))
    by_test false at (inl same) few next = clash (sym on ∙ ap test (sym same) ∙ at)
    by_test false at (inr more) few next = next more few

-- opcodes
decorate_key : (o : Op) (i : Inst) (n d : ℕ) → option_map_or (λ other. is_same other (number code.Decorate, n, 0, d)) (key_by o i) false ≡ true → (is o code.Decorate ≡ true) × (word i 0 ≡ n) × (word i 1 ≡ d)
unfolding number
decorate_key code.Name i n d e = clash (sym e)
decorate_key code.MemberName i n d e = clash (sym e)
decorate_key code.MemberDecorate i n d e = clash (sym e)
decorate_key code.Decorate i n d e =
    let front = and_left ((number code.Decorate == number code.Decorate) && (word i 0 == n) && (0 == 0)) (word i 1 == d) e in
    let own = and_left ((number code.Decorate == number code.Decorate) && (word i 0 == n)) (0 == 0) front in
    (refl, same_number (word i 0) n (and_right (number code.Decorate == number code.Decorate) (word i 0 == n) own), same_number (word i 1) d (and_right ((number code.Decorate == number code.Decorate) && (word i 0 == n) && (0 == 0)) (word i 1 == d) e))
decorate_key o i n d e = clash (sym e)

row_key : (i : Inst) (n d : ℕ) → has_key (number code.Decorate, n, 0, d) i ≡ true → (is i.op code.Decorate ≡ true) × (word i 0 ≡ n) × (word i 1 ≡ d)
unfolding key_of
row_key i n d e = decorate_key i.op i n d e

decorate_op : (o : Op) → is o code.Decorate ≡ true → o ≡ code.Decorate
unfolding number
decorate_op code.Decorate on = refl
decorate_op o on = cc

misplaced_is : (m : ModuleState) (i : Inst) (o : Op) → is o code.Decorate ≡ true → is_misplaced_by m i o ≡ not (option_map_or (λ target. is_target m target (word i 0)) (target_of (word i 1)) false)
misplaced_is m i o on = ap (is_misplaced_by m i) (decorate_op o on)

scalar_spec : (o : Op) → ((is o code.SpecConstantTrue) || (is o code.SpecConstantFalse) || (is o code.SpecConstant)) ≡ true → IsScalarSpec (constant_kind o)
unfolding constant_kind number
scalar_spec code.SpecConstantTrue on = tt
scalar_spec code.SpecConstantFalse on = tt
scalar_spec code.SpecConstant on = tt
scalar_spec o on = cc

part_kind : (o : Op) → ((is o code.Constant) || (is o code.SpecConstant)) ≡ true → (constant_kind o ≡ kinds.Word) ⊎ (constant_kind o ≡ kinds.SpecWord)
unfolding constant_kind number
part_kind code.Constant on = inl refl
part_kind code.SpecConstant on = inr refl
part_kind o on = cc

part_constant : (o : Op) → ((is o code.Constant) || (is o code.SpecConstant)) ≡ true → is_constant_op o ≡ true
unfolding number
part_constant code.Constant on = refl
part_constant code.SpecConstant on = refl
part_constant o on = cc

part_typed : (o : Op) → ((is o code.Constant) || (is o code.SpecConstant)) ≡ true → has_type o ≡ true
part_typed o on = typed_constant o (part_constant o on)

size_typed : (o : Op) → ((is o code.ConstantComposite) || (is o code.SpecConstantComposite)) ≡ true → is_constant_op o ≡ true
unfolding number
size_typed code.ConstantComposite on = refl
size_typed code.SpecConstantComposite on = refl
size_typed o on = cc

int_kind : (o : Op) → is o code.TypeInt ≡ true → kind o ≡ type_kinds.Int
unfolding kind number
int_kind code.TypeInt on = refl
int_kind o on = cc

-- P11: what has a SpecId is a scalar specialization constant
pub spec_ids_are : (s : Setting) (entry : Option (List ℕ)) → IsConforming s.of entry → (overrides : List (ℕ × Given)) → ((at : ℕ) → Broken s.of P11 at → ⊥) → AreSpecIds (source_of s overrides)
spec_ids_are s entry right overrides unbroken g there some = by_row (first_row s.of.heads (number code.Decorate, g.result, 0, decoration_number decoration.SpecId)) refl some
  where
    by_row : (o : Option Inst) → first_row s.of.heads (number code.Decorate, g.result, 0, decoration_number decoration.SpecId) ≡ o → is_some (option_map (λ (i : Inst). word i 2) o) ≡ true → IsScalarSpec (constant_kind g.op)
    by_row None at e = cc
    by_row (Some i) at e =
        let w = found_row (has_key (number code.Decorate, g.result, 0, decoration_number decoration.SpecId)) s.of.heads i at in
        let k = row_key i g.result (decoration_number decoration.SpecId) w.3 in
        let placed : is_misplaced s.of i ≡ false = by_test (is_misplaced s.of i) refl w.0 w.1 w.2 in
        let on = not-false (option_map_or (λ target. is_target s.of target (word i 0)) (target_of (word i 1)) false) (sym (misplaced_is s.of i i.op k.0) ∙ placed) in
        let target : is_target s.of SpecConstant g.result ≡ true = ap (λ n. is_target s.of SpecConstant n) (sym k.1) ∙ ap (λ n. option_map_or (λ target. is_target s.of target (word i 0)) (target_of n) false) (sym k.2) ∙ on in
        scalar_spec g.op (ap (λ o. option_map_or (λ (h : Inst). (is h.op code.SpecConstantTrue) || (is h.op code.SpecConstantFalse) || (is h.op code.SpecConstant)) o false) (sym (global_found s.of entry right g there)) ∙ target)
      where
        by_test : (b : Bool) → is_misplaced s.of i ≡ b → (k : ℕ) → k < length s.of.heads → nth_row s.of.heads k ≡ i → b ≡ false
        by_test false at k less same = refl
        by_test true at k less same = absurd (unbroken (nth_row s.of.heads k).at (inl (k, less, refl, ap (is_misplaced s.of) same ∙ at)))

size_off : (m : ModuleState) (count : ℕ) (g : Inst) → is_bad_size m count g ≡ false → is_size_composite m.heads g ≡ true → (nat_le 2 count ≡ false) × (is_bad_composite m g ≡ false)
unfolding is_bad_size
size_off m count g off on = let both = and_off (is_size_composite m.heads g) (nat_le 2 count || is_bad_composite m g) off on in (or_left (nat_le 2 count) (is_bad_composite m g) both, or_right (nat_le 2 count) (is_bad_composite m g) both)

-- three parts, each of which is one
pub record AreThree (m : ModuleState) (none : ℕ → Bool) (ids : List ℕ) : Type 0 where
  pub first : ℕ
  pub second : ℕ
  pub third : ℕ
  pub whole : ids ≡ first ∷ second ∷ third ∷ []
  pub first_part : is_no_part m none first ≡ false
  pub second_part : is_no_part m none second ≡ false
  pub third_part : is_no_part m none third ≡ false

three_are : (m : ModuleState) (none : ℕ → Bool) (ids : List ℕ) → are_no_sizes m none ids ≡ false → AreThree m none ids
three_are m none [] off = cc
three_are m none (a ∷ []) off = cc
three_are m none (a ∷ b ∷ []) off = cc
three_are m none (a ∷ b ∷ c ∷ d ∷ ids) off = cc
three_are m none (a ∷ b ∷ c ∷ []) off =
    let w = four_off (is_no_part m none a) (is_no_part m none b) (is_no_part m none c) (is_same_spec m.heads a b || is_same_spec m.heads a c || is_same_spec m.heads b c) off in
    record { first = a; second = b; third = c; whole = refl; first_part = w.0; second_part = w.1; third_part = w.2 }

module _ (s : Setting) where
  -- the shape of a uint
  pub uint_tree : (h : Inst) → is_uint h ≡ true → tree_at s.of.globals h ≡ Some plain.uint
  uint_tree h on =
      let front = and_left ((is h.op code.TypeInt) && (word h 0 == 32)) (word h 1 == 0) on in
      let int_is = and_left (is h.op code.TypeInt) (word h 0 == 32) front in
      let width = and_right (is h.op code.TypeInt) (word h 0 == 32) front in
      let sign = and_right ((is h.op code.TypeInt) && (word h 0 == 32)) (word h 1 == 0) on in
      ap (tree_by_kind s.of.globals (tree_before s.of.globals h.at) h) (int_kind h.op int_is)
      ∙ ap (λ b. if b then (if word h 1 == 0 then Some plain.uint else (if word h 1 == 1 then Some plain.int else None)) else None) width
      ∙ ap (λ b. if b then Some plain.uint else (if word h 1 == 1 then Some plain.int else None)) sign

  -- and of a vector of three
  pub uvec3_tree : (h : Inst) (t : Tree) → tree_at s.of.globals h ≡ Some t → is_no_uvec3 s.of.globals h ≡ false → t ≡ plain.vector elem.Uint 3
  uvec3_tree h t shape off =
      let vector = not-false ((is h.op code.TypeVector) && (word h 1 == 3)) (or_left (not ((is h.op code.TypeVector) && (word h 1 == 3))) (is_no_uint s.of.globals (word h 0)) off) in
      let three = same_number (word h 1) 3 (and_right (is h.op code.TypeVector) (word h 1 == 3) vector) in
      let typed = or_right (not ((is h.op code.TypeVector) && (word h 1 == 3))) (is_no_uint s.of.globals (word h 0)) off in
      let v = vector_parts s.of.globals h t (and_left (is h.op code.TypeVector) (word h 1 == 3) vector) shape in
      let part = row s nothing (word h 0) v.0 (earlier_is s nothing h.at (word h 0) v.0 v.2) in
      let uint = not-false (is_uint part.0) (ap (λ o. option_map_or (λ (x : Inst). not (is_uint x)) o false) (sym part.1) ∙ typed) in
      let component : plain.uint ≡ v.0 = same_Some plain.uint v.0 (sym (uint_tree part.0 uint) ∙ part.2) in
      let unsigned : elem.Uint ≡ v.1 = same_Some elem.Uint v.1 (ap elem_of component ∙ v.3) in
      v.4 ∙ ap (λ q. plain.vector q (word h 1)) (sym unsigned) ∙ ap (plain.vector elem.Uint) three

module _ (s : Setting) (entry : Option (List ℕ)) (right : IsConforming s.of entry) (overrides : List (ℕ × Given)) (e : Inst) (chosen_is : chosen entry s.of.heads ≡ Some e) (entry_is : s.entry ≡ word e 1) where
  abbrev source : Source
  source = source_of s overrides

  abbrev Gs : List Inst
  Gs = s.of.globals

  faults : p10 s.of entry ≡ composite_faults s.of ++ places (is_bad_size_id s.of (word e 1)) s.of.heads
  faults = ap (λ o. option_map_or (p10_of s.of) o (composite_faults s.of)) chosen_is

  unbroken : (at : ℕ) → Contains (p10 s.of entry) at → ⊥
  unbroken = right.declared.1.1.1.1.1.1.1.0

  composite_good : (g : Inst) → IsAmong g Gs → is_size_composite s.of.heads g ≡ true → (nat_le 2 (count_by (is_size_composite s.of.heads) Gs) ≡ false) × (is_bad_composite s.of g ≡ false)
  composite_good g there on =
      size_off s.of (count_by (is_size_composite s.of.heads) Gs) g
      (none_at_fault (is_bad_size s.of (count_by (is_size_composite s.of.heads) Gs)) Gs g (λ at has. unbroken at (subst (λ l. Contains l at) (sym faults) (Contains-append_left (composite_faults s.of) (places (is_bad_size_id s.of (word e 1)) s.of.heads) at has))) there) on

  type_row_of : (g : Inst) → IsAmong g Gs → has_type g.op ≡ true → (h : Inst) × (global Gs g.ty ≡ Some h) × (type_row Gs g.ty ≡ Some h)
  type_row_of g there has =
      let w = global_row s entry right g there (global_typed_some s entry right g there has) in
      (w.0, w.1, row_is s.of entry right g.ty w.0 w.1 (type_suits g.op w.0 w.2))

  uint_type : (g : Inst) → IsAmong g Gs → has_type g.op ≡ true → is_no_uint Gs g.ty ≡ false → type_tree Gs g.ty ≡ Some plain.uint
  uint_type g there has off =
      let w = type_row_of g there has in
      ap (λ o. option_map_or (tree_at Gs) o None) w.1 ∙ uint_tree s w.0 (not-false (is_uint w.0) (ap (λ o. option_map_or (λ (h : Inst). not (is_uint h)) o false) (sym w.2) ∙ off))

  -- a part
  part_good : (none : ℕ → Bool) (n : ℕ) (g : Inst) → is_no_part s.of none n ≡ false → global Gs n ≡ Some g → (type_tree Gs g.ty ≡ Some plain.uint) × ((constant_kind g.op ≡ kinds.Word) ⊎ (constant_kind g.op ≡ kinds.SpecWord))
  part_good none n g off at =
      let told : is_no_size Gs g ≡ false = ap (λ o. option_map_or (is_no_size Gs) o (none n)) (sym at) ∙ off in
      let first = not-false (((is g.op code.Constant) || (is g.op code.SpecConstant)) && nat_lt 0 (word g 0)) (or_left (not (((is g.op code.Constant) || (is g.op code.SpecConstant)) && nat_lt 0 (word g 0))) (is_no_uint Gs g.ty) told) in
      let opcode = and_left ((is g.op code.Constant) || (is g.op code.SpecConstant)) (nat_lt 0 (word g 0)) first in
      let typed = or_right (not (((is g.op code.Constant) || (is g.op code.SpecConstant)) && nat_lt 0 (word g 0))) (is_no_uint Gs g.ty) told in
      (uint_type g (found_in Gs n g at) (part_typed g.op opcode) typed, part_kind g.op opcode)

  -- the ids of the parts, where there are any
  ids_good : (size_ids source ≡ []) ⊎ ((none : ℕ → Bool) × AreThree s.of none (size_ids source))
  ids_good = by_composite (find (is_size_composite s.of.heads) Gs) refl (find (is_local_size_id s.entry) s.of.heads) refl
    where
      by_composite : (o : Option Inst) → find (is_size_composite s.of.heads) Gs ≡ o → (q : Option Inst) → find (is_local_size_id s.entry) s.of.heads ≡ q
          → (option_map_or (λ (g : Inst). g.args) o (option_map_or (λ (i : Inst). drop 2 i.args) q []) ≡ []) ⊎ ((none : ℕ → Bool) × AreThree s.of none (option_map_or (λ (g : Inst). g.args) o (option_map_or (λ (i : Inst). drop 2 i.args) q [])))
      by_composite (Some g) at q more =
          let w = found_among (is_size_composite s.of.heads) Gs g at in
          let bad = (composite_good g w.0 w.1).1 in
          inr (is_defined_elsewhere s.of, three_are s.of (is_defined_elsewhere s.of) g.args (or_right (option_map_or (is_no_uvec3 Gs) (type_row Gs g.ty) false) (are_no_sizes s.of (is_defined_elsewhere s.of) g.args) bad))
      by_composite None at (Some i) more =
          let w = found_among (is_local_size_id s.entry) s.of.heads i more in
          let own : is_local_size_id (word e 1) i ≡ true = ap (λ n. is_local_size_id n i) (sym entry_is) ∙ w.1 in
          let good = none_at_fault (is_bad_size_id s.of (word e 1)) s.of.heads i (λ at has. unbroken at (subst (λ l. Contains l at) (sym faults) (Contains-append_right (composite_faults s.of) (places (is_bad_size_id s.of (word e 1)) s.of.heads) at has))) w.0 in
          inr (λ n. true, three_are s.of (λ n. true) (drop 2 i.args) (and_off (is_local_size_id (word e 1) i) (are_no_sizes s.of (λ n. true) (drop 2 i.args)) good own))
      by_composite None at None more = inl refl

  -- the type of the composite
  composite_type : (g : Inst) → IsAmong g Gs → has_type g.op ≡ true → option_map_or (is_no_uvec3 Gs) (type_row Gs g.ty) false ≡ false → type_tree Gs g.ty ≡ Some (plain.vector elem.Uint 3)
  composite_type g there has off =
      let w = global_row s entry right g there (global_typed_some s entry right g there has) in
      let typed_row = row_is s.of entry right g.ty w.0 w.1 (type_suits g.op w.0 w.2) in
      let told : is_no_uvec3 Gs w.0 ≡ false = ap (λ o. option_map_or (is_no_uvec3 Gs) o false) (sym typed_row) ∙ off in
      let vector = not-false ((is w.0.op code.TypeVector) && (word w.0 1 == 3)) (or_left (not ((is w.0.op code.TypeVector) && (word w.0 1 == 3))) (is_no_uint Gs (word w.0 0)) told) in
      let t = type_shaped s.of entry right g.ty w.0 w.1 (type_suits g.op w.0 w.2) (vector_shaped w.0.op (and_left (is w.0.op code.TypeVector) (word w.0 1 == 3) vector)) in
      t.1 ∙ ap (λ q. Some q) (uvec3_tree s w.0 t.0 (sym (ap (λ o. option_map_or (tree_at Gs) o None) w.1) ∙ t.1) told)

  -- P10: the size is given by three constants, if any
  pub sizes_conform : AreSizes source
  sizes_conform = record {
    three = by_ids ids_good;
    composite = λ g there on.
        let good = composite_good g there on in
        let few : length (filter (is_size_composite s.of.heads) Gs) < 2 = less (count_by (is_size_composite s.of.heads) Gs) (length (filter (is_size_composite s.of.heads) Gs)) (length-filter (is_size_composite s.of.heads) Gs) good.0 in
        let bad = or_left (option_map_or (is_no_uvec3 Gs) (type_row Gs g.ty) false) (are_no_sizes s.of (is_defined_elsewhere s.of) g.args) good.1 in
        (ap (λ o. option_map_or (λ (h : Inst). h.args) o (option_map_or (λ (i : Inst). drop 2 i.args) (find (is_local_size_id s.entry) s.of.heads) [])) (found_only (is_size_composite s.of.heads) Gs g there on few), composite_type g there (typed_constant g.op (size_typed g.op (and_left ((is g.op code.ConstantComposite) || (is g.op code.SpecConstantComposite)) _ on))) bad);
    part = λ n g in_it at. by_part n g in_it at ids_good;
  }
    where
      less : (count n : ℕ) → n ≡ count → nat_le 2 count ≡ false → n < 2
      less count n same e = let few : count < 2 = grind (arith, nat_tests, e) in omega (arith, same, few)

      by_ids : (size_ids source ≡ []) ⊎ ((none : ℕ → Bool) × AreThree s.of none (size_ids source)) → (size_ids source ≡ []) ⊎ ((a : ℕ) × (b : ℕ) × (c : ℕ) × (size_ids source ≡ a ∷ b ∷ c ∷ []))
      by_ids (inl none) = inl none
      by_ids (inr w) = let t = w.1 in inr (t.first, t.second, t.third, t.whole)

      by_part : (n : ℕ) (g : Inst) → list_any (λ (k : ℕ). k == n) (size_ids source) ≡ true → global Gs n ≡ Some g → (size_ids source ≡ []) ⊎ ((none : ℕ → Bool) × AreThree s.of none (size_ids source))
          → (type_tree Gs g.ty ≡ Some plain.uint) × ((constant_kind g.op ≡ kinds.Word) ⊎ (constant_kind g.op ≡ kinds.SpecWord))
      by_part n g in_it at (inl none) = clash (sym in_it ∙ ap (list_any (λ (k : ℕ). k == n)) none)
      by_part n g in_it at (inr w) = by_place w.0 w.1 (w.1.first == n) refl (w.1.second == n) refl (w.1.third == n) refl (ap (list_any (λ (k : ℕ). k == n)) (sym w.1.whole) ∙ in_it)
        where
          at_id : (none : ℕ → Bool) (k : ℕ) → (k == n) ≡ true → is_no_part s.of none k ≡ false → (type_tree Gs g.ty ≡ Some plain.uint) × ((constant_kind g.op ≡ kinds.Word) ⊎ (constant_kind g.op ≡ kinds.SpecWord))
          at_id none k same off = part_good none k g off (ap (global Gs) (same_number k n same) ∙ at)

          by_place : (none : ℕ → Bool) (t : AreThree s.of none (size_ids source)) (x : Bool) → (t.first == n) ≡ x → (y : Bool) → (t.second == n) ≡ y → (z : Bool) → (t.third == n) ≡ z → (t.first == n || (t.second == n || (t.third == n || false))) ≡ true
              → (type_tree Gs g.ty ≡ Some plain.uint) × ((constant_kind g.op ≡ kinds.Word) ⊎ (constant_kind g.op ≡ kinds.SpecWord))
          by_place none t true a y b z c e = at_id none t.first a t.first_part
          by_place none t false a true b z c e = at_id none t.second b t.second_part
          by_place none t false a false b true c e = at_id none t.third c t.third_part
          by_place none t false a false b false c e = clash (sym e ∙ ap (λ q. q || (t.second == n || (t.third == n || false))) a ∙ ap (λ q. q || (t.third == n || false)) b ∙ ap (λ q. q || false) c)
