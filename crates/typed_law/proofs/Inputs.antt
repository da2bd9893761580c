-- The constants and variables of a conforming module fit their types; so do the values of built-in variables.
use Rattle.std.proofs.Common.{◌≡◌, ◌==◌, ◌||◌, ◌&&◌, not, ℕ, Bool, true, false, List, [], ◌∷◌, Option, Some, None, inl, inr, refl, sym, ap, subst, ◌∙◌, if◌then◌else◌}
use Rattle.std.specs.Prelude.{◌⊎◌, find, option_and_then, unwrap_or}
use Rattle.std.specs.Option.{option_map_or}
use Rattle.std.proofs.lemmas.Bool.Decides.{eqb_tells}
use Rattle.std.proofs.lemmas.Bool.{and_from, not-false}
use Rattle.std.proofs.lemmas.Option.{same_Some}
use Rattle.spv_ops.specs.Opcode.{is}
use Rattle.spv_ops.specs.Enumerants.{class_number, decoration_number, built_in_number, built_in_of_number, built_ins}
use Rattle.spv_ops.specs.declared.StorageClass.TheVariants as storage
use Rattle.spv_ops.specs.declared.Decoration.TheVariants as decoration
use Rattle.spv_ops.specs.declared.BuiltIn.{BuiltIn}
use Rattle.spv_ops.specs.declared.BuiltIn.TheVariants as built
use Rattle.spv_ops.specs.declared.Op.TheVariants as code
use Rattle.spv_module.specs.declared.inst.Inst.{Inst}
use Rattle.spv_module.specs.declared.tree.Elem.TheVariants as elem
use Rattle.spv_types.specs.declared.kind.TypeKind.TheVariants.{Int}
use Rattle.spv_types.specs.Tree.{Tree, int, uint, vector, ValueTree, word as word_value}
use Rattle.spv_types.specs.Types.{elem_of, tree_step, tree_before, tree_at, type_tree}
use Rattle.spv_decor.specs.Rows.{word, value_of}
use Rattle.spv_decor.specs.Decorations.{local_insts}
use Rattle.spv_index.specs.Pointers.{pointee}
use Rattle.op_semantics.specs.Fits.{fits}
use Rattle.profile_rules.specs.Places.{is_among, is_variable}
use Rattle.profile_rules.specs.TypeRows.{is_uint, type_row}
use Rattle.profile_rules.specs.Variables.{is_pointee, inputs, is_other_input_type}
use Rattle.profile_rules.specs.Entry.{is_no_uvec3, is_no_uint}
use Rattle.list_law.proofs.Tests.{or_left, or_right, and_off, and_right, and_left}
use Rattle.plan_law.proofs.Order.{among_left}
use Rattle.traces.specs.Invocations.{Invocation, Triple}
use Rattle.module_semantics.specs.Setting.{Setting, global_variable}
use Rattle.module_semantics.specs.Memory.{class_of}
use Rattle.module_semantics.specs.Accesses.{three, built_in_value, input_value}
use Rattle.fits_law.specs.State.{global_shape, HasShape, ModuleFits}
use Rattle.type_law.specs.Shaped.{HasConstants}
use Rattle.type_law.proofs.Rows.{int_kind, by_kind, vector_parts}
use Rattle.type_law.proofs.Scalars.{row_of, before_row}
use Rattle.type_law.proofs.Rows.{int_has}
use Rattle.type_law.proofs.Constants.{module_fits}
use Rattle.fits_law.specs.Takes.{Has, numbers}
use Rattle.typed_law.specs.Conforms.{IsConforming}
use Rattle.typed_law.proofs.Lists.{found_in}
use Rattle.typed_law.proofs.Rules.{input_right}
use Rattle.typed_law.proofs.Calls.{class_is, global_variable_is, global_points}

-- the built-in variable with a number
built_found : (n : ℕ) (bs : List BuiltIn) (b : BuiltIn) → find (λ (c : BuiltIn). built_in_number c == n) bs ≡ Some b → n ≡ built_in_number b
built_found n [] b e = cc
built_found n (c ∷ bs) b e = by_test (built_in_number c == n) (eqb_tells (built_in_number c) n) e (λ rest. built_found n bs b rest)
  where
    by_test : (t : Bool) → ((t ≡ true) × (built_in_number c ≡ n)) ⊎ ((t ≡ false) × (built_in_number c ≡ n → ⊥)) → (if t then Some c else find (λ (x : BuiltIn). built_in_number x == n) bs) ≡ Some b → (find (λ (x : BuiltIn). built_in_number x == n) bs ≡ Some b → n ≡ built_in_number b) → n ≡ built_in_number b
    by_test true (inl w) e next = sym w.1 ∙ ap built_in_number (same_Some c b e)
    by_test true (inr w) e next = cc
    by_test false w e next = next e

-- words
uint_has : (gs : List Inst) (f : ℕ → Option Tree) (x : Inst) (u : Tree) → is_uint x ≡ true → tree_step gs f x ≡ Some u → Has numbers None u
uint_has gs f x u on e = int_has gs f x u (and_left (is x.op code.TypeInt) (word x 0 == 32) (and_left ((is x.op code.TypeInt) && (word x 0 == 32)) (word x 1 == 0) on)) e

-- types of built-in variables
uint_tree : (gs : List Inst) (g : Inst) (t : Tree) → is_uint g ≡ true → tree_at gs g ≡ Some t → t ≡ uint
uint_tree gs g t on shape =
    let whole = and_left ((is g.op code.TypeInt) && (word g 0 == 32)) (word g 1 == 0) on in
    let sign = and_right ((is g.op code.TypeInt) && (word g 0 == 32)) (word g 1 == 0) on in
    let int_is = and_left (is g.op code.TypeInt) (word g 0 == 32) whole in
    let width = and_right (is g.op code.TypeInt) (word g 0 == 32) whole in
    sym (same_Some uint t (sym (ap (λ (b : Bool). if b then (if word g 1 == 0 then Some uint else (if word g 1 == 1 then Some int else None)) else None) width ∙ ap (λ (b : Bool). if b then Some uint else (if word g 1 == 1 then Some int else None)) sign) ∙ by_kind gs (tree_before gs g.at) g Int t (int_kind g.op int_is) shape))

three_fit : (t : Tree) (w : Triple) (r : ValueTree) → t ≡ vector elem.Uint 3 → Some (three w) ≡ Some r → fits t r ≡ true
three_fit t w r same e = subst (λ x. fits t x ≡ true) (same_Some (three w) r e) (subst (λ (x : Tree). fits x (three w) ≡ true) (sym same) refl)

-- by the number of a built-in variable: three words, or one
by_number : (inv : Invocation) (gs : List Inst) (g : Inst) (t : Tree) (b : BuiltIn) (r : ValueTree) → built_in_value inv b ≡ Some r → is_other_input_type gs (built_in_number b) g ≡ false → (is_no_uvec3 gs g ≡ false → t ≡ vector elem.Uint 3) → (not (is_uint g) ≡ false → t ≡ uint) → fits t r ≡ true
by_number inv gs g t built.NumWorkgroups r e right vectors one = three_fit t inv.num_workgroups r (vectors right) e
by_number inv gs g t built.WorkgroupId r e right vectors one = three_fit t inv.workgroup_id r (vectors right) e
by_number inv gs g t built.LocalInvocationId r e right vectors one = three_fit t inv.local_invocation_id r (vectors right) e
by_number inv gs g t built.GlobalInvocationId r e right vectors one = three_fit t inv.global_invocation_id r (vectors right) e
by_number inv gs g t built.LocalInvocationIndex r e right vectors one = let same = one right in subst (λ x. fits t x ≡ true) (same_Some (word_value inv.local_invocation_index) r e) (subst (λ x. fits x (word_value inv.local_invocation_index) ≡ true) (sym same) refl)
by_number inv gs g t built.WorkgroupSize r e right vectors one = cc

module _ (s : Setting) (entry : Option (List ℕ)) (right : IsConforming s.of entry) (chosen : ℕ → Option ℕ) (have : HasConstants s chosen) where
  abbrev Gs : List Inst
  Gs = s.of.globals

  -- a vector of three words
  three_words : (g : Inst) (t : Tree) → tree_at Gs g ≡ Some t → is_no_uvec3 Gs g ≡ false → t ≡ vector elem.Uint 3
  three_words g t shape off =
      let first = not-false ((is g.op code.TypeVector) && (word g 1 == 3)) (or_left (not ((is g.op code.TypeVector) && (word g 1 == 3))) (is_no_uint Gs (word g 0)) off) in
      let second = or_right (not ((is g.op code.TypeVector) && (word g 1 == 3))) (is_no_uint Gs (word g 0)) off in
      let v = vector_parts Gs g t (and_left (is g.op code.TypeVector) (word g 1 == 3) first) shape in
      let part : type_tree Gs (word g 0) ≡ Some v.0 = before_row is_uint numbers uint_has Gs g.at (word g 0) v.0 v.2 in
      let h = row_of is_uint numbers uint_has Gs (word g 0) v.0 part in
      let on = not-false (is_uint h.0) (ap (λ o. option_map_or (λ (x : Inst). not (is_uint x)) o false) (sym h.1) ∙ second) in
      let one = uint_tree Gs h.0 v.0 on h.2 in
      let e : elem.Uint ≡ v.1 = same_Some elem.Uint v.1 (ap elem_of (sym one) ∙ v.3) in
      let size : word g 1 ≡ 3 = same_three (word g 1 == 3) (eqb_tells (word g 1) 3) (and_right (is g.op code.TypeVector) (word g 1 == 3) first) in
      v.4 ∙ (ap (λ d. vector d (word g 1)) (sym e) ∙ ap (vector elem.Uint) size)
    where
      same_three : (b : Bool) → ((b ≡ true) × (word g 1 ≡ 3)) ⊎ ((b ≡ false) × (word g 1 ≡ 3 → ⊥)) → b ≡ true → word g 1 ≡ 3
      same_three b (inl w) on = w.1
      same_three true (inr w) on = cc
      same_three false (inr w) on = cc

  input_fits : (id : ℕ) (v : Inst) (r : ValueTree) → global_variable s id ≡ Some v → class_of v ≡ Some storage.Input → input_value s v ≡ Some r → HasShape (global_shape s id) r
  input_fits id v r is_it class e =
      let w = global_variable_is s entry right chosen have id v is_it in
      let q = global_points s entry right chosen have id v is_it in
      let told = and_off (is_variable v && (word v 0 == class_number storage.Input)) (option_map_or (λ b. not (is_among inputs b) || is_pointee Gs (is_other_input_type Gs b) v) (value_of s.of.heads v.result (decoration_number decoration.BuiltIn)) true)
      (input_right s.of entry right v (among_left v Gs (local_insts s.of) (found_in Gs id v w.0))) (and_from (is_variable v) (word v 0 == class_number storage.Input) w.1 (ap (λ n. n == class_number storage.Input) (class_is v storage.Input class))) in
      subst (λ o. HasShape o r) (sym q.4) (by_value q.0 q.1 q.2 q.3 (value_of s.of.heads v.result (decoration_number decoration.BuiltIn)) refl told e)
    where
      by_built : (q : ℕ) (t : Tree) → pointee Gs v.ty ≡ Some q → (g : Inst) → type_row Gs q ≡ Some g → tree_at Gs g ≡ Some t → (n : ℕ) → is_pointee Gs (is_other_input_type Gs n) v ≡ false → (o : Option BuiltIn) → built_in_of_number n ≡ o → option_and_then (built_in_value s.invocation) o ≡ Some r → fits t r ≡ true
      by_built q t at g row shape n other None found e = cc
      by_built q t at g row shape n other (Some b) found e =
          let n_is : n ≡ built_in_number b = built_found n built_ins b found in
          let of_type : is_other_input_type Gs n g ≡ false = ap (λ o. option_map_or (is_other_input_type Gs n) o false) (sym (ap (option_and_then (type_row Gs)) at ∙ row)) ∙ other in
          by_number s.invocation Gs g t b r e (subst (λ x. is_other_input_type Gs x g ≡ false) n_is of_type) (three_words g t shape) (λ one. uint_tree Gs g t (not-false (is_uint g) one) shape)

      by_value : (q : ℕ) (t : Tree) → pointee Gs v.ty ≡ Some q → type_tree Gs q ≡ Some t → (o : Option ℕ) → value_of s.of.heads v.result (decoration_number decoration.BuiltIn) ≡ o → option_map_or (λ b. not (is_among inputs b) || is_pointee Gs (is_other_input_type Gs b) v) o true ≡ false → input_value s v ≡ Some r → fits t r ≡ true
      by_value q t at shape None found told e = cc
      by_value q t at shape (Some n) found told e =
          let g = row_of is_uint numbers uint_has Gs q t shape in
          by_built q t at g.0 g.1 g.2 n (or_right (not (is_among inputs n)) (is_pointee Gs (is_other_input_type Gs n) v) told) (built_in_of_number n) refl
          (ap (λ o. option_and_then (built_in_value s.invocation) (built_in_of_number (unwrap_or o 0))) (sym found) ∙ e)

  -- what a conforming module has fits its types
  pub conforming_fits : ModuleFits s
  conforming_fits = module_fits s chosen have right.results (λ id v there. let q = global_points s entry right chosen have id v there in (q.1, q.4)) input_fits
