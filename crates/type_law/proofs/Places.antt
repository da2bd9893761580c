-- Parts of variables along indexes: the types of a module lead where their shapes do.
use Rattle.std.proofs.Common.{◌≡◌, ◌&&◌, ◌==◌, ℕ, zero, suc, Bool, true, false, List, [], ◌∷◌, Option, Some, None, refl, sym, ap, ◌∙◌, if◌then◌else◌}
use Rattle.std.specs.Prelude.{option_map, option_and_then, nat_le, slice_index, unwrap_or}
use Rattle.std.specs.Option.{option_map_or}
use Rattle.std.proofs.lemmas.Option.{same_Some}
use Rattle.spv_ops.specs.declared.Op.{Op}
use Rattle.spv_ops.specs.declared.Op.TheVariants as code
use Rattle.spv_module.specs.Held.{global as global_inst}
use Rattle.spv_module.specs.declared.inst.Inst.{Inst}
use Rattle.spv_module.specs.declared.tree.Elem.{Elem}
use Rattle.spv_module.specs.declared.tree.Length.{Length}
use Rattle.spv_types.specs.declared.kind.TypeKind.{TypeKind}
use Rattle.spv_types.specs.declared.kind.TypeKind.TheVariants.{Bool as BoolKind, Int, Vector, Array, Runtime, Struct, Other}
use Rattle.spv_types.specs.Tree.{Tree, boolean, int, uint, vector, array, runtime, struct, Trees, no_trees, tree}
use Rattle.spv_types.specs.Types.{kind, elem_of, length_by, sized_vector, vector_tree, array_tree, both, all_trees, tree_by_kind, tree_before, tree_at, type_tree}
use Rattle.spv_ops.specs.declared.StorageClass.{StorageClass}
use Rattle.spv_index.specs.Locals.{typed, global_type}
use Rattle.spv_index.specs.Pointers.{pointee}
use Rattle.module_semantics.specs.Setting.{Setting, as_variable, global_variable}
use Rattle.module_semantics.specs.Memory.{part_by, part_type, type_along, variable_type, shape_along, class_of}
use Rattle.module_semantics.specs.State.{global}
use Rattle.module_semantics.specs.Accesses.{seen, seen_if, if_seen, is_seen}
use Rattle.list_law.proofs.Options.{some_part, none_some}
use Rattle.fits_law.specs.Takes.{numbers, nth_of}
use Rattle.fits_law.specs.State.{global_shape, element_shape, place_shape, LeadsTo}
use Rattle.profile_rules.specs.TypeRows.{is_int}
use Rattle.profile_rules.specs.Places.{is_variable}
use Rattle.type_law.proofs.Rows.{int_has}
use Rattle.type_law.proofs.Scalars.{before_row}
use Rattle.type_law.proofs.Choices.{scalar_elem}

-- the part at an index by the kind of type
abbrev part_of_kind : TypeKind → List ℕ → ℕ → ℕ
part_of_kind Struct args i = slice_index args i
part_of_kind _ args i = slice_index args 0

member_is : (f : ℕ → Option Tree) (ids : List ℕ) (ts : Trees) (i : ℕ) (u : Tree) → all_trees f ids ≡ Some ts → nth_of ts i ≡ Some u → f (slice_index ids i) ≡ Some u
member_is f [] ts i u e at = let none : no_trees ≡ ts = same_Some no_trees ts e in none_some (ap (λ x. nth_of x i) none ∙ at)
member_is f (id ∷ ids) ts i u e at = by_parts (f id) refl (all_trees f ids) refl i e at (λ rest k all there. member_is f ids rest k u all there)
  where
    by_parts : (o : Option Tree) → f id ≡ o → (q : Option Trees) → all_trees f ids ≡ q → (i : ℕ) → both o q ≡ Some ts → nth_of ts i ≡ Some u → ((rest : Trees) (k : ℕ) → all_trees f ids ≡ Some rest → nth_of rest k ≡ Some u → f (slice_index ids k) ≡ Some u) → f (slice_index (id ∷ ids) i) ≡ Some u
    by_parts None is q all i e at later = cc
    by_parts (Some t) is None all i e at later = cc
    by_parts (Some t) is (Some rest) all zero e at later = is ∙ ap (λ x. nth_of x 0) (same_Some (tree t rest) ts e) ∙ at
    by_parts (Some t) is (Some rest) all (suc k) e at later = later rest k all (ap (λ x. nth_of x (suc k)) (same_Some (tree t rest) ts e) ∙ at)

module _ (s : Setting) where
  abbrev Gs : List Inst
  Gs = s.of.globals

  element_at : (g : Inst) (f : ℕ → Option Tree) (k : TypeKind) (t u : Tree) (i : ℕ) → tree_by_kind Gs f g k ≡ Some t → element_shape t i ≡ Some u → f (part_of_kind k g.args i) ≡ Some u
  element_at g f BoolKind t u i e at = none_some (ap (λ x. element_shape x i) (same_Some boolean t e) ∙ at)
  element_at g f Int t u i e at = by_width (slice_index g.args 0 == 32) (slice_index g.args 1 == 0) (slice_index g.args 1 == 1) e
    where
      by_width : (w a b : Bool) → (if w then (if a then Some uint else (if b then Some int else None)) else None) ≡ Some t → f (slice_index g.args 0) ≡ Some u
      by_width true true b e = none_some (ap (λ x. element_shape x i) (same_Some uint t e) ∙ at)
      by_width true false true e = none_some (ap (λ x. element_shape x i) (same_Some int t e) ∙ at)
      by_width true false false e = cc
      by_width false a b e = cc
  element_at g f Vector t u i e at = by_part (f (slice_index g.args 0)) refl e
    where
      by_size : (x : Tree) (d : Elem) (a b : Bool) → f (slice_index g.args 0) ≡ Some x → elem_of x ≡ Some d → (if a && b then Some (vector d (slice_index g.args 1)) else None) ≡ Some t → f (slice_index g.args 0) ≡ Some u
      by_size x d true true there is h = there ∙ ap (λ y. Some y) (scalar_elem x d is) ∙ ap (λ y. element_shape y i) (same_Some (vector d (slice_index g.args 1)) t h) ∙ at
      by_size x d true false there is h = cc
      by_size x d false b there is h = cc

      by_elem : (x : Tree) (o : Option Elem) → f (slice_index g.args 0) ≡ Some x → elem_of x ≡ o → option_map_or (sized_vector (slice_index g.args 1)) o None ≡ Some t → f (slice_index g.args 0) ≡ Some u
      by_elem x None there is h = cc
      by_elem x (Some d) there is h = by_size x d (nat_le 2 (slice_index g.args 1)) (nat_le (slice_index g.args 1) 4) there is h

      by_part : (o : Option Tree) → f (slice_index g.args 0) ≡ o → vector_tree o (slice_index g.args 1) ≡ Some t → f (slice_index g.args 0) ≡ Some u
      by_part None there h = cc
      by_part (Some x) there h = by_elem x (elem_of x) there refl h
  element_at g f Array t u i e at = by_part (f (slice_index g.args 0)) refl (length_by (slice_index g.args 1) (global_inst Gs (slice_index g.args 1))) e
    where
      by_part : (o : Option Tree) → f (slice_index g.args 0) ≡ o → (l : Option Length) → array_tree o l ≡ Some t → f (slice_index g.args 0) ≡ Some u
      by_part None there l h = cc
      by_part (Some x) there None h = cc
      by_part (Some x) there (Some l) h = there ∙ ap (λ y. element_shape y i) (same_Some (array x l) t h) ∙ at
  element_at g f Runtime t u i e at = by_part (f (slice_index g.args 0)) refl e
    where
      by_part : (o : Option Tree) → f (slice_index g.args 0) ≡ o → option_map runtime o ≡ Some t → f (slice_index g.args 0) ≡ Some u
      by_part None there h = cc
      by_part (Some x) there h = there ∙ ap (λ y. element_shape y i) (same_Some (runtime x) t h) ∙ at
  element_at g f Struct t u i e at = by_parts (all_trees f g.args) refl e
    where
      by_parts : (o : Option Trees) → all_trees f g.args ≡ o → option_map (struct g.result) o ≡ Some t → f (slice_index g.args i) ≡ Some u
      by_parts None all h = cc
      by_parts (Some ts) all h = member_is f g.args ts i u all (ap (λ y. element_shape y i) (same_Some (struct g.result ts) t h) ∙ at)
  element_at g f Other t u i e at = cc

  by_opcode : (o : Op) (args : List ℕ) (i : ℕ) → part_by o args i ≡ part_of_kind (kind o) args i
  unfolding kind
  by_opcode code.TypeStruct args i = refl
  by_opcode code.TypeBool args i = refl
  by_opcode code.TypeInt args i = refl
  by_opcode code.TypeVector args i = refl
  by_opcode code.TypeArray args i = refl
  by_opcode code.TypeRuntimeArray args i = refl
  by_opcode o args i = refl

  -- the part at an index has the shape of the part
  pub part_leads : (ty i : ℕ) (t u : Tree) → type_tree Gs ty ≡ Some t → element_shape t i ≡ Some u → type_tree Gs (part_type s ty i) ≡ Some u
  part_leads ty i t u shape at = by_global (global_inst Gs ty) refl shape
    where
      by_global : (o : Option Inst) → global_inst Gs ty ≡ o → option_map_or (tree_at Gs) o None ≡ Some t → type_tree Gs (part_type s ty i) ≡ Some u
      by_global None is e = cc
      by_global (Some g) is e =
          let part : part_type s ty i ≡ part_of_kind (kind g.op) g.args i = ap (λ o. option_map_or (λ (x : Inst). part_by x.op x.args i) o 0) is ∙ by_opcode g.op g.args i in
          ap (type_tree Gs) part ∙ before_row is_int numbers int_has Gs g.at (part_of_kind (kind g.op) g.args i) u (element_at g (tree_before Gs g.at) (kind g.op) t u i e at)

  pub types_along : (path : List ℕ) (ty : ℕ) (t u : Tree) → type_tree Gs ty ≡ Some t → place_shape t path ≡ Some u → type_tree Gs (type_along s ty path) ≡ Some u
  types_along [] ty t u shape at = shape ∙ at
  types_along (i ∷ path) ty t u shape at =
      let part = some_part (λ x. place_shape x path) (element_shape t i) u at in
      types_along path (part_type s ty i) part.0 u (part_leads ty i t part.0 shape part.1) part.2

  -- a variable's type is that of what its pointer leads to
  variable_type_is : (v : Inst) (q p : ℕ) → typed v ≡ Some q → pointee Gs q ≡ Some p → variable_type s v ≡ p
  variable_type_is v q p is at = by_test (v.ty == 0) is
    where
      by_test : (b : Bool) → (if b then None else Some v.ty) ≡ Some q → variable_type s v ≡ p
      by_test true e = cc
      by_test false e = ap (λ o. unwrap_or o 0) (ap (pointee Gs) (same_Some v.ty q e) ∙ at)

  variable_is : (id : ℕ) (v : Inst) → global_variable s id ≡ Some v → global_inst Gs id ≡ Some v
  variable_is id v e = by_global (global_inst Gs id) e
    where
      by_test : (g : Inst) (b : Bool) → elim b [ true ↦ Some g | false ↦ None ] ≡ Some v → Some g ≡ Some v
      by_test g true e = e
      by_test g false e = cc

      by_global : (o : Option Inst) → elim o [ None ↦ None | Some g ↦ as_variable g ] ≡ Some v → o ≡ Some v
      by_global None e = cc
      by_global (Some g) e = by_test g (is_variable g) e

  seen_is : (id : ℕ) (v : Inst) → seen s (global id) ≡ Some v → global_inst Gs id ≡ Some v
  seen_is id v e =
      let g = some_part seen_if (global_variable s id) v e in
      variable_is id g.0 g.1 ∙ by_class g.0 (class_of g.0) g.2
    where
      by_test : (g : Inst) (b : Bool) → elim b [ true ↦ Some g | false ↦ None ] ≡ Some v → Some g ≡ Some v
      by_test g true e = e
      by_test g false e = cc

      by_class : (g : Inst) (o : Option StorageClass) → if_seen g o ≡ Some v → Some g ≡ Some v
      by_class g None e = cc
      by_class g (Some class) e = by_test g (is_seen class) e

  -- along the types of a variable that others see one comes to the shape of the part
  pub along_is : (id : ℕ) (path : List ℕ) (v : Inst) (t u : Tree) → seen s (global id) ≡ Some v → shape_along s v path ≡ Some t → LeadsTo (global_shape s id) path (Some u) → t ≡ u
  along_is id path v t u is shape leads = by_shape (global_shape s id) refl leads
    where
      by_shape : (o : Option Tree) → global_shape s id ≡ o → LeadsTo o path (Some u) → t ≡ u
      by_shape None e leads = absurd leads
      by_shape (Some r) e leads =
          let part = some_part (type_tree Gs) (option_and_then (pointee Gs) (global_type Gs id)) r e in
          let own = some_part (pointee Gs) (global_type Gs id) part.0 part.1 in
          let typed_is : typed v ≡ Some own.0 = ap (option_and_then typed) (sym (seen_is id v is)) ∙ own.1 in
          let there = types_along path part.0 r u part.2 leads in
          same_Some t u (sym shape ∙ (ap (λ ty. type_tree Gs (type_along s ty path)) (variable_type_is v own.0 part.0 typed_is own.2) ∙ there))
