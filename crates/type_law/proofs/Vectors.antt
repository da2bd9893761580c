-- Copies, components put into vectors, and shuffles take the shapes of their operands.
use Rattle.std.proofs.Common.{◌≡◌, ◌||◌, ℕ, Bool, false, List, [], ◌∷◌, length, Option, Some, None, refl, sym, ap, ◌∙◌, subst, drop, if◌then◌else◌}
use Rattle.std.specs.Prelude.{option_and_then}
use Rattle.std.specs.Option.{option_map_or}
use Rattle.spv_module.specs.declared.inst.Inst.{Inst}
use Rattle.spv_module.specs.declared.inst.Function.{Function}
use Rattle.spv_module.specs.declared.tree.Elem.{Elem}
use Rattle.spv_module.specs.declared.tree.Elem.TheVariants as elem
use Rattle.spv_module.specs.declared.tree.Length.TheVariants.{Fixed, Spec}
use Rattle.spv_types.specs.Tree.{Tree, boolean, int, uint, vector, array, runtime, struct, Trees, no_trees, tree}
use Rattle.spv_types.specs.Leaves.{IsSized, AreSized}
use Rattle.spv_types.specs.Types.{type_tree}
use Rattle.spv_decor.specs.Rows.{word}
use Rattle.spv_index.specs.Locals.{type_in}
use Rattle.op_semantics.specs.declared.operation.Operation.TheVariants as op
use Rattle.op_semantics.specs.Fits.{elem_tree}
use Rattle.profile_rules.specs.TypeRows.{is_int, is_vector, fails, value_fails, is_other, component_if, component, size_if, size, is_not}
use Rattle.profile_rules.specs.ValueRules.{is_other_component, are_other_types, some_out_of, has_other_components, has_other_sizes, breaks_t8_insert, breaks_t9}
use Rattle.module_semantics.specs.Setting.{Setting}
use Rattle.list_law.proofs.Numbers.{same_count}
use Rattle.list_law.proofs.Options.{some_part}
use Rattle.list_law.proofs.Tests.{or_left}
use Rattle.fits_law.specs.Takes.{AreAlike, Alike, AllAlike, IsShuffle, Takes}
use Rattle.fits_law.specs.State.{value_shape}
use Rattle.type_law.proofs.Rows.{vector_parts}
use Rattle.type_law.proofs.Operands.{int_scalar, same_shape_of}
use Rattle.type_law.proofs.Choices.{passes, scalar_elem}
use Rattle.type_law.proofs.Parts.{row, earlier_is, same_types}

-- of five tests none is on
pub five_off : (a b c d e : Bool) → (a || b || c || d || e) ≡ false → (a ≡ false) × (b ≡ false) × (c ≡ false) × (d ≡ false) × (e ≡ false)
five_off false false false false false h = (refl, refl, refl, refl, refl)
five_off a b c d e h = cc

pub three_off : (a b c : Bool) → (a || b || c) ≡ false → (a ≡ false) × (b ≡ false) × (c ≡ false)
three_off false false false h = (refl, refl, refl)
three_off a b c h = cc

-- a shape is like itself, where it has values
alike_elem : (e : Elem) → AreAlike e e
alike_elem elem.Bool = tt
alike_elem elem.Int = tt
alike_elem elem.Uint = tt

mutual
  pub alike_self : (t : Tree) → IsSized t → Alike t t
  alike_self boolean s = tt
  alike_self int s = tt
  alike_self uint s = tt
  alike_self (vector e n) s = (alike_elem e, refl)
  alike_self (array t (Fixed n)) s = (alike_self t s, refl)
  alike_self (array t (Spec id)) s = absurd s
  alike_self (runtime t) s = absurd s
  alike_self (struct id ts) s = all_alike ts s

  all_alike : (ts : Trees) → AreSized ts → AllAlike ts ts
  all_alike no_trees s = tt
  all_alike (tree t ts) s = (alike_self t s.0, all_alike ts s.1)

same_elem : (e d : Elem) → elem_tree e ≡ elem_tree d → e ≡ d
same_elem elem.Bool elem.Bool h = refl
same_elem elem.Int elem.Int h = refl
same_elem elem.Uint elem.Uint h = refl
same_elem e d h = cc

module _ (s : Setting) (f : Function) where
  abbrev Gs : List Inst
  Gs = s.of.globals

  abbrev T : ℕ → Option ℕ
  T = type_in s.of.globals f

  -- T3: a copy
  pub copy_takes : (ls : List ℕ) (ty id : ℕ) (t a : Tree) → is_other Gs T ty id ≡ false → type_tree Gs ty ≡ Some t → IsSized t → value_shape s f id ≡ Some a → Takes op.Copy t ls (a ∷ [])
  copy_takes ls ty id t a right shape sized value = subst (Alike t) (sym (same_shape_of s f ty id t a right shape value)) (alike_self t sized)

  -- what a vector type is made of
  record IsVector (ty : ℕ) (t : Tree) : Type 0 where
    part : ℕ
    element : Elem
    count : ℕ
    whole : t ≡ vector element count
    part_is : component Gs ty ≡ Some part
    shaped : type_tree Gs part ≡ Some (elem_tree element)
    sized : size Gs ty ≡ Some count

  vector_of : (ty : ℕ) (t : Tree) → type_tree Gs ty ≡ Some t → fails is_vector Gs ty ≡ false → IsVector ty t
  vector_of ty t shape right =
      let g = row s f ty t shape in
      let on = passes s f is_vector ty g.0 g.1 right in
      let parts = vector_parts Gs g.0 t on g.2 in
      record {
        part = word g.0 0;
        element = parts.1;
        count = word g.0 1;
        whole = parts.4;
        part_is = ap (option_and_then component_if) g.1 ∙ ap (λ b. if b then Some (word g.0 0) else None) on;
        shaped = earlier_is s f g.0.at (word g.0 0) parts.0 parts.2 ∙ ap (λ x. Some x) (scalar_elem parts.0 parts.1 parts.3);
        sized = ap (option_and_then size_if) g.1 ∙ ap (λ b. if b then Some (word g.0 1) else None) on;
      }

  -- T8: a component of a vector, by an int
  pub put_takes : (ls : List ℕ) (i : Inst) (t a b c : Tree) → breaks_t8_insert Gs T i ≡ false → type_tree Gs i.ty ≡ Some t → value_shape s f (word i 0) ≡ Some a → value_shape s f (word i 1) ≡ Some b → value_shape s f (word i 2) ≡ Some c
      → Takes op.VectorInsertDynamic t ls (a ∷ b ∷ c ∷ [])
  put_takes ls i t a b c right shape ha hb hc =
      let off = five_off (fails is_vector Gs i.ty) (value_fails is_vector Gs T (word i 0)) (value_fails is_int Gs T (word i 2)) (is_other Gs T i.ty (word i 0)) (is_other_component Gs T i.ty (word i 1)) right in
      let v = vector_of i.ty t shape off.0 in
      let put = same_shape_of s f v.part (word i 1) (elem_tree v.element) b (ap (λ o. option_map_or (λ x. is_other Gs T x (word i 1)) o false) (sym v.part_is) ∙ off.4) v.shaped hb in
      (v.element, v.count, v.whole, same_shape_of s f i.ty (word i 0) t a off.3 shape ha, put, int_scalar s f (word i 2) c off.2 hc)

  -- the components of two vectors that do not differ in type
  same_parts : (ty other : ℕ) (t u : Tree) (v : IsVector ty t) (w : IsVector other u) → are_other_types Gs (component Gs ty) (component Gs other) ≡ false → w.element ≡ v.element
  same_parts ty other t u v w right =
      let known : are_other_types Gs (Some v.part) (Some w.part) ≡ false = subst (λ o. are_other_types Gs (Some v.part) o ≡ false) w.part_is (subst (λ o. are_other_types Gs o (component Gs other) ≡ false) v.part_is right) in
      same_elem w.element v.element (sym (same_types s f v.part w.part (elem_tree v.element) (elem_tree w.element) v.shaped w.shaped known))

  -- T9: a shuffle of two vectors
  pub shuffle_takes : (i : Inst) (t a b : Tree) → breaks_t9 Gs T i ≡ false → type_tree Gs i.ty ≡ Some t → value_shape s f (word i 0) ≡ Some a → value_shape s f (word i 1) ≡ Some b → Takes op.VectorShuffle t (drop 2 i.args) (a ∷ b ∷ [])
  shuffle_takes i t a b right shape ha hb =
      let off = five_off (fails is_vector Gs i.ty) (value_fails is_vector Gs T (word i 0)) (value_fails is_vector Gs T (word i 1)) (has_other_components Gs i.ty (T (word i 0)) (T (word i 1))) (has_other_sizes Gs i.ty (T (word i 0)) (T (word i 1)) (drop 2 i.args)) right in
      let x = some_part (type_tree Gs) (T (word i 0)) a ha in
      let y = some_part (type_tree Gs) (T (word i 1)) b hb in
      let v = vector_of i.ty t shape off.0 in
      let p = vector_of x.0 a x.2 (ap (λ o. option_map_or (fails is_vector Gs) o false) (sym x.1) ∙ off.1) in
      let q = vector_of y.0 b y.2 (ap (λ o. option_map_or (fails is_vector Gs) o false) (sym y.1) ∙ off.2) in
      let parts = three_off (are_other_types Gs (component Gs i.ty) (option_and_then (component Gs) (T (word i 0)))) (are_other_types Gs (component Gs i.ty) (option_and_then (component Gs) (T (word i 1)))) (are_other_types Gs (option_and_then (component Gs) (T (word i 0))) (option_and_then (component Gs) (T (word i 1)))) off.3 in
      let first = same_parts i.ty x.0 t a v p (ap (λ o. are_other_types Gs (component Gs i.ty) (option_and_then (component Gs) o)) (sym x.1) ∙ parts.0) in
      let second = same_parts i.ty y.0 t b v q (ap (λ o. are_other_types Gs (component Gs i.ty) (option_and_then (component Gs) o)) (sym y.1) ∙ parts.1) in
      let many = same_count v.count (length (drop 2 i.args)) (ap (is_not (length (drop 2 i.args))) (sym v.sized) ∙ or_left (is_not (length (drop 2 i.args)) (size Gs i.ty)) (some_out_of (option_and_then (size Gs) (T (word i 0))) (option_and_then (size Gs) (T (word i 1))) (drop 2 i.args)) off.4) in
      let made : IsShuffle (vector v.element v.count) (drop 2 i.args) (vector p.element p.count) (vector q.element q.count) = (first, second, sym many) in
      shuffled_as t a b (vector v.element v.count) (vector p.element p.count) (vector q.element q.count) v.whole p.whole q.whole made
    where
      shuffled_as : (t a b u x y : Tree) → t ≡ u → a ≡ x → b ≡ y → IsShuffle u (drop 2 i.args) x y → IsShuffle t (drop 2 i.args) a b
      shuffled_as t a b u x y tu ax by h = subst (IsShuffle t (drop 2 i.args) a) {x = y} (sym by) (subst (λ z. IsShuffle t (drop 2 i.args) z y) {x = x} (sym ax) (subst (λ z. IsShuffle z (drop 2 i.args) x y) {x = u} (sym tu) h))
