-- What the rules on types say of an operation: it takes the shapes of its operands.
use Rattle.std.proofs.Common.{◌≡◌, ◌==◌, ◌&&◌, ℕ, Bool, true, false, not, List, [], ◌∷◌, length, Option, Some, None, inl, inr, sym, ap, ◌∙◌, arith}
use Rattle.std.specs.Prelude.{◌⊎◌, is_some}
use Rattle.std.specs.Option.{option_map_or}
use Rattle.std.proofs.lemmas.Bool.Decides.{eqb_tells}
use Rattle.std.proofs.lemmas.Bool.{not-false}
use Rattle.std.proofs.lemmas.Option.{same_Some}
use Rattle.spv_module.specs.declared.inst.Inst.{Inst}
use Rattle.spv_module.specs.declared.inst.Function.{Function}
use Rattle.spv_module.specs.declared.tree.Elem.{Elem}
use Rattle.spv_module.specs.declared.tree.Elem.TheVariants as elem
use Rattle.spv_types.specs.Tree.{Tree, boolean, int, uint, vector, array, runtime, struct}
use Rattle.spv_types.specs.Types.{tree_before, type_tree}
use Rattle.spv_index.specs.Locals.{type_in}
use Rattle.op_semantics.specs.declared.operation.Unary.{Unary}
use Rattle.op_semantics.specs.declared.operation.Binary.{Binary}
use Rattle.op_semantics.specs.declared.operation.Comparison.{Comparison}
use Rattle.op_semantics.specs.declared.operation.Logical.{Logical}
use Rattle.op_semantics.specs.declared.operation.Clamp.{Clamp}
use Rattle.op_semantics.specs.declared.operation.Operation.TheVariants as op
use Rattle.profile_rules.specs.TypeRows.{is_int, type_row, fails, differ, value_fails, is_other}
use Rattle.profile_rules.specs.NumberRules.{are_unlike_ints, breaks_t14, breaks_t15}
use Rattle.module_semantics.specs.Setting.{Setting}
use Rattle.list_law.proofs.Options.{some_part}
use Rattle.fits_law.specs.Takes.{numbers, truths, Has, IsOfSort, AreAlike, Alike, IsField, Takes}
use Rattle.fits_law.specs.State.{value_shape}
use Rattle.fits_law.specs.Typed.{HaveShapes}
use Rattle.type_law.specs.Shaped.{AllHave}
use Rattle.type_law.proofs.Rows.{int_has}
use Rattle.type_law.proofs.Scalars.{row_of, like_ints, compared_ints, like_bools}

-- numbers are alike
alike_elems : (e d : Elem) → IsOfSort numbers e → IsOfSort numbers d → AreAlike e d
alike_elems elem.Int elem.Int p q = tt
alike_elems elem.Int elem.Uint p q = tt
alike_elems elem.Uint elem.Int p q = tt
alike_elems elem.Uint elem.Uint p q = tt
alike_elems elem.Bool d p q = absurd p
alike_elems elem.Int elem.Bool p q = absurd q
alike_elems elem.Uint elem.Bool p q = absurd q

alike_numbers : (n : Option ℕ) (t u : Tree) → Has numbers n t → Has numbers n u → Alike t u
alike_numbers None int int p q = tt
alike_numbers None int uint p q = tt
alike_numbers None uint int p q = tt
alike_numbers None uint uint p q = tt
alike_numbers (Some n) (vector e m) (vector d k) p q = (alike_elems e d p.0 q.0, p.1 ∙ sym q.1)
alike_numbers None int boolean p q = absurd q
alike_numbers None int (vector d k) p q = absurd q
alike_numbers None int (array t l) p q = absurd q
alike_numbers None int (runtime t) p q = absurd q
alike_numbers None int (struct id ts) p q = absurd q
alike_numbers None uint boolean p q = absurd q
alike_numbers None uint (vector d k) p q = absurd q
alike_numbers None uint (array t l) p q = absurd q
alike_numbers None uint (runtime t) p q = absurd q
alike_numbers None uint (struct id ts) p q = absurd q
alike_numbers (Some n) (vector e m) boolean p q = absurd q
alike_numbers (Some n) (vector e m) int p q = absurd q
alike_numbers (Some n) (vector e m) uint p q = absurd q
alike_numbers (Some n) (vector e m) (array t l) p q = absurd q
alike_numbers (Some n) (vector e m) (runtime t) p q = absurd q
alike_numbers (Some n) (vector e m) (struct id ts) p q = absurd q
alike_numbers None boolean u p q = absurd p
alike_numbers None (vector e m) u p q = absurd p
alike_numbers None (array t l) u p q = absurd p
alike_numbers None (runtime t) u p q = absurd p
alike_numbers None (struct id ts) u p q = absurd p
alike_numbers (Some n) boolean u p q = absurd p
alike_numbers (Some n) int u p q = absurd p
alike_numbers (Some n) uint u p q = absurd p
alike_numbers (Some n) (array t l) u p q = absurd p
alike_numbers (Some n) (runtime t) u p q = absurd p
alike_numbers (Some n) (struct id ts) u p q = absurd p

module _ (s : Setting) (f : Function) (ty : ℕ) (t : Tree) (ls : List ℕ) (ids : List ℕ) (us : List Tree) (shape : type_tree s.of.globals ty ≡ Some t) (have : HaveShapes s f ids us) where
  -- T13, T18, T19, T20: result and operands are numbers, of one number of components
  pub unary_takes : (o : Unary) → are_unlike_ints s.of.globals (type_in s.of.globals f) ty ids ≡ false → length us ≡ 1 → Takes (op.Unary o) t ls us
  unary_takes o right count = by_count us (like_ints s f ty t ids us right shape have) count
    where
      by_count : (us : List Tree) → (n : Option ℕ) × Has numbers n t × AllHave numbers n us → length us ≡ 1 → Takes (op.Unary o) t ls us
      by_count (a ∷ []) h count = (h.0, h.1, h.2.0)
      by_count [] h count = absurd (omega (arith, count))
      by_count (a ∷ b ∷ us) h count = absurd (omega (arith, count))

  pub binary_takes : (o : Binary) → are_unlike_ints s.of.globals (type_in s.of.globals f) ty ids ≡ false → length us ≡ 2 → Takes (op.Binary o) t ls us
  binary_takes o right count = by_count us (like_ints s f ty t ids us right shape have) count
    where
      by_count : (us : List Tree) → (n : Option ℕ) × Has numbers n t × AllHave numbers n us → length us ≡ 2 → Takes (op.Binary o) t ls us
      by_count (a ∷ b ∷ []) h count = (h.0, h.1, h.2.0, h.2.1.0)
      by_count [] h count = absurd (omega (arith, count))
      by_count (a ∷ []) h count = absurd (omega (arith, count))
      by_count (a ∷ b ∷ c ∷ us) h count = absurd (omega (arith, count))

  pub clamp_takes : (o : Clamp) → are_unlike_ints s.of.globals (type_in s.of.globals f) ty ids ≡ false → length us ≡ 3 → Takes (op.Clamp o) t ls us
  clamp_takes o right count = by_count us (like_ints s f ty t ids us right shape have) count
    where
      by_count : (us : List Tree) → (n : Option ℕ) × Has numbers n t × AllHave numbers n us → length us ≡ 3 → Takes (op.Clamp o) t ls us
      by_count (a ∷ b ∷ c ∷ []) h count = (h.0, h.1, h.2.0, h.2.1.0, h.2.1.1.0)
      by_count [] h count = absurd (omega (arith, count))
      by_count (a ∷ []) h count = absurd (omega (arith, count))
      by_count (a ∷ b ∷ []) h count = absurd (omega (arith, count))
      by_count (a ∷ b ∷ c ∷ d ∷ us) h count = absurd (omega (arith, count))

  pub bitcast_takes : are_unlike_ints s.of.globals (type_in s.of.globals f) ty ids ≡ false → length us ≡ 1 → Takes op.Copy t ls us
  bitcast_takes right count = by_count us (like_ints s f ty t ids us right shape have) count
    where
      by_count : (us : List Tree) → (n : Option ℕ) × Has numbers n t × AllHave numbers n us → length us ≡ 1 → Takes op.Copy t ls us
      by_count (a ∷ []) h count = alike_numbers h.0 t a h.1 h.2.0
      by_count [] h count = absurd (omega (arith, count))
      by_count (a ∷ b ∷ us) h count = absurd (omega (arith, count))

module _ (s : Setting) (f : Function) (i : Inst) (t : Tree) (ls : List ℕ) (us : List Tree) (shape : type_tree s.of.globals i.ty ≡ Some t) (have : HaveShapes s f i.args us) where
  -- T14: truth values of as many numbers
  pub comparison_takes : (o : Comparison) → breaks_t14 s.of.globals (type_in s.of.globals f) i ≡ false → length us ≡ 2 → Takes (op.Comparison o) t ls us
  comparison_takes o right count = by_count us (compared_ints s f i t us right shape have) count
    where
      by_count : (us : List Tree) → (n : Option ℕ) × Has truths n t × AllHave numbers n us → length us ≡ 2 → Takes (op.Comparison o) t ls us
      by_count (a ∷ b ∷ []) h count = (h.0, h.1, h.2.0, h.2.1.0)
      by_count [] h count = absurd (omega (arith, count))
      by_count (a ∷ []) h count = absurd (omega (arith, count))
      by_count (a ∷ b ∷ c ∷ us) h count = absurd (omega (arith, count))

  -- T15: truth values of as many
  pub logical_takes : (o : Logical) → breaks_t15 s.of.globals (type_in s.of.globals f) i ≡ false → length us ≡ 2 → Takes (op.Logical o) t ls us
  logical_takes o right count = by_count us (like_bools s f i t us right shape have) count
    where
      by_count : (us : List Tree) → (n : Option ℕ) × Has truths n t × AllHave truths n us → length us ≡ 2 → Takes (op.Logical o) t ls us
      by_count (a ∷ b ∷ []) h count = (h.0, h.1, h.2.0, h.2.1.0)
      by_count [] h count = absurd (omega (arith, count))
      by_count (a ∷ []) h count = absurd (omega (arith, count))
      by_count (a ∷ b ∷ c ∷ us) h count = absurd (omega (arith, count))

  pub not_takes : breaks_t15 s.of.globals (type_in s.of.globals f) i ≡ false → length us ≡ 1 → Takes op.LogicalNot t ls us
  not_takes right count = by_count us (like_bools s f i t us right shape have) count
    where
      by_count : (us : List Tree) → (n : Option ℕ) × Has truths n t × AllHave truths n us → length us ≡ 1 → Takes op.LogicalNot t ls us
      by_count (a ∷ []) h count = (h.0, h.1, h.2.0)
      by_count [] h count = absurd (omega (arith, count))
      by_count (a ∷ b ∷ us) h count = absurd (omega (arith, count))

-- a value that has to be an int scalar
module _ (s : Setting) (f : Function) where
  pub int_scalar : (id : ℕ) (u : Tree) → value_fails is_int s.of.globals (type_in s.of.globals f) id ≡ false → value_shape s f id ≡ Some u → Has numbers None u
  int_scalar id u right shape =
      let own = some_part (type_tree s.of.globals) (type_in s.of.globals f id) u shape in
      let row = row_of is_int numbers int_has s.of.globals own.0 u own.2 in
      let on : not (is_int row.0) ≡ false = ap (λ o. option_map_or (λ g. not (is_int g)) o false) (sym row.1) ∙ (ap (λ o. option_map_or (fails is_int s.of.globals) o false) (sym own.1) ∙ right) in
      int_has s.of.globals (tree_before s.of.globals row.0.at) row.0 u (not-false (is_int row.0) on) row.2

  -- a value that has to have a type
  pub same_shape_of : (ty id : ℕ) (t u : Tree) → is_other s.of.globals (type_in s.of.globals f) ty id ≡ false → type_tree s.of.globals ty ≡ Some t → value_shape s f id ≡ Some u → u ≡ t
  same_shape_of ty id t u right shape value =
      let own = some_part (type_tree s.of.globals) (type_in s.of.globals f id) u value in
      let row = row_of is_int numbers int_has s.of.globals own.0 u own.2 in
      let first = row_of is_int numbers int_has s.of.globals ty t shape in
      let differs : differ s.of.globals ty own.0 ≡ false = ap (λ o. option_map_or (differ s.of.globals ty) o false) (sym own.1) ∙ right in
      let same = same_ids (ty == own.0) (eqb_tells ty own.0) (ap (λ o. is_some o && is_some (type_row s.of.globals own.0) && not (ty == own.0)) (sym first.1) ∙ differs) row.1 in
      same_Some u t (sym own.2 ∙ ap (type_tree s.of.globals) (sym same) ∙ shape)
    where
      same_ids : {x y : ℕ} {g : Inst} {o : Option Inst} (b : Bool) → ((b ≡ true) × (x ≡ y)) ⊎ ((b ≡ false) × (x ≡ y → ⊥)) → (is_some o && not b) ≡ false → o ≡ Some g → x ≡ y
      same_ids b (inl w) e is = w.1
      same_ids b (inr w) e is = absurd (never b w.0 (ap (λ q. is_some q && not b) (sym is) ∙ e))
        where
          never : (b : Bool) → b ≡ false → not b ≡ false → ⊥
          never true off on = cc
          never false off on = cc

  -- T18: a field of numbers, its offset and its number of bits
  pub field_takes : (ty x y z : ℕ) (t a b c : Tree) → are_unlike_ints s.of.globals (type_in s.of.globals f) ty (x ∷ []) ≡ false → value_fails is_int s.of.globals (type_in s.of.globals f) y ≡ false → value_fails is_int s.of.globals (type_in s.of.globals f) z ≡ false
      → type_tree s.of.globals ty ≡ Some t → value_shape s f x ≡ Some a → value_shape s f y ≡ Some b → value_shape s f z ≡ Some c → IsField t a b c
  field_takes ty x y z t a b c right first second shape ha hb hc =
      let h = like_ints s f ty t (x ∷ []) (a ∷ []) right shape (ha, tt) in
      (h.0, h.1, h.2.0, int_scalar y b first hb, int_scalar z c second hc)

  pub insert_takes : (ls : List ℕ) (ty x y z q : ℕ) (t a b c d : Tree) → are_unlike_ints s.of.globals (type_in s.of.globals f) ty (x ∷ y ∷ []) ≡ false → value_fails is_int s.of.globals (type_in s.of.globals f) z ≡ false → value_fails is_int s.of.globals (type_in s.of.globals f) q ≡ false
      → type_tree s.of.globals ty ≡ Some t → HaveShapes s f (x ∷ y ∷ z ∷ q ∷ []) (a ∷ b ∷ c ∷ d ∷ []) → Takes op.BitFieldInsert t ls (a ∷ b ∷ c ∷ d ∷ [])
  insert_takes ls ty x y z q t a b c d right first second shape have =
      let h = like_ints s f ty t (x ∷ y ∷ []) (a ∷ b ∷ []) right shape (have.0, (have.1.0, tt)) in
      (h.0, h.1, h.2.0, h.2.1.0, int_scalar z c first have.1.1.0, int_scalar q d second have.1.1.1.0)
