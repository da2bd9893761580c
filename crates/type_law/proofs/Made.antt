-- OpCompositeConstruct takes each part once; loads, stores and returns give values of the types that pointers and functions have.
use Rattle.std.proofs.Common.{◌≡◌, ◌+◌, ◌==◌, ◌&&◌, ℕ, suc, Bool, true, false, not, List, [], ◌∷◌, length, Option, Some, None, inl, inr, refl, sym, ap, ◌∙◌, subst, arith, if◌then◌else◌}
use Rattle.std.specs.Prelude.{option_map, option_and_then, is_some, sum_by}
use Rattle.std.specs.Option.{option_map_or}
use Rattle.std.specs.List.{list_any, list_all, zip}
use Rattle.std.proofs.lemmas.Bool.Decides.{eqb_tells}
use Rattle.std.proofs.lemmas.List.Sums.{sum_by-cons}
use Rattle.std.proofs.lemmas.Bool.{and_from}
use Rattle.std.proofs.lemmas.Option.{same_Some}
use Rattle.spv_ops.specs.Opcode.{is}
use Rattle.spv_ops.specs.declared.Op.TheVariants as code
use Rattle.spv_module.specs.Held.{global}
use Rattle.spv_module.specs.declared.inst.Inst.{Inst}
use Rattle.spv_module.specs.declared.inst.Function.{Function}
use Rattle.spv_module.specs.declared.tree.Elem.{Elem}
use Rattle.spv_module.specs.declared.tree.Elem.TheVariants as elem
use Rattle.spv_module.specs.declared.tree.Length.{Length}
use Rattle.spv_module.specs.declared.tree.Length.TheVariants.{Fixed, Spec}
use Rattle.spv_types.specs.declared.kind.TypeKind.TheVariants.{Array, Struct}
use Rattle.spv_types.specs.Tree.{Tree, vector, array, struct, Trees, no_trees, tree}
use Rattle.spv_types.specs.Leaves.{IsSized}
use Rattle.spv_types.specs.Types.{elem_of, length_by, array_tree, both, all_trees, tree_before, tree_at, type_tree}
use Rattle.spv_decor.specs.Rows.{word}
use Rattle.spv_index.specs.Locals.{type_in}
use Rattle.spv_index.specs.Pointers.{pointee}
use Rattle.op_semantics.specs.declared.operation.Operation.TheVariants as op
use Rattle.op_semantics.specs.Fits.{elem_tree}
use Rattle.profile_rules.specs.TypeRows.{is_vector, is_pointer, differ, value_fails, is_other, constant_word}
use Rattle.profile_rules.specs.NumberRules.{pointee_of, points_to_other, is_no_content}
use Rattle.profile_rules.specs.ValueRules.{are_other_parts, are_other_members, misfit, given_by, given_of, given, given_or_zero, gives_none, is_other_count, is_misbuilt, breaks_t10}
use Rattle.module_semantics.specs.Setting.{Setting}
use Rattle.module_semantics.specs.Operands.{arg}
use Rattle.list_law.proofs.Numbers.{same_count}
use Rattle.list_law.proofs.Options.{some_part}
use Rattle.list_law.proofs.Tests.{not_both, or_left, or_right, clash}
use Rattle.fits_law.specs.Takes.{Gives, GiveAll, AreOfShape, AreMembers, AreParts, Takes}
use Rattle.fits_law.specs.State.{value_shape, target_shape, result_shape, IsLocal}
use Rattle.fits_law.specs.Typed.{HaveShapes, IsLoad}
use Rattle.type_law.proofs.Rows.{by_kind, vector_parts}
use Rattle.type_law.proofs.Operands.{same_shape_of}
use Rattle.type_law.proofs.Choices.{scalar_elem}
use Rattle.type_law.proofs.Parts.{array_kind, struct_kind, fixed_word, row, earlier_is, same_types}

module _ (s : Setting) (f : Function) where
  abbrev Gs : List Inst
  Gs = s.of.globals

  abbrev T : ℕ → Option ℕ
  T = type_in s.of.globals f

  as_many : (ids : List ℕ) (us : List Tree) → HaveShapes s f ids us → length us ≡ length ids
  as_many [] [] have = refl
  as_many [] (u ∷ us) have = absurd have
  as_many (id ∷ ids) [] have = absurd have
  as_many (id ∷ ids) (u ∷ us) have = ap (λ n. suc n) (as_many ids us have.1)

  -- parts that are all of one type
  all_same : (ty : ℕ) (t : Tree) (ids : List ℕ) (us : List Tree) → type_tree Gs ty ≡ Some t → HaveShapes s f ids us → list_any (is_other Gs T ty) ids ≡ false → AreOfShape t us
  all_same ty t [] [] shape have right = tt
  all_same ty t [] (u ∷ us) shape have right = absurd have
  all_same ty t (id ∷ ids) [] shape have right = absurd have
  all_same ty t (id ∷ ids) (u ∷ us) shape have right = (same_shape_of s f ty id t u (or_left (is_other Gs T ty id) (list_any (is_other Gs T ty) ids) right) shape have.0, all_same ty t ids us shape have.1 (or_right (is_other Gs T ty id) (list_any (is_other Gs T ty) ids) right))

  parts_are : (n ty : ℕ) (t : Tree) (ids : List ℕ) (us : List Tree) → type_tree Gs ty ≡ Some t → HaveShapes s f ids us → are_other_parts Gs T n ty ids ≡ false → AreParts (array t (Fixed n)) us
  parts_are n ty t ids us shape have right =
      (as_many ids us have ∙ same_count (length ids) n (or_left (not (length ids == n)) (list_any (is_other Gs T ty) ids) right), all_same ty t ids us shape have (or_right (not (length ids == n)) (list_any (is_other Gs T ty) ids) right))

  -- parts of the types of members
  each_member : (at : ℕ) (tys ids : List ℕ) (ts : Trees) (us : List Tree) → all_trees (tree_before Gs at) tys ≡ Some ts → length ids ≡ length tys → HaveShapes s f ids us → list_any (λ (p : ℕ × ℕ). is_other Gs T p.0 p.1) (zip tys ids) ≡ false → AreMembers ts us
  each_member at [] [] ts [] all count have right = subst (λ x. AreMembers x []) (same_Some no_trees ts all) tt
  each_member at [] [] ts (u ∷ us) all count have right = absurd have
  each_member at [] (id ∷ ids) ts us all count have right = absurd (omega (arith, count))
  each_member at (ty ∷ tys) [] ts us all count have right = absurd (omega (arith, count))
  each_member at (ty ∷ tys) (id ∷ ids) ts [] all count have right = absurd have
  each_member at (ty ∷ tys) (id ∷ ids) ts (u ∷ us) all count have right =
      by_parts (tree_before Gs at ty) refl (all_trees (tree_before Gs at) tys) refl all
      (λ rest there. each_member at tys ids rest us there (let one : length ids ≡ length tys = omega (arith, count) in one) have.1 (or_right (is_other Gs T ty id) (list_any (λ (p : ℕ × ℕ). is_other Gs T p.0 p.1) (zip tys ids)) right))
    where
      by_parts : (o : Option Tree) → tree_before Gs at ty ≡ o → (q : Option Trees) → all_trees (tree_before Gs at) tys ≡ q → both o q ≡ Some ts → ((rest : Trees) → all_trees (tree_before Gs at) tys ≡ Some rest → AreMembers rest us) → AreMembers ts (u ∷ us)
      by_parts None first q rest e later = cc
      by_parts (Some t) first None rest e later = cc
      by_parts (Some t) first (Some more) rest e later =
          subst (λ x. AreMembers x (u ∷ us)) (same_Some (tree t more) ts e)
          (same_shape_of s f ty id t u (or_left (is_other Gs T ty id) (list_any (λ (p : ℕ × ℕ). is_other Gs T p.0 p.1) (zip tys ids)) right) (earlier_is s f at ty t first) have.0, later more rest)

  array_made : (g : Inst) (t : Tree) (ids : List ℕ) (us : List Tree) → is g.op code.TypeArray ≡ true → tree_at Gs g ≡ Some t → IsSized t → HaveShapes s f ids us → option_map_or (λ n. are_other_parts Gs T n (word g 0) ids) (constant_word Gs (word g 1)) false ≡ false → AreParts t us
  array_made g t ids us on shape sized have right = by_part (tree_before Gs g.at (word g 0)) refl (length_by (word g 1) (global Gs (word g 1))) refl (by_kind Gs (tree_before Gs g.at) g Array t (array_kind g.op on) shape)
    where
      by_length : (u : Tree) (l : Length) → type_tree Gs (word g 0) ≡ Some u → length_by (word g 1) (global Gs (word g 1)) ≡ Some l → t ≡ array u l → AreParts t us
      by_length u (Fixed n) there is same = subst (λ x. AreParts x us) (sym same) (parts_are n (word g 0) u ids us there have (ap (λ o. option_map_or (λ n. are_other_parts Gs T n (word g 0) ids) o false) (sym (fixed_word Gs (word g 1) n is)) ∙ right))
      by_length u (Spec id) there is same = absurd (subst IsSized same sized)

      by_part : (o : Option Tree) → tree_before Gs g.at (word g 0) ≡ o → (l : Option Length) → length_by (word g 1) (global Gs (word g 1)) ≡ l → array_tree o l ≡ Some t → AreParts t us
      by_part None there l is e = cc
      by_part (Some u) there None is e = cc
      by_part (Some u) there (Some l) is e = by_length u l (earlier_is s f g.at (word g 0) u there) is (sym (same_Some (array u l) t e))

  struct_made : (g : Inst) (t : Tree) (ids : List ℕ) (us : List Tree) → is g.op code.TypeStruct ≡ true → tree_at Gs g ≡ Some t → HaveShapes s f ids us → are_other_members Gs T g.args ids ≡ false → AreParts t us
  struct_made g t ids us on shape have right = by_members (all_trees (tree_before Gs g.at) g.args) refl (by_kind Gs (tree_before Gs g.at) g Struct t (struct_kind g.op on) shape)
    where
      by_members : (o : Option Trees) → all_trees (tree_before Gs g.at) g.args ≡ o → option_map (struct g.result) o ≡ Some t → AreParts t us
      by_members None all e = cc
      by_members (Some ts) all e =
          subst (λ x. AreParts x us) (same_Some (struct g.result ts) t e)
          (each_member g.at g.args ids ts us all (same_count (length ids) (length g.args) (or_left (not (length ids == length g.args)) (list_any (λ (p : ℕ × ℕ). is_other Gs T p.0 p.1) (zip g.args ids)) right)) have
          (or_right (not (length ids == length g.args)) (list_any (λ (p : ℕ × ℕ). is_other Gs T p.0 p.1) (zip g.args ids)) right))

  -- scalars and vectors that give the components of a vector
  no_zero : (m : ℕ) → m ≡ 0 → (m == 0) ≡ false → ⊥
  no_zero m e some = elim (eqb_tells m 0) [ inl w ↦ not_both (m == 0) w.0 some | inr w ↦ w.1 e ]

  one_gives : (c id : ℕ) (q : Tree) (e : Elem) (u : Tree) → type_tree Gs c ≡ Some q → elem_of q ≡ Some e → value_shape s f id ≡ Some u → gives_none Gs T c id ≡ false → (m : ℕ) × (given Gs T c id ≡ Some m) × Gives e m u
  one_gives c id q e u shape part value right =
      let own = some_part (type_tree Gs) (T id) u value in
      let g = row s f own.0 u own.2 in
      let gives : given Gs T c id ≡ Some (given_by Gs c own.0 g.0) = ap (option_and_then (given_of Gs c)) own.1 ∙ ap (option_map (given_by Gs c own.0)) g.1 in
      (given_by Gs c own.0 g.0, gives, by_vector g.0 own.0 own.2 g.2 (ap (λ o. option_map_or (λ m. m == 0) o false) (sym gives) ∙ right) (is_vector g.0) refl)
    where
      zero_given : (b : Bool) (n : ℕ) → ((if b then 0 else n) == 0) ≡ false → b ≡ false
      zero_given false n e = refl
      zero_given true n e = absurd (no_zero 0 refl e)

      of_scalar : (e : Elem) (q u : Tree) → elem_of q ≡ Some e → u ≡ q → Gives e 1 u
      of_scalar e q u is same = subst (Gives e 1) (sym (same ∙ scalar_elem q e is)) (own e)
        where
          own : (e : Elem) → Gives e 1 (elem_tree e)
          own elem.Bool = (refl, refl)
          own elem.Int = (refl, refl)
          own elem.Uint = (refl, refl)

      of_vector : (e d : Elem) (k : ℕ) (u : Tree) → u ≡ vector d k → d ≡ e → Gives e k u
      of_vector e d k u is same = subst (Gives e k) (sym is) (same, refl)

      by_vector : (g : Inst) (ty : ℕ) → type_tree Gs ty ≡ Some u → tree_at Gs g ≡ Some u → (given_by Gs c ty g == 0) ≡ false → (b : Bool) → is_vector g ≡ b → Gives e (given_by Gs c ty g) u
      by_vector g ty there whole some true on =
          let parts = vector_parts Gs g u on whole in
          let now : ((if differ Gs c (word g 0) then 0 else word g 1) == 0) ≡ false = ap (λ b. (if b then (if differ Gs c (word g 0) then 0 else word g 1) else (if differ Gs c ty then 0 else 1)) == 0) (sym on) ∙ some in
          let same = same_types s f c (word g 0) q parts.0 shape (earlier_is s f g.at (word g 0) parts.0 parts.2) (zero_given (differ Gs c (word g 0)) (word g 1) now) in
          let one : parts.1 ≡ e = same_Some parts.1 e (sym parts.3 ∙ ap elem_of (sym same) ∙ part) in
          let count : given_by Gs c ty g ≡ word g 1 = ap (λ b. if b then (if differ Gs c (word g 0) then 0 else word g 1) else (if differ Gs c ty then 0 else 1)) on ∙ ap (λ b. if b then 0 else word g 1) (zero_given (differ Gs c (word g 0)) (word g 1) now) in
          subst (λ m. Gives e m u) (sym count) (of_vector e parts.1 (word g 1) u parts.4 one)
      by_vector g ty there whole some false off =
          let now : ((if differ Gs c ty then 0 else 1) == 0) ≡ false = ap (λ b. (if b then (if differ Gs c (word g 0) then 0 else word g 1) else (if differ Gs c ty then 0 else 1)) == 0) (sym off) ∙ some in
          let same = same_types s f c ty q u shape there (zero_given (differ Gs c ty) 1 now) in
          let count : given_by Gs c ty g ≡ 1 = ap (λ b. if b then (if differ Gs c (word g 0) then 0 else word g 1) else (if differ Gs c ty then 0 else 1)) off ∙ ap (λ b. if b then 0 else 1) (zero_given (differ Gs c ty) 1 now) in
          subst (λ m. Gives e m u) (sym count) (of_scalar e q u part (sym same))

  all_give : (c : ℕ) (q : Tree) (e : Elem) (ids : List ℕ) (us : List Tree) → type_tree Gs c ≡ Some q → elem_of q ≡ Some e → HaveShapes s f ids us → list_any (gives_none Gs T c) ids ≡ false → (list_all (λ id. is_some (given Gs T c id)) ids ≡ true) × GiveAll e (sum_by (given_or_zero Gs T c) ids) us
  all_give c q e [] [] shape part have right = (refl, refl)
  all_give c q e [] (u ∷ us) shape part have right = absurd have
  all_give c q e (id ∷ ids) [] shape part have right = absurd have
  all_give c q e (id ∷ ids) (u ∷ us) shape part have right =
      let own = one_gives c id q e u shape part have.0 (or_left (gives_none Gs T c id) (list_any (gives_none Gs T c) ids) right) in
      let rest = all_give c q e ids us shape part have.1 (or_right (gives_none Gs T c id) (list_any (gives_none Gs T c) ids) right) in
      let first : given_or_zero Gs T c id ≡ own.0 = ap (λ o. option_map_or (λ (n : ℕ). n) o 0) own.1 in
      let sum : sum_by (given_or_zero Gs T c) (id ∷ ids) ≡ own.0 + sum_by (given_or_zero Gs T c) ids = sum_by-cons (given_or_zero Gs T c) id ids ∙ ap (λ n. n + sum_by (given_or_zero Gs T c) ids) first in
      (and_from (is_some (given Gs T c id)) (list_all (λ id. is_some (given Gs T c id)) ids) (ap is_some own.1) rest.0, (own.0, sum_by (given_or_zero Gs T c) ids, own.2, rest.1, sum))

  vector_made : (g : Inst) (t : Tree) (ids : List ℕ) (us : List Tree) → is_vector g ≡ true → tree_at Gs g ≡ Some t → HaveShapes s f ids us → is_other_count Gs T (word g 1) (word g 0) ids ≡ false → AreParts t us
  vector_made g t ids us on shape have right =
      let parts = vector_parts Gs g t on shape in
      let all = all_give (word g 0) parts.0 parts.1 ids us (earlier_is s f g.at (word g 0) parts.0 parts.2) parts.3 have (or_left (list_any (gives_none Gs T (word g 0)) ids) (list_all (λ id. is_some (given Gs T (word g 0) id)) ids && not (sum_by (given_or_zero Gs T (word g 0)) ids == word g 1)) right) in
      let count = same_count (sum_by (given_or_zero Gs T (word g 0)) ids) (word g 1) (ap (λ b. b && not (sum_by (given_or_zero Gs T (word g 0)) ids == word g 1)) (sym all.0) ∙ or_right (list_any (gives_none Gs T (word g 0)) ids) (list_all (λ id. is_some (given Gs T (word g 0) id)) ids && not (sum_by (given_or_zero Gs T (word g 0)) ids == word g 1)) right) in
      subst (λ x. AreParts x us) (sym parts.4) (subst (λ n. GiveAll parts.1 n us) count all.1)

  -- T10
  pub made_takes : (i : Inst) (t : Tree) (ls : List ℕ) (us : List Tree) → breaks_t10 Gs T i ≡ false → type_tree Gs i.ty ≡ Some t → IsSized t → HaveShapes s f i.args us → Takes op.CompositeConstruct t ls us
  made_takes i t ls us right shape sized have =
      let g = row s f i.ty t shape in
      by_opcode g.0 g.2 (is_vector g.0) refl (is g.0.op code.TypeArray) refl (is g.0.op code.TypeStruct) refl (ap (λ o. option_map_or (is_misbuilt Gs T i.args) o false) (sym g.1) ∙ right)
    where
      by_opcode : (g : Inst) → tree_at Gs g ≡ Some t → (v : Bool) → is_vector g ≡ v → (a : Bool) → is g.op code.TypeArray ≡ a → (q : Bool) → is g.op code.TypeStruct ≡ q → is_misbuilt Gs T i.args g ≡ false → AreParts t us
      by_opcode g whole v v_is a a_is q q_is right = by_tests v a q v_is a_is q_is (ap (λ b. if b then is_other_count Gs T (word g 1) (word g 0) i.args else misfit Gs T g i.args) (sym v_is) ∙ right)
        where
          by_tests : (v a q : Bool) → is_vector g ≡ v → is g.op code.TypeArray ≡ a → is g.op code.TypeStruct ≡ q → (if v then is_other_count Gs T (word g 1) (word g 0) i.args else misfit Gs T g i.args) ≡ false → AreParts t us
          by_tests true a q v_is a_is q_is h = vector_made g t i.args us v_is whole have h
          by_tests false true q v_is a_is q_is h =
              array_made g t i.args us a_is whole sized have
              (ap (λ b. if b then option_map_or (λ n. are_other_parts Gs T n (word g 0) i.args) (constant_word Gs (word g 1)) false else (if is g.op code.TypeStruct then are_other_members Gs T g.args i.args else true)) (sym a_is)
              ∙ ap (λ b. if b then are_other_parts Gs T (word g 1) (word g 0) i.args else (if is g.op code.TypeArray then option_map_or (λ n. are_other_parts Gs T n (word g 0) i.args) (constant_word Gs (word g 1)) false else (if is g.op code.TypeStruct then are_other_members Gs T g.args i.args else true))) (sym v_is) ∙ h)
          by_tests false false true v_is a_is q_is h =
              struct_made g t i.args us q_is whole have
              (ap (λ b. if b then are_other_members Gs T g.args i.args else true) (sym q_is)
              ∙ ap (λ b. if b then option_map_or (λ n. are_other_parts Gs T n (word g 0) i.args) (constant_word Gs (word g 1)) false else (if is g.op code.TypeStruct then are_other_members Gs T g.args i.args else true)) (sym a_is)
              ∙ ap (λ b. if b then are_other_parts Gs T (word g 1) (word g 0) i.args else (if is g.op code.TypeArray then option_map_or (λ n. are_other_parts Gs T n (word g 0) i.args) (constant_word Gs (word g 1)) false else (if is g.op code.TypeStruct then are_other_members Gs T g.args i.args else true))) (sym v_is) ∙ h)
          by_tests false false false v_is a_is q_is h = absurd (clash
              (ap (λ b. if b then are_other_members Gs T g.args i.args else true) (sym q_is)
              ∙ ap (λ b. if b then option_map_or (λ n. are_other_parts Gs T n (word g 0) i.args) (constant_word Gs (word g 1)) false else (if is g.op code.TypeStruct then are_other_members Gs T g.args i.args else true)) (sym a_is)
              ∙ ap (λ b. if b then are_other_parts Gs T (word g 1) (word g 0) i.args else (if is g.op code.TypeArray then option_map_or (λ n. are_other_parts Gs T n (word g 0) i.args) (constant_word Gs (word g 1)) false else (if is g.op code.TypeStruct then are_other_members Gs T g.args i.args else true))) (sym v_is) ∙ h))

  -- T5: what is stored has the shape of what the pointer leads to
  pub store_typed : (pointer object : ℕ) (u w : Tree) → is_no_content Gs T pointer object ≡ false → value_shape s f object ≡ Some u → target_shape s f pointer ≡ Some w → value_shape s f object ≡ target_shape s f pointer
  store_typed pointer object u w right value target =
      let part = some_part (type_tree Gs) (option_and_then (pointee Gs) (T pointer)) w target in
      let other = or_right (value_fails is_pointer Gs T pointer) (option_map_or (λ p. is_other Gs T p object) (pointee_of Gs T pointer) false) right in
      let same = same_shape_of s f part.0 object w u (ap (λ o. option_map_or (λ p. is_other Gs T p object) o false) (sym part.1) ∙ other) part.2 value in
      value ∙ ap (λ x. Some x) same ∙ sym target

  -- T4: what is loaded has the shape of what the pointer leads to
  pub load_typed : (i : Inst) (t w : Tree) → points_to_other Gs T (arg i 0) i.ty ≡ false → type_tree Gs i.ty ≡ Some t → value_shape s f i.result ≡ Some t → target_shape s f (arg i 0) ≡ Some w → IsSized t → IsLocal s i.result → IsLoad s f i
  load_typed i t w right shape result target sized local =
      let part = some_part (type_tree Gs) (option_and_then (pointee Gs) (T (arg i 0))) w target in
      let other = or_right (value_fails is_pointer Gs T (arg i 0)) (option_map_or (λ p. differ Gs p i.ty) (pointee_of Gs T (arg i 0)) false) right in
      let same = same_types s f part.0 i.ty w t part.2 shape (ap (λ o. option_map_or (λ p. differ Gs p i.ty) o false) (sym part.1) ∙ other) in
      record { shape = t; result = result; target = target ∙ ap (λ x. Some x) same; sized = sized; local = local }

  -- T24: what is returned has the shape of the function's result
  pub return_typed : (i : Inst) (t u : Tree) → is_other Gs T f.result.0 (arg i 0) ≡ false → type_tree Gs f.result.0 ≡ Some t → value_shape s f (arg i 0) ≡ Some u → value_shape s f (arg i 0) ≡ result_shape s f
  return_typed i t u right shape value = value ∙ ap (λ x. Some x) (same_shape_of s f f.result.0 (arg i 0) t u right shape value) ∙ sym shape
