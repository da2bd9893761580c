-- A type of which the rules count scalars of a sort has the shape of a scalar or of a vector of so many.
use Rattle.std.proofs.Common.{◌≡◌, ◌==◌, ◌||◌, ℕ, Bool, true, false, List, [], ◌∷◌, Option, Some, None, inl, inr, refl, sym, ap, ◌∙◌, subst, arith, if◌then◌else◌}
use Rattle.std.specs.Prelude.{nat_le, nat_lt, option_map, option_and_then}
use Rattle.std.specs.Option.{option_map_or}
use Rattle.std.specs.List.{list_any}
use Rattle.std.proofs.lemmas.Bool.Decides.{nat_tests, eqb_tells}
use Rattle.std.proofs.lemmas.Option.{same_Some}
use Rattle.spv_module.specs.Held.{global}
use Rattle.spv_module.specs.declared.inst.Inst.{Inst}
use Rattle.spv_module.specs.declared.inst.Function.{Function}
use Rattle.spv_module.specs.declared.tree.Elem.{Elem}
use Rattle.spv_types.specs.Tree.{Tree, vector}
use Rattle.spv_types.specs.Types.{if_earlier, elem_of, tree_step, tree_before, tree_at, type_tree}
use Rattle.spv_types.proofs.Below.{tree_before_is}
use Rattle.spv_decor.specs.Rows.{word}
use Rattle.spv_index.specs.Locals.{type_in}
use Rattle.profile_rules.specs.TypeRows.{is_bool, is_int, is_vector, if_type, type_row, one_if, count_in, ints_of, bools_of, is_not}
use Rattle.profile_rules.specs.NumberRules.{are_unlike_ints, breaks_t14, breaks_t15}
use Rattle.module_semantics.specs.Setting.{Setting}
use Rattle.list_law.proofs.Options.{some_part}
use Rattle.list_law.proofs.Numbers.{same_count}
use Rattle.list_law.proofs.Tests.{not_both, or_left, or_right}
use Rattle.fits_law.specs.Takes.{Sort, numbers, truths, Has, IsOfSort}
use Rattle.fits_law.specs.Typed.{HaveShapes}
use Rattle.type_law.specs.Shaped.{size_by, AllHave}
use Rattle.type_law.proofs.Rows.{int_has, bool_has, elem_sort, is_a_type, vector_parts}

one_of : (n : ℕ) → n ≡ 1 → size_by n ≡ None
one_of n e = ap size_by e

more_of : (n : ℕ) → nat_le 2 n ≡ true → size_by n ≡ Some n
more_of n le = let many : (n == 1) ≡ false = grind (arith, nat_tests, le) in ap (λ b. if b then None else Some n) many

module _ (test : Inst → Bool) (k : Sort) (scalar : (gs : List Inst) (f : ℕ → Option Tree) (g : Inst) (t : Tree) → test g ≡ true → tree_step gs f g ≡ Some t → Has k None t) (gs : List Inst) where
  -- the row of a type with a shape
  pub row_of : (ty : ℕ) (t : Tree) → type_tree gs ty ≡ Some t → (g : Inst) × (type_row gs ty ≡ Some g) × (tree_at gs g ≡ Some t)
  row_of ty t e = by_global (global gs ty) refl e
    where
      by_global : (o : Option Inst) → global gs ty ≡ o → option_map_or (tree_at gs) o None ≡ Some t → (g : Inst) × (type_row gs ty ≡ Some g) × (tree_at gs g ≡ Some t)
      by_global None is e = cc
      by_global (Some g) is e = (g, ap (option_and_then if_type) is ∙ ap (λ b. if b then Some g else None) (is_a_type gs (tree_before gs g.at) g t e), e)

  -- what stands before is a type with that shape
  pub before_row : (n c : ℕ) (u : Tree) → tree_before gs n c ≡ Some u → type_tree gs c ≡ Some u
  before_row n c u e = by_global (global gs c) refl (sym (tree_before_is gs n c) ∙ e)
    where
      by_earlier : (g : Inst) (b : Bool) → option_map_or (tree_at gs) (if b then Some g else None) None ≡ Some u → tree_at gs g ≡ Some u
      by_earlier g true e = e
      by_earlier g false e = cc

      by_global : (o : Option Inst) → global gs c ≡ o → option_map_or (tree_at gs) (if_earlier n o) None ≡ Some u → type_tree gs c ≡ Some u
      by_global None is e = cc
      by_global (Some g) is e = ap (λ o. option_map_or (tree_at gs) o None) is ∙ by_earlier g (nat_lt g.at n) e

  -- how many scalars of the sort
  counted : ℕ → Option ℕ
  counted ty = option_and_then (count_in test gs) (type_row gs ty)

  one_when : (b : Bool) (n m : ℕ) → one_if b n ≡ m → (m == 0) ≡ false → (b ≡ true) × (n ≡ m)
  one_when true n m e some = (refl, e)
  one_when false n m e some = absurd (no_zero m e some)
    where
      no_zero : (m : ℕ) → 0 ≡ m → (m == 0) ≡ false → ⊥
      no_zero m e some = elim (eqb_tells m 0) [ inl w ↦ not_both (m == 0) w.0 some | inr w ↦ w.1 (sym e) ]

  scalar_or_vector : (g : Inst) (t : Tree) (n : ℕ) → tree_at gs g ≡ Some t → count_in test gs g ≡ Some n → (n == 0) ≡ false → Has k (size_by n) t
  scalar_or_vector g t n shape count some = by_vector (is_vector g) refl count
    where
      by_parts : (u : Tree) (e : Elem) → tree_before gs g.at (word g 0) ≡ Some u → elem_of u ≡ Some e → t ≡ vector e (word g 1) → nat_le 2 (word g 1) ≡ true → option_map (λ c. one_if (test c) (word g 1)) (type_row gs (word g 0)) ≡ Some n → Has k (size_by n) t
      by_parts u e there is same two h =
          let row = row_of (word g 0) u (before_row g.at (word g 0) u there) in
          let value : one_if (test row.0) (word g 1) ≡ n = same_Some (one_if (test row.0) (word g 1)) n (ap (option_map (λ c. one_if (test c) (word g 1))) (sym row.1) ∙ h) in
          let on = one_when (test row.0) (word g 1) n value some in
          let sort : IsOfSort k e = elem_sort k u e (scalar gs (tree_before gs row.0.at) row.0 u on.0 row.2) is in
          subst (λ m. Has k m t) (sym (ap size_by (sym on.1) ∙ more_of (word g 1) two) ∙ refl) (of_vector k e sort same on.1 two)
        where
          of_vector : (k : Sort) (e : Elem) → IsOfSort k e → t ≡ vector e (word g 1) → word g 1 ≡ n → nat_le 2 (word g 1) ≡ true → Has k (Some (word g 1)) t
          of_vector numbers e sort same is two = subst (Has numbers (Some (word g 1))) (sym same) (sort, refl)
          of_vector truths e sort same is two = subst (Has truths (Some (word g 1))) (sym same) (sort, refl)

      by_vector : (b : Bool) → is_vector g ≡ b → (if b then option_map (λ c. one_if (test c) (word g 1)) (type_row gs (word g 0)) else Some (one_if (test g) 1)) ≡ Some n → Has k (size_by n) t
      by_vector true is h = let parts = vector_parts gs g t is shape in by_parts parts.0 parts.1 parts.2 parts.3 parts.4 parts.5 h
      by_vector false is h =
          let on = one_when (test g) 1 n (same_Some (one_if (test g) 1) n h) some in
          subst (λ m. Has k m t) (sym (one_of n (sym on.1))) (scalar gs (tree_before gs g.at) g t on.0 shape)

  pub shape_has : (ty : ℕ) (t : Tree) (n : ℕ) → type_tree gs ty ≡ Some t → option_and_then (count_in test gs) (type_row gs ty) ≡ Some n → (n == 0) ≡ false → Has k (size_by n) t
  shape_has ty t n shape count some =
      let row = row_of ty t shape in
      scalar_or_vector row.0 t n row.2 (ap (option_and_then (count_in test gs)) (sym row.1) ∙ count) some

  -- a type with a shape is counted
  pub is_counted : (ty : ℕ) (t : Tree) → type_tree gs ty ≡ Some t → (n : ℕ) × (option_and_then (count_in test gs) (type_row gs ty) ≡ Some n)
  is_counted ty t shape = let row = row_of ty t shape in let n = by_vector row.0 row.2 (is_vector row.0) refl in (n.0, ap (option_and_then (count_in test gs)) row.1 ∙ n.1)
    where
      by_vector : (g : Inst) → tree_at gs g ≡ Some t → (b : Bool) → is_vector g ≡ b → (n : ℕ) × ((if b then option_map (λ c. one_if (test c) (word g 1)) (type_row gs (word g 0)) else Some (one_if (test g) 1)) ≡ Some n)
      by_vector g shape true is =
          let parts = vector_parts gs g t is shape in
          let part = row_of (word g 0) parts.0 (before_row g.at (word g 0) parts.0 parts.2) in
          (one_if (test part.0) (word g 1), ap (option_map (λ c. one_if (test c) (word g 1))) part.1)
      by_vector g shape false is = (one_if (test g) 1, refl)

  -- operands of which none is of another number
  all_have : (s : Setting) (f : Function) → s.of.globals ≡ gs → (n : ℕ) → (n == 0) ≡ false → (ids : List ℕ) (us : List Tree) → HaveShapes s f ids us
      → list_any (λ id. is_not n (option_and_then (λ ty. option_and_then (count_in test gs) (type_row gs ty)) (type_in gs f id))) ids ≡ false → AllHave k (size_by n) us
  all_have s f same n some [] [] have e = tt
  all_have s f same n some [] (u ∷ us) have e = absurd have
  all_have s f same n some (id ∷ ids) [] have e = absurd have
  all_have s f same n some (id ∷ ids) (u ∷ us) have e =
      let own = some_part (type_tree gs) (type_in gs f id) u (subst (λ hs. option_and_then (type_tree hs) (type_in hs f id) ≡ Some u) same have.0) in
      let count = is_counted own.0 u own.2 in
      let first = or_left (is_not n (option_and_then (λ ty. option_and_then (count_in test gs) (type_row gs ty)) (type_in gs f id))) (list_any (λ id. is_not n (option_and_then (λ ty. option_and_then (count_in test gs) (type_row gs ty)) (type_in gs f id))) ids) e in
      let rest = or_right (is_not n (option_and_then (λ ty. option_and_then (count_in test gs) (type_row gs ty)) (type_in gs f id))) (list_any (λ id. is_not n (option_and_then (λ ty. option_and_then (count_in test gs) (type_row gs ty)) (type_in gs f id))) ids) e in
      let is : is_not n (Some count.0) ≡ false = ap (is_not n) (sym (ap (option_and_then (λ ty. option_and_then (count_in test gs) (type_row gs ty))) own.1 ∙ count.1)) ∙ first in
      let equal : count.0 ≡ n = same_count count.0 n is in
      (shape_has own.0 u n own.2 (count.1 ∙ ap (λ m. Some m) equal) some, all_have s f same n some ids us have.1 rest)

module _ (s : Setting) (f : Function) where
  -- where no operand is unlike: the result and the operands are numbers, of one number of components
  pub like_ints : (ty : ℕ) (t : Tree) (ids : List ℕ) (us : List Tree) → are_unlike_ints s.of.globals (type_in s.of.globals f) ty ids ≡ false → type_tree s.of.globals ty ≡ Some t → HaveShapes s f ids us → (n : Option ℕ) × Has numbers n t × AllHave numbers n us
  like_ints ty t ids us right shape have =
      let count = is_counted is_int numbers int_has s.of.globals ty t shape in
      let tests : ((count.0 == 0) || list_any (λ id. is_not count.0 (ints_of s.of.globals (type_in s.of.globals f) id)) ids) ≡ false =
      ap (λ o. option_map_or (λ n. (n == 0) || list_any (λ id. is_not n (ints_of s.of.globals (type_in s.of.globals f) id)) ids) o false) (sym count.1) ∙ right in
      let some = or_left (count.0 == 0) (list_any (λ id. is_not count.0 (ints_of s.of.globals (type_in s.of.globals f) id)) ids) tests in
      let each = or_right (count.0 == 0) (list_any (λ id. is_not count.0 (ints_of s.of.globals (type_in s.of.globals f) id)) ids) tests in
      (size_by count.0, shape_has is_int numbers int_has s.of.globals ty t count.0 shape count.1 some, all_have is_int numbers int_has s.of.globals s f refl count.0 some ids us have each)

  -- comparisons: truth values of as many numbers
  pub compared_ints : (i : Inst) (t : Tree) (us : List Tree) → breaks_t14 s.of.globals (type_in s.of.globals f) i ≡ false → type_tree s.of.globals i.ty ≡ Some t → HaveShapes s f i.args us → (n : Option ℕ) × Has truths n t × AllHave numbers n us
  compared_ints i t us right shape have =
      let count = is_counted is_bool truths bool_has s.of.globals i.ty t shape in
      let tests : ((count.0 == 0) || list_any (λ id. is_not count.0 (ints_of s.of.globals (type_in s.of.globals f) id)) i.args) ≡ false =
      ap (λ o. option_map_or (λ n. (n == 0) || list_any (λ id. is_not n (ints_of s.of.globals (type_in s.of.globals f) id)) i.args) o false) (sym count.1) ∙ right in
      let some = or_left (count.0 == 0) (list_any (λ id. is_not count.0 (ints_of s.of.globals (type_in s.of.globals f) id)) i.args) tests in
      let each = or_right (count.0 == 0) (list_any (λ id. is_not count.0 (ints_of s.of.globals (type_in s.of.globals f) id)) i.args) tests in
      (size_by count.0, shape_has is_bool truths bool_has s.of.globals i.ty t count.0 shape count.1 some, all_have is_int numbers int_has s.of.globals s f refl count.0 some i.args us have each)

  -- logical operations: truth values of as many
  pub like_bools : (i : Inst) (t : Tree) (us : List Tree) → breaks_t15 s.of.globals (type_in s.of.globals f) i ≡ false → type_tree s.of.globals i.ty ≡ Some t → HaveShapes s f i.args us → (n : Option ℕ) × Has truths n t × AllHave truths n us
  like_bools i t us right shape have =
      let count = is_counted is_bool truths bool_has s.of.globals i.ty t shape in
      let tests : ((count.0 == 0) || list_any (λ id. is_not count.0 (bools_of s.of.globals (type_in s.of.globals f) id)) i.args) ≡ false =
      ap (λ o. option_map_or (λ n. (n == 0) || list_any (λ id. is_not n (bools_of s.of.globals (type_in s.of.globals f) id)) i.args) o false) (sym count.1) ∙ right in
      let some = or_left (count.0 == 0) (list_any (λ id. is_not count.0 (bools_of s.of.globals (type_in s.of.globals f) id)) i.args) tests in
      let each = or_right (count.0 == 0) (list_any (λ id. is_not count.0 (bools_of s.of.globals (type_in s.of.globals f) id)) i.args) tests in
      (size_by count.0, shape_has is_bool truths bool_has s.of.globals i.ty t count.0 shape count.1 some, all_have is_bool truths bool_has s.of.globals s f refl count.0 some i.args us have each)
