-- Select, Any and All, copies, and components at an index that is computed: they take the shapes of their operands.
use Rattle.std.proofs.Common.{◌≡◌, ◌==◌, ◌&&◌, ◌||◌, ℕ, Bool, true, false, not, List, [], ◌∷◌, Option, Some, None, refl, sym, ap, ◌∙◌, subst, if◌then◌else◌}
use Rattle.std.specs.Prelude.{option_and_then, is_some}
use Rattle.std.specs.Option.{option_map_or}
use Rattle.std.proofs.lemmas.Bool.{and_from, not-false}
use Rattle.std.proofs.lemmas.Option.{same_Some}
use Rattle.spv_module.specs.declared.inst.Inst.{Inst}
use Rattle.spv_module.specs.declared.inst.Function.{Function}
use Rattle.spv_module.specs.declared.tree.Elem.{Elem}
use Rattle.spv_module.specs.declared.tree.Elem.TheVariants as elem
use Rattle.spv_types.specs.Tree.{Tree, boolean, int, uint, vector, array, runtime, struct}
use Rattle.spv_types.specs.Types.{elem_of, tree_before, tree_at, type_tree}
use Rattle.spv_decor.specs.Rows.{word}
use Rattle.spv_index.specs.Locals.{type_in}
use Rattle.op_semantics.specs.declared.operation.Operation.TheVariants as op
use Rattle.op_semantics.specs.Fits.{elem_tree}
use Rattle.profile_rules.specs.TypeRows.{is_bool, is_int, is_vector, type_row, fails, differ, value_fails, is_other, count_in, component_if, component, size_if, size, bools, bools_of, is_not}
use Rattle.profile_rules.specs.NumberRules.{is_no_bool_vector, has_other_size, is_no_condition}
use Rattle.module_semantics.specs.Setting.{Setting}
use Rattle.list_law.proofs.Options.{some_part}
use Rattle.list_law.proofs.Tests.{and_off, or_left, or_right}
use Rattle.list_law.proofs.Numbers.{same_count}
use Rattle.fits_law.specs.Takes.{numbers, truths, Has, IsCondition, Takes}
use Rattle.fits_law.specs.State.{value_shape}
use Rattle.type_law.specs.Shaped.{size_by}
use Rattle.type_law.proofs.Rows.{int_has, bool_has, vector_parts}
use Rattle.type_law.proofs.Scalars.{row_of, before_row, shape_has, is_counted}
use Rattle.type_law.proofs.Operands.{int_scalar, same_shape_of}

pub scalar_elem : (u : Tree) (e : Elem) → elem_of u ≡ Some e → u ≡ elem_tree e
scalar_elem boolean e is = ap elem_tree (same_Some elem.Bool e is)
scalar_elem int e is = ap elem_tree (same_Some elem.Int e is)
scalar_elem uint e is = ap elem_tree (same_Some elem.Uint e is)
scalar_elem (vector d n) e is = cc
scalar_elem (array t l) e is = cc
scalar_elem (runtime t) e is = cc
scalar_elem (struct id ts) e is = cc

module _ (s : Setting) (f : Function) where
  abbrev Gs : List Inst
  Gs = s.of.globals

  abbrev T : ℕ → Option ℕ
  T = type_in s.of.globals f

  pub row : (ty : ℕ) (t : Tree) → type_tree Gs ty ≡ Some t → (g : Inst) × (type_row Gs ty ≡ Some g) × (tree_at Gs g ≡ Some t)
  row = row_of is_int numbers int_has Gs

  -- types that do not differ are one, and have one shape
  pub same_rows : (a b : ℕ) (t u : Tree) → type_tree Gs a ≡ Some t → type_tree Gs b ≡ Some u → differ Gs a b ≡ false → a ≡ b
  same_rows a b t u ta tb right =
      let ra = row a t ta in
      let rb = row b u tb in
      same_count a b (and_off (is_some (type_row Gs a) && is_some (type_row Gs b)) (not (a == b)) right (and_from (is_some (type_row Gs a)) (is_some (type_row Gs b)) (ap is_some ra.1) (ap is_some rb.1)))

  pub same_types : (a b : ℕ) (t u : Tree) → type_tree Gs a ≡ Some t → type_tree Gs b ≡ Some u → differ Gs a b ≡ false → t ≡ u
  same_types a b t u ta tb right = same_Some t u (sym ta ∙ ap (type_tree Gs) (same_rows a b t u ta tb right) ∙ tb)

  -- the type with a row passes a test that it does not fail
  pub passes : (test : Inst → Bool) (ty : ℕ) (g : Inst) → type_row Gs ty ≡ Some g → fails test Gs ty ≡ false → test g ≡ true
  passes test ty g is right = not-false (test g) (ap (λ o. option_map_or (λ x. not (test x)) o false) (sym is) ∙ right)

  -- T16: a bool of a vector of bools
  bool_row : (g : Inst) (t : Tree) → is_bool g ≡ true → tree_at Gs g ≡ Some t → Has truths None t
  bool_row g t on shape = bool_has Gs (tree_before Gs g.at) g t on shape

  vector_of_bools : (u : Tree) (n : ℕ) (g : Inst) → is_vector g ≡ true → tree_at Gs g ≡ Some u → Has truths (size_by n) u → (m : ℕ) × Has truths (Some m) u
  vector_of_bools u n g on shape has = let parts = vector_parts Gs g u on shape in by_shape u parts.4 (size_by n) has
    where
      by_shape : {e : Elem} {k : ℕ} (u : Tree) → u ≡ vector e k → (o : Option ℕ) → Has truths o u → (m : ℕ) × Has truths (Some m) u
      by_shape u is (Some m) has = (m, has)
      by_shape {e} {k} u is None has = absurd (subst (λ x. Has truths None x) is has)

  pub over_takes : (id : ℕ) (t u : Tree) (ty : ℕ) → fails is_bool Gs ty ≡ false → is_no_bool_vector Gs T id ≡ false → type_tree Gs ty ≡ Some t → value_shape s f id ≡ Some u → (n : ℕ) × Has truths None t × Has truths (Some n) u
  over_takes id t u ty result right shape value =
      let first = row ty t shape in
      let own = some_part (type_tree Gs) (T id) u value in
      let g = row own.0 u own.2 in
      let is_a = passes is_vector own.0 g.0 g.1 (ap (λ o. option_map_or (fails is_vector Gs) o false) (sym own.1) ∙ or_left (value_fails is_vector Gs T id) (option_map_or (λ n. n == 0) (bools_of Gs T id) false) right) in
      let count = is_counted is_bool truths bool_has Gs own.0 u own.2 in
      let some : (count.0 == 0) ≡ false = ap (λ o. option_map_or (λ n. n == 0) o false) (sym (ap (option_and_then (bools Gs)) own.1 ∙ count.1)) ∙ or_right (value_fails is_vector Gs T id) (option_map_or (λ n. n == 0) (bools_of Gs T id) false) right in
      let whole = vector_of_bools u count.0 g.0 is_a g.2 (shape_has is_bool truths bool_has Gs own.0 u count.0 own.2 count.1 some) in
      (whole.0, bool_row first.0 t (passes is_bool ty first.0 first.1 result) first.2, whole.1)

  -- T8: a component of a vector, by an int
  pub index_takes : (ls : List ℕ) (ty x y : ℕ) (t a b : Tree) → value_fails is_vector Gs T x ≡ false → value_fails is_int Gs T y ≡ false → option_map_or (differ Gs ty) (option_and_then (component Gs) (T x)) false ≡ false
      → type_tree Gs ty ≡ Some t → value_shape s f x ≡ Some a → value_shape s f y ≡ Some b → Takes op.VectorExtractDynamic t ls (a ∷ b ∷ [])
  index_takes ls ty x y t a b right second third shape ha hb =
      let own = some_part (type_tree Gs) (T x) a ha in
      let g = row own.0 a own.2 in
      let on = passes is_vector own.0 g.0 g.1 (ap (λ o. option_map_or (fails is_vector Gs) o false) (sym own.1) ∙ right) in
      let parts = vector_parts Gs g.0 a on g.2 in
      let part = before_row is_int numbers int_has Gs g.0.at (word g.0 0) parts.0 parts.2 in
      let one : component Gs own.0 ≡ Some (word g.0 0) = ap (option_and_then component_if) g.1 ∙ ap (λ b. if b then Some (word g.0 0) else None) on in
      let same = same_types ty (word g.0 0) t parts.0 shape part (ap (λ o. option_map_or (differ Gs ty) o false) (sym (ap (option_and_then (component Gs)) own.1 ∙ one)) ∙ third) in
      (parts.1, word g.0 1, parts.4, same ∙ scalar_elem parts.0 parts.1 parts.3, int_scalar s f y b second hb)

  -- T17: a choice between values of the result's type, by a bool or a vector of as many bools
  condition_of : (ty c : ℕ) (t u : Tree) → is_no_condition Gs ty c ≡ false → type_tree Gs ty ≡ Some t → type_tree Gs c ≡ Some u → IsCondition u t
  condition_of ty c t u right shape value =
      let count = is_counted is_bool truths bool_has Gs c u value in
      let tests : ((count.0 == 0) || (fails is_bool Gs c && has_other_size Gs ty count.0)) ≡ false = ap (λ o. option_map_or (λ n. (n == 0) || (fails is_bool Gs c && has_other_size Gs ty n)) o false) (sym count.1) ∙ right in
      let some = or_left (count.0 == 0) (fails is_bool Gs c && has_other_size Gs ty count.0) tests in
      let sizes = or_right (count.0 == 0) (fails is_bool Gs c && has_other_size Gs ty count.0) tests in
      let g = row c u value in
      by_bool g.0 g.1 g.2 count.0 count.1 (shape_has is_bool truths bool_has Gs c u count.0 value count.1 some) sizes (is_bool g.0) refl
    where
      first_row : (g : Inst) → type_row Gs c ≡ Some g → fails is_bool Gs c ≡ not (is_bool g)
      first_row g is = ap (λ o. option_map_or (λ x. not (is_bool x)) o false) is

      of_vector : (e : Elem) (m k : ℕ) → u ≡ vector elem.Bool m → t ≡ vector e k → m ≡ k → IsCondition u t
      of_vector e m k is it same = subst (λ x. IsCondition x t) (sym is) (subst (IsCondition (vector elem.Bool m)) (sym it) same)

      by_bool : (g : Inst) → type_row Gs c ≡ Some g → tree_at Gs g ≡ Some u → (n : ℕ) → option_and_then (count_in is_bool Gs) (type_row Gs c) ≡ Some n → Has truths (size_by n) u → (fails is_bool Gs c && has_other_size Gs ty n) ≡ false → (b : Bool) → is_bool g ≡ b → IsCondition u t
      by_bool g is tree n count has sizes true on = one_truth u (bool_has Gs (tree_before Gs g.at) g u on tree)
        where
          one_truth : (u : Tree) → Has truths None u → IsCondition u t
          one_truth boolean h = tt
          one_truth int h = absurd h
          one_truth uint h = absurd h
          one_truth (vector e n) h = absurd h
          one_truth (array q l) h = absurd h
          one_truth (runtime q) h = absurd h
          one_truth (struct id ts) h = absurd h
      by_bool g is tree n count has sizes false off =
          let other : has_other_size Gs ty n ≡ false = and_off (fails is_bool Gs c) (has_other_size Gs ty n) sizes (first_row g is ∙ ap not off) in
          let result = row ty t shape in
          let on = passes is_vector ty result.0 result.1 (or_left (fails is_vector Gs ty) (is_not n (size Gs ty)) other) in
          let parts = vector_parts Gs result.0 t on result.2 in
          let sized : size Gs ty ≡ Some (word result.0 1) = ap (option_and_then size_if) result.1 ∙ ap (λ b. if b then Some (word result.0 1) else None) on in
          let same = same_count (word result.0 1) n (ap (is_not n) (sym sized) ∙ or_right (fails is_vector Gs ty) (is_not n (size Gs ty)) other) in
          by_size parts.1 (word result.0 1) parts.4 n same (size_by n) refl u has
        where
          by_size : (e : Elem) (k : ℕ) → t ≡ vector e k → (n : ℕ) → k ≡ n → (o : Option ℕ) → size_by n ≡ o → (q : Tree) → Has truths o q → IsCondition q t
          by_size e k it n same None is boolean h = tt
          by_size e k it n same (Some m) is (vector elem.Bool q) h = subst (IsCondition (vector elem.Bool q)) (sym it) (h.1 ∙ some_size n m is ∙ sym same)
            where
              some_size : (n m : ℕ) → size_by n ≡ Some m → m ≡ n
              some_size n m e = by_one (n == 1) e
                where
                  by_one : (b : Bool) → (if b then None else Some n) ≡ Some m → m ≡ n
                  by_one true e = cc
                  by_one false e = cc
          by_size e k it n same (Some m) is (vector elem.Int q) h = absurd h.0
          by_size e k it n same (Some m) is (vector elem.Uint q) h = absurd h.0
          by_size e k it n same _ is _ h = absurd h

  pub select_takes : (ls : List ℕ) (ty x y z c : ℕ) (t u a b : Tree) → T x ≡ Some c → is_no_condition Gs ty c ≡ false → is_other Gs T ty y ≡ false → is_other Gs T ty z ≡ false → type_tree Gs ty ≡ Some t → value_shape s f x ≡ Some u → value_shape s f y ≡ Some a → value_shape s f z ≡ Some b
      → Takes op.Select t ls (u ∷ a ∷ b ∷ [])
  select_takes ls ty x y z c t u a b typed right second third shape hu ha hb =
      (condition_of ty c t u right shape (ap (option_and_then (type_tree Gs)) (sym typed) ∙ hu), same_shape_of s f ty y t a second shape ha, same_shape_of s f ty z t b third shape hb)
