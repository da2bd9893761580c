-- A constructor of parts with the shapes of a type says the composite of their values.
use Rattle.std.proofs.Common.{◌≡◌, ◌⊎◌, ◌+◌, ◌==◌, ℕ, suc, true, List, [], ◌∷◌, length, map, Option, Some, None, inl, inr, refl, sym, ap, ap₂, ◌∙◌, subst, if◌then◌else◌, arith}
use Rattle.std.specs.Prelude.{option_map, option_and_then}
use Rattle.std.specs.List.{list_all}
use Rattle.std.proofs.lemmas.Bool.{and_from}
use Rattle.spv_module.specs.declared.tree.Elem.{Elem}
use Rattle.spv_module.specs.declared.tree.Elem.TheVariants as elem
use Rattle.spv_module.specs.declared.tree.Length.TheVariants.{Fixed, Spec}
use Rattle.spv_types.specs.Tree as plain
use Rattle.spv_types.specs.Tree.{Tree, Trees, no_trees, tree, ValueTree, truth, word, many}
use Rattle.op_semantics.specs.Component.{before, each_one, composite}
use Rattle.op_semantics.specs.Fits.{elem_tree, fits}
use Rattle.module_semantics.specs.Setting.{Setting}
use Rattle.name_alloc.specs.declared.claims.Key.{Key}
use Rattle.glsl_ast.specs.Tree.{Text, TypeName, build, Exprs}
use Rattle.traces.specs.Outcomes.{Result}
use Rattle.glsl_semantics.specs.Shapes as shapes
use Rattle.glsl_semantics.specs.Shapes.{Typed, typed, tree_of_value, same_shape, scalar}
use Rattle.glsl_semantics.specs.States.{State}
use Rattle.glsl_semantics.specs.Functions.{as_elem, scalars_of, joined, filled, vector_built, are_of, is_of, whole_of, built}
use Rattle.glsl_semantics.specs.Expressions.{Program, Argument, type_of}
use Rattle.text_rules.specs.Constants.{Source}
use Rattle.list_law.proofs.Numbers.{number_same}
use Rattle.fits_law.specs.Takes.{AreOfShape, AreMembers, AllFit}
use Rattle.lowering_law.specs.Says.{Says, AllSay}
use Rattle.lowering_law.proofs.Saying.{says_build}
use Rattle.global_law.specs.Parts.{StructNames, shape_in, fields_in}
use Rattle.global_law.specs.Walks.{struct_names}
use Rattle.global_law.proofs.Global.Zeros.{HasZero, HaveZeros, same_itself}
use Rattle.global_law.proofs.Constant.Constituents.{AreConstituents}

-- scalars, each alone
abbrev singles : List ValueTree → List (List ValueTree)
singles [] = []
singles (v ∷ vs) = (v ∷ []) ∷ singles vs

joined_singles : (vs : List ValueTree) → joined (singles vs) ≡ vs
joined_singles [] = refl
joined_singles (v ∷ vs) = ap (λ l. v ∷ l) (joined_singles vs)

scalar_is : (e : Elem) (v : ValueTree) → fits (elem_tree e) v ≡ true → (scalars_of (typed (scalar e) v) ≡ Some (v ∷ [])) × (as_elem e v ≡ Some v)
scalar_is elem.Bool (truth b) fit = (refl, refl)
scalar_is elem.Bool (word a) fit = cc
scalar_is elem.Bool (many vs) fit = cc
scalar_is elem.Int (word a) fit = (refl, refl)
scalar_is elem.Int (truth b) fit = cc
scalar_is elem.Int (many vs) fit = cc
scalar_is elem.Uint (word a) fit = (refl, refl)
scalar_is elem.Uint (truth b) fit = cc
scalar_is elem.Uint (many vs) fit = cc

filled_is : (n : ℕ) (vs : List ValueTree) → length vs ≡ n → (n ≡ 1 → ⊥) → filled n vs ≡ Some vs
filled_is n [] count some = ap (λ b. if b then Some [] else None) (number_same 0 n count)
filled_is n (v ∷ []) count some = absurd (some (sym count))
filled_is n (v ∷ w ∷ vs) count some = ap (λ b. if b then Some (v ∷ w ∷ vs) else None) (number_same (length (v ∷ w ∷ vs)) n count)

module _ (p : Program) (s : Setting) (source : Source) (key : Key → Text) where
  abbrev Y : StructNames
  Y = struct_names key

  -- values of shapes, one by one
  abbrev pub as_typed : List Tree → List ValueTree → List Typed
  as_typed (t ∷ ts) (v ∷ vs) = typed (shape_in s Y t) v ∷ as_typed ts vs
  as_typed _ _ = []

  values_back : (us : List Tree) (vs : List ValueTree) → AllFit us vs → map tree_of_value (as_typed us vs) ≡ vs
  values_back [] [] fit = refl
  values_back (u ∷ us) (v ∷ vs) fit = ap (λ l. v ∷ l) (values_back us vs fit.1)
  values_back [] (v ∷ vs) fit = absurd fit
  values_back (u ∷ us) [] fit = absurd fit

  as_many : (us : List Tree) (vs : List ValueTree) → AllFit us vs → length (as_typed us vs) ≡ length us
  as_many [] [] fit = refl
  as_many (u ∷ us) (v ∷ vs) fit = ap (λ k. suc k) (as_many us vs fit.1)
  as_many [] (v ∷ vs) fit = absurd fit
  as_many (u ∷ us) [] fit = absurd fit

  values_many : (us : List Tree) (vs : List ValueTree) → AllFit us vs → length vs ≡ length us
  values_many [] [] fit = refl
  values_many (u ∷ us) (v ∷ vs) fit = ap (λ k. suc k) (values_many us vs fit.1)
  values_many [] (v ∷ vs) fit = absurd fit
  values_many (u ∷ us) [] fit = absurd fit

  -- components
  scalars_are : (e : Elem) (us : List Tree) (vs : List ValueTree) → AreOfShape (elem_tree e) us → AllFit us vs → (each_one scalars_of (as_typed us vs) ≡ Some (singles vs)) × (each_one (as_elem e) vs ≡ Some vs)
  scalars_are e [] [] are fit = (refl, refl)
  scalars_are e (u ∷ us) (v ∷ vs) are fit =
      let one = scalar_is e v (subst (λ t. fits t v ≡ true) are.0 fit.0) in
      let rest = scalars_are e us vs are.1 fit.1 in (
        ap (λ t. before (scalars_of (typed (shape_in s Y t) v)) (each_one scalars_of (as_typed us vs))) are.0 ∙ ap (λ t. before (scalars_of (typed t v)) (each_one scalars_of (as_typed us vs))) (scalar_shape e) ∙ ap₂ (λ a b. before a b) one.0 rest.0,
        ap₂ (λ a b. before a b) one.1 rest.1,
      )
    where
      scalar_shape : (e : Elem) → shape_in s Y (elem_tree e) ≡ scalar e
      scalar_shape elem.Bool = refl
      scalar_shape elem.Int = refl
      scalar_shape elem.Uint = refl
  scalars_are e [] (v ∷ vs) are fit = absurd fit
  scalars_are e (u ∷ us) [] are fit = absurd fit

  some_more : (n : ℕ) → (n ≡ 2) ⊎ ((n ≡ 3) ⊎ (n ≡ 4)) → n ≡ 1 → ⊥
  some_more n (inl two) one = omega (arith, two, one)
  some_more n (inr (inl three)) one = omega (arith, three, one)
  some_more n (inr (inr four)) one = omega (arith, four, one)

  vector_made : (e : Elem) (n : ℕ) (us : List Tree) (vs : List ValueTree) → (n ≡ 1 → ⊥) → length us ≡ n → AreOfShape (elem_tree e) us → AllFit us vs → built (shapes.vector e n) (as_typed us vs) ≡ Some (typed (shapes.vector e n) (composite vs))
  vector_made e n us vs some count are fit =
      let parts = scalars_are e us vs are fit in
      ap (vector_built e n) parts.0
      ∙ ap (λ l. option_map (typed (shapes.vector e n)) (option_and_then (λ us. option_map composite (each_one (as_elem e) us)) (filled n l))) (joined_singles vs)
      ∙ ap (λ o. option_map (typed (shapes.vector e n)) (option_and_then (λ us. option_map composite (each_one (as_elem e) us)) o)) (filled_is n vs (values_many us vs fit ∙ count) some)
      ∙ ap (λ o. option_map (typed (shapes.vector e n)) (option_map composite o)) parts.1

  -- elements
  all_of : (t : Tree) (us : List Tree) (vs : List ValueTree) → HasZero p s source key t → AreOfShape t us → AllFit us vs → list_all (is_of (shape_in s Y t)) (as_typed us vs) ≡ true
  all_of t [] [] z are fit = refl
  all_of t (u ∷ us) (v ∷ vs) z are fit =
      and_from (same_shape (shape_in s Y t) (shape_in s Y u)) (list_all (is_of (shape_in s Y t)) (as_typed us vs)) (ap (λ q. same_shape (shape_in s Y t) (shape_in s Y q)) are.0 ∙ same_itself p s source key t z) (all_of t us vs z are.1 fit.1)
  all_of t [] (v ∷ vs) z are fit = absurd fit
  all_of t (u ∷ us) [] z are fit = absurd fit

  array_made : (t : Tree) (n : ℕ) (us : List Tree) (vs : List ValueTree) → HasZero p s source key t → length us ≡ n → AreOfShape t us → AllFit us vs → built (shapes.array (shape_in s Y t) (Some n)) (as_typed us vs) ≡ Some (typed (shapes.array (shape_in s Y t) (Some n)) (composite vs))
  array_made t n us vs z count are fit =
      ap (λ b. if b then Some (whole_of (shapes.array (shape_in s Y t) (Some n)) (as_typed us vs)) else None)
      (and_from (length (as_typed us vs) == n) (list_all (is_of (shape_in s Y t)) (as_typed us vs)) (number_same (length (as_typed us vs)) n (as_many us vs fit ∙ count)) (all_of t us vs z are fit))
      ∙ ap (λ l. Some (typed (shapes.array (shape_in s Y t) (Some n)) (composite l))) (values_back us vs fit)

  -- members
  members_are : (k j : ℕ) (ts : Trees) (us : List Tree) (vs : List ValueTree) → HaveZeros p s source key ts → AreMembers ts us → AllFit us vs → are_of (fields_in s Y k j ts) (as_typed us vs) ≡ true
  members_are k j no_trees [] [] z are fit = refl
  members_are k j no_trees [] (v ∷ vs) z are fit = absurd fit
  members_are k j no_trees (u ∷ us) vs z are fit = absurd are
  members_are k j (tree t ts) [] vs z are fit = absurd are
  members_are k j (tree t ts) (u ∷ us) [] z are fit = absurd fit
  members_are k j (tree t ts) (u ∷ us) (v ∷ vs) z are fit =
      and_from (same_shape (shape_in s Y t) (shape_in s Y u)) (are_of (fields_in s Y k (j + 1) ts) (as_typed us vs)) (ap (λ q. same_shape (shape_in s Y t) (shape_in s Y q)) are.0 ∙ same_itself p s source key t z.0) (members_are k (j + 1) ts us vs z.1 are.1 fit.1)

  struct_made : (k : ℕ) (ts : Trees) (us : List Tree) (vs : List ValueTree) → HaveZeros p s source key ts → AreMembers ts us → AllFit us vs → built (shape_in s Y (plain.struct k ts)) (as_typed us vs) ≡ Some (typed (shape_in s Y (plain.struct k ts)) (composite vs))
  struct_made k ts us vs z are fit =
      ap (λ b. if b then Some (whole_of (shape_in s Y (plain.struct k ts)) (as_typed us vs)) else None) (members_are k 0 ts us vs z are fit)
      ∙ ap (λ l. Some (typed (shape_in s Y (plain.struct k ts)) (composite l))) (values_back us vs fit)

  pub built_is : (t : Tree) (us : List Tree) (vs : List ValueTree) → HasZero p s source key t → AreConstituents s t us → AllFit us vs → built (shape_in s Y t) (as_typed us vs) ≡ Some (typed (shape_in s Y t) (composite vs))
  built_is plain.boolean us vs z are fit = absurd are
  built_is plain.int us vs z are fit = absurd are
  built_is plain.uint us vs z are fit = absurd are
  built_is (plain.vector e n) us vs z are fit = vector_made e n us vs (some_more n z) are.0 are.1 fit
  built_is (plain.array t (Fixed n)) us vs z are fit = array_made t n us vs z are.0 are.1 fit
  built_is (plain.array t (Spec l)) us vs z are fit = absurd z
  built_is (plain.runtime t) us vs z are fit = absurd z
  built_is (plain.struct k ts) us vs z are fit = struct_made k ts us vs z.1 are fit

  -- So the constructor says it.
  pub composite_says : (calls : Text → List Argument → State → Result (Option Typed × State)) (z : State) (ty : TypeName) (es : Exprs) (t : Tree) (us : List Tree) (vs : List ValueTree) → type_of p ty ≡ Some (shape_in s Y t) → HasZero p s source key t → AreConstituents s t us → AllFit us vs → AllSay p calls z es (as_typed us vs)
      → Says p calls z (build ty es) (typed (shape_in s Y t) (composite vs))
  composite_says calls z ty es t us vs named has are fit say = says_build p calls z ty (shape_in s Y t) es (as_typed us vs) (typed (shape_in s Y t) (composite vs)) named say (built_is t us vs has are fit)
