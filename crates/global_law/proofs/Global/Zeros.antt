-- The zero of a type, as it is written, says the zero of its shape.
use Rattle.std.proofs.Common.{◌≡◌, ◌⊎◌, ◌+◌, ◌==◌, ◌&&◌, ℕ, zero, suc, Bool, true, List, [], ◌∷◌, length, map, Option, Some, None, inl, inr, refl, sym, ap, ap₂, ◌∙◌, subst, if◌then◌else◌}
use Rattle.std.specs.Prelude.{replicate}
use Rattle.std.specs.List.{list_all}
use Rattle.std.proofs.lemmas.Slice.Eq.{bytes_eq-Decides}
use Rattle.spv_module.specs.Lists.{id}
use Rattle.spv_module.specs.declared.tree.Elem.{Elem}
use Rattle.spv_module.specs.declared.tree.Elem.TheVariants as elem
use Rattle.spv_module.specs.declared.tree.Length.TheVariants.{Fixed, Spec}
use Rattle.spv_types.specs.Tree as plain
use Rattle.spv_types.specs.Tree.{Tree, Trees, no_trees, tree, many, values_in}
use Rattle.spv_types.specs.Leaves as leaves
use Rattle.spv_types.specs.Leaves.{zero_of, zeros_of}
use Rattle.module_semantics.specs.Setting.{Setting}
use Rattle.traces.specs.Outcomes.{Result, got, with_before, then_get, or_stuck}
use Rattle.name_alloc.specs.declared.claims.Key.{Key}
use Rattle.name_alloc.specs.declared.claims.Key.TheVariants.{Id}
use Rattle.glsl_ast.specs.Tree.{Text, Expr, Exprs, exprs_in}
use Rattle.glsl_semantics.specs.Shapes as shapes
use Rattle.glsl_semantics.specs.Shapes.{Typed, typed, same_shape, tree_of_value, scalar}
use Rattle.glsl_semantics.specs.States.{State, value}
use Rattle.glsl_semantics.specs.Functions.{built, whole_of, is_of, are_of}
use Rattle.glsl_semantics.specs.Expressions.{Program, Argument, done, then_fetch, denote, values}
use Rattle.text_rules.specs.Types.{Spelling, type_text, zero_elem, zero_text, zero_texts}
use Rattle.text_rules.specs.Constants.{Source}
use Rattle.text_rules.specs.Declarations.{spelling}
use Rattle.list_law.proofs.Numbers.{number_itself}
use Rattle.lowering_law.proofs.Composites.{elem_itself}
use Rattle.global_law.specs.Parts.{StructNames, shape_in, fields_in}
use Rattle.global_law.specs.Laid.{HasLengths, HaveLengths}
use Rattle.global_law.specs.Walks.{struct_names}
use Rattle.global_law.proofs.Path.Parts.{own_fields}
use Rattle.global_law.specs.Names.{IsDeclared}
use Rattle.global_law.proofs.Global.Declared.{named_type}

long : {A : Type 0} (n : ℕ) (a : A) → length (replicate n a) ≡ n
long zero a = refl
long (suc n) a = ap suc (long n a)

all_are : {A : Type 0} (q : A → Bool) (n : ℕ) (a : A) → q a ≡ true → list_all q (replicate n a) ≡ true
all_are q zero a is = refl
all_are q (suc n) a is = ap₂ (λ b c. b && c) is (all_are q n a is)

mapped : {A B : Type 0} (g : A → B) (n : ℕ) (a : A) → map g (replicate n a) ≡ replicate n (g a)
mapped g zero a = refl
mapped g (suc n) a = ap (λ l. g a ∷ l) (mapped g n a)

module _ (p : Program) (s : Setting) (source : Source) (key : Key → Text) where
  abbrev Y : StructNames
  Y = struct_names key

  abbrev S : Spelling
  S = spelling source (λ n. key (Id (id n)))

  -- a type whose zero is written: its arrays have lengths that are numbers, and its structs are declared
  abbrev mutual
    pub HasZero : Tree → Type 0
    HasZero (plain.vector e n) = (n ≡ 2) ⊎ ((n ≡ 3) ⊎ (n ≡ 4))
    HasZero (plain.array t (Fixed n)) = HasZero t
    HasZero (plain.array t (Spec n)) = ⊥
    HasZero (plain.runtime t) = ⊥
    HasZero (plain.struct n ts) = (p.structs (key (Id (id n))) ≡ Some (fields_in s Y n 0 ts)) × HaveZeros ts
    HasZero _ = Unit {0}

    pub HaveZeros : Trees → Type 0
    HaveZeros no_trees = Unit {0}
    HaveZeros (tree t ts) = HasZero t × HaveZeros ts

  pub is_declared : (t : Tree) → HasZero t → IsDeclared p s source key t
  is_declared plain.boolean z = tt
  is_declared plain.int z = tt
  is_declared plain.uint z = tt
  is_declared (plain.vector e n) z = tt
  is_declared (plain.array t (Fixed n)) z = is_declared t z
  is_declared (plain.array t (Spec n)) z = absurd z
  is_declared (plain.runtime t) z = absurd z
  is_declared (plain.struct n ts) z = (fields_in s Y n 0 ts, z.0, own_fields s Y n 0 ts)

  mutual
    pub zero_lengths : (t : Tree) → HasZero t → HasLengths t
    zero_lengths plain.boolean z = tt
    zero_lengths plain.int z = tt
    zero_lengths plain.uint z = tt
    zero_lengths (plain.vector e n) z = tt
    zero_lengths (plain.array t (Fixed n)) z = zero_lengths t z
    zero_lengths (plain.array t (Spec n)) z = absurd z
    zero_lengths (plain.runtime t) z = absurd z
    zero_lengths (plain.struct n ts) z = all_zero_lengths ts z.1

    all_zero_lengths : (ts : Trees) → HaveZeros ts → HaveLengths ts
    all_zero_lengths no_trees z = tt
    all_zero_lengths (tree t ts) z = (zero_lengths t z.0, all_zero_lengths ts z.1)

  -- a type is one with itself
  pub same_itself : (t : Tree) → HasZero t → same_shape (shape_in s Y t) (shape_in s Y t) ≡ true
  same_itself plain.boolean z = refl
  same_itself plain.int z = refl
  same_itself plain.uint z = refl
  same_itself (plain.vector e n) z = ap₂ (λ a b. a && b) (elem_itself e) (number_itself n)
  same_itself (plain.array t (Fixed n)) z = ap₂ (λ a b. a && b) (same_itself t z) (number_itself n)
  same_itself (plain.array t (Spec n)) z = absurd z
  same_itself (plain.runtime t) z = absurd z
  same_itself (plain.struct n ts) z = (bytes_eq-Decides (key (Id (id n))) (key (Id (id n)))).1 refl

  -- the values of members
  abbrev zero_list : Trees → List Typed
  zero_list no_trees = []
  zero_list (tree t ts) = typed (shape_in s Y t) (zero_of t) ∷ zero_list ts

  members_fit : (n k : ℕ) (ts : Trees) → HaveZeros ts → are_of (fields_in s Y n k ts) (zero_list ts) ≡ true
  members_fit n k no_trees z = refl
  members_fit n k (tree t ts) z = ap₂ (λ a b. a && b) (same_itself t z.0) (members_fit n (k + 1) ts z.1)

  members_zero : (ts : Trees) → values_in (map tree_of_value (zero_list ts)) ≡ zeros_of ts
  members_zero no_trees = refl
  members_zero (tree t ts) = ap (λ vs. plain.value (zero_of t) vs) (members_zero ts)

  module _ (calls : Text → List Argument → State → Result (Option Typed × State)) (z : State) where
    -- so many times one value
    values_times : (n : ℕ) (e : Expr) (v : Typed) → denote p calls e z ≡ got [] (value v, z) → values p calls (exprs_in (replicate n e)) z ≡ got [] (replicate n v, z)
    values_times zero e v is = refl
    values_times (suc n) e v is =
        ap (λ g. then_fetch g (λ v s. then_get (values p calls (exprs_in (replicate n e)) s) (λ y. got [] (v ∷ y.0, y.1)))) is
        ∙ ap (λ q. with_before [] (with_before [] (then_get q (λ y. got [] (v ∷ y.0, y.1))))) (values_times n e v is)

    -- a constructor of these
    build_says : (t : Tree) (es : Exprs) (vs : List Typed) (v : Typed) → HasZero t → values p calls es z ≡ got [] (vs, z) → built (shape_in s Y t) vs ≡ Some v → denote p calls (Expr.build (type_text S t) es) z ≡ got [] (value v, z)
    build_says t es vs v has given is =
        ap (λ o. or_stuck o (λ shape. then_get (values p calls es z) (λ x. done (built shape x.0) x.1))) (named_type p s source key t (zero_lengths t has) (is_declared t has))
        ∙ ap (λ q. then_get q (λ x. done (built (shape_in s Y t) x.0) x.1)) given
        ∙ ap (λ o. with_before [] (done o z)) is

    vector_zero : (e : Elem) (n : ℕ) → (n ≡ 2) ⊎ ((n ≡ 3) ⊎ (n ≡ 4)) → built (shapes.vector e n) (replicate n (typed (scalar e) (leaves.zero_elem e))) ≡ Some (typed (shapes.vector e n) (leaves.times n (leaves.zero_elem e)))
    vector_zero e n (inl two) = subst (λ n. built (shapes.vector e n) (replicate n (typed (scalar e) (leaves.zero_elem e))) ≡ Some (typed (shapes.vector e n) (leaves.times n (leaves.zero_elem e)))) (sym two) (by_elem e)
      where
        by_elem : (e : Elem) → built (shapes.vector e 2) (replicate 2 (typed (scalar e) (leaves.zero_elem e))) ≡ Some (typed (shapes.vector e 2) (leaves.times 2 (leaves.zero_elem e)))
        by_elem elem.Bool = refl
        by_elem elem.Int = refl
        by_elem elem.Uint = refl
    vector_zero e n (inr (inl three)) = subst (λ n. built (shapes.vector e n) (replicate n (typed (scalar e) (leaves.zero_elem e))) ≡ Some (typed (shapes.vector e n) (leaves.times n (leaves.zero_elem e)))) (sym three) (by_elem e)
      where
        by_elem : (e : Elem) → built (shapes.vector e 3) (replicate 3 (typed (scalar e) (leaves.zero_elem e))) ≡ Some (typed (shapes.vector e 3) (leaves.times 3 (leaves.zero_elem e)))
        by_elem elem.Bool = refl
        by_elem elem.Int = refl
        by_elem elem.Uint = refl
    vector_zero e n (inr (inr four)) = subst (λ n. built (shapes.vector e n) (replicate n (typed (scalar e) (leaves.zero_elem e))) ≡ Some (typed (shapes.vector e n) (leaves.times n (leaves.zero_elem e)))) (sym four) (by_elem e)
      where
        by_elem : (e : Elem) → built (shapes.vector e 4) (replicate 4 (typed (scalar e) (leaves.zero_elem e))) ≡ Some (typed (shapes.vector e 4) (leaves.times 4 (leaves.zero_elem e)))
        by_elem elem.Bool = refl
        by_elem elem.Int = refl
        by_elem elem.Uint = refl

    elem_says : (e : Elem) → denote p calls (zero_elem e) z ≡ got [] (value (typed (scalar e) (leaves.zero_elem e)), z)
    elem_says elem.Bool = refl
    elem_says elem.Int = refl
    elem_says elem.Uint = refl

    array_zero : (t : Tree) (n : ℕ) → HasZero t → built (shapes.array (shape_in s Y t) (Some n)) (replicate n (typed (shape_in s Y t) (zero_of t))) ≡ Some (typed (shapes.array (shape_in s Y t) (Some n)) (leaves.times n (zero_of t)))
    array_zero t n has =
        let vs = replicate n (typed (shape_in s Y t) (zero_of t)) in
        let all : ((length vs == n) && list_all (is_of (shape_in s Y t)) vs) ≡ true
        = ap₂ (λ a b. (a == n) && b) (long n (typed (shape_in s Y t) (zero_of t))) (all_are (is_of (shape_in s Y t)) n (typed (shape_in s Y t) (zero_of t)) (same_itself t has)) ∙ ap (λ a. a && true) (number_itself n) in
        ap (λ b. if b then Some (whole_of (shapes.array (shape_in s Y t) (Some n)) vs) else None) all ∙ ap (λ l. Some (typed (shapes.array (shape_in s Y t) (Some n)) (many (values_in l)))) (mapped tree_of_value n (typed (shape_in s Y t) (zero_of t)))

    struct_zero : (n : ℕ) (ts : Trees) → HaveZeros ts → built (shape_in s Y (plain.struct n ts)) (zero_list ts) ≡ Some (typed (shape_in s Y (plain.struct n ts)) (zero_of (plain.struct n ts)))
    struct_zero n ts have = ap (λ b. if b then Some (whole_of (shape_in s Y (plain.struct n ts)) (zero_list ts)) else None) (members_fit n 0 ts have) ∙ ap (λ vs. Some (typed (shape_in s Y (plain.struct n ts)) (many vs))) (members_zero ts)

    mutual
      pub zero_says : (t : Tree) → HasZero t → denote p calls (zero_text S t) z ≡ got [] (value (typed (shape_in s Y t) (zero_of t)), z)
      zero_says plain.boolean has = refl
      zero_says plain.int has = refl
      zero_says plain.uint has = refl
      zero_says (plain.vector e n) has = build_says (plain.vector e n) (exprs_in (replicate n (zero_elem e))) (replicate n (typed (scalar e) (leaves.zero_elem e))) (typed (shapes.vector e n) (leaves.times n (leaves.zero_elem e))) has (values_times n (zero_elem e) (typed (scalar e) (leaves.zero_elem e)) (elem_says e)) (vector_zero e n has)
      zero_says (plain.array t (Fixed n)) has =
          build_says (plain.array t (Fixed n)) (exprs_in (replicate n (zero_text S t))) (replicate n (typed (shape_in s Y t) (zero_of t))) (typed (shapes.array (shape_in s Y t) (Some n)) (leaves.times n (zero_of t))) has (values_times n (zero_text S t) (typed (shape_in s Y t) (zero_of t)) (zero_says t has)) (array_zero t n has)
      zero_says (plain.array t (Spec n)) has = absurd has
      zero_says (plain.runtime t) has = absurd has
      zero_says (plain.struct n ts) has = build_says (plain.struct n ts) (zero_texts S ts) (zero_list ts) (typed (shape_in s Y (plain.struct n ts)) (zero_of (plain.struct n ts))) has (zeros_say ts has.1) (struct_zero n ts has.1)

      zeros_say : (ts : Trees) → HaveZeros ts → values p calls (zero_texts S ts) z ≡ got [] (zero_list ts, z)
      zeros_say no_trees have = refl
      zeros_say (tree t ts) have =
          ap (λ g. then_fetch g (λ v s. then_get (values p calls (zero_texts S ts) s) (λ y. got [] (v ∷ y.0, y.1)))) (zero_says t have.0)
          ∙ ap (λ q. with_before [] (with_before [] (then_get q (λ y. got [] (typed (shape_in s Y t) (zero_of t) ∷ y.0, y.1))))) (zeros_say ts have.1)
