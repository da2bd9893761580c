-- Arrays and structs: made of their parts, taken apart along indexes, and copied part by part, as they are written.
use Rattle.std.proofs.Common.{◌≡◌, ◌<◌, ◌≤◌, ◌+◌, ◌^◌, ◌==◌, ℕ, zero, suc, Bool, true, false, List, [], ◌∷◌, length, map, take, Option, Some, None, refl, sym, ap, ◌∙◌, subst, arith}
use Rattle.std.specs.Prelude.{nat_lt, option_map, slice_get, bytes_eq, if◌then◌else◌}
use Rattle.std.specs.List.{list_all}
use Rattle.std.proofs.lemmas.Bool.{and_parts, and_from}
use Rattle.std.proofs.lemmas.Option.{slice_get_within}
use Rattle.spv_module.specs.declared.tree.Elem.{Elem}
use Rattle.spv_module.specs.declared.tree.Elem.TheVariants as elem
use Rattle.spv_module.specs.declared.tree.Length.TheVariants.{Fixed, Spec}
use Rattle.spv_types.specs.Tree as plain
use Rattle.spv_types.specs.Tree.{Tree, Trees, no_trees, tree, ValueTree, word, truth, many, ValueTrees}
use Rattle.glsl_ast.specs.Tree.{Text, TypeName, type_name, number, Expr, exprs_in, literal, build}
use Rattle.glsl_ast.specs.declared.expressions.Literal.TheVariants as lit
use Rattle.op_semantics.specs.Component.{listed, composite}
use Rattle.op_semantics.specs.Composite.{part_at, extracted as part_extracted, are_indexes}
use Rattle.op_semantics.specs.Fits.{fits, elem_tree}
use Rattle.list_law.proofs.Numbers.{less_is, less_of, number_itself}
use Rattle.list_law.proofs.Options.{some_part}
use Rattle.list_law.proofs.Lists.{same_bytes, map_joined}
use Rattle.fits_law.specs.Takes.{AreAlike, Alike, AllAlike, nth_of, part_shape, shape_at}
use Rattle.fits_law.proofs.Parts.{MembersFit, many_of, members_of, each_at, all_alike, listed_back}
use Rattle.vec_lowering.specs.Named.{Naming, id_name, member_name, array_of, shape_type}
use Rattle.vec_lowering.specs.Component.{axis_name, each_below}
use Rattle.vec_lowering.specs.Composite.{Argument as Operand, constructed, nth_or, element, axis, member_of, extracted, has_struct, copied, copied_parts}
use Rattle.traces.specs.Outcomes.{Result}
use Rattle.glsl_semantics.specs.Shapes.{Shape, int, vector, array, struct, Typed, typed, tree_of_value, same_elem, same_shape, member_from, scalar}
use Rattle.glsl_semantics.specs.Functions.{are_of, is_of, whole_of, built}
use Rattle.glsl_semantics.specs.States.{State}
use Rattle.glsl_semantics.specs.Expressions.{Program, Argument, with_extents, base_shape, type_of}
use Rattle.lowering_law.specs.Says.{Says, AllSay}
use Rattle.lowering_law.specs.Written.{text_shape, text_fields, IsWritten, AreWritten, typed_as, members_as, IsShort, AreShort, IsLogical, AreLogical}
use Rattle.lowering_law.proofs.Saying.{all_end, says_build, says_literal}
use Rattle.lowering_law.proofs.Parts.{says_member, says_element}
use Rattle.lowering_law.proofs.Components.{axis_part, type_is, take_end, take_whole}

-- names and types are themselves
pub elem_itself : (e : Elem) → same_elem e e ≡ true
elem_itself elem.Bool = refl
elem_itself elem.Int = refl
elem_itself elem.Uint = refl

module _ (p : Program) (names : Naming) where
  shape_itself : (t : Tree) → IsWritten p names t → same_shape (text_shape names t) (text_shape names t) ≡ true
  shape_itself plain.boolean w = refl
  shape_itself plain.int w = refl
  shape_itself plain.uint w = refl
  shape_itself (plain.vector e n) w = and_from (same_elem e e) (n == n) (elem_itself e) (number_itself n)
  shape_itself (plain.array t (Fixed n)) w = and_from (same_shape (text_shape names t) (text_shape names t)) (n == n) (shape_itself t w) (number_itself n)
  shape_itself (plain.array t (Spec id)) w = absurd w
  shape_itself (plain.runtime t) w = absurd w
  shape_itself (plain.struct id ts) w = same_bytes (id_name names id)

  -- the name of a type stands for it
  array_is : (n : ℕ) (ty : TypeName) (s : Shape) → type_of p ty ≡ Some s → type_of p (array_of (number n) ty) ≡ Some (array s (Some n))
  array_is n (type_name b xs) s e = by_base (base_shape p b) e
    where
      by_base : (o : Option Shape) → option_map (with_extents p xs) o ≡ Some s → option_map (with_extents p (number n ∷ xs)) o ≡ Some (array s (Some n))
      by_base None e = cc
      by_base (Some q) e = let same : with_extents p xs q ≡ s = cc in ap (λ x. Some (array x (Some n))) same

  pub written_is : (t : Tree) → IsWritten p names t → type_of p (shape_type names t) ≡ Some (text_shape names t)
  written_is plain.boolean w = refl
  written_is plain.int w = refl
  written_is plain.uint w = refl
  written_is (plain.vector e n) w = type_is p e n
  written_is (plain.array t (Fixed n)) w = array_is n (shape_type names t) (text_shape names t) (written_is t w)
  written_is (plain.array t (Spec id)) w = absurd w
  written_is (plain.runtime t) w = absurd w
  written_is (plain.struct id ts) w = ap (λ o. option_map (with_extents p []) (option_map (struct (id_name names id)) o)) w.0

  -- a member by its name, which none before it has
  module _ (id n : ℕ) (apart : (j : ℕ) → j < n → bytes_eq (member_name names id j) (member_name names id n) ≡ false) where
    member_found : (ts : Trees) (k i : ℕ) (t : Tree) → n ≡ k + i → nth_of ts i ≡ Some t → member_from k (text_fields names id k ts) (member_name names id n) ≡ Some (n, text_shape names t)
    member_found no_trees k i t same at = cc
    member_found (tree u ts) k zero t same at =
        let here : n ≡ k = omega (arith, same) in
        let shape : u ≡ t = cc in
        subst (λ m. member_from k (text_fields names id k (tree u ts)) (member_name names id m) ≡ Some (m, text_shape names t)) (sym here)
        (ap (λ b. elim b [ true ↦ Some (k, text_shape names u) | false ↦ member_from (k + 1) (text_fields names id (k + 1) ts) (member_name names id k) ]) (same_bytes (member_name names id k)) ∙ ap (λ x. Some (k, text_shape names x)) shape)
    member_found (tree u ts) k (suc i) t same at =
        let less : k < n = omega (arith, same) in
        let next : n ≡ k + 1 + i = omega (arith, same) in
        ap (λ b. elim b [ true ↦ Some (k, text_shape names u) | false ↦ member_from (k + 1) (text_fields names id (k + 1) ts) (member_name names id n) ]) (apart k less) ∙ member_found ts (k + 1) i t next at

  written_at : (ts : Trees) (i : ℕ) (t : Tree) → AreWritten p names ts → nth_of ts i ≡ Some t → IsWritten p names t
  written_at no_trees i t w at = cc
  written_at (tree u ts) zero t w at = let same : u ≡ t = cc in subst (IsWritten p names) same w.0
  written_at (tree u ts) (suc i) t w at = written_at ts i t w.1 at

  nth_is : (ts : Trees) (i : ℕ) (t other : Tree) → nth_of ts i ≡ Some t → nth_or ts i other ≡ t
  nth_is no_trees i t other at = cc
  nth_is (tree u ts) zero t other at = cc
  nth_is (tree u ts) (suc i) t other at = nth_is ts i t other at

  -- arguments that have the types of the parts
  each_of_type : (t : Tree) (vs : List ValueTree) → IsWritten p names t → list_all (is_of (text_shape names t)) (map (typed_as names t) vs) ≡ true
  each_of_type t [] w = refl
  each_of_type t (v ∷ vs) w = and_from (same_shape (text_shape names t) (text_shape names t)) (list_all (is_of (text_shape names t)) (map (typed_as names t) vs)) (shape_itself t w) (each_of_type t vs w)

  values_back : (t : Tree) (vs : List ValueTree) → map tree_of_value (map (typed_as names t) vs) ≡ vs
  values_back t [] = refl
  values_back t (v ∷ vs) = ap (λ us. v ∷ us) (values_back t vs)

  as_many : (t : Tree) (vs : List ValueTree) → length (map (typed_as names t) vs) ≡ length vs
  as_many t [] = refl
  as_many t (v ∷ vs) = ap (λ n. suc n) (as_many t vs)

  array_made : (t : Tree) (n : ℕ) (vs : List ValueTree) → IsWritten p names t → length vs ≡ n → built (array (text_shape names t) (Some n)) (map (typed_as names t) vs) ≡ Some (typed (array (text_shape names t) (Some n)) (composite vs))
  array_made t n vs w count =
      let size : (length (map (typed_as names t) vs) == n) ≡ true = ap (λ k. k == n) (as_many t vs ∙ count) ∙ number_itself n in
      ap (λ b. if b then Some (whole_of (array (text_shape names t) (Some n)) (map (typed_as names t) vs)) else None) (and_from (length (map (typed_as names t) vs) == n) (list_all (is_of (text_shape names t)) (map (typed_as names t) vs)) size (each_of_type t vs w))
      ∙ ap (λ us. Some (typed (array (text_shape names t) (Some n)) (composite us))) (values_back t vs)

  members_are : (id k : ℕ) (ts : Trees) (vs : List ValueTree) → AreWritten p names ts → MembersFit ts vs → are_of (text_fields names id k ts) (members_as names ts vs) ≡ true
  members_are id k no_trees [] w f = refl
  members_are id k no_trees (v ∷ vs) w f = absurd f
  members_are id k (tree t ts) [] w f = absurd f
  members_are id k (tree t ts) (v ∷ vs) w f = and_from (same_shape (text_shape names t) (text_shape names t)) (are_of (text_fields names id (k + 1) ts) (members_as names ts vs)) (shape_itself t w.0) (members_are id (k + 1) ts vs w.1 f.1)

  members_back : (ts : Trees) (vs : List ValueTree) → MembersFit ts vs → map tree_of_value (members_as names ts vs) ≡ vs
  members_back no_trees [] f = refl
  members_back no_trees (v ∷ vs) f = absurd f
  members_back (tree t ts) [] f = absurd f
  members_back (tree t ts) (v ∷ vs) f = ap (λ us. v ∷ us) (members_back ts vs f.1)

  struct_made : (id : ℕ) (ts : Trees) (vs : List ValueTree) → AreWritten p names ts → MembersFit ts vs → built (struct (id_name names id) (text_fields names id 0 ts)) (members_as names ts vs) ≡ Some (typed (struct (id_name names id) (text_fields names id 0 ts)) (composite vs))
  struct_made id ts vs w f =
      ap (λ b. if b then Some (whole_of (struct (id_name names id) (text_fields names id 0 ts)) (members_as names ts vs)) else None) (members_are id 0 ts vs w f)
      ∙ ap (λ us. Some (typed (struct (id_name names id) (text_fields names id 0 ts)) (composite us))) (members_back ts vs f)

  module _ (calls : Text → List Argument → State → Result (Option Typed × State)) (s : State) where
    abbrev S : Expr → Typed → Type 0
    S = Says p calls s

    -- OpCompositeConstruct of an array and of a struct, from operands that say the parts
    pub array_says : (t : Tree) (n : ℕ) (xs : List Operand) (vs : List ValueTree) → IsWritten p names (plain.array t (Fixed n)) → length vs ≡ n → AllSay p calls s (exprs_in (map (λ (x : Operand). x.of) xs)) (map (typed_as names t) vs)
        → S (constructed names (plain.array t (Fixed n)) xs) (typed_as names (plain.array t (Fixed n)) (composite vs))
    array_says t n xs vs w count say =
        says_build p calls s (shape_type names (plain.array t (Fixed n))) (array (text_shape names t) (Some n)) (exprs_in (map (λ (x : Operand). x.of) xs)) (map (typed_as names t) vs) (typed (array (text_shape names t) (Some n)) (composite vs))
        (written_is (plain.array t (Fixed n)) w) say (array_made t n vs w count)

    pub struct_says : (id : ℕ) (ts : Trees) (xs : List Operand) (vs : List ValueTree) → IsWritten p names (plain.struct id ts) → MembersFit ts vs → AllSay p calls s (exprs_in (map (λ (x : Operand). x.of) xs)) (members_as names ts vs)
        → S (constructed names (plain.struct id ts) xs) (typed_as names (plain.struct id ts) (composite vs))
    struct_says id ts xs vs w f say =
        says_build p calls s (shape_type names (plain.struct id ts)) (struct (id_name names id) (text_fields names id 0 ts)) (exprs_in (map (λ (x : Operand). x.of) xs)) (members_as names ts vs) (typed (struct (id_name names id) (text_fields names id 0 ts)) (composite vs))
        (written_is (plain.struct id ts) w) say (struct_made id ts vs w.2 f)

    -- a part: an element, a member, a component
    -- a part: an element, a member, a component
    below_some : {A : Type 0} (i n : ℕ) (t u : A) → (if nat_lt i n then Some t else None) ≡ Some u → (i < n) × (t ≡ u)
    below_some {A} i n t u e = by_test (nat_lt i n) refl e
      where
        by_test : (b : Bool) → nat_lt i n ≡ b → (if b then Some t else None) ≡ Some u → (i < n) × (t ≡ u)
        by_test true is e = (less_of i n is, let same : t ≡ u = cc in same)
        by_test false is e = cc

    element_says : (t : Tree) (n : ℕ) (e : Expr) (i : ℕ) (v c : ValueTree) → nat_lt i (2 ^ 31) ≡ true → i < n → S e (typed_as names (plain.array t (Fixed n)) v) → part_at v i ≡ Some c → S (element e i) (typed_as names t c)
    element_says t n e i v c low less say at =
        says_element p calls s e (literal (lit.Int i)) (array (text_shape names t) (Some n)) (text_shape names t) i v c (typed int (word i)) say (says_literal p calls s (lit.Int i)) refl
        low (ap (λ b. if b then Some (text_shape names t) else None) (less_is i n less)) at

    member_says : (id : ℕ) (ts : Trees) (e : Expr) (i : ℕ) (t : Tree) (v c : ValueTree) → IsWritten p names (plain.struct id ts) → nth_of ts i ≡ Some t → S e (typed_as names (plain.struct id ts) v) → part_at v i ≡ Some c → S (member_of names e id i) (typed_as names t c)
    member_says id ts e i t v c w is say at =
        says_member p calls s e (member_name names id i) (struct (id_name names id) (text_fields names id 0 ts)) (text_shape names t) i v c say (member_found id i (λ j less. w.1 j i t less is) ts 0 i t (let same : i ≡ 0 + i = omega arith in same) is) at

    -- a scalar has no parts
    no_more : (d : Elem) (is : List ℕ) (u : Tree) (v r : ValueTree) → shape_at (elem_tree d) is ≡ Some u → part_extracted is v ≡ Some r → (elem_tree d ≡ u) × (v ≡ r)
    no_more d [] u v r shape at = (let one : elem_tree d ≡ u = cc in one, let same : v ≡ r = cc in same)
    no_more elem.Bool (i ∷ is) u v r shape at = cc
    no_more elem.Int (i ∷ is) u v r shape at = cc
    no_more elem.Uint (i ∷ is) u v r shape at = cc

    pub scalar_as : (d : Elem) → text_shape names (elem_tree d) ≡ scalar d
    scalar_as elem.Bool = refl
    scalar_as elem.Int = refl
    scalar_as elem.Uint = refl

    -- OpCompositeExtract along literals
    pub extracted_says : (is : List ℕ) (t u : Tree) (e : Expr) (v r : ValueTree) → IsWritten p names t → shape_at t is ≡ Some u → are_indexes is ≡ true → S e (typed_as names t v) → part_extracted is v ≡ Some r → S (extracted names t is e) (typed_as names u r)
    extracted_says [] t u e v r w shape low say at = let one : t ≡ u = cc in let same : v ≡ r = cc in subst (λ x. S e (typed_as names u x)) same (subst (λ x. S e (typed_as names x v)) one say)
    extracted_says (i ∷ is) (plain.vector d n) u e v r w shape low say at =
        let inner = some_part (λ x. shape_at x is) (part_shape (plain.vector d n) i) u shape in
        let part = some_part (part_extracted is) (part_at v i) r at in
        let less = below_some i n (elem_tree d) inner.0 inner.1 in
        let rest = no_more d is u part.0 r (subst (λ x. shape_at x is ≡ Some u) (sym less.1) inner.2) part.2 in
        let here : S (axis e i) (typed (scalar d) part.0) = says_member p calls s e (axis_name i) (vector d n) (scalar d) i v part.0 say (axis_part d n i less.0 w.0) part.1 in
        subst (λ x. S (axis e i) (typed_as names u x)) rest.1 (subst (λ x. S (axis e i) (typed_as names x part.0)) rest.0 (subst (λ q. S (axis e i) (typed q part.0)) (sym (scalar_as d)) here))
    extracted_says (i ∷ is) (plain.array t (Fixed n)) u e v r w shape low say at =
        let inner = some_part (λ x. shape_at x is) (part_shape (plain.array t (Fixed n)) i) u shape in
        let part = some_part (part_extracted is) (part_at v i) r at in
        let less = below_some i n t inner.0 inner.1 in
        let lows = and_parts (nat_lt i (2 ^ 31)) (are_indexes is) low in
        extracted_says is t u (element e i) part.0 r w (subst (λ x. shape_at x is ≡ Some u) (sym less.1) inner.2) lows.1 (element_says t n e i v part.0 lows.0 less.0 say part.1) part.2
    extracted_says (i ∷ is) (plain.struct id ts) u e v r w shape low say at =
        let inner = some_part (λ x. shape_at x is) (nth_of ts i) u shape in
        let part = some_part (part_extracted is) (part_at v i) r at in
        let lows = and_parts (nat_lt i (2 ^ 31)) (are_indexes is) low in
        subst (λ x. S (extracted names x is (member_of names e id i)) (typed_as names u r)) (sym (nth_is ts i inner.0 plain.boolean inner.1))
        (extracted_says is inner.0 u (member_of names e id i) part.0 r (written_at ts i inner.0 w.2 inner.1) inner.2 lows.1 (member_says id ts e i inner.0 v part.0 w inner.1 say part.1) part.2)
    extracted_says (i ∷ is) (plain.array t (Spec id)) u e v r w shape low say at = absurd w
    extracted_says (i ∷ is) (plain.runtime t) u e v r w shape low say at = absurd w
    extracted_says (i ∷ is) plain.boolean u e v r w shape low say at = cc
    extracted_says (i ∷ is) plain.int u e v r w shape low say at = cc
    extracted_says (i ∷ is) plain.uint u e v r w shape low say at = cc

    -- OpCopyLogical: part by part where structs have other ids
    logical_elem : (e d : Elem) → e ≡ d → AreAlike e d
    logical_elem e d same = subst (AreAlike e) same (itself e)
      where
        itself : (e : Elem) → AreAlike e e
        itself elem.Bool = tt
        itself elem.Int = tt
        itself elem.Uint = tt

    mutual
      logical_alike : (t u : Tree) → IsLogical t u → Alike t u
      logical_alike plain.boolean plain.boolean l = tt
      logical_alike plain.int plain.int l = tt
      logical_alike plain.uint plain.uint l = tt
      logical_alike (plain.vector e n) (plain.vector d m) l = (logical_elem e d l.0, l.1)
      logical_alike (plain.array t (Fixed n)) (plain.array u (Fixed m)) l = (logical_alike t u l.0, l.1)
      logical_alike (plain.struct id ts) (plain.struct other us) l = all_logical ts us l
      logical_alike _ _ l = absurd l

      all_logical : (ts us : Trees) → AreLogical ts us → AllAlike ts us
      all_logical no_trees no_trees l = tt
      all_logical (tree t ts) (tree u us) l = (logical_alike t u l.0, all_logical ts us l.1)
      all_logical no_trees (tree u us) l = absurd l
      all_logical (tree t ts) no_trees l = absurd l

    same_type : (t u : Tree) → has_struct t ≡ false → IsLogical t u → text_shape names t ≡ text_shape names u
    same_type plain.boolean plain.boolean h l = refl
    same_type plain.int plain.int h l = refl
    same_type plain.uint plain.uint h l = refl
    same_type (plain.vector e n) (plain.vector d m) h l = ap (λ x. vector x n) l.0 ∙ ap (vector d) l.1
    same_type (plain.array t (Fixed n)) (plain.array u (Fixed m)) h l = ap (λ x. array x (Some n)) (same_type t u h l.0) ∙ ap (λ k. array (text_shape names u) (Some k)) l.1
    same_type (plain.struct id ts) (plain.struct other us) h l = cc
    same_type _ _ h l = absurd l

    -- expressions of the elements, each of which says its own
    each_below_say : (Q : ℕ → Expr) (t : Tree) (vs : List ValueTree) → ((k : ℕ) (c : ValueTree) → slice_get vs k ≡ Some c → S (Q k) (typed_as names t c)) → (n : ℕ) → n ≤ length vs → AllSay p calls s (exprs_in (each_below n Q)) (map (typed_as names t) (take n vs))
    each_below_say Q t vs each zero le = tt
    each_below_say Q t vs each (suc n) le =
        let last = take_end vs n (let less : n < length vs = omega (arith, le) in less) in
        subst (λ ys. AllSay p calls s (exprs_in (each_below (suc n) Q)) ys) (sym (ap (map (typed_as names t)) last.2 ∙ map_joined (typed_as names t) (take n vs) (last.0 ∷ [])))
        (all_end p calls s (each_below n Q) (map (typed_as names t) (take n vs)) (Q n) (typed_as names t last.0) (each_below_say Q t vs each n (let low : n ≤ length vs = omega (arith, le) in low)) (each n last.0 last.1))

    -- an array whose elements are copied one by one
    elements_say : (t u : Tree) (n m : ℕ) (e : Expr) (vs : ValueTrees) → IsWritten p names (plain.array t (Fixed n)) → n ≤ 2 ^ 31 → n ≡ m → fits (plain.array u (Fixed m)) (many vs) ≡ true → S e (typed_as names (plain.array u (Fixed m)) (many vs))
        → ((e : Expr) (v : ValueTree) → fits u v ≡ true → S e (typed_as names u v) → S (copied names t u e) (typed_as names t v))
        → S (build (shape_type names (plain.array t (Fixed n))) (exprs_in (each_below n (λ k. copied names t u (element e k))))) (typed_as names (plain.array t (Fixed n)) (many vs))
    elements_say t u n m e vs wt few same fit say one =
        let parts = many_of u m vs fit in
        let count : length (listed vs) ≡ n = parts.0 ∙ sym same in
        subst (λ us. S (build (shape_type names (plain.array t (Fixed n))) (exprs_in (each_below n (λ k. copied names t u (element e k))))) (typed_as names (plain.array t (Fixed n)) (many us))) (listed_back vs)
        (says_build p calls s (shape_type names (plain.array t (Fixed n))) (array (text_shape names t) (Some n)) (exprs_in (each_below n (λ k. copied names t u (element e k)))) (map (typed_as names t) (listed vs))
        (typed (array (text_shape names t) (Some n)) (composite (listed vs))) (written_is (plain.array t (Fixed n)) wt)
        (subst (λ us. AllSay p calls s (exprs_in (each_below n (λ k. copied names t u (element e k)))) (map (typed_as names t) us)) (take_whole (listed vs) n count)
        (each_below_say (λ k. copied names t u (element e k)) t (listed vs) (λ k c at.
        let less = slice_get_within (listed vs) k c at in
        one (element e k) c (each_at u (listed vs) k c parts.1 at) (element_says u m e k (many vs) c (less_is k (2 ^ 31) (let low : k < 2 ^ 31 = omega (arith, less, count, few) in low)) (subst (λ q. k < q) parts.0 less) say at)) n (let le : n ≤ length (listed vs) = omega (arith, count) in le)))
        (array_made t n (listed vs) wt count))

    -- a value copied part by part; and the members of a struct from one on, whose trees and values are those of the whole from there on
    mutual
      pub copied_says : (t u : Tree) (e : Expr) (v : ValueTree) → IsWritten p names t → IsWritten p names u → IsShort t → IsLogical t u → fits u v ≡ true → S e (typed_as names u v) → S (copied names t u e) (typed_as names t v)
      copied_says plain.boolean plain.boolean e v wt wu short l fit say = say
      copied_says plain.int plain.int e v wt wu short l fit say = say
      copied_says plain.uint plain.uint e v wt wu short l fit say = say
      copied_says (plain.vector d n) (plain.vector f m) e v wt wu short l fit say = subst (λ q. S e (typed q v)) (sym (same_type (plain.vector d n) (plain.vector f m) refl l)) say
      copied_says (plain.array t (Fixed n)) (plain.array u (Fixed m)) e (many vs) wt wu short l fit say = by_struct (has_struct t) refl (λ d c. copied_says t u d c wt wu short.1 l.0)
        where
          by_struct : (b : Bool) → has_struct t ≡ b → ((d : Expr) (c : ValueTree) → fits u c ≡ true → S d (typed_as names u c) → S (copied names t u d) (typed_as names t c))
              → S (if b then build (shape_type names (plain.array t (Fixed n))) (exprs_in (each_below n (λ k. copied names t u (element e k)))) else e) (typed_as names (plain.array t (Fixed n)) (many vs))
          by_struct true has one = elements_say t u n m e vs wt short.0 l.1 fit say one
          by_struct false has one = subst (λ q. S e (typed q (many vs))) (sym (same_type (plain.array t (Fixed n)) (plain.array u (Fixed m)) has l)) say
      copied_says (plain.array t (Fixed n)) (plain.array u (Fixed m)) e (word a) wt wu short l fit say = cc
      copied_says (plain.array t (Fixed n)) (plain.array u (Fixed m)) e (truth b) wt wu short l fit say = cc
      copied_says (plain.struct id ts) (plain.struct other us) e (many vs) wt wu short l fit say =
          subst (λ x. S (build (shape_type names (plain.struct id ts)) (copied_parts names ts other us 0 e)) (typed_as names (plain.struct id ts) (many x))) (listed_back vs)
          (says_build p calls s (shape_type names (plain.struct id ts)) (struct (id_name names id) (text_fields names id 0 ts)) (copied_parts names ts other us 0 e) (members_as names ts (listed vs)) (typed (struct (id_name names id) (text_fields names id 0 ts)) (composite (listed vs)))
          (written_is (plain.struct id ts) wt)
          (parts_say ts us other us 0 e vs (listed vs) wt.2 wu short l (members_of us vs fit) say (λ i. ap (nth_of us) (let at : 0 + i ≡ i = omega arith in at)) (λ i. ap (slice_get (listed vs)) (let at : 0 + i ≡ i = omega arith in at)))
          (struct_made id ts (listed vs) wt.2 (members_of ts vs (all_alike ts us (all_logical ts us l) vs fit))))
      copied_says (plain.struct id ts) (plain.struct other us) e (word a) wt wu short l fit say = cc
      copied_says (plain.struct id ts) (plain.struct other us) e (truth b) wt wu short l fit say = cc
      copied_says _ _ e v wt wu short l fit say = absurd l

      pub parts_say : (ts rest : Trees) (other : ℕ) (us : Trees) (k : ℕ) (e : Expr) (all : ValueTrees) (vs : List ValueTree) → AreWritten p names ts → IsWritten p names (plain.struct other us) → AreShort ts → AreLogical ts rest → MembersFit rest vs → S e (typed_as names (plain.struct other us) (many all))
          → ((i : ℕ) → nth_of us (k + i) ≡ nth_of rest i) → ((i : ℕ) → slice_get (listed all) (k + i) ≡ slice_get vs i) → AllSay p calls s (copied_parts names ts other us k e) (members_as names ts vs)
      parts_say no_trees no_trees other us k e all vs wt wu short l fit say trees values = tt
      parts_say (tree t ts) (tree u rest) other us k e all [] wt wu short l fit say trees values = absurd fit
      parts_say (tree t ts) (tree u rest) other us k e all (v ∷ vs) wt wu short l fit say trees values =
          let first : k + 0 ≡ k = omega arith in
          let here : nth_of us k ≡ Some u = ap (nth_of us) (sym first) ∙ trees 0 in
          let at : slice_get (listed all) k ≡ Some v = ap (slice_get (listed all)) (sym first) ∙ values 0 in
          let own : S (copied names t u (member_of names e other k)) (typed_as names t v) = copied_says t u (member_of names e other k) v wt.0 (written_at us k u wu.2 here) short.0 l.0 fit.0 (member_says other us e k u (many all) v wu here say at) in (
            subst (λ x. S (copied names t x (member_of names e other k)) (typed_as names t v)) (sym (nth_is us k u plain.boolean here)) own,
            parts_say ts rest other us (k + 1) e all vs wt.1 wu short.1 l.1 fit.1 say
                (λ i. ap (nth_of us) (let next : k + 1 + i ≡ k + suc i = omega arith in next) ∙ trees (suc i))
                (λ i. ap (slice_get (listed all)) (let next : k + 1 + i ≡ k + suc i = omega arith in next) ∙ values (suc i)),
          )
      parts_say no_trees (tree u rest) other us k e all vs wt wu short l fit say trees values = absurd l
      parts_say (tree t ts) no_trees other us k e all vs wt wu short l fit say trees values = absurd l
