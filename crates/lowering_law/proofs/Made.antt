-- Vectors that are made of parts: OpVectorShuffle, and OpCompositeConstruct of a vector, as they are written.
use Rattle.std.proofs.Common.{◌≡◌, ◌<◌, ◌≤◌, ◌-◌, ◌==◌, ℕ, zero, suc, Bool, true, false, List, [], ◌∷◌, ◌++◌, length, map, replicate, slice_get, Option, Some, None, refl, sym, ap, ◌∙◌, subst, arith}
use Rattle.std.specs.Prelude.{nat_lt, option_map, option_and_then, flat_map, if◌then◌else◌}
use Rattle.std.proofs.lemmas.Bool.Decides.{nat_tests}
use Rattle.std.proofs.lemmas.List.{length-replicate}
use Rattle.std.proofs.lemmas.Option.{slice_get_within}
use Rattle.spv_module.specs.declared.tree.Elem.{Elem}
use Rattle.spv_module.specs.declared.tree.Elem.TheVariants as elem
use Rattle.spv_types.specs.Tree.{ValueTree, many, ValueTrees, vector as vector_tree}
use Rattle.spv_types.specs.Leaves.{zero_elem, zero_of}
use Rattle.glsl_ast.specs.Tree.{Text, Expr, exprs_in, literal}
use Rattle.op_semantics.specs.Component.{listed, composite, before, each_one}
use Rattle.op_semantics.specs.Composite.{picked as component_picked, shuffled as components_picked, extracted as part_extracted, components}
use Rattle.int_lowering.specs.declared.basic.BasicType.{BasicType}
use Rattle.int_lowering.specs.Operand.{Operand as Plain, scalar, type_named, literal_of}
use Rattle.int_lowering.specs.Lowered.{applied}
use Rattle.op_semantics.specs.declared.operation.Operation.TheVariants as op
use Rattle.vec_lowering.specs.Named.{Naming}
use Rattle.vec_lowering.specs.Component.{axis_name, component, on_basic}
use Rattle.vec_lowering.specs.Composite.{Argument as Operand, operand, axis, picked, shuffled, constructed, extracted, vector_size, count_or_none}
use Rattle.traces.specs.Outcomes.{Result}
use Rattle.glsl_semantics.specs.Shapes.{vector, Typed, typed, scalar as shape_of_elem}
use Rattle.glsl_semantics.specs.States.{State}
use Rattle.glsl_semantics.specs.Functions.{as_elem, scalars_of, joined, filled, vector_built, built}
use Rattle.glsl_semantics.specs.Expressions.{Program, Argument}
use Rattle.list_law.proofs.Numbers.{less_of}
use Rattle.fits_law.proofs.Operations.{before_some}
use Rattle.fits_law.proofs.Parts.{listed_values}
use Rattle.lowering_law.specs.Says.{Says, AllSay}
use Rattle.lowering_law.specs.BuiltIns.{NoneDeclared}
use Rattle.lowering_law.specs.Stands.{AreOf, IsVectorOf, MeansVector, vector_type}
use Rattle.lowering_law.proofs.Saying.{says_build, says_literal}
use Rattle.lowering_law.proofs.Parts.{says_member}
use Rattle.lowering_law.proofs.Vectors.{filled_is}
use Rattle.lowering_law.proofs.Components.{composite_some, each_itself, built_of, type_is, axis_part, components_say}

slice_left : {A : Type 0} (xs ys : List A) (k : ℕ) → k < length xs → slice_get (xs ++ ys) k ≡ slice_get xs k
slice_left [] ys k less = absurd (omega (arith, less))
slice_left (x ∷ xs) ys zero less = refl
slice_left (x ∷ xs) ys (suc k) less = slice_left xs ys k (omega (arith, less))

slice_right : {A : Type 0} (xs ys : List A) (k : ℕ) → length xs ≤ k → slice_get (xs ++ ys) k ≡ slice_get ys (k - length xs)
slice_right [] ys k le = ap (slice_get ys) (let same : k ≡ k - 0 = omega arith in same)
slice_right (x ∷ xs) ys zero le = absurd (omega (arith, le))
slice_right (x ∷ xs) ys (suc k) le = slice_right xs ys k (omega (arith, le)) ∙ ap (slice_get ys) (let same : k - length xs ≡ suc k - suc (length xs) = omega arith in same)

not_less : (k m : ℕ) → nat_lt k m ≡ false → m ≤ k
not_less k m e = grind (arith, nat_tests, e)

-- a scalar or a vector of components of one type, as a constructor takes it
abbrev pub IsPart : Typed → ValueTree → Type 0
IsPart t v = scalars_of t ≡ Some (components v)

abbrev pub AreParts : List Typed → List ValueTree → Type 0
AreParts [] [] = Unit {0}
AreParts (t ∷ ts) (v ∷ vs) = IsPart t v × AreParts ts vs
AreParts _ _ = ⊥

each_parts : (ts : List Typed) (vs : List ValueTree) → AreParts ts vs → each_one scalars_of ts ≡ Some (map components vs)
each_parts [] [] a = refl
each_parts [] (v ∷ vs) a = absurd a
each_parts (t ∷ ts) [] a = absurd a
each_parts (t ∷ ts) (v ∷ vs) a = ap (λ o. before o (each_one scalars_of ts)) a.0 ∙ ap (before (Some (components v))) (each_parts ts vs a.1)

joined_parts : (vs : List ValueTree) → joined (map components vs) ≡ flat_map components vs
joined_parts [] = refl
joined_parts (v ∷ vs) = ap (λ us. components v ++ us) (joined_parts vs)

built_of_parts : (e : Elem) (n : ℕ) (ts : List Typed) (vs : List ValueTree) → AreParts ts vs → AreOf e (flat_map components vs) → length (flat_map components vs) ≡ n → (n == 1) ≡ false → built (vector e n) ts ≡ Some (typed (vector e n) (composite (flat_map components vs)))
built_of_parts e n ts vs parts a count more =
    ap (vector_built e n) (each_parts ts vs parts)
    ∙ ap (λ us. option_map (typed (vector e n)) (option_and_then (λ us. option_map composite (each_one (as_elem e) us)) (filled n us))) (joined_parts vs)
    ∙ ap (λ o. option_map (typed (vector e n)) (option_and_then (λ us. option_map composite (each_one (as_elem e) us)) o)) (filled_is n (flat_map components vs) count more)
    ∙ ap (λ o. option_map (typed (vector e n)) (option_map composite o)) (each_itself e (flat_map components vs) a)

itself : (o : Option ValueTree) (c : ValueTree) → option_and_then (part_extracted []) o ≡ Some c → o ≡ Some c
itself None c h = cc
itself (Some v) c h = h

same_copies : {A : Type 0} (n k : ℕ) (z r : A) → slice_get (replicate n z) k ≡ Some r → z ≡ r
same_copies zero k z r h = cc
same_copies (suc n) zero z r h = cc
same_copies (suc n) (suc k) z r h = same_copies n k z r h

are_zeros : (g : Elem) (n : ℕ) → AreOf g (replicate n (zero_elem g))
are_zeros elem.Bool zero = tt
are_zeros elem.Int zero = tt
are_zeros elem.Uint zero = tt
are_zeros elem.Bool (suc n) = (tt, are_zeros elem.Bool n)
are_zeros elem.Int (suc n) = (tt, are_zeros elem.Int n)
are_zeros elem.Uint (suc n) = (tt, are_zeros elem.Uint n)

module _ (p : Program) (calls : Text → List Argument → State → Result (Option Typed × State)) (s : State) where
  abbrev S : Expr → Typed → Type 0
  S = Says p calls s

  zero_says : (g : Elem) → S (literal (literal_of g 0)) (typed (shape_of_elem g) (zero_elem g))
  zero_says elem.Bool = says_literal p calls s (literal_of elem.Bool 0)
  zero_says elem.Int = says_literal p calls s (literal_of elem.Int 0)
  zero_says elem.Uint = says_literal p calls s (literal_of elem.Uint 0)

  -- a component of a vector of this type
  axis_says : (g : Elem) (a : Operand) (m k : ℕ) (vs : List ValueTree) (c : ValueTree) → m ≤ 4 → (h : MeansVector p calls s (operand a) m vs) → h.elem ≡ g → slice_get vs k ≡ Some c → S (axis a.of k) (typed (shape_of_elem g) c)
  axis_says g a m k vs c four h is at =
      let less : k < m = subst (λ q. k < q) h.count (slice_get_within vs k c at) in
      subst (λ e. S (axis a.of k) (typed (shape_of_elem e) c)) is
      (says_member p calls s a.of (axis_name k) (vector h.elem m) (shape_of_elem h.elem) k (composite vs) c h.says (axis_part h.elem m k less four) (ap (λ us. slice_get us k) (listed_values vs) ∙ at))

  -- OpCompositeExtract of a vector
  pub extract_says : (names : Naming) (a : Operand) (g : Elem) (m i : ℕ) (vs : ValueTrees) (c : ValueTree) → m ≤ 4 → (h : MeansVector p calls s (operand a) m (listed vs)) → h.elem ≡ g → a.shape ≡ vector_tree g m → part_extracted (i ∷ []) (many vs) ≡ Some c → S (extracted names a.shape (i ∷ []) a.of) (typed (shape_of_elem g) c)
  extract_says names a g m i vs c four h is shape at =
      subst (λ t. S (extracted names t (i ∷ []) a.of) (typed (shape_of_elem g) c)) (sym shape) (axis_says g a m i (listed vs) c four h is (itself (slice_get (listed vs) i) c at))

  -- OpUndef: a zero, and a vector of zeros
  pub undef_says : (g : Elem) (xs : List Plain) → S (on_basic op.Undef (scalar g) xs) (typed (shape_of_elem g) (zero_elem g))
  undef_says g xs = zero_says g

  pub undef_vector_says : (none : NoneDeclared p) (g : Elem) (n : ℕ) → (n == 1) ≡ false → n ≤ 4 → (xs : List Plain) → S (on_basic op.Undef (vector_type g n) xs) (typed (vector g n) (zero_of (vector_tree g n)))
  undef_vector_says none g n more four xs =
      components_say p none calls s g n more four (λ k. applied op.Undef (scalar g) (map (component k) xs)) (replicate n (zero_elem g)) (length-replicate n (zero_elem g)) (are_zeros g n)
      (λ k r at. subst (λ q. S (literal (literal_of g 0)) (typed (shape_of_elem g) q)) (same_copies n k (zero_elem g) r at) (zero_says g))

  module _ (g : Elem) (n : ℕ) (more : (n == 1) ≡ false) (names : Naming) where
    module _ (a b : Operand) (m k : ℕ) (vs ws : List ValueTree) (m_four : m ≤ 4) (k_four : k ≤ 4) (ha : MeansVector p calls s (operand a) m vs) (hb : MeansVector p calls s (operand b) k ws) (a_is : ha.elem ≡ g) (b_is : hb.elem ≡ g) where
      size_is : vector_size a.shape ≡ m
      size_is = ap (λ (ty : BasicType). count_or_none ty.size) ha.of_type

      picked_says : (i : ℕ) (c : ValueTree) → component_picked (zero_elem g) (vs ++ ws) i ≡ Some c → S (picked g a b i) (typed (shape_of_elem g) c)
      picked_says i c h = by_zero (i == 4294967295) h
        where
          beside : Bool → Expr
          beside t = if t then axis a.of i else axis b.of (i - vector_size a.shape)

          by_side : (t : Bool) → nat_lt i (vector_size a.shape) ≡ t → slice_get (vs ++ ws) i ≡ Some c → S (beside t) (typed (shape_of_elem g) c)
          by_side true is at =
              let less : i < length vs = subst (λ q. i < q) (size_is ∙ sym ha.count) (less_of i (vector_size a.shape) is) in
              axis_says g a m i vs c m_four ha a_is (sym (slice_left vs ws i less) ∙ at)
          by_side false is at =
              let size : vector_size a.shape ≡ length vs = size_is ∙ sym ha.count in
              let le : length vs ≤ i = subst (λ q. q ≤ i) size (not_less i (vector_size a.shape) is) in
              subst (λ q. S (axis b.of (i - q)) (typed (shape_of_elem g) c)) (sym size) (axis_says g b k (i - length vs) ws c k_four hb b_is (sym (slice_right vs ws i le) ∙ at))

          by_zero : (z : Bool) → (if z then Some (zero_elem g) else slice_get (vs ++ ws) i) ≡ Some c → S (if z then literal (literal_of g 0) else beside (nat_lt i (vector_size a.shape))) (typed (shape_of_elem g) c)
          by_zero true is = let same : zero_elem g ≡ c = cc in subst (λ q. S (literal (literal_of g 0)) (typed (shape_of_elem g) q)) same (zero_says g)
          by_zero false at = by_side (nat_lt i (vector_size a.shape)) refl at

      all_picked : (picks : List ℕ) (rs : List ValueTree) → each_one (component_picked (zero_elem g) (vs ++ ws)) picks ≡ Some rs → AllSay p calls s (exprs_in (map (picked g a b) picks)) (map (typed (shape_of_elem g)) rs)
      all_picked [] rs h = let none : [] ≡ rs = cc in subst (λ us. AllSay p calls s (exprs_in []) (map (typed (shape_of_elem g)) us)) none tt
      all_picked (i ∷ picks) rs h =
          let q = before_some (component_picked (zero_elem g) (vs ++ ws) i) (each_one (component_picked (zero_elem g) (vs ++ ws)) picks) rs h in
          subst (λ us. AllSay p calls s (exprs_in (map (picked g a b) (i ∷ picks))) (map (typed (shape_of_elem g)) us)) (sym q.4) (picked_says i q.0 q.2, all_picked picks q.1 q.3)

    -- OpVectorShuffle of two vectors
    pub shuffle_says : (a b : Operand) (m k : ℕ) (vs ws : ValueTrees) (picks : List ℕ) (r : ValueTree) → m ≤ 4 → k ≤ 4 → (ha : MeansVector p calls s (operand a) m (listed vs)) → (hb : MeansVector p calls s (operand b) k (listed ws)) → ha.elem ≡ g → hb.elem ≡ g
        → components_picked (vector_tree g n) picks (many vs) (many ws) ≡ Some r → IsVectorOf g n r → S (shuffled names (vector_tree g n) picks a b) (typed (vector g n) r)
    shuffle_says a b m k vs ws picks r m_four k_four ha hb a_is b_is h is =
        let c = composite_some (each_one (component_picked (zero_elem g) (listed vs ++ listed ws)) picks) r h in
        let whole : IsVectorOf g n (composite c.0) = subst (IsVectorOf g n) (sym c.2) is in
        let fit : AreOf g c.0 = subst (AreOf g) (listed_values c.0) whole.0 in
        let count : length c.0 ≡ n = ap length (sym (listed_values c.0)) ∙ whole.1 in
        subst (λ q. S (shuffled names (vector_tree g n) picks a b) (typed (vector g n) q)) c.2
        (says_build p calls s (type_named (vector_type g n)) (vector g n) (exprs_in (map (picked g a b) picks)) (map (typed (shape_of_elem g)) c.0) (typed (vector g n) (composite c.0)) (type_is p g n)
        (all_picked a b m k (listed vs) (listed ws) m_four k_four ha hb a_is b_is picks c.0 c.1) (built_of g n c.0 fit count more))

    -- OpCompositeConstruct of a vector from scalars and vectors of its components' type
    pub vector_of_parts_says : (xs : List Operand) (ts : List Typed) (vs : List ValueTree) → AllSay p calls s (exprs_in (map (λ (x : Operand). x.of) xs)) ts → AreParts ts vs → AreOf g (flat_map components vs) → length (flat_map components vs) ≡ n
        → S (constructed names (vector_tree g n) xs) (typed (vector g n) (composite (flat_map components vs)))
    vector_of_parts_says xs ts vs say parts fit count =
        says_build p calls s (type_named (vector_type g n)) (vector g n) (exprs_in (map (λ (x : Operand). x.of) xs)) ts (typed (vector g n) (composite (flat_map components vs))) (type_is p g n) say (built_of_parts g n ts vs parts fit count more)
