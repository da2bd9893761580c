-- The part of a part: a member by its name, a component by a letter, an element by an index.
use Rattle.std.proofs.Common.{◌≡◌, ◌<◌, ◌+◌, ◌^◌, ◌++◌, ℕ, zero, suc, Bool, true, false, List, [], ◌∷◌, length, Option, Some, None, refl, sym, ap, ap₂, ◌∙◌, subst, arith}
use Rattle.std.specs.Prelude.{is_some, nat_lt, option_map, option_and_then, slice_get, if◌then◌else◌}
use Rattle.std.proofs.lemmas.Option.{same_Some}
use Rattle.spv_module.specs.declared.inst.Inst.{Inst}
use Rattle.spv_module.specs.declared.tree.Elem.{Elem}
use Rattle.spv_module.specs.declared.tree.Elem.TheVariants as elem
use Rattle.spv_module.specs.declared.tree.Length.TheVariants.{Fixed, Spec}
use Rattle.spv_types.specs.Tree as plain
use Rattle.spv_types.specs.Tree.{Tree, Trees, no_trees, tree, ValueTree, word, truth, many}
use Rattle.spv_types.specs.Types.{type_tree}
use Rattle.spv_types.specs.Leaves.{IsSized, AreSized}
use Rattle.op_semantics.specs.Component.{listed}
use Rattle.op_semantics.specs.Composite.{part_at, extracted}
use Rattle.op_semantics.specs.Fits.{elem_tree, fits}
use Rattle.module_semantics.specs.Setting.{Setting}
use Rattle.module_semantics.specs.Memory.{part_type, type_along, variable_type, location}
use Rattle.module_semantics.specs.State.{Root, Conf}
use Rattle.module_semantics.specs.Accesses.{kept}
use Rattle.glsl_ast.specs.Tree.{Text}
use Rattle.glsl_semantics.specs.Shapes as shapes
use Rattle.glsl_semantics.specs.Shapes.{Shape, Fields, Typed, typed, tree_of, trees_of, member_from, scalar}
use Rattle.glsl_semantics.specs.Places.{Site, part_tree, nth_tree, part_site, site_along, location_of}
use Rattle.glsl_semantics.specs.States as states
use Rattle.glsl_semantics.specs.States.{Thing, value, variable, instance, memory, part_at_index, part_of_option, shape_of_thing, named_part, member_of, index_word, element_at, element_of}
use Rattle.list_law.proofs.Numbers.{none_below, less_is}
use Rattle.region_law.proofs.Flags.{own_text}
use Rattle.fits_law.specs.Takes.{nth_of}
use Rattle.fits_law.specs.State.{element_shape, place_shape}
use Rattle.type_law.proofs.Places.{part_leads}
use Rattle.fits_law.proofs.Parts.{many_of, each_at, MembersFit, members_of, extracted_none}
use Rattle.global_law.specs.Parts.{StructNames, AreMembersApart, length_in, shape_in, fields_in, HasLength, IsShape, AreFields, IsBelow, IsInside, HasScalars, part_value, IsPart}
use Rattle.global_law.specs.Laid.{HasLengths, HaveLengths}

-- there is a part below the number of parts
pub there_below : {A : Type 0} (xs : List A) (i : ℕ) → i < length xs → (x : A) × (slice_get xs i ≡ Some x)
there_below [] i less = absurd (none_below i less)
there_below (x ∷ xs) zero less = (x, refl)
there_below (x ∷ xs) (suc i) less = there_below xs i (omega (arith, less))

member_there : (ts : Trees) (vs : List ValueTree) (i : ℕ) (u : Tree) → MembersFit ts vs → nth_of ts i ≡ Some u → (p : ValueTree) × (slice_get vs i ≡ Some p) × (fits u p ≡ true)
member_there no_trees [] i u each at = cc
member_there no_trees (w ∷ vs) i u each at = absurd each
member_there (tree t ts) [] i u each at = absurd each
member_there (tree t ts) (w ∷ vs) zero u each at = let shape : t ≡ u = cc in (w, refl, subst (λ x. fits x w ≡ true) shape each.0)
member_there (tree t ts) (w ∷ vs) (suc i) u each at = member_there ts vs i u each.1 at

-- the type of a part
abbrev pub field_shape : Fields → ℕ → Shape
field_shape shapes.no_fields i = shapes.uint
field_shape (shapes.field w q fs) zero = q
field_shape (shapes.field w q fs) (suc i) = field_shape fs i

abbrev pub part_shape : Shape → ℕ → Shape
part_shape (shapes.vector e n) i = scalar e
part_shape (shapes.array q n) i = q
part_shape (shapes.runtime q) i = q
part_shape (shapes.struct w fs) i = field_shape fs i
part_shape q i = q

field_of_tree : (fs : Fields) (i : ℕ) → nth_tree (trees_of fs) i ≡ tree_of (field_shape fs i)
field_of_tree shapes.no_fields i = refl
field_of_tree (shapes.field w q fs) zero = refl
field_of_tree (shapes.field w q fs) (suc i) = field_of_tree fs i

part_of_tree : (q : Shape) (i : ℕ) → part_tree (tree_of q) i ≡ tree_of (part_shape q i)
part_of_tree (shapes.vector elem.Bool n) i = refl
part_of_tree (shapes.vector elem.Int n) i = refl
part_of_tree (shapes.vector elem.Uint n) i = refl
part_of_tree (shapes.array q None) i = refl
part_of_tree (shapes.array q (Some n)) i = refl
part_of_tree (shapes.runtime q) i = refl
part_of_tree (shapes.struct w fs) i = field_of_tree fs i
part_of_tree shapes.boolean i = refl
part_of_tree shapes.int i = refl
part_of_tree shapes.uint i = refl

-- what has a size has lengths
mutual
  pub sized_lengths : (t : Tree) → IsSized t → HasLengths t
  sized_lengths plain.boolean h = tt
  sized_lengths plain.int h = tt
  sized_lengths plain.uint h = tt
  sized_lengths (plain.vector e n) h = tt
  sized_lengths (plain.array t (Fixed n)) h = sized_lengths t h
  sized_lengths (plain.array t (Spec id)) h = absurd h
  sized_lengths (plain.runtime t) h = absurd h
  sized_lengths (plain.struct id ts) h = all_sized_lengths ts h

  pub all_sized_lengths : (ts : Trees) → AreSized ts → HaveLengths ts
  all_sized_lengths no_trees h = tt
  all_sized_lengths (tree t ts) h = (sized_lengths t h.0, all_sized_lengths ts h.1)

module _ (s : Setting) (y : StructNames) where
  part_there : (t u : Tree) (v : ValueTree) (i : ℕ) → fits t v ≡ true → element_shape t i ≡ Some u → IsInside s t i → (p : ValueTree) × (part_at v i ≡ Some p) × (fits u p ≡ true)
  part_there (plain.vector e n) u (many vs) i fit part inside =
      let all = many_of (elem_tree e) n vs fit in
      let p = there_below (listed vs) i (subst (λ k. i < k) (sym all.0) inside) in
      (p.0, p.1, subst (λ x. fits x p.0 ≡ true) (same_Some (elem_tree e) u part) (each_at (elem_tree e) (listed vs) i p.0 all.1 p.1))
  part_there (plain.array t (Fixed n)) u (many vs) i fit part inside =
      let all = many_of t n vs fit in
      let p = there_below (listed vs) i (subst (λ k. i < k) (sym all.0) inside) in
      (p.0, p.1, subst (λ x. fits x p.0 ≡ true) (same_Some t u part) (each_at t (listed vs) i p.0 all.1 p.1))
  part_there (plain.struct id ts) u (many vs) i fit part inside = member_there ts (listed vs) i u (members_of ts vs fit) part
  part_there (plain.array t (Spec id)) u v i fit part inside = cc
  part_there (plain.runtime t) u v i fit part inside = cc
  part_there plain.boolean u v i fit part inside = cc
  part_there plain.int u v i fit part inside = cc
  part_there plain.uint u v i fit part inside = cc
  part_there (plain.vector e n) u (word w) i fit part inside = cc
  part_there (plain.vector e n) u (truth b) i fit part inside = cc
  part_there (plain.array t (Fixed n)) u (word w) i fit part inside = cc
  part_there (plain.array t (Fixed n)) u (truth b) i fit part inside = cc
  part_there (plain.struct id ts) u (word w) i fit part inside = cc
  part_there (plain.struct id ts) u (truth b) i fit part inside = cc

  -- the type of a part, in the text
  pub scalar_in : (e : Elem) → shape_in s y (elem_tree e) ≡ scalar e
  scalar_in elem.Bool = refl
  scalar_in elem.Int = refl
  scalar_in elem.Uint = refl

  field_in : (id k : ℕ) (ts : Trees) (i : ℕ) (u : Tree) → nth_of ts i ≡ Some u → field_shape (fields_in s y id k ts) i ≡ shape_in s y u
  field_in id k no_trees i u at = cc
  field_in id k (tree t ts) zero u at = ap (shape_in s y) (same_Some t u at)
  field_in id k (tree t ts) (suc i) u at = field_in id (k + 1) ts i u at

  part_in : (t u : Tree) (i : ℕ) → element_shape t i ≡ Some u → part_shape (shape_in s y t) i ≡ shape_in s y u
  part_in (plain.vector e n) u i part = sym (scalar_in e) ∙ ap (shape_in s y) (same_Some (elem_tree e) u part)
  part_in (plain.array t l) u i part = ap (shape_in s y) (same_Some t u part)
  part_in (plain.runtime t) u i part = ap (shape_in s y) (same_Some t u part)
  part_in (plain.struct id ts) u i part = field_in id 0 ts i u part
  part_in plain.boolean u i part = cc
  part_in plain.int u i part = cc
  part_in plain.uint u i part = cc

  pub part_same : (t u : Tree) (i : ℕ) → element_shape t i ≡ Some u → part_tree (tree_of (shape_in s y t)) i ≡ tree_of (shape_in s y u)
  part_same t u i part = part_of_tree (shape_in s y t) i ∙ ap tree_of (part_in t u i part)

  -- the text may have the type as its shape, and has it so where each array has a length
  own_length : (o : Option ℕ) → HasLength o o
  own_length None = tt
  own_length (Some n) = refl

  mutual
    pub own_shape : (t : Tree) → IsShape s y t (shape_in s y t)
    own_shape plain.boolean = refl
    own_shape plain.int = refl
    own_shape plain.uint = refl
    own_shape (plain.vector e n) = refl
    own_shape (plain.array t l) = (shape_in s y t, length_in s l, refl, own_shape t, own_length (length_in s l))
    own_shape (plain.runtime t) = (shape_in s y t, refl, own_shape t)
    own_shape (plain.struct id ts) = (fields_in s y id 0 ts, refl, own_fields id 0 ts)

    pub own_fields : (id k : ℕ) (ts : Trees) → AreFields s y id k ts (fields_in s y id k ts)
    own_fields id k no_trees = refl
    own_fields id k (tree t ts) = (shape_in s y t, fields_in s y id (k + 1) ts, refl, own_shape t, own_fields id (k + 1) ts)

  mutual
    pub only_shape : (t : Tree) (q : Shape) → HasLengths t → IsShape s y t q → q ≡ shape_in s y t
    only_shape plain.boolean q h is = is
    only_shape plain.int q h is = is
    only_shape plain.uint q h is = is
    only_shape (plain.vector e n) q h is = is
    only_shape (plain.array t (Fixed n)) q h is = is.2 ∙ ap₂ shapes.array (only_shape t is.0 h is.3) is.4
    only_shape (plain.array t (Spec id)) q h is = absurd h
    only_shape (plain.runtime t) q h is = is.1 ∙ ap shapes.runtime (only_shape t is.0 h is.2)
    only_shape (plain.struct id ts) q h is = is.1 ∙ ap (shapes.struct (y.struct_name id)) (only_fields id 0 ts is.0 h is.2)

    pub only_fields : (id k : ℕ) (ts : Trees) (fs : Fields) → HaveLengths ts → AreFields s y id k ts fs → fs ≡ fields_in s y id k ts
    only_fields id k no_trees fs h are = are
    only_fields id k (tree t ts) fs h are = are.2 ∙ ap₂ (shapes.field (y.member_name id k)) (only_shape t are.0 h.0 are.3) (only_fields id (k + 1) ts are.1 h.1 are.4)

  -- so it is with parts
  field_like : (id k : ℕ) (ts : Trees) (fs : Fields) (i : ℕ) (u : Tree) → AreFields s y id k ts fs → nth_of ts i ≡ Some u → IsShape s y u (field_shape fs i)
  field_like id k no_trees fs i u are at = cc
  field_like id k (tree t ts) fs zero u are at = subst (λ l. IsShape s y u (field_shape l 0)) (sym are.2) (subst (λ x. IsShape s y x are.0) (same_Some t u at) are.3)
  field_like id k (tree t ts) fs (suc i) u are at = subst (λ l. IsShape s y u (field_shape l (suc i))) (sym are.2) (field_like id (k + 1) ts are.1 i u are.4 at)

  part_like : (t u : Tree) (q : Shape) (i : ℕ) → IsShape s y t q → element_shape t i ≡ Some u → IsShape s y u (part_shape q i)
  part_like (plain.vector e n) u q i is part = subst (λ x. IsShape s y u (part_shape x i)) (sym is) (subst (λ x. IsShape s y x (scalar e)) (same_Some (elem_tree e) u part) (subst (IsShape s y (elem_tree e)) (scalar_in e) (own_shape (elem_tree e))))
  part_like (plain.array t l) u q i is part = subst (λ x. IsShape s y u (part_shape x i)) (sym is.2) (subst (λ x. IsShape s y x is.0) (same_Some t u part) is.3)
  part_like (plain.runtime t) u q i is part = subst (λ x. IsShape s y u (part_shape x i)) (sym is.1) (subst (λ x. IsShape s y x is.0) (same_Some t u part) is.2)
  part_like (plain.struct id ts) u q i is part = subst (λ x. IsShape s y u (part_shape x i)) (sym is.1) (field_like id 0 ts is.0 i u is.2 part)
  part_like plain.boolean u q i is part = cc
  part_like plain.int u q i is part = cc
  part_like plain.uint u q i is part = cc

  -- along indexes, and along more
  pub types_more : (ty : ℕ) (xs ys : List ℕ) → type_along s ty (xs ++ ys) ≡ type_along s (type_along s ty xs) ys
  types_more ty [] ys = refl
  types_more ty (x ∷ xs) ys = types_more (part_type s ty x) xs ys

  -- ways one behind the other
  join : (xs ys : List ℕ) (i : ℕ) → xs ++ i ∷ ys ≡ (xs ++ i ∷ []) ++ ys
  join [] ys i = refl
  join (x ∷ xs) ys i = ap (λ l. x ∷ l) (join xs ys i)

  pub scalars_inside : (v : Inst) (path : List ℕ) (t u : Tree) (q : Shape) (at : Site) (i : ℕ) → HasScalars s v path t q at → element_shape t i ≡ Some u → HasScalars s v (path ++ i ∷ []) u (part_shape q i) (part_site (tree_of q) i at)
  scalars_inside v path t u q at i has part rest leads =
      ap (λ x. location_of (site_along x rest (part_site (tree_of q) i at))) (sym (part_of_tree q i))
      ∙ has (i ∷ rest) (ap (λ o. is_some (option_and_then (λ x. place_shape x rest) o)) part ∙ leads)
      ∙ ap (location s v) (join path rest i)

  pub extracted_more : (path more : List ℕ) (v : ValueTree) → extracted (path ++ more) v ≡ option_and_then (extracted more) (extracted path v)
  extracted_more [] more v = refl
  extracted_more (i ∷ path) more v = by_part (part_at v i) (λ p. extracted_more path more p)
    where
      by_part : (o : Option ValueTree) → ((p : ValueTree) → extracted (path ++ more) p ≡ option_and_then (extracted more) (extracted path p)) → option_and_then (extracted (path ++ more)) o ≡ option_and_then (extracted more) (option_and_then (extracted path) o)
      by_part None later = refl
      by_part (Some p) later = later p

  pub next_value : (c : Conf) (r : Root) (path : List ℕ) (i : ℕ) → part_value s c r (path ++ i ∷ []) ≡ part_of_option (part_value s c r path) i
  next_value c r path i = by_kept (kept s c r)
    where
      by_part : (o : Option ValueTree) → option_and_then (extracted (i ∷ [])) o ≡ part_of_option o i
      by_part None = refl
      by_part (Some p) = extracted_none (part_at p i)

      by_kept : (o : Option ValueTree) → option_and_then (extracted (path ++ i ∷ [])) o ≡ part_of_option (option_and_then (extracted path) o) i
      by_kept None = refl
      by_kept (Some v) = extracted_more path (i ∷ []) v ∙ by_part (extracted path v)

  module _ (c : Conf) (x : Text) (from : List ℕ) (r : Root) where
    abbrev P : List ℕ → Tree → Thing → Type 0
    P = IsPart s y c x from r

    join_ways : (path way : List ℕ) (i : ℕ) → path ≡ from ++ way → path ++ i ∷ [] ≡ from ++ (way ++ i ∷ [])
    join_ways path way i e = ap (λ l. l ++ i ∷ []) e ∙ behind from
      where
        behind : (xs : List ℕ) → (xs ++ way) ++ i ∷ [] ≡ xs ++ (way ++ i ∷ [])
        behind [] = refl
        behind (j ∷ xs) = ap (λ l. j ∷ l) (behind xs)

    -- the type of a part, in the text
    pub record HasShape (t : Tree) (z : Thing) : Type 0 where
      pub shape : Shape
      pub of_thing : shape_of_thing z ≡ Some shape
      pub is : IsShape s y t shape

    pub shape_is : (path : List ℕ) (t : Tree) (z : Thing) → P path t z → HasShape t z
    shape_is path t (value (typed q k)) is = record { shape = q; of_thing = refl; is = is.1 }
    shape_is path t (variable w way q o) is = record { shape = q; of_thing = refl; is = is.1 }
    shape_is path t (instance place kind members) is = absurd is
    shape_is path t (memory at q) is = record { shape = q; of_thing = refl; is = is.2 }

    -- what stands at an index of a part is the part of it
    pub part_is : (path : List ℕ) (t u : Tree) (i : ℕ) (z : Thing) (is : P path t z) → element_shape t i ≡ Some u → IsInside s t i → (w : Thing) × (part_at_index z i (part_shape (shape_is path t z is).shape i) ≡ Some w) × P (path ++ i ∷ []) u w
    unfolding shape_is
    part_is path t u i (value (typed q k)) is part inside =
        let p = part_there t u k i is.3 part inside in
        (value (typed (part_shape q i) p.0), ap (option_map (λ a. value (typed (part_shape q i) a))) p.1, (is.0, part_like t u q i is.1 part, next_value c r path i ∙ ap (λ o. part_of_option o i) is.2 ∙ p.1, p.2, is.4))
    part_is path t u i (variable w way q o) is part inside =
        (variable w (way ++ i ∷ []) (part_shape q i) (part_of_option o i), refl, (is.0, part_like t u q i is.1 part, ap (λ o. part_of_option o i) is.2 ∙ sym (next_value c r path i), is.3, join_ways path way i is.4))
    part_is path t u i (instance place kind members) is part inside = absurd is
    part_is path t u i (memory at q) is part inside = (
      memory (part_site (tree_of q) i at) (part_shape q i),
      refl,
      (
        is.0,
        is.1,
        part_like t u q i is.2 part,
        ap (type_tree s.of.globals) (types_more (variable_type s is.0) path (i ∷ [])) ∙ part_leads s (type_along s (variable_type s is.0) path) i t u is.3 part,
        scalars_inside is.0 path t u q at i is.4 part,
      ),
    )

    by_name : (path : List ℕ) (t : Tree) (z : Thing) (w : Text) → P path t z → member_of z w ≡ option_and_then (λ (p : ℕ × Shape). part_at_index z p.0 p.1) (named_part (shape_of_thing z) w)
    by_name path t (value v) w is = refl
    by_name path t (variable k way q o) w is = refl
    by_name path t (instance place kind members) w is = absurd is
    by_name path t (memory at q) w is = refl

    -- a part by its name
    pub named_is : (path : List ℕ) (t u : Tree) (i : ℕ) (w : Text) (z : Thing) → P path t z → element_shape t i ≡ Some u → IsInside s t i → ((q : Shape) → IsShape s y t q → named_part (Some q) w ≡ Some (i, part_shape q i)) → (a : Thing) × (member_of z w ≡ Some a) × P (path ++ i ∷ []) u a
    named_is path t u i w z is part inside named =
        let q = shape_is path t z is in
        let a = part_is path t u i z is part inside in
        (a.0, by_name path t z w is ∙ ap (λ o. option_and_then (λ (p : ℕ × Shape). part_at_index z p.0 p.1) (named_part o w)) q.of_thing ∙ ap (option_and_then (λ (p : ℕ × Shape). part_at_index z p.0 p.1)) (named q.shape q.is) ∙ a.1, a.2)

    -- a part by an index
    indexed_shape : (t u : Tree) (i : ℕ) → ((q : Shape) → IsShape s y t q → states.element_shape (Some q) i ≡ Some (part_shape q i)) → (path : List ℕ) (z : Thing) → P path t z → element_shape t i ≡ Some u → IsInside s t i → nat_lt i (2 ^ 31) ≡ true → (v : Typed) → index_word v ≡ Some i → (a : Thing) × (element_of z v ≡ Some a) × P (path ++ i ∷ []) u a
    indexed_shape t u i shape path z is part inside low v at =
        let q = shape_is path t z is in
        let a = part_is path t u i z is part inside in (
          a.0,
          ap (option_and_then (element_at z)) at
              ∙ (ap (λ (b : Bool). if b then option_and_then (part_at_index z i) (states.element_shape (shape_of_thing z) i) else None) low
              ∙ (ap (λ o. option_and_then (part_at_index z i) (states.element_shape o i)) q.of_thing ∙ (ap (option_and_then (part_at_index z i)) (shape q.shape q.is) ∙ a.1))),
          a.2,
        )

    -- which types take an index
    abbrev pub IsIndexed : Tree → Type 0
    IsIndexed (plain.vector e n) = Unit {0}
    IsIndexed (plain.array t l) = Unit {0}
    IsIndexed (plain.runtime t) = Unit {0}
    IsIndexed _ = ⊥

    -- each index that the module allows: so the array has a length
    indexed_in : (t : Tree) (i : ℕ) → IsIndexed t → IsInside s t i → (q : Shape) → IsShape s y t q → states.element_shape (Some q) i ≡ Some (part_shape q i)
    indexed_in (plain.vector e n) i on inside q is = subst (λ x. states.element_shape (Some x) i ≡ Some (part_shape x i)) (sym is) (ap (λ (b : Bool). if b then Some (scalar e) else None) (less_is i n inside))
    indexed_in (plain.array t l) i on inside q is = subst (λ x. states.element_shape (Some x) i ≡ Some (part_shape x i)) (sym is.2) (by_length (length_in s l) inside is.4)
      where
        by_length : (o : Option ℕ) → IsBelow o i → HasLength o is.1 → states.element_shape (Some (shapes.array is.0 is.1)) i ≡ Some is.0
        by_length None inside has = absurd inside
        by_length (Some n) inside has = ap (λ o. states.element_shape (Some (shapes.array is.0 o)) i) has ∙ ap (λ (b : Bool). if b then Some is.0 else None) (less_is i n inside)
    indexed_in (plain.runtime t) i on inside q is = ap (λ x. states.element_shape (Some x) i) is.1 ∙ ap (λ x. Some (part_shape x i)) (sym is.1)
    indexed_in plain.boolean i on inside q is = absurd on
    indexed_in plain.int i on inside q is = absurd on
    indexed_in plain.uint i on inside q is = absurd on
    indexed_in (plain.struct id ts) i on inside q is = absurd on

    pub indexed_is : (path : List ℕ) (t u : Tree) (i : ℕ) (z : Thing) → IsIndexed t → P path t z → element_shape t i ≡ Some u → IsInside s t i → nat_lt i (2 ^ 31) ≡ true → (v : Typed) → index_word v ≡ Some i → (a : Thing) × (element_of z v ≡ Some a) × P (path ++ i ∷ []) u a
    indexed_is path t u i z on is part inside low v at = indexed_shape t u i (indexed_in t i on inside) path z is part inside low v at

  -- a member by its name
  pub field_named : (id : ℕ) (whole : Trees) → AreMembersApart y id whole → (ts : Trees) (fs : Fields) (k i n : ℕ) (u : Tree) → AreFields s y id k ts fs → n ≡ k + i → nth_of whole n ≡ Some u → nth_of ts i ≡ Some u → member_from k fs (y.member_name id n) ≡ Some (n, field_shape fs i)
  field_named id whole apart no_trees fs k i n u are same there at = cc
  field_named id whole apart (tree t ts) fs k zero n u are same there at =
      let here : n ≡ k = omega (arith, same) in
      subst (λ l. member_from k l (y.member_name id n) ≡ Some (n, field_shape l 0)) (sym are.2)
      (subst (λ m. member_from k (shapes.field (y.member_name id k) are.0 are.1) (y.member_name id m) ≡ Some (m, are.0)) (sym here)
      (ap (λ b. elim b [ true ↦ Some (k, are.0) | false ↦ member_from (k + 1) are.1 (y.member_name id k) ]) (own_text (y.member_name id k))))
  field_named id whole apart (tree t ts) fs k (suc i) n u are same there at =
      let less : k < n = omega (arith, same) in
      let next : n ≡ k + 1 + i = omega (arith, same) in
      subst (λ l. member_from k l (y.member_name id n) ≡ Some (n, field_shape l (suc i))) (sym are.2)
      (ap (λ b. elim b [ true ↦ Some (k, are.0) | false ↦ member_from (k + 1) are.1 (y.member_name id n) ]) (apart k n u less there) ∙ field_named id whole apart ts are.1 (k + 1) i n u are.4 next there at)

  pub member_named : (id : ℕ) (whole : Trees) → AreMembersApart y id whole → (ts : Trees) (k i n : ℕ) (u : Tree) → n ≡ k + i → nth_of whole n ≡ Some u → nth_of ts i ≡ Some u → member_from k (fields_in s y id k ts) (y.member_name id n) ≡ Some (n, shape_in s y u)
  member_named id whole apart ts k i n u same there at = field_named id whole apart ts (fields_in s y id k ts) k i n u (own_fields id k ts) same there at ∙ ap (λ q. Some (n, q)) (field_in id k ts i u at)
