-- The types of values have values: none has a runtime array in it, or an array whose length is a specialization constant.
use Rattle.std.proofs.Common.{◌≡◌, ◌<◌, ◌≤◌, ◌+◌, ◌==◌, ◌||◌, ◌&&◌, not, ℕ, Bool, true, false, List, [], ◌∷◌, Option, Some, None, inl, inr, refl, sym, ap, subst, ◌∙◌, if◌then◌else◌, arith}
use Rattle.std.specs.Prelude.{◌⊎◌, fold, nat_le, option_map, slice_index}
use Rattle.std.specs.Option.{option_map_or}
use Rattle.std.specs.List.{list_any}
use Rattle.std.proofs.lemmas.Bool.Decides.{eqb_tells, nat_tests}
use Rattle.std.proofs.lemmas.Bool.{or_left as first_on, not-false, or_right as or_on}
use Rattle.std.proofs.lemmas.Option.{same_Some}
use Rattle.spv_ops.specs.Opcode.{is, number}
use Rattle.spv_ops.specs.declared.Op.{Op}
use Rattle.spv_ops.specs.declared.Op.TheVariants as code
use Rattle.spv_module.specs.State.{ModuleState}
use Rattle.spv_module.specs.Held.{global}
use Rattle.spv_module.specs.declared.inst.Inst.{Inst}
use Rattle.spv_module.specs.declared.tree.Elem.{Elem}
use Rattle.spv_module.specs.declared.tree.Length.TheVariants.{Fixed}
use Rattle.spv_types.specs.Tree.{Tree, boolean, int, uint, vector, array, struct, Trees, no_trees, tree}
use Rattle.spv_types.specs.Types.{kind, is_shapeless, elem_of, sized_vector, vector_tree, length_of, length_by, array_tree, both, all_trees, tree_by_kind, tree_before, tree_at, earlier}
use Rattle.spv_types.specs.Leaves.{IsSized, AreSized}
use Rattle.spv_types.proofs.Below.{tree_before_is}
use Rattle.spv_index.specs.BlockStructs.{is_block}
use Rattle.spv_index.specs.ValueTypes.{is_other_length, other_by, other_step, with_other, is_no_value_type}
use Rattle.profile_rules.specs.Places.{is_among}
use Rattle.list_law.proofs.Tests.{or_left, or_right, and_off}
use Rattle.plan_law.specs.InOrder.{IsAmong, AreRising}
use Rattle.fits_law.proofs.Steps.{named}
use Rattle.typed_law.specs.Conforms.{IsConforming}
use Rattle.typed_law.proofs.Lists.{found_in, earlier_some}
use Rattle.typed_law.proofs.Opcodes.{of_number}

-- what stands behind
pub rising_low : (n : ℕ) (is : List Inst) (i : Inst) → AreRising n is → IsAmong i is → n ≤ i.at
rising_low n [] i rise there = absurd there
rising_low n (j ∷ is) i rise (inl same) = subst (λ (x : Inst). n ≤ x.at) same rise.0
rising_low n (j ∷ is) i rise (inr there) = let first = rise.0 in let later = rising_low (j.at + 1) is i rise.1 there in omega (arith, first, later)

constant_fixed : (o : Op) (id w : ℕ) → is o code.Constant ≡ true → length_of o id w ≡ Some (Fixed w)
unfolding number
constant_fixed o id w = of_number code.Constant (λ (p : Op). length_of p id w ≡ Some (Fixed w)) refl o

-- the shape of a type has values where its parts' shapes have, and the length of an array is an OpConstant
module _ (gs : List Inst) (before : ℕ → Option Tree) (g : Inst) (fine : ℕ → Type 0) (sized : (p : ℕ) (u : Tree) → before p ≡ Some u → fine p → IsSized u) where
  array_sized : (t : Tree) → fine (slice_index g.args 0) → ((c : Inst) → global gs (slice_index g.args 1) ≡ Some c → is c.op code.Constant ≡ true) → array_tree (before (slice_index g.args 0)) (length_by (slice_index g.args 1) (global gs (slice_index g.args 1))) ≡ Some t → IsSized t
  array_sized t part fixed e = by_part (before (slice_index g.args 0)) refl (global gs (slice_index g.args 1)) refl e
    where
      by_part : (o : Option Tree) → before (slice_index g.args 0) ≡ o → (c : Option Inst) → global gs (slice_index g.args 1) ≡ c → array_tree o (length_by (slice_index g.args 1) c) ≡ Some t → IsSized t
      by_part None is c at e = cc
      by_part (Some u) is None at e = cc
      by_part (Some u) is (Some c) at e =
          subst IsSized (same_Some (array u (Fixed (slice_index c.args 0))) t (ap (array_tree (Some u)) (sym (constant_fixed c.op (slice_index g.args 1) (slice_index c.args 0) (fixed c at))) ∙ e)) (sized (slice_index g.args 0) u is part)

  all_sized : (ids : List ℕ) (ts : Trees) → ((p : ℕ) → is_among ids p ≡ true → fine p) → all_trees before ids ≡ Some ts → AreSized ts
  all_sized [] ts parts e = subst AreSized (same_Some no_trees ts e) tt
  all_sized (id ∷ ids) ts parts e = by_first (before id) refl (all_trees before ids) refl (λ us at. all_sized ids us (λ p there. parts p (or_on (id == p) (list_any (λ other. other == p) ids) there)) at) e
    where
      same_on : (id == id) ≡ true
      same_on = grind (arith, nat_tests)

      by_first : (o : Option Tree) → before id ≡ o → (q : Option Trees) → all_trees before ids ≡ q → ((us : Trees) → all_trees before ids ≡ Some us → AreSized us) → both o q ≡ Some ts → AreSized ts
      by_first None is q at later e = cc
      by_first (Some u) is None at later e = cc
      by_first (Some u) is (Some us) at later e = subst AreSized (same_Some (tree u us) ts e) (sized id u is (parts id (first_on (id == id) (list_any (λ other. other == id) ids) same_on)), later us at)

  -- by the opcode that declares it
  pub sized_by : (o : Op) (t : Tree) → (is o code.TypeRuntimeArray ≡ false) → (is o code.TypeArray ≡ true → fine (slice_index g.args 0) × ((c : Inst) → global gs (slice_index g.args 1) ≡ Some c → is c.op code.Constant ≡ true))
      → (is o code.TypeStruct ≡ true → (p : ℕ) → is_among g.args p ≡ true → fine p) → tree_by_kind gs before g (kind o) ≡ Some t → IsSized t
  unfolding kind number
  sized_by code.TypeBool t not_runtime arrays structs e = subst IsSized (same_Some boolean t e) tt
  sized_by code.TypeInt t not_runtime arrays structs e = by_width (slice_index g.args 0 == 32) (slice_index g.args 1 == 0) (slice_index g.args 1 == 1) e
    where
      by_width : (a b c : Bool) → (if a then (if b then Some uint else (if c then Some int else None)) else None) ≡ Some t → IsSized t
      by_width true true c e = subst IsSized (same_Some uint t e) tt
      by_width true false true e = subst IsSized (same_Some int t e) tt
      by_width true false false e = cc
      by_width false b c e = cc
  sized_by code.TypeVector t not_runtime arrays structs e = by_part (before (slice_index g.args 0)) e
    where
      by_size : (d : Elem) (b : Bool) → (if b then Some (vector d (slice_index g.args 1)) else None) ≡ Some t → IsSized t
      by_size d true e = subst IsSized (same_Some (vector d (slice_index g.args 1)) t e) tt
      by_size d false e = cc

      by_elem : (o : Option Elem) → option_map_or (sized_vector (slice_index g.args 1)) o None ≡ Some t → IsSized t
      by_elem None e = cc
      by_elem (Some d) e = by_size d (nat_le 2 (slice_index g.args 1) && nat_le (slice_index g.args 1) 4) e

      by_part : (o : Option Tree) → vector_tree o (slice_index g.args 1) ≡ Some t → IsSized t
      by_part None e = cc
      by_part (Some u) e = by_elem (elem_of u) e
  sized_by code.TypeArray t not_runtime arrays structs e = let w = arrays refl in array_sized t w.0 w.1 e
  sized_by code.TypeStruct t not_runtime arrays structs e = by_members (all_trees before g.args) refl e
    where
      by_members : (o : Option Trees) → all_trees before g.args ≡ o → option_map (struct g.result) o ≡ Some t → IsSized t
      by_members None is e = cc
      by_members (Some ts) is e = subst IsSized (same_Some (struct g.result ts) t e) (all_sized g.args ts (structs refl) is)
  sized_by o t not_runtime arrays structs e = cc

-- what stands in the way of a value type
module _ (heads gs : List Inst) (f : ℕ → Bool) (g : Inst) where
  value_shaped : (o : Op) → other_by heads gs f g o ≡ false → is_shapeless o ≡ false
  value_shaped code.TypeVoid e = cc
  value_shaped code.TypePointer e = cc
  value_shaped code.TypeFunction e = cc
  value_shaped o e = refl

  value_not_runtime : (o : Op) → other_by heads gs f g o ≡ false → is o code.TypeRuntimeArray ≡ false
  unfolding number
  value_not_runtime code.TypeRuntimeArray e = cc
  value_not_runtime o e = refl

  value_array : (o : Op) → other_by heads gs f g o ≡ false → is o code.TypeArray ≡ true → (f (slice_index g.args 0) || is_other_length gs (slice_index g.args 1)) ≡ false
  unfolding number
  value_array code.TypeArray e on = e
  value_array o e on = cc

  value_struct : (o : Op) → other_by heads gs f g o ≡ false → is o code.TypeStruct ≡ true → list_any f g.args ≡ false
  unfolding number
  value_struct code.TypeStruct e on = or_right (is_block heads g.result) (list_any f g.args) e
  value_struct o e on = cc

none_among : (f : ℕ → Bool) (ids : List ℕ) (p : ℕ) → list_any f ids ≡ false → is_among ids p ≡ true → f p ≡ false
none_among f [] p e there = cc
none_among f (id ∷ ids) p e there = by_test (id == p) (eqb_tells id p) there (λ later. none_among f ids p (or_right (f id) (list_any f ids) e) later)
  where
    by_test : (b : Bool) → ((b ≡ true) × (id ≡ p)) ⊎ ((b ≡ false) × (id ≡ p → ⊥)) → (b || list_any (λ other. other == p) ids) ≡ true → (is_among ids p ≡ true → f p ≡ false) → f p ≡ false
    by_test b (inl w) there next = subst (λ x. f x ≡ false) w.1 (or_left (f id) (list_any f ids) e)
    by_test true (inr w) there next = cc
    by_test false (inr w) there next = next there

module _ (m : ModuleState) (entry : Option (List ℕ)) (right : IsConforming m entry) where
  abbrev Gs : List Inst
  Gs = m.globals

  abbrev IsValue : Inst → Type 0
  IsValue h = (is_shapeless h.op ≡ false) × ((t : Tree) → tree_at Gs h ≡ Some t → IsSized t)

  -- what is known of the types before word n
  abbrev AreKnown : (ℕ → Bool) → ℕ → Type 0
  AreKnown others n = (id : ℕ) (h : Inst) → global Gs id ≡ Some h → h.at < n → others id ≡ false → IsValue h

  value_by : (g : Inst) (others : ℕ → Bool) → AreKnown others g.at → other_step m.heads Gs others g ≡ false → IsValue g
  value_by g others known off = (
    value_shaped m.heads Gs others g g.op off,
    λ t shape.
        sized_by Gs (tree_before Gs g.at) g (λ p. others p ≡ false) part g.op t (value_not_runtime m.heads Gs others g g.op off)
        (λ on. let parts = value_array m.heads Gs others g g.op off on in (or_left (others (slice_index g.args 0)) (is_other_length Gs (slice_index g.args 1)) parts, λ c at. not-false (is c.op code.Constant) (ap (λ o. option_map_or (λ (x : Inst). not (is x.op code.Constant)) o false) (sym at) ∙ or_right (others (slice_index g.args 0)) (is_other_length Gs (slice_index g.args 1)) parts)))
        (λ on p there. none_among others g.args p (value_struct m.heads Gs others g g.op off on) there)
        shape,
  )
    where
      part : (p : ℕ) (u : Tree) → tree_before Gs g.at p ≡ Some u → others p ≡ false → IsSized u
      part p u e fine = by_earlier (earlier Gs g.at p) refl (sym (tree_before_is Gs g.at p) ∙ e)
        where
          by_earlier : (o : Option Inst) → earlier Gs g.at p ≡ o → option_map_or (tree_at Gs) o None ≡ Some u → IsSized u
          by_earlier None at e = cc
          by_earlier (Some h) at e = let w = earlier_some Gs g.at p h at in (known p h w.0 w.1 fine).1 u e

  -- those that stand behind are judged one by one
  judged : (rest : List Inst) (n : ℕ) (others : ℕ → Bool) → AreRising n rest → ((h : Inst) → IsAmong h Gs → (h.at < n) ⊎ IsAmong h rest) → AreKnown others n
      → (id : ℕ) (h : Inst) → global Gs id ≡ Some h → fold (with_other m.heads Gs) others rest id ≡ false → IsValue h
  judged [] n others rise left known id h e off = elim (left h (found_in Gs id h e)) [ inl less ↦ known id h e less off | inr there ↦ absurd there ]
  judged (g ∷ rest) n others rise left known id h e off = judged rest (g.at + 1) (with_other m.heads Gs others g) rise.1 left_more known_more id h e off
    where
      low : n ≤ g.at
      low = rise.0

      left_more : (k : Inst) → IsAmong k Gs → (k.at < g.at + 1) ⊎ IsAmong k rest
      left_more k k_in = by_left (left k k_in)
        where
          by_left : (k.at < n) ⊎ ((g ≡ k) ⊎ IsAmong k rest) → (k.at < g.at + 1) ⊎ IsAmong k rest
          by_left (inl less) = let first = low in inl (let more : k.at < g.at + 1 = omega (arith, less, first) in more)
          by_left (inr (inl same)) = inl (subst (λ (x : Inst). x.at < g.at + 1) same (let more : g.at < g.at + 1 = omega arith in more))
          by_left (inr (inr later)) = inr later

      before : AreKnown others g.at
      before p k at less off = by_left (left k (found_in Gs p k at))
        where
          by_left : (k.at < n) ⊎ ((g ≡ k) ⊎ IsAmong k rest) → IsValue k
          by_left (inl first) = known p k at first off
          by_left (inr (inl same)) = absurd (let here : g.at < g.at = subst (λ (x : Inst). x.at < g.at) (sym same) less in omega (arith, here))
          by_left (inr (inr later)) = absurd (let far = rising_low (g.at + 1) rest k rise.1 later in omega (arith, far, less))

      known_more : AreKnown (with_other m.heads Gs others g) (g.at + 1)
      known_more p k at less off = by_left (left k (found_in Gs p k at))
        where
          by_left : (k.at < n) ⊎ ((g ≡ k) ⊎ IsAmong k rest) → IsValue k
          by_left (inl first) = known p k at first (or_left (others p) ((g.result == p) && other_step m.heads Gs others g) off)
          by_left (inr (inl same)) =
              let own : g.result ≡ p = ap (λ (x : Inst). x.result) same ∙ named Gs p k at in
              let on : (g.result == p) ≡ true = elim (eqb_tells g.result p) [ inl w ↦ w.0 | inr w ↦ absurd (w.1 own) ] in
              subst IsValue same (value_by g others before (and_off (g.result == p) (other_step m.heads Gs others g) (or_right (others p) ((g.result == p) && other_step m.heads Gs others g) off) on))
          by_left (inr (inr later)) = absurd (let far = rising_low (g.at + 1) rest k rise.1 later in omega (arith, far, less))

  -- a value type has a shape, which has values
  pub value_type_is : (ty : ℕ) (g : Inst) → global Gs ty ≡ Some g → is_no_value_type m.heads Gs ty ≡ false → IsValue g
  value_type_is ty g e off = judged Gs 0 (λ id. false) right.rising (λ h there. inr there) (λ id h at less fine. absurd (omega (arith, less))) ty g e off
