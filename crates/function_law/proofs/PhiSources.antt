-- The phis of a block, as the pairs of a plan need them: they are its first instructions, each takes the one source from the block where an edge begins, and their pairs have targets of their own.
use Rattle.std.proofs.Common.{◌≡◌, ◌≢◌, ◌⊎◌, ◌==◌, ◌+◌, ℕ, suc, Bool, true, false, List, [], ◌∷◌, ◌++◌, filter, flat_map, map, take, cond, Option, Some, None, inl, inr, refl, sym, ap, ◌∙◌, subst, arith, if◌then◌else◌}
use Rattle.std.specs.Prelude.{All, slice_get, take_while}
use Rattle.std.specs.Option.{option_map_or}
use Rattle.std.specs.List.{position_from, prefix_len}
use Rattle.std.proofs.lemmas.Bool.Decides.{eqb_tells}
use Rattle.std.proofs.lemmas.List.Elements.{All-nil, All-cons}
use Rattle.std.proofs.lemmas.List.Kept.{AllPairs-cons}
use Rattle.spv_module.specs.declared.inst.Inst.{Inst}
use Rattle.spv_module.specs.declared.inst.Block.{Block}
use Rattle.spv_module.specs.declared.inst.Function.{Function}
use Rattle.spv_index.specs.Locals.{block_in}
use Rattle.phi_copies.specs.Sequence.{Pair, target, HaveOwnTargets}
use Rattle.hoist_plan.specs.declared.form.Form.{Form}
use Rattle.function_plan.specs.Phis.{is_live_phi, values_in, comes_from, pair_with, given_by, pairs_into}
use Rattle.module_semantics.specs.Steps.{is_phi, phis, source_from}
use Rattle.agree_law.specs.Agree.{Naming}
use Rattle.agree_law.specs.Blocks.{IsOf}
use Rattle.function_law.specs.Edges.{IsGiven, HaveOwnResults, HaveNoPhi, ArePhisFirst, ArePhisOf}
use Rattle.function_law.proofs.EdgePairs.{live_pairs}

-- phis that stand first are all phis
none_left : (is : List Inst) → HaveNoPhi is → filter is_phi is ≡ []
none_left [] none = refl
none_left (i ∷ is) none = ap (λ t. if t then i ∷ filter is_phi is else filter is_phi is) none.0 ∙ none_left is none.1

pub phis_first : (is : List Inst) → ArePhisFirst is → take_while is_phi is ≡ filter is_phi is
phis_first [] first = refl
phis_first (i ∷ is) (inl first) =
    ap (λ t. take (cond t (1 + prefix_len is_phi is) 0) (i ∷ is)) first.0
    ∙ (subst (λ n. take n (i ∷ is) ≡ i ∷ take_while is_phi is) (let next : suc (prefix_len is_phi is) ≡ 1 + prefix_len is_phi is = omega arith in next) refl
    ∙ (ap (λ l. i ∷ l) (phis_first is first.1) ∙ sym (ap (λ t. if t then i ∷ filter is_phi is else filter is_phi is) first.0)))
phis_first (i ∷ is) (inr none) = ap (λ t. take (cond t (1 + prefix_len is_phi is) 0) (i ∷ is)) none.0 ∙ sym (none_left (i ∷ is) none)

-- so each of the first instructions is one
while_phi : (is : List Inst) → ArePhisFirst is → (j : Inst) → IsOf j (filter is_phi is) → is_phi j ≡ true
while_phi [] first j is = absurd is
while_phi (i ∷ is) (inr none) j of = absurd (subst (IsOf j) (none_left (i ∷ is) none) of)
while_phi (i ∷ is) (inl first) j of = elim (subst (IsOf j) (ap (λ t. if t then i ∷ filter is_phi is else filter is_phi is) first.0) of) [
  | inl same ↦ ap is_phi (sym same) ∙ first.0
  | inr later ↦ while_phi is first.1 j later
]

-- the block at a place has the label by which it was found
pub label_found : (bs : List Block) (k c id : ℕ) → position_from (λ (b : Block). b.label.0 == id) k bs ≡ Some c → (n : ℕ) × (b : Block) × (c ≡ k + n) × (slice_get bs n ≡ Some b) × (b.label.0 ≡ id)
label_found [] k c id e = cc
label_found (x ∷ bs) k c id e = by_test (x.label.0 == id) (eqb_tells x.label.0 id) e (label_found bs (k + 1) c id)
  where
    Found : Type 0
    Found = (n : ℕ) × (b : Block) × (c ≡ k + n) × (slice_get (x ∷ bs) n ≡ Some b) × (b.label.0 ≡ id)

    by_test : (t : Bool) → ((t ≡ true) × (x.label.0 ≡ id)) ⊎ ((t ≡ false) × (x.label.0 ≡ id → ⊥)) → cond t (Some k) (position_from (λ (b : Block). b.label.0 == id) (k + 1) bs) ≡ Some c
        → (position_from (λ (b : Block). b.label.0 == id) (k + 1) bs ≡ Some c → (n : ℕ) × (b : Block) × (c ≡ (k + 1) + n) × (slice_get bs n ≡ Some b) × (b.label.0 ≡ id)) → (n : ℕ) × (b : Block) × (c ≡ k + n) × (slice_get (x ∷ bs) n ≡ Some b) × (b.label.0 ≡ id)
    by_test true (inl w) e later = (0, x, (let same : k ≡ c = cc in let at : c ≡ k + 0 = omega (arith, same) in at), refl, w.1)
    by_test true (inr w) e later = cc
    by_test false w e later = let l = later e in (suc l.0, l.1, (let same = l.2 in let at : c ≡ k + suc l.0 = omega (arith, same) in at), l.3, l.4)

module _ (f : Function) (b : ℕ) (from : Block) (there : slice_get f.blocks b ≡ Some from) (place : block_in f from.label.0 ≡ Some b) where
  -- a pair of a phi comes from the block where it has the block's label
  pub comes_is : (n l : ℕ) → comes_from f b (n, l) ≡ (l == from.label.0)
  comes_is n l = by_label (eqb_tells l from.label.0)
    where
      found : Option ℕ → Bool
      found o = option_map_or (λ c. c == b) o false

      on_self : (b == b) ≡ true
      on_self = elim (eqb_tells b b) [ inl w ↦ w.0 | inr w ↦ absurd (w.1 refl) ]

      other : (o : Option ℕ) → block_in f l ≡ o → (l ≡ from.label.0 → ⊥) → found o ≡ false
      other None e ne = refl
      other (Some c) e ne = elim (eqb_tells c b) [
        | inr w ↦ w.0
        | inl w ↦
            let l' = label_found f.blocks 0 c l e in
            let here : l'.0 ≡ b = (let at = l'.2 in let same = w.1 in let one : l'.0 ≡ b = omega (arith, at, same) in one) in
            let both : Some l'.1 ≡ Some from = sym l'.3 ∙ (ap (slice_get f.blocks) here ∙ there) in
            let one : l'.1 ≡ from = cc in
            absurd (ne (sym l'.4 ∙ ap (λ (x : Block). x.label.0) one))
      ]

      by_label : (((l == from.label.0) ≡ true) × (l ≡ from.label.0)) ⊎ (((l == from.label.0) ≡ false) × (l ≡ from.label.0 → ⊥)) → comes_from f b (n, l) ≡ (l == from.label.0)
      by_label (inl w) = ap found (ap (block_in f) w.1 ∙ place) ∙ (on_self ∙ sym w.0)
      by_label (inr w) = other (block_in f l) refl w.1 ∙ sym w.0

  -- so the one pair that does so has what the phi takes
  pub source_is : (args : List ℕ) (source : ℕ × ℕ) (more : List (ℕ × ℕ)) → filter (comes_from f b) (values_in args) ≡ source ∷ more → source_from from.label.0 args ≡ Some source.0
  source_is [] source more e = cc
  source_is (v ∷ []) source more e = cc
  source_is (v ∷ l ∷ rest) source more e = by_test (l == from.label.0) (comes_is v l) (source_is rest source more)
    where
      rest_of : List (ℕ × ℕ)
      rest_of = filter (comes_from f b) (values_in rest)

      by_test : (t : Bool) → comes_from f b (v, l) ≡ t → (filter (comes_from f b) (values_in rest) ≡ source ∷ more → source_from from.label.0 rest ≡ Some source.0) → elim t as (λ t. Option ℕ) [ true ↦ Some v | false ↦ source_from from.label.0 rest ] ≡ Some source.0
      by_test true is later =
          let all : (v, l) ∷ rest_of ≡ source ∷ more = sym (ap (λ t. if t then (v, l) ∷ rest_of else rest_of) is) ∙ e in
          let same : (v, l) ≡ source = cc in
          ap (λ (q : ℕ × ℕ). Some q.0) same
      by_test false is later = later (sym (ap (λ t. if t then (v, l) ∷ rest_of else rest_of) is) ∙ e)

module _ (m : Naming) (gs : List Inst) (form : ℕ → Form) (f : Function) (b : ℕ) (block : Block) (are : ArePhisOf m form f b block) where
  abbrev label : ℕ
  label = are.from.label.0

  pub all_phis : phis block ≡ filter is_phi block.insts
  all_phis = phis_first block.insts are.first

  -- what is asked of each phi
  pub given_each : (i : Inst) → IsOf i (phis block) → IsGiven m form f b are.from.label.0 i
  given_each i is = let one = are.one i is in record {
    phi = while_phi block.insts are.first i (subst (IsOf i) all_phis is);
    outer = are.outer i is;
    source = one.0;
    one = one.1;
    from = source_is f b are.from are.there are.place i.args one.0 [] one.1;
  }

  abbrev Pairs : List Inst → List Pair
  Pairs is = flat_map (given_by gs f b) (filter (is_live_phi form) is)

  -- a phi's pair has the phi's result as its target
  other_targets : (r : ℕ) (is : List Inst) → ((j : Inst) → IsOf j is → (source : ℕ × ℕ) × (filter (comes_from f b) (values_in j.args) ≡ source ∷ [])) → ((j : Inst) → IsOf j is → r ≢ j.result) → All (λ (q : Pair). r ≡ target q → ⊥) (Pairs is)
  other_targets r [] one ne = All-nil (λ (q : Pair). r ≡ target q → ⊥)
  other_targets r (i ∷ is) one ne = by_live (is_live_phi form i) (other_targets r is (λ j of. one j (inr of)) (λ j of. ne j (inr of)))
    where
      by_live : (t : Bool) → All (λ (q : Pair). r ≡ target q → ⊥) (Pairs is) → All (λ (q : Pair). r ≡ target q → ⊥) (flat_map (given_by gs f b) (if t then i ∷ filter (is_live_phi form) is else filter (is_live_phi form) is))
      by_live false later = later
      by_live true later =
          let o = one i (inl refl) in
          subst (λ l. All (λ (q : Pair). r ≡ target q → ⊥) (map (pair_with gs i.result) l ++ Pairs is)) (sym o.1) (All-cons (λ (q : Pair). r ≡ target q → ⊥) (pair_with gs i.result o.0) (Pairs is) (ne i (inl refl)) later)

  own_in : (is : List Inst) → ((j : Inst) → IsOf j is → (source : ℕ × ℕ) × (filter (comes_from f b) (values_in j.args) ≡ source ∷ [])) → HaveOwnResults is → HaveOwnTargets (Pairs is)
  own_in [] one apart = λ i j d lt within. absurd (omega (arith, within))
  own_in (i ∷ is) one apart = by_live (is_live_phi form i) (own_in is (λ j of. one j (inr of)) apart.1)
    where
      by_live : (t : Bool) → HaveOwnTargets (Pairs is) → HaveOwnTargets (flat_map (given_by gs f b) (if t then i ∷ filter (is_live_phi form) is else filter (is_live_phi form) is))
      by_live false later = later
      by_live true later =
          let o = one i (inl refl) in
          subst (λ l. HaveOwnTargets (map (pair_with gs i.result) l ++ Pairs is)) (sym o.1)
          (AllPairs-cons (λ (p : Pair) (q : Pair). target p ≡ target q → ⊥) (pair_with gs i.result o.0) (Pairs is) (other_targets i.result is (λ j of. one j (inr of)) apart.0) later)

  -- so the pairs of an edge have targets of their own
  pub own_targets : HaveOwnTargets (pairs_into gs form f b block)
  own_targets = subst HaveOwnTargets (sym (pairs_first ∙ ap Pairs (sym all_phis))) (own_in (phis block) are.one are.apart)
    where
      pairs_first : pairs_into gs form f b block ≡ Pairs (filter is_phi block.insts)
      pairs_first = live_pairs gs form f b block.insts
