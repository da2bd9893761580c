-- Of a variable an edge's pairs tell what its phis tell: where each phi with a variable has its pair, in their order.
use Rattle.std.proofs.Common.{◌≡◌, ◌⊎◌, ◌==◌, ℕ, suc, Bool, true, false, List, [], ◌∷◌, Option, Some, Contains, inl, inr, refl, sym, ap, ◌∙◌, arith}
use Rattle.std.proofs.lemmas.Bool.Decides.{eqb_tells}
use Rattle.std.proofs.lemmas.List.Elements.{All-nil, All-cons, All-contains, Contains-append_cases}
use Rattle.spv_module.specs.declared.inst.Inst.{Inst}
use Rattle.spv_types.specs.Tree.{ValueTree}
use Rattle.phi_copies.specs.Sequence.{Pair, target}
use Rattle.phi_copies.specs.Meaning.{value as value_by}
use Rattle.module_semantics.specs.State.{Held, value}
use Rattle.module_semantics.specs.Steps.{with_phis}
use Rattle.module_semantics.specs.Operands.{as_value}
use Rattle.agree_law.specs.Agree.{Naming}
use Rattle.edge_law.specs.Copies.{V, ArePairs}

module _ (m : Naming) (constants before : ℕ → V) where
  -- the first pair, and those behind it
  first_or_later : (x y : Pair) (xs : List Pair) → Contains (x ∷ xs) y → (x ≡ y) ⊎ Contains xs y
  first_or_later x y xs here = elim (Contains-append_cases (x ∷ []) xs y here) [
    | inl one ↦ inl (All-contains (λ (q : Pair). x ≡ q) (x ∷ []) y (All-cons (λ (q : Pair). x ≡ q) x [] refl (All-nil (λ (q : Pair). x ≡ q))) one)
    | inr later ↦ inr later
  ]

  abbrev pub Told : List Inst → List ValueTree → List Pair → (ℕ → Option Held) → ℕ → Type 0
  Told is vs ps ids n =
      ((q : Pair) × Contains ps q × (target q ≡ n) × (value_by V constants before q.1 ≡ as_value (with_phis is vs ids n)))
      ⊎ (((q : Pair) → Contains ps q → target q ≡ n → ⊥) × (with_phis is vs ids n ≡ ids n))

  none_in : (n : ℕ) (q : Pair) → Contains [] q → target q ≡ n → ⊥
  none_in n q here e = let lt = here.1 in absurd (omega (arith, lt))

  -- a phi of another variable tells nothing of this one
  skipped : (i : Inst) (is : List Inst) (v : ValueTree) (vs : List ValueTree) (ids : ℕ → Option Held) (n : ℕ) → (n == i.result) ≡ false → with_phis (i ∷ is) (v ∷ vs) ids n ≡ with_phis is vs ids n
  skipped i is v vs ids n off = ap (λ (t : Bool). elim t as (λ t. Option Held) [ true ↦ Some (value v) | false ↦ with_phis is vs ids n ]) off

  pub pairs_tell : (is : List Inst) (vs : List ValueTree) (ps : List Pair) (ids : ℕ → Option Held) → ArePairs m constants before is vs ps → (n : ℕ) → m.is_outer n ≡ true → Told is vs ps ids n
  pairs_tell [] [] [] ids are n outer = inr (none_in n, refl)
  pairs_tell [] [] (q ∷ ps) ids are n outer = absurd are
  pairs_tell [] (v ∷ vs) ps ids are n outer = absurd are
  pairs_tell (i ∷ is) [] ps ids are n outer = absurd are
  pairs_tell (i ∷ is) (v ∷ vs) ps ids (inl are) n outer = by_place (pairs_tell is vs ps ids are.1 n outer)
    where
      off : (n == i.result) ≡ false
      off = elim (eqb_tells n i.result) [ inl w ↦ (let never : true ≡ false = sym outer ∙ (ap m.is_outer w.1 ∙ are.0) in cc) | inr w ↦ w.0 ]

      by_place : Told is vs ps ids n → Told (i ∷ is) (v ∷ vs) ps ids n
      by_place (inl q) = inl (q.0, q.1, q.2, q.3 ∙ ap as_value (sym (skipped i is v vs ids n off)))
      by_place (inr none) = inr (none.0, skipped i is v vs ids n off ∙ none.1)
  pairs_tell (i ∷ is) (v ∷ vs) [] ids (inr are) n outer = absurd are
  pairs_tell (i ∷ is) (v ∷ vs) (q ∷ ps) ids (inr are) n outer = by_place (eqb_tells n i.result) (pairs_tell is vs ps ids are.2 n outer)
    where
      by_place : (((n == i.result) ≡ true) × (n ≡ i.result)) ⊎ (((n == i.result) ≡ false) × (n ≡ i.result → ⊥)) → Told is vs ps ids n → Told (i ∷ is) (v ∷ vs) (q ∷ ps) ids n
      by_place (inl w) rest = inl (q, (0, omega arith, refl), are.0 ∙ sym w.1, are.1 ∙ sym (ap (λ (t : Bool). as_value (elim t as (λ t. Option Held) [ true ↦ Some (value v) | false ↦ with_phis is vs ids n ])) w.0))
      by_place (inr w) (inl r) = inl (r.0, (suc r.1.0, omega (arith, r.1.1), r.1.2), r.2, r.3 ∙ ap as_value (sym (skipped i is v vs ids n w.0)))
      by_place (inr w) (inr none) = inr (
        (λ y here e. elim (first_or_later q y ps here) [ inl same ↦ w.1 (sym e ∙ (ap target (sym same) ∙ are.0)) | inr later ↦ none.0 y later e ]),
        skipped i is v vs ids n w.0 ∙ none.1,
      )
