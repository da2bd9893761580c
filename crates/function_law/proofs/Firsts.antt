-- Of pairs with targets of their own the first of each target are all.
use Rattle.std.proofs.Common.{◌≡◌, ◌⊎◌, ◌==◌, ℕ, zero, suc, Bool, true, false, List, [], ◌∷◌, inl, inr, refl, sym, ap, arith}
use Rattle.std.specs.Prelude.{All, slice_index_or}
use Rattle.std.proofs.lemmas.Bool.Decides.{eqb_tells}
use Rattle.phi_copies.specs.Sequence.{Pair, target, HaveOwnTargets}
use Rattle.function_plan.specs.Once.{with_id, once_by, no_id}
use Rattle.function_plan.specs.Phis.{firsts}

once_same : (seen : ℕ → Bool) (ps : List Pair) → All (λ (q : Pair). seen (target q) ≡ false) ps → HaveOwnTargets ps → once_by target seen ps ≡ ps
once_same seen [] fresh own = refl
once_same seen (p ∷ ps) fresh own =
    by_test (seen (target p)) (fresh zero p (omega arith)) (once_same (with_id (target p) seen) ps later (λ i j d lt within. own (suc i) (suc j) d (omega (arith, lt)) (omega (arith, within))))
  where
    by_test : (t : Bool) → t ≡ false → once_by target (with_id (target p) seen) ps ≡ ps → elim t as (λ t. List Pair) [ true ↦ once_by target seen ps | false ↦ p ∷ once_by target (with_id (target p) seen) ps ] ≡ p ∷ ps
    by_test true e later = cc
    by_test false e later = ap (λ l. p ∷ l) later

    by_seen : (q : Pair) → (target p ≡ target q → ⊥) → seen (target q) ≡ false → (t : Bool) → ((t ≡ true) × (target q ≡ target p)) ⊎ ((t ≡ false) × (target q ≡ target p → ⊥)) → elim t as (λ t. Bool) [ true ↦ true | false ↦ seen (target q) ] ≡ false
    by_seen q other unseen true (inl w) = absurd (other (sym w.1))
    by_seen q other unseen true (inr w) = cc
    by_seen q other unseen false w = unseen

    later : All (λ (q : Pair). with_id (target p) seen (target q) ≡ false) ps
    later k d within =
        let q : Pair = slice_index_or ps k d in
        by_seen q (own zero (suc k) d (omega arith) (omega (arith, within))) (fresh (suc k) d (omega (arith, within))) (target q == target p) (eqb_tells (target q) (target p))

-- so the moves of a plan are those of all pairs of an edge, where no two phis of its block have one result
pub firsts_are : (ps : List Pair) → HaveOwnTargets ps → firsts ps ≡ ps
firsts_are ps own = once_same no_id ps (λ k d within. refl) own
