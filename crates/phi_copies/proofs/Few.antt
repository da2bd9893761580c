-- There are no more pairs than targets, and so no more spares.
use Rattle.std.proofs.Common.{◌≡◌, ◌<◌, ◌≤◌, ◌+◌, ◌^◌, ◌==◌, ℕ, zero, suc, Bool, true, false, List, [], ◌∷◌, length, get_or, count_by, refl, ap, sym, inl, inr, arith, subst}
use Rattle.std.specs.List.{list_any, IsDistinct, AllByRecursion}
use Rattle.std.proofs.lemmas.Bool.{false≢true}
use Rattle.std.proofs.lemmas.Bool.Decides.{eqb_tells}
use Rattle.std.proofs.lemmas.List.Sums.{count_by-le-length, sum_by-cons}
use Rattle.std.proofs.lemmas.Map.Steps.{length-le_from_distinct_below}
use Rattle.phi_copies.specs.declared.moves.Move.{Move}
use Rattle.phi_copies.specs.Sequence.{Pair, target, no_pair, pair_at, HaveOwnTargets, saves, IsLeft, IsReady, AreNext}
use Rattle.phi_copies.specs.Kept.{AreNarrow}
use Rattle.phi_copies.specs.Cycles.{is_spared}
use Rattle.phi_copies.proofs.Reading.{as_number}
use Rattle.phi_copies.proofs.Stuck.{stuck_unspared}
use Rattle.phi_copies.proofs.Spared.{spared_count}

abbrev targets : List Pair → List ℕ
targets [] = []
targets (p ∷ ps) = target p ∷ targets ps

length_targets : (ps : List Pair) → length (targets ps) ≡ length ps
length_targets [] = refl
length_targets (p ∷ ps) = ap suc (length_targets ps)

-- no target comes again
apart : (v : ℕ) (ps : List Pair) → ((i : ℕ) → i < length ps → v ≡ target (pair_at ps i) → ⊥) → AllByRecursion (λ y. (v == y) ≡ false) (targets ps)
apart v [] other = tt
apart v (p ∷ ps) other = (
  elim (eqb_tells v (target p)) [
    | inl e ↦ absurd (other 0 (omega arith) e.1)
    | inr e ↦ e.0
  ],
  apart v ps (λ i small. other (suc i) (omega (arith, small))),
)

distinct : (ps : List Pair) → HaveOwnTargets ps → IsDistinct ◌==◌ (targets ps)
unfolding IsDistinct
distinct [] own = tt
distinct (p ∷ ps) own = (
  apart (target p) ps (λ i small. own 0 (suc i) no_pair (omega arith) (omega (arith, small))),
  distinct ps (λ i j d low high. own (suc i) (suc j) d (omega (arith, low)) (omega (arith, high))),
)

narrow : (ps : List Pair) (q : ℕ) → AreNarrow ps (length ps) → list_any (λ y. q == y) (targets ps) ≡ true → q < 2 ^ 32
narrow [] q fits h = absurd (false≢true h)
narrow (p ∷ ps) q fits h =
    elim (eqb_tells q (target p)) [
      | inl e ↦ subst (λ n. n < 2 ^ 32) (sym e.1) (fits 0 (omega arith))
      | inr e ↦ narrow ps q (λ i small. fits (suc i) (omega (arith, small))) (rw e.0 at h)
    ]

pub few_pairs : (ps : List Pair) → HaveOwnTargets ps → AreNarrow ps (length ps) → length ps ≤ 2 ^ 32
few_pairs ps own fits = omega (arith, length_targets ps, length-le_from_distinct_below (targets ps) (2 ^ 32) (distinct ps own) (λ q h. narrow ps q fits h))

-- where one fails the test, fewer pass than there are
fewer : {X : Type 0} (p : X → Bool) (xs : List X) (i : ℕ) (d : X) → i < length xs → p (get_or xs i d) ≡ false → count_by p xs < length xs
fewer p [] i d inside h = absurd (omega (arith, inside))
fewer p (x ∷ xs) zero d inside h =
    let none : as_number (p x) ≡ 0 = ap as_number h in
    omega (arith, none, count_by-le-length p xs, sum_by-cons (λ y. as_number (p y)) x xs)
fewer p (x ∷ xs) (suc i) d inside h =
    omega (arith, fewer p xs i d (omega (arith, inside)) h, most (p x), sum_by-cons (λ y. as_number (p y)) x xs)
  where
    most : (b : Bool) → as_number b ≤ 1
    most true = omega arith
    most false = omega arith

pub few_saves : (ps : List Pair) (h : List Move) (i : ℕ) → HaveOwnTargets ps → AreNext ps h → ((j : ℕ) → IsReady ps h j → ⊥) → IsLeft ps h i → saves h < length ps
few_saves ps h i own next stuck left = omega (arith, spared_count ps h own next, fewer (is_spared h) ps i no_pair left.below (stuck_unspared ps h own stuck i left))

-- one more target
pub narrow_more : (ps : List Pair) (n : ℕ) → AreNarrow ps n → target (pair_at ps n) < 2 ^ 32 → AreNarrow ps (n + 1)
narrow_more ps n fits own i small =
    elim (eqb_tells n i) [
      | inl e ↦ subst (λ k. target (pair_at ps k) < 2 ^ 32) e.1 own
      | inr e ↦ fits i (omega (arith, small, e.1))
    ]
