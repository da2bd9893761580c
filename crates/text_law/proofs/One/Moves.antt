-- The pairs of an edge determine its moves.
use Rattle.std.proofs.Common.{◌≡◌, ◌≤◌, ℕ, suc, List, [], ◌∷◌, filter, length, reverse, refl, ap, sym, ◌∙◌, subst, inl, inr, arith}
use Rattle.std.specs.Prelude.{◌⊎◌}
use Rattle.std.proofs.lemmas.Bool.Decides.{leb_tells}
use Rattle.std.proofs.lemmas.List.{reverse-reverse}
use Rattle.phi_copies.specs.declared.moves.Move.{Move}
use Rattle.phi_copies.specs.declared.moves.Move.TheVariants.{Save}
use Rattle.phi_copies.specs.Sequence.{Pair, pair_at, is_proper, spare_of, saves, IsLeft, IsReady, IsFirst, move_of, IsCopyNext, IsSaveNext, AreNext, IsSequence}

first_one : (P : ℕ → Type 0) (i j : ℕ) → IsFirst P i → IsFirst P j → i ≡ j
first_one P i j a b =
    let up = a.least j b.holds in
    let down = b.least i a.holds in
    omega (arith, up, down)

module _ (ps : List Pair) where
  -- the move that comes next is one, and there is one only while a pair is left
  next_one : (h : List Move) (m k : Move) → IsCopyNext ps h m ⊎ IsSaveNext ps h m → IsCopyNext ps h k ⊎ IsSaveNext ps h k → m ≡ k
  next_one h m k (inl a) (inl b) = a.move ∙ (ap (λ i. move_of (pair_at ps i) (spare_of h)) (first_one (IsReady ps h) a.at b.at a.first b.first) ∙ sym b.move)
  next_one h m k (inl a) (inr b) = absurd (b.stuck a.at a.first.holds)
  next_one h m k (inr a) (inl b) = absurd (a.stuck b.at b.first.holds)
  next_one h m k (inr a) (inr b) = a.move ∙ (ap (λ i. Save (saves h) (pair_at ps i).0) (first_one (IsLeft ps h) a.at b.at a.first b.first) ∙ sym b.move)

  next_left : (h : List Move) (m : Move) → IsCopyNext ps h m ⊎ IsSaveNext ps h m → (i : ℕ) × IsLeft ps h i
  next_left h m (inl a) = (a.at, a.first.holds.still)
  next_left h m (inr a) = (a.at, a.first.holds)

  same_length : (h k : List Move) → AreNext ps h → AreNext ps k → length h ≡ length k → h ≡ k
  same_length [] [] a b e = refl
  same_length [] (n ∷ k) a b e = absurd (omega (arith, e))
  same_length (m ∷ h) [] a b e = absurd (omega (arith, e))
  same_length (m ∷ h) (n ∷ k) a b e =
      let rest = same_length h k a.1 b.1 (let less : length h ≡ length k = omega (arith, e) in less) in
      let one = next_one h m n a.0 (subst (λ q. IsCopyNext ps q n ⊎ IsSaveNext ps q n) (sym rest) b.0) in
      λ i. one i ∷ rest i

  -- none is longer than one after which no pair is left
  none_longer : (h k : List Move) → AreNext ps h → ((i : ℕ) → IsLeft ps h i → ⊥) → AreNext ps k → length k ≤ length h
  none_longer h [] a whole b = let low : 0 ≤ length h = omega arith in low
  none_longer h (n ∷ k) a whole b = elim (leb_tells (suc (length k)) (length h)) [
    | inl w ↦ w.1
    | inr w ↦
        let most = none_longer h k a whole b.1 in
        let same : k ≡ h = same_length k h b.1 a (let e : length k ≡ length h = omega (arith, w.1, most) in e) in
        let left = next_left k n b.0 in
        absurd (whole left.0 (subst (λ q. IsLeft ps q left.0) same left.1))
  ]

-- two lists of moves for these pairs are one
pub sequence_one : (pairs : List Pair) (a b : List Move) → IsSequence pairs a → IsSequence pairs b → a ≡ b
sequence_one pairs a b v w =
    let ps = filter is_proper pairs in
    let up = none_longer ps (reverse b) (reverse a) w.next w.whole v.next in
    let down = none_longer ps (reverse a) (reverse b) v.next v.whole w.next in
    let same = same_length ps (reverse a) (reverse b) v.next w.next (let e : length (reverse a) ≡ length (reverse b) = omega (arith, up, down) in e) in
    sym (reverse-reverse a) ∙ (ap reverse same ∙ reverse-reverse b)
