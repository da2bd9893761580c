-- The moves of a single pair.
use Rattle.std.proofs.Common.{◌≡◌, ◌==◌, ◌<◌, ◌≤◌, ◌&&◌, ◌||◌, ℕ, zero, Bool, true, false, not, List, [], ◌∷◌, filter, length, get_or, refl, sym, ◌∙◌, ap, inl, arith, subst, suc, if◌then◌else◌}
use Rattle.std.proofs.lemmas.Bool.{eq-eqb, and_parts, not-true}
use Rattle.std.proofs.lemmas.Bool.Decides.{nat_tests}
use Rattle.std.proofs.lemmas.List.Sums.{count_by_more_no}
use Rattle.std.proofs.Math.Bool.{and-false, or-true}
use Rattle.phi_copies.specs.declared.moves.Var.{Var}
use Rattle.phi_copies.specs.declared.moves.Src.{Src}
use Rattle.phi_copies.specs.declared.moves.Src.TheVariants.{Var as Variable, Constant}
use Rattle.phi_copies.specs.declared.moves.Move.{Move}
use Rattle.phi_copies.specs.declared.moves.Move.TheVariants.{Set}
use Rattle.phi_copies.specs.Sequence.{Pair, target, is_var, is_proper, is_set, reads, readers, IsLeft, IsReady, IsCopyNext, AreNext, IsSequence, move_of, spare_of}
use Rattle.function_plan.proofs.Moving.{none_left}
use Rattle.function_plan.specs.Moved.{single, both, go_in_order}
use Rattle.function_plan.specs.Phis.{firsts}

true_false : true ≡ false → ⊥
true_false e = cc

-- nobody reads the target of a pair whose sides differ
unread : (t : Var) (s : Src) → is_var t.0 s ≡ false → readers ((t, s) ∷ []) [] t.0 ≡ 0
unread t s apart = count_by_more_no (reads [] t.0) ((t, s) ∷ []) 0 (t, s) (omega arith) (ap (λ (b : Bool). true && (b && true)) apart)

moved : (t : Var) (s : Src) → Set t s ≡ move_of (t, s) (spare_of [])
moved t (Variable x) = refl
moved t (Constant c) = refl

left_none : (t : Var) (s : Src) (i : ℕ) → IsLeft ((t, s) ∷ []) (Set t s ∷ []) i → ⊥
left_none t s zero left = true_false (sym (ap (λ (b : Bool). b || false) (eq-eqb t.0 t.0 refl)) ∙ left.unset)
left_none t s (suc i) left = let below : suc i < 1 = left.below in omega arith

alone : (t : Var) (s : Src) → is_var t.0 s ≡ false → IsSequence ((t, s) ∷ []) (Set t s ∷ [])
alone t s apart = record {
  next = subst (λ (ps : List Pair). AreNext ps (Set t s ∷ [])) (sym kept) (inl copied, tt);
  whole = subst (λ (ps : List Pair). (i : ℕ) → IsLeft ps (Set t s ∷ []) i → ⊥) (sym kept) (left_none t s);
}
  where
    kept : filter is_proper ((t, s) ∷ []) ≡ (t, s) ∷ []
    kept = ap (λ (b : Bool). if not b then (t, s) ∷ [] else []) apart

    ready : IsReady ((t, s) ∷ []) [] 0
    ready = record { still = record { below = omega arith; unset = refl }; unread = unread t s apart }

    copied : IsCopyNext ((t, s) ∷ []) [] (Set t s)
    copied = record { at = 0; first = record { holds = ready; least = λ j other. omega arith }; move = moved t s }

same : (t : Var) (s : Src) → is_var t.0 s ≡ true → IsSequence ((t, s) ∷ []) []
same t s is = record {
  next = tt;
  whole = subst (λ (ps : List Pair). (i : ℕ) → IsLeft ps [] i → ⊥) (sym dropped) none_left.whole;
}
  where
    dropped : filter is_proper ((t, s) ∷ []) ≡ []
    dropped = ap (λ (b : Bool). if not b then (t, s) ∷ [] else []) is

pub single_moves : (p : Pair) (pairs : List Pair) (moves : List Move) → pairs ≡ p ∷ [] → moves ≡ single p → IsSequence (firsts pairs) moves
single_moves p pairs moves are made = subst (λ (ps : List Pair). IsSequence (firsts ps) moves) (sym are) (subst (λ (ms : List Move). IsSequence (p ∷ []) ms) (sym made) (step (is_var (target p) p.1) refl))
  where
    step : (b : Bool) → is_var (target p) p.1 ≡ b → IsSequence (p ∷ []) (if not b then Set p.0 p.1 ∷ [] else [])
    step true e = same p.0 p.1 e
    step false e = alone p.0 p.1 e

pub one_of : (pairs : List Pair) (d : Pair) → 1 ≤ length pairs → length pairs < 2 → pairs ≡ get_or pairs 0 d ∷ []
one_of [] d some few = absurd (omega arith)
one_of (p ∷ []) d some few = refl
one_of (p ∷ q ∷ pairs) d some few = absurd (omega arith)

-- what is known of two pairs that go in order
record InOrder (p q : Pair) : Type 0 where
  first : is_var (target p) p.1 ≡ false
  second : is_var (target q) q.1 ≡ false
  apart : (target q == target p) ≡ false
  unread : is_var (target p) q.1 ≡ false

ordered : (p q : Pair) → go_in_order p q ≡ true → InOrder p q
ordered p q h =
    let one = and_parts (is_proper p) (is_proper q && (not (target q == target p) && not (is_var (target p) q.1))) h in
    let two = and_parts (is_proper q) (not (target q == target p) && not (is_var (target p) q.1)) one.1 in
    let three = and_parts (not (target q == target p)) (not (is_var (target p) q.1)) two.1 in
    record {
      first = not-true (is_var (target p) p.1) one.0;
      second = not-true (is_var (target q) q.1) two.0;
      apart = not-true (target q == target p) three.0;
      unread = not-true (is_var (target p) q.1) three.1;
    }

turned : (a b : ℕ) → (a == b) ≡ false → (b == a) ≡ false
turned a b apart = grind (arith, nat_tests, apart)

own : (n : ℕ) → (n == n) ≡ true
own n = eq-eqb n n refl

module _ (p q : Pair) (in_order : InOrder p q) where
  abbrev ps : List Pair
  ps = p ∷ q ∷ []

  none_reads : (h : List Move) (v : ℕ) → reads h v p ≡ false → reads h v q ≡ false → readers ps h v ≡ 0
  none_reads h v one two = count_by_more_no (reads h v) ps 1 p (omega arith) two ∙ count_by_more_no (reads h v) ps 0 p (omega arith) one

  once_both : firsts ps ≡ ps
  once_both = ap (λ (b : Bool). p ∷ rest (elim b [ true ↦ true | false ↦ false ])) in_order.apart
    where
      rest : Bool → List Pair
      rest true = []
      rest false = q ∷ []

  kept_first : filter is_proper ps ≡ p ∷ filter is_proper (q ∷ [])
  kept_first = ap (λ (b : Bool). if not b then p ∷ filter is_proper (q ∷ []) else filter is_proper (q ∷ [])) in_order.first

  kept_both : filter is_proper ps ≡ ps
  kept_both = kept_first ∙ ap (λ (b : Bool). p ∷ (if not b then q ∷ [] else [])) in_order.second

  first_ready : IsReady ps [] 0
  first_ready = record {
    still = record { below = omega arith; unset = refl };
    unread = none_reads [] (target p) (ap (λ (b : Bool). true && (b && true)) in_order.first) (ap (λ (b : Bool). true && (b && true)) in_order.unread);
  }

  first_copied : IsCopyNext ps [] (Set p.0 p.1)
  first_copied = record { at = 0; first = record { holds = first_ready; least = λ j other. omega arith }; move = moved p.0 p.1 }

  abbrev done : List Move
  done = Set p.0 p.1 ∷ []

  unset_second : is_set done (target q) ≡ false
  unset_second = ap (λ (b : Bool). b || false) (turned (target q) (target p) in_order.apart)

  second_ready : IsReady ps done 1
  second_ready = record {
    still = record { below = omega arith; unset = unset_second };
    unread = none_reads done (target q)
        (ap (λ (b : Bool). not (b || false) && (is_var (target q) p.1 && true)) (own (target p)))
        (ap (λ (b : Bool). not (is_set done (target q)) && (b && true)) in_order.second ∙ and-false (not (is_set done (target q))));
  }

  second_least : (j : ℕ) → IsReady ps done j → 1 ≤ j
  second_least zero other = absurd (true_false (sym (ap (λ (b : Bool). b || false) (own (target p))) ∙ other.still.unset))
  second_least (suc j) other = omega arith

  second_moved : (t : Var) (s : Src) → Set t s ≡ move_of (t, s) (spare_of done)
  second_moved t (Variable x) = refl
  second_moved t (Constant c) = refl

  second_copied : IsCopyNext ps done (Set q.0 q.1)
  second_copied = record { at = 1; first = record { holds = second_ready; least = second_least }; move = second_moved q.0 q.1 }

  all_set : (i : ℕ) → IsLeft ps (Set q.0 q.1 ∷ done) i → ⊥
  all_set zero left = true_false (sym (ap (λ (b : Bool). (target q == target p) || (b || false)) (own (target p)) ∙ or-true (target q == target p)) ∙ left.unset)
  all_set (suc zero) left = true_false (sym (ap (λ (b : Bool). b || is_set done (target q)) (own (target q))) ∙ left.unset)
  all_set (suc (suc i)) left = let below : suc (suc i) < 2 = left.below in omega arith

  both_moves : IsSequence ps (both p q)
  both_moves = record {
    next = subst (λ (l : List Pair). AreNext l (Set q.0 q.1 ∷ done)) (sym kept_both) (inl second_copied, (inl first_copied, tt));
    whole = subst (λ (l : List Pair). (i : ℕ) → IsLeft l (Set q.0 q.1 ∷ done) i → ⊥) (sym kept_both) all_set;
  }

pub two_moves : (p q : Pair) (pairs : List Pair) (moves : List Move) → pairs ≡ p ∷ q ∷ [] → go_in_order p q ≡ true → moves ≡ both p q → IsSequence (firsts pairs) moves
two_moves p q pairs moves are h made =
    let in_order = ordered p q h in
    subst (λ (l : List Pair). IsSequence (firsts l) moves) (sym are)
    (subst (λ (l : List Pair). IsSequence l moves) (sym (once_both p q in_order)) (subst (λ (ms : List Move). IsSequence (p ∷ q ∷ []) ms) (sym made) (both_moves p q in_order)))

pub two_of : (pairs : List Pair) (d e : Pair) → 2 ≤ length pairs → length pairs < 3 → pairs ≡ get_or pairs 0 d ∷ get_or pairs 1 e ∷ []
two_of [] d e some few = absurd (omega arith)
two_of (p ∷ []) d e some few = absurd (omega arith)
two_of (p ∷ q ∷ []) d e some few = refl
two_of (p ∷ q ∷ r ∷ pairs) d e some few = absurd (omega arith)
