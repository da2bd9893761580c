-- What is known before the first move.
use Rattle.std.proofs.Common.{◌≡◌, ◌<◌, ◌≤◌, ◌+◌, ℕ, Bool, true, cond, Option, None, Some, List, [], ◌∷◌, ◌++◌, length, take, reverse, get_or, refl, ap, sym, ◌∙◌, inl, inr, arith, count_by}
use Rattle.std.specs.Option.{is_some, IfSome}
use Rattle.std.specs.Ordering.{nat_cmp, is_eq}
use Rattle.std.specs.List.{list_any}
use Rattle.std.proofs.lemmas.List.{take_all, reverse-append, length-take-le}
use Rattle.std.proofs.lemmas.List.Sums.{sum_by_more, count_by-le-length}
use Rattle.std.proofs.lemmas.Bool.Decides.{eqb_tells}
use Rattle.std.proofs.lemmas.Option.{same_Some}
use Rattle.list_law.proofs.Tests.{not_both}
use Rattle.phi_copies.specs.declared.moves.Src.{Src}
use Rattle.phi_copies.specs.declared.moves.Src.TheVariants.{Var as Variable, Constant}
use Rattle.phi_copies.specs.declared.moves.Move.{Move}
use Rattle.phi_copies.specs.Sequence.{Pair, target, no_pair, pair_at, HaveOwnTargets, reads, readers}
use Rattle.phi_copies.specs.Kept.{ArePlaces, unless_saved, source_place, AreCounts, AreBelow, AreReady, is_place, IsAdded, IsState}
use Rattle.phi_copies.proofs.Reading.{as_number}
use Rattle.phi_copies.proofs.Saved.{cmp_same, cmp_other, cond_true, cond_false}
use Rattle.phi_copies.proofs.Copied.{reads_source, enough_readers}

-- one more place
pub places_more : (ps : List Pair) (i : ℕ) (before after : ℕ → Option ℕ) → ArePlaces ps i before
    → ((v : ℕ) → after v ≡ cond (is_eq (nat_cmp (target (pair_at ps i)) v)) (Some i) (before v)) → ArePlaces ps (i + 1) after
places_more ps i before after are added = record {
  sound = λ v k e.
      elim (eqb_tells (target (pair_at ps i)) v) [
        | inl w ↦
            let now : after v ≡ Some i = added v ∙ cond_true (is_eq (nat_cmp (target (pair_at ps i)) v)) (Some i) (before v) (cmp_same (target (pair_at ps i)) v w.1) in
            let same : i ≡ k = same_Some i k (sym now ∙ e) in
            (omega (arith, same), ap (λ j. target (pair_at ps j)) (sym same) ∙ w.1)
        | inr w ↦
            let now : after v ≡ before v = added v ∙ cond_false (is_eq (nat_cmp (target (pair_at ps i)) v)) (Some i) (before v) (cmp_other (target (pair_at ps i)) v w.1) in
            let known = are.sound v k (sym now ∙ e) in
            (omega (arith, known.0), known.1)
      ];
  complete = λ k small.
      elim (eqb_tells (target (pair_at ps i)) (target (pair_at ps k))) [
        | inl w ↦ ap is_some (added (target (pair_at ps k)) ∙ cond_true (is_eq (nat_cmp (target (pair_at ps i)) (target (pair_at ps k)))) (Some i) (before (target (pair_at ps k))) (cmp_same (target (pair_at ps i)) (target (pair_at ps k)) w.1))
        | inr w ↦
            let now : after (target (pair_at ps k)) ≡ before (target (pair_at ps k)) = added (target (pair_at ps k)) ∙ cond_false (is_eq (nat_cmp (target (pair_at ps i)) (target (pair_at ps k)))) (Some i) (before (target (pair_at ps k))) (cmp_other (target (pair_at ps i)) (target (pair_at ps k)) w.1) in
            let earlier : k < i =
            elim (eqb_tells k i) [
              | inl z ↦ absurd (w.1 (ap (λ j. target (pair_at ps j)) (sym z.1)))
              | inr z ↦ omega (arith, z.1, small)
            ] in
            ap is_some now ∙ are.complete k earlier
      ];
}

-- no place yet
pub places_none : (ps : List Pair) (places : ℕ → Option ℕ) → ((v : ℕ) → places v ≡ None) → ArePlaces ps 0 places
places_none ps places none = record {
  sound = λ v i e. let no_one : None ≡ Some i = sym (none v) ∙ e in cc;
  complete = λ i small. absurd (omega (arith, small));
}

unless_inside : (n : ℕ) (o e : Option ℕ) → IfSome e (λ k. k < n) → IfSome (unless_saved o e) (λ k. k < n)
unless_inside n None e h = h
unless_inside n (Some k) e h = tt

place_inside : (ps : List Pair) (places : ℕ → Option ℕ) (v : ℕ) (o : Option ℕ) → ArePlaces ps (length ps) places → places v ≡ o → IfSome o (λ k. k < length ps)
place_inside ps places v None are e = tt
place_inside ps places v (Some k) are e = (are.sound v k e).0

-- the place of a source is one of the places
pub source_inside : (ps : List Pair) (places spares : ℕ → Option ℕ) (s : Src) → ArePlaces ps (length ps) places → IfSome (source_place places spares s) (λ k. k < length ps)
source_inside ps places spares (Constant c) are = tt
source_inside ps places spares (Variable x) are = unless_inside (length ps) (spares x.0) (places x.0) (place_inside ps places x.0 (places x.0) are refl)

pub if_some_more : (P Q : ℕ → Type 0) (o : Option ℕ) → ((k : ℕ) → o ≡ Some k → P k → Q k) → IfSome o P → IfSome o Q
if_some_more P Q None more h = tt
if_some_more P Q (Some k) more h = more k refl h

-- no count exceeds the pairs that were looked at
pub few_readers : (ps : List Pair) (i : ℕ) (counts : List ℕ) (j : ℕ) → i ≤ length ps → AreCounts ps i counts → j < length ps → get_or counts j 0 ≤ i
few_readers ps i counts j inside are small = omega (arith, count_by-le-length (reads [] (target (pair_at ps j))) (take i ps), length-take-le i ps inside, are.counts_are j small)

-- one more pair
pub counts_more : (ps : List Pair) (i : ℕ) (counts after : List ℕ) (places spares : ℕ → Option ℕ) → HaveOwnTargets ps → ArePlaces ps (length ps) places → ((v : ℕ) → spares v ≡ None)
    → i < length ps → AreCounts ps i counts → IsAdded (source_place places spares (pair_at ps i).1) counts after → AreCounts ps (i + 1) after
counts_more ps i counts after places spares own are none inside was added = record {
  size = added.size ∙ was.size;
  counts_are = λ j small.
      let more = sum_by_more (λ (p : Pair). as_number (reads [] (target (pair_at ps j)) p)) ps i no_pair inside in
      let one : as_number (is_place j (source_place places spares (pair_at ps i).1)) ≡ as_number (reads [] (target (pair_at ps j)) (pair_at ps i)) =
      ap as_number (reads_source ps [] places spares j (pair_at ps i).1 own are none small) in
      omega (arith, more, one, added.more j, was.counts_are j small);
}

-- no move yet
pub state_start : (ps : List Pair) (counts : List ℕ) (left ready : ℕ → Bool) (spares : ℕ → Option ℕ)
    → AreCounts ps (length ps) counts → AreBelow (length ps) left → AreReady counts (length counts) ready → ((v : ℕ) → spares v ≡ None) → IsState ps [] counts left ready spares 0
state_start ps counts left ready spares are below open_now none =
    let whole : take (length ps) ps ≡ ps = take_all (length ps) ps (omega arith) in
    let counted : (i : ℕ) → i < length ps → get_or counts i 0 ≡ readers ps [] (target (pair_at ps i)) = λ i small. are.counts_are i small ∙ ap (count_by (reads [] (target (pair_at ps i)))) whole in
    record {
      next = tt;
      size = are.size;
      counts_are = counted;
      left_sound = λ i l. record { below = below.sound i l; unset = refl };
      left_complete = λ i l. below.complete i l.below;
      ready_sound = λ i r.
          let known = open_now.sound i r in
          let small : i < length ps = omega (arith, known.0, are.size) in
          record { still = record { below = small; unset = refl }; unread = sym (counted i small) ∙ known.1 };
      ready_complete = λ i r. open_now.complete i (omega (arith, r.still.below, are.size)) (counted i r.still.below ∙ r.unread);
      spares_are = none;
      number = refl;
    }

-- one more move, in the order of the moves
pub reverse_push : (ms : List Move) (m : Move) → reverse (ms ++ m ∷ []) ≡ m ∷ reverse ms
reverse_push ms m = reverse-append ms (m ∷ [])

-- the pair that gives a source its value has a reader
pub enough_source : (ps : List Pair) (h : List Move) (counts : List ℕ) (left ready : ℕ → Bool) (places spares : ℕ → Option ℕ) (n i : ℕ)
    → HaveOwnTargets ps → ArePlaces ps (length ps) places → IsState ps h counts left ready spares n → ready i ≡ true → IfSome (source_place places spares (pair_at ps i).1) (λ j. 0 < get_or counts j 0)
enough_source ps h counts left ready places spares n i own are state here =
    if_some_more (λ j. j < length ps) (λ j. 0 < get_or counts j 0) (source_place places spares (pair_at ps i).1)
    (λ j e small. enough_readers ps h counts left ready places spares n i j own are state here e small)
    (source_inside ps places spares (pair_at ps i).1 are)

-- a set without keys has none
pub none_in : (keys : List ℕ) → length keys ≡ 0 → (j : ℕ) → list_any (λ k. is_eq (nat_cmp j k)) keys ≡ true → ⊥
none_in [] e j h = not_both (list_any (λ k. is_eq (nat_cmp j k)) []) h refl
none_in (k ∷ keys) e j h = absurd (omega (arith, e))
