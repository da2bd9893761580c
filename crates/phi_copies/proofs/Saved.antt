-- What is kept once a target is saved.
use Rattle.std.proofs.Common.{◌≡◌, ◌≢◌, ◌<◌, ◌≤◌, ◌+◌, ◌==◌, ℕ, Bool, true, false, cond, Option, Some, List, ◌∷◌, length, set, get_or, refl, ap, sym, ◌∙◌, inl, inr, arith, length-set, get_or-set_same, get_or-set_other}
use Rattle.std.specs.Ordering.{nat_cmp, is_eq}
use Rattle.std.proofs.lemmas.Bool.Decides.{nat_tests, eqb_tells}
use Rattle.phi_copies.specs.declared.moves.Move.{Move}
use Rattle.phi_copies.specs.declared.moves.Move.TheVariants.{Save}
use Rattle.phi_copies.specs.Sequence.{Pair, target, pair_at, HaveOwnTargets, is_set, spare_of, readers, IsReady}
use Rattle.phi_copies.specs.Kept.{IsState}
use Rattle.phi_copies.proofs.Reading.{saves_cons, same_place}
use Rattle.phi_copies.proofs.Counted.{save_readers, save_others}

-- what the order says of equal and of other numbers
pub cmp_same : (a b : ℕ) → a ≡ b → is_eq (nat_cmp a b) ≡ true
cmp_same a b e = grind (arith, nat_tests, e)

pub cmp_other : (a b : ℕ) → a ≢ b → is_eq (nat_cmp a b) ≡ false
cmp_other a b e = grind (arith, nat_tests, e)

abbrev pub chosen : {X : Type 0} → Bool → X → X → X
chosen b x y = cond b x y

pub cond_true : {X : Type 0} (b : Bool) (x y : X) → b ≡ true → cond b x y ≡ x
cond_true true x y e = refl
cond_true false x y e = cc

pub cond_false : {X : Type 0} (b : Bool) (x y : X) → b ≡ false → cond b x y ≡ y
cond_false true x y e = cc
cond_false false x y e = refl

pub state_save : (ps : List Pair) (h : List Move) (counts : List ℕ) (left ready : ℕ → Bool) (spares : ℕ → Option ℕ) (n i : ℕ) (is : ℕ → Bool) (stand : ℕ → Option ℕ)
    → HaveOwnTargets ps → IsState ps h counts left ready spares n
    → ((j : ℕ) → ready j ≡ true → ⊥) → left i ≡ true → ((j : ℕ) → left j ≡ true → i ≤ j)
    → ((j : ℕ) → is j ≡ cond (is_eq (nat_cmp i j)) true (ready j))
    → ((v : ℕ) → stand v ≡ cond (is_eq (nat_cmp (target (pair_at ps i)) v)) (Some n) (spares v))
    → IsState ps (Save n (pair_at ps i).0 ∷ h) (set counts i 0) left is stand (n + 1)
state_save ps h counts left ready spares n i is stand own state stuck here least added saved =
    let p = pair_at ps i in
    let m : Move = Save n p.0 in
    let still = state.left_sound i here in
    let inside : i < length counts = omega (arith, still.below, state.size) in
    let apart : (j : ℕ) → j < length ps → i ≢ j → (target p == target (pair_at ps j)) ≡ false = λ j small other.
    elim (eqb_tells (target p) (target (pair_at ps j))) [
      | inl w ↦ absurd (other (same_place ps i j own still.below small w.1))
      | inr w ↦ w.0
    ] in
    record {
      next = (inr record { at = i; first = record { holds = still; least = λ j l. least j (state.left_complete j l) }; stuck = λ j r. stuck j (state.ready_complete j r); move = ap (λ k. Save k p.0) state.number }, state.next);
      size = length-set counts i 0 ∙ state.size;
      counts_are = λ j small.
          elim (eqb_tells i j) [
            | inl w ↦
                let now : get_or (set counts i 0) j 0 ≡ 0 = ap (λ k. get_or (set counts i 0) k 0) (sym w.1) ∙ get_or-set_same counts i 0 0 inside in
                let none : readers ps (m ∷ h) (target (pair_at ps j)) ≡ 0 = ap (λ k. readers ps (m ∷ h) (target (pair_at ps k))) (sym w.1) ∙ save_readers ps h n p.0 in
                now ∙ sym none
            | inr w ↦
                get_or-set_other counts i j 0 0 (λ e. w.1 (sym e)) ∙ (state.counts_are j small ∙ sym (save_others ps h n (target (pair_at ps j)) p.0 (apart j small w.1)))
          ];
      left_sound = λ j l. let known = state.left_sound j l in record { below = known.below; unset = known.unset };
      left_complete = λ j l. state.left_complete j record { below = l.below; unset = l.unset };
      ready_sound = λ j r.
          elim (eqb_tells i j) [
            | inl w ↦
                let none : readers ps (m ∷ h) (target (pair_at ps j)) ≡ 0 = ap (λ k. readers ps (m ∷ h) (target (pair_at ps k))) (sym w.1) ∙ save_readers ps h n p.0 in
                let unset : is_set h (target (pair_at ps j)) ≡ false = ap (λ k. is_set h (target (pair_at ps k))) (sym w.1) ∙ still.unset in
                record { still = record { below = omega (arith, w.1, still.below); unset = unset }; unread = none }
            | inr w ↦ absurd (stuck j (sym (cond_false (is_eq (nat_cmp i j)) true (ready j) (cmp_other i j w.1)) ∙ (sym (added j) ∙ r)))
          ];
      ready_complete = λ j r.
          elim (eqb_tells i j) [
            | inl w ↦ added j ∙ cond_true (is_eq (nat_cmp i j)) true (ready j) (cmp_same i j w.1)
            | inr w ↦
                let was : IsReady ps h j = record { still = record { below = r.still.below; unset = r.still.unset }; unread = sym (save_others ps h n (target (pair_at ps j)) p.0 (apart j r.still.below w.1)) ∙ r.unread } in
                absurd (stuck j (state.ready_complete j was))
          ];
      spares_are = λ v.
          elim (eqb_tells (target p) v) [
            | inl w ↦
                let now : stand v ≡ Some n = saved v ∙ cond_true (is_eq (nat_cmp (target p) v)) (Some n) (spares v) (cmp_same (target p) v w.1) in
                now ∙ sym (cond_true (target p == v) (Some n) (spare_of h v) w.0)
            | inr w ↦
                let now : stand v ≡ spares v = saved v ∙ cond_false (is_eq (nat_cmp (target p) v)) (Some n) (spares v) (cmp_other (target p) v w.1) in
                now ∙ (state.spares_are v ∙ sym (cond_false (target p == v) (Some n) (spare_of h v) w.0))
          ];
      number = omega (arith, state.number, saves_cons m h);
    }
