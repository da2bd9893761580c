-- One spare for each cycle.
use Rattle.std.proofs.Common.{◌≡◌, ◌<◌, ◌+◌, ◌==◌, ◌⊎◌, ℕ, suc, Bool, true, false, cond, Option, Some, is_some, List, [], ◌∷◌, length, count_by, refl, ap, sym, ◌∙◌, inl, inr, arith, subst, eq-eqb}
use Rattle.std.proofs.lemmas.Bool.{cases_Bool, false≢true, or_cases}
use Rattle.std.proofs.lemmas.Bool.Decides.{eqb_tells}
use Rattle.list_law.proofs.Tests.{not_both}
use Rattle.phi_copies.specs.declared.moves.Move.{Move}
use Rattle.phi_copies.specs.Sequence.{Pair, target, no_pair, pair_at, HaveOwnTargets, is_var, sets, is_set, spare_of, is_save, saves, reads, readers, IsLeft, AreNext, IsCopyNext, IsSaveNext}
use Rattle.phi_copies.specs.Cycles.{Leads, IsOnCycle, is_spared, HasSpare, IsSpared, HasSpares}
use Rattle.phi_copies.proofs.Reading.{as_number, sets_move, after_move, save_move, saves_cons, same_place, some_reader, reads_of}
use Rattle.phi_copies.proofs.Counted.{count_except}
use Rattle.phi_copies.proofs.Walks.{leads_back, leads_last, leads_join}
use Rattle.phi_copies.proofs.Stuck.{stuck_cycle, stuck_left, stuck_unspared}

-- a copy brings no spare
copy_spares : (ps : List Pair) (m : Move) (h : List Move) (v : ℕ) → IsCopyNext ps h m → spare_of (m ∷ h) v ≡ spare_of h v
copy_spares ps m h v c = subst (λ n. spare_of (n ∷ h) v ≡ spare_of h v) (sym c.move) (after_move (pair_at ps c.at) (spare_of h) (spare_of h v) v)

copy_spared : (ps : List Pair) (m : Move) (h : List Move) (i : ℕ) → IsCopyNext ps h m → HasSpare ps (m ∷ h) i → HasSpare ps h i
copy_spared ps m h i c s = record { below = s.below; spared = sym (ap is_some (copy_spares ps m h (target (pair_at ps i)) c)) ∙ s.spared }

-- a save brings one
saved_or : (b : Bool) (k : ℕ) (o : Option ℕ) → b ≡ false → cond b (Some k) o ≡ o
saved_or b k o e = rw e refl

save_spares : (ps : List Pair) (m : Move) (h : List Move) (v : ℕ) (s : IsSaveNext ps h m) → spare_of (m ∷ h) v ≡ cond (target (pair_at ps s.at) == v) (Some (saves h)) (spare_of h v)
save_spares ps m h v s = ap (λ n. spare_of (n ∷ h) v) s.move

save_spared : (ps : List Pair) (m : Move) (h : List Move) (i : ℕ) → HaveOwnTargets ps → (s : IsSaveNext ps h m) → HasSpare ps (m ∷ h) i → (s.at ≡ i) ⊎ HasSpare ps h i
save_spared ps m h i own s has =
    elim (eqb_tells (target (pair_at ps s.at)) (target (pair_at ps i))) [
      | inl e ↦ inl (same_place ps s.at i own s.first.holds.below has.below e.1)
      | inr e ↦
          let same : spare_of (m ∷ h) (target (pair_at ps i)) ≡ spare_of h (target (pair_at ps i)) = save_spares ps m h (target (pair_at ps i)) s ∙ saved_or (target (pair_at ps s.at) == target (pair_at ps i)) (saves h) (spare_of h (target (pair_at ps i))) e.0 in
          inr record { below = has.below; spared = sym (ap is_some same) ∙ has.spared }
    ]

-- spares stay
some_stays : (b : Bool) (k : ℕ) (o : Option ℕ) → is_some o ≡ true → is_some (cond b (Some k) o) ≡ true
some_stays true k o e = refl
some_stays false k o e = e

spare_stays : (ps : List Pair) (m : Move) (h : List Move) (i : ℕ) → AreNext ps (m ∷ h) → HasSpare ps h i → HasSpare ps (m ∷ h) i
spare_stays ps m h i next has =
    let v = target (pair_at ps i) in
    elim next.0 [
      | inl c ↦ record { below = has.below; spared = ap is_some (copy_spares ps m h v c) ∙ has.spared }
      | inr s ↦ record { below = has.below; spared = ap is_some (save_spares ps m h v s) ∙ some_stays (target (pair_at ps s.at) == v) (saves h) (spare_of h v) has.spared }
    ]

-- only pairs on cycles have spares
pub spared_cycle : (ps : List Pair) (h : List Move) → HaveOwnTargets ps → AreNext ps h → (i : ℕ) → HasSpare ps h i → IsOnCycle ps i
spared_cycle ps [] own next i has = absurd (false≢true has.spared)
spared_cycle ps (m ∷ h) own next i has =
    elim next.0 [
      | inl c ↦ spared_cycle ps h own next.1 i (copy_spared ps m h i c has)
      | inr s ↦
          elim (save_spared ps m h i own s has) [
            | inl e ↦ subst (IsOnCycle ps) e (stuck_cycle ps h own s.stuck s.at s.first.holds)
            | inr old ↦ spared_cycle ps h own next.1 i old
          ]
    ]

-- what is saved has no spare yet, nor has what stands behind it
save_new : (ps : List Pair) (m : Move) (h : List Move) (n j : ℕ) → HaveOwnTargets ps → (s : IsSaveNext ps h m) → Leads ps n s.at j → HasSpare ps h j → ⊥
save_new ps m h n j own s leads has =
    let left : IsLeft ps h j = stuck_left ps h own s.stuck s.at s.first.holds n j leads in
    false≢true (sym (stuck_unspared ps h own s.stuck j left) ∙ has.spared)

-- two pairs of one cycle do not both have spares
pub spared_one : (ps : List Pair) (h : List Move) → HaveOwnTargets ps → AreNext ps h → (n i j : ℕ) → HasSpare ps h i → HasSpare ps h j → Leads ps n i j → i ≡ j
spared_one ps [] own next n i j has_i has_j leads = absurd (false≢true has_i.spared)
spared_one ps (m ∷ h) own next n i j has_i has_j leads =
    elim next.0 [
      | inl c ↦ spared_one ps h own next.1 n i j (copy_spared ps m h i c has_i) (copy_spared ps m h j c has_j) leads
      | inr s ↦
          elim (save_spared ps m h i own s has_i) [
            | inl e ↦
                elim (save_spared ps m h j own s has_j) [
                  | inl f ↦ sym e ∙ f
                  | inr old ↦ absurd (save_new ps m h n j own s (subst (λ x. Leads ps n x j) (sym e) leads) old)
                ]
            | inr was ↦
                elim (save_spared ps m h j own s has_j) [
                  | inl f ↦
                      let back = leads_back ps own n i j leads (spared_cycle ps h own next.1 i was) in
                      absurd (save_new ps m h back.0 i own s (subst (λ x. Leads ps back.0 x i) (sym f) back.1) was)
                  | inr old ↦ spared_one ps h own next.1 n i j was old leads
                ]
          ]
    ]

-- there are as many as saves
pub spared_count : (ps : List Pair) (h : List Move) → HaveOwnTargets ps → AreNext ps h → saves h ≡ count_by (is_spared h) ps
spared_count ps [] own next = none ps
  where
    none : (ps : List Pair) → saves [] ≡ count_by (is_spared []) ps
    none [] = refl
    none (p ∷ ps) = none ps
spared_count ps (m ∷ h) own next =
    let later = spared_count ps h own next.1 in
    elim next.0 [
      | inl c ↦
          let none : as_number (is_save m) ≡ 0 = ap as_number (ap is_save c.move ∙ save_move (pair_at ps c.at) (spare_of h)) in
          let same : is_spared (m ∷ h) ≡ is_spared h = λ i p. ap is_some (copy_spares ps m h (target p) c) i in
          omega (arith, none, saves_cons m h, later, ap (λ f. count_by f ps) same)
      | inr s ↦
          let p : Pair = pair_at ps s.at in
          let one : as_number (is_save m) ≡ 1 = ap as_number (ap is_save s.move) in
          let own_now : is_spared (m ∷ h) p ≡ true = ap is_some (save_spares ps m h (target p) s) ∙ ap (λ b. is_some (cond b (Some (saves h)) (spare_of h (target p)))) (eq-eqb (target p) (target p) refl) in
          let more = count_except (is_spared (m ∷ h)) (is_spared h) ps s.at no_pair s.first.holds.below (stuck_unspared ps h own s.stuck s.at s.first.holds)
          (λ i small apart.
          let other : (target p == target (pair_at ps i)) ≡ false = elim (eqb_tells (target p) (target (pair_at ps i))) [
            | inl w ↦ absurd (apart (sym (same_place ps s.at i own s.first.holds.below small w.1)))
            | inr w ↦ w.0
          ] in
          sym (ap is_some (save_spares ps m h (target (pair_at ps i)) s ∙ saved_or (target p == target (pair_at ps i)) (saves h) (spare_of h (target (pair_at ps i))) other))) in
          let last : as_number (is_spared (m ∷ h) p) ≡ 1 = ap as_number own_now in
          omega (arith, one, saves_cons m h, later, more, last)
    ]

-- once a pair of a cycle is copied, one of them has a spare
spared_stays : (ps : List Pair) (m : Move) (h : List Move) (i : ℕ) → AreNext ps (m ∷ h) → IsSpared ps h i → IsSpared ps (m ∷ h) i
spared_stays ps m h i next s = record { at = s.at; steps = s.steps; leads = s.leads; has = spare_stays ps m h s.at next s.has }

pub copied_spared : (ps : List Pair) (h : List Move) → HaveOwnTargets ps → AreNext ps h → (i n j : ℕ) → IsOnCycle ps i → Leads ps n i j → j < length ps → is_set h (target (pair_at ps j)) ≡ true → IsSpared ps h i
copied_spared ps [] own next i n j cycle leads small set = absurd (false≢true set)
copied_spared ps (m ∷ h) own next i n j cycle leads small set =
    let v = target (pair_at ps j) in
    let earlier : (k t : ℕ) → Leads ps t i k → k < length ps → is_set h (target (pair_at ps k)) ≡ true → IsSpared ps (m ∷ h) i =
    λ k t l below was. spared_stays ps m h i next (copied_spared ps h own next.1 i t k cycle l below was) in
    elim (or_cases (sets v m) (is_set h v) set) [
      | inr was ↦ earlier j n leads small was
      | inl now ↦
          elim next.0 [
            | inr s ↦ absurd (not_both (sets v m) now (ap (sets v) s.move))
            | inl c ↦
                elim (eqb_tells (target (pair_at ps c.at)) v) [
                  | inr w ↦ absurd (false≢true (sym w.0 ∙ (sym (sets_move (pair_at ps c.at) (spare_of h) v) ∙ (ap (sets v) (sym c.move) ∙ now))))
                  | inl w ↦
                      let ready : readers ps h v ≡ 0 = ap (readers ps h) (sym w.1) ∙ c.first.holds.unread in
                      -- the pair before this one on the cycle
                      let round : Leads ps (suc (cycle.steps + n)) i j = leads_join ps own (suc cycle.steps) n i i j cycle.back leads (suc (cycle.steps + n)) (omega arith) in
                      let last = leads_last ps own (cycle.steps + n) i j round in
                      elim (cases_Bool (is_spared h (pair_at ps j))) [
                        | inl has ↦ spared_stays ps m h i next record { at = j; steps = n; leads = leads; has = record { below = small; spared = has } }
                        | inr bare ↦
                            elim (cases_Bool (is_set h (target (pair_at ps last.0)))) [
                              | inl was ↦ earlier last.0 (cycle.steps + n) last.1.0 last.1.1.from was
                              | inr unset ↦
                                  let reading : reads h v (pair_at ps last.0) ≡ true = reads_of (is_set h (target (pair_at ps last.0))) (is_var v (pair_at ps last.0).1) (is_some (spare_of h v)) unset last.1.1.source bare in
                                  let some = some_reader ps h v last.0 last.1.1.from reading in
                                  absurd (omega (arith, some, ready))
                            ]
                      ]
                ]
          ]
    ]

-- so each cycle has one once no pair is left
pub cycle_spared : (ps : List Pair) (h : List Move) → HaveOwnTargets ps → AreNext ps h → ((i : ℕ) → IsLeft ps h i → ⊥) → (i : ℕ) → IsOnCycle ps i → IsSpared ps h i
cycle_spared ps h own next whole i cycle =
    elim (cases_Bool (is_set h (target (pair_at ps i)))) [
      | inl set ↦ copied_spared ps h own next i 0 i cycle refl cycle.back.1.0.from set
      | inr unset ↦ absurd (whole i record { below = cycle.back.1.0.from; unset = unset })
    ]

pub spares_of : (ps : List Pair) (h : List Move) → HaveOwnTargets ps → AreNext ps h → ((i : ℕ) → IsLeft ps h i → ⊥) → HasSpares ps h
spares_of ps h own next whole = record {
  cycle = spared_cycle ps h own next;
  each = cycle_spared ps h own next whole;
  one = spared_one ps h own next;
  count = spared_count ps h own next;
}
