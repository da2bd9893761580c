-- Where no pair is ready, each that is left stands on a cycle of pairs that are left and have no spare.
use Rattle.std.proofs.Common.{◌≡◌, ◌<◌, ◌≤◌, ◌+◌, ◌-◌, ◌&&◌, not, ℕ, zero, suc, Bool, true, false, is_some, List, [], ◌∷◌, length, get_or, count_by, refl, ap, inl, inr, arith, subst}
use Rattle.std.proofs.lemmas.Bool.{cases_Bool, false≢true}
use Rattle.std.proofs.lemmas.Bool.Decides.{leb_tells}
use Rattle.std.proofs.lemmas.List.Sums.{sum_by-cons}
use Rattle.phi_copies.specs.declared.moves.Move.{Move}
use Rattle.phi_copies.specs.Sequence.{Pair, target, no_pair, pair_at, HaveOwnTargets, is_var, is_set, spare_of, reads, readers, IsLeft, IsReady}
use Rattle.phi_copies.specs.Cycles.{IsRead, Leads, IsOnCycle, is_spared}
use Rattle.phi_copies.proofs.Reading.{as_number}
use Rattle.phi_copies.proofs.Twice.{twice}
use Rattle.phi_copies.proofs.Walks.{read_one, leads_one, leads_join, leads_split, cycle_behind}

-- where some pass, one does
pub record Passes {X : Type 0} (p : X → Bool) (xs : List X) (d : X) : Type 0 where
  pub at : ℕ
  pub below : at < length xs
  pub passes : p (get_or xs at d) ≡ true

pub one_passes : {X : Type 0} (p : X → Bool) (xs : List X) (d : X) → 0 < count_by p xs → Passes p xs d
one_passes p [] d h = absurd (omega (arith, h))
one_passes p (x ∷ xs) d h =
    elim (cases_Bool (p x)) [
      | inl e ↦ record { at = 0; below = omega arith; passes = e }
      | inr e ↦
          let none : as_number (p x) ≡ 0 = ap as_number e in
          let later = one_passes p xs d (omega (arith, h, none, sum_by-cons (λ y. as_number (p y)) x xs)) in
          record { at = suc later.at; below = omega (arith, later.below); passes = later.passes }
    ]

-- what a pair that reads is like
reads_parts : (a b c : Bool) → (not a && (b && not c)) ≡ true → (a ≡ false) × ((b ≡ true) × (c ≡ false))
reads_parts false true false h = (refl, (refl, refl))
reads_parts true b c h = absurd (false≢true h)
reads_parts false false c h = absurd (false≢true h)
reads_parts false true true h = absurd (false≢true h)

-- a pair that is left reads this one, for which no spare stands
pub record IsReader (ps : List Pair) (h : List Move) (i j : ℕ) : Type 0 where
  pub still : IsLeft ps h i
  pub read : IsRead ps i j
  pub unspared : is_spared h (pair_at ps j) ≡ false

pub some_reads : (ps : List Pair) (h : List Move) (j : ℕ) → j < length ps → 0 < readers ps h (target (pair_at ps j)) → (i : ℕ) × IsReader ps h i j
some_reads ps h j inside some =
    let v = target (pair_at ps j) in
    let found = one_passes (reads h v) ps no_pair some in
    let p : Pair = pair_at ps found.at in
    let parts = reads_parts (is_set h (target p)) (is_var v p.1) (is_some (spare_of h v)) found.passes in (
      found.at,
      record {
        still = record { below = found.below; unset = parts.0 };
        read = record { from = found.below; to = inside; source = parts.1.0 };
        unspared = parts.1.1;
      },
    )

some_or_none : (n : ℕ) → (n ≡ 0 → ⊥) → 0 < n
some_or_none n h = omega (arith, h)

module _ (ps : List Pair) (h : List Move) (own : HaveOwnTargets ps) (stuck : (i : ℕ) → IsReady ps h i → ⊥) where
  pub reader : (j : ℕ) → IsLeft ps h j → (i : ℕ) × IsReader ps h i j
  reader j left = some_reads ps h j left.below (some_or_none (readers ps h (target (pair_at ps j))) (λ e. stuck j record { still = left; unread = e }))

  -- a way over pairs that are left
  abbrev Stays : ℕ → ℕ → ℕ → Type 0
  Stays zero i j = i ≡ j
  Stays (suc n) i j = IsLeft ps h i × ((k : ℕ) × (IsRead ps i k × Stays n k j))

  leads_of : (n i j : ℕ) → Stays n i j → Leads ps n i j
  leads_of zero i j a = a
  leads_of (suc n) i j a = (a.1.0, (a.1.1.0, leads_of n a.1.0 j a.1.1.1))

  -- what stands on such a way is left
  stays_left : (n i j k y : ℕ) → Stays n i j → k < n → Leads ps k i y → IsLeft ps h y
  stays_left zero i j k y a small b = absurd (omega (arith, small))
  stays_left (suc n) i j zero y a small b = subst (IsLeft ps h) b a.0
  stays_left (suc n) i j (suc k) y a small b = stays_left n a.1.0 j k y a.1.1.1 (omega (arith, small)) (subst (λ x. Leads ps k x y) (read_one ps own i b.0 a.1.0 b.1.0 a.1.1.0) b.1.1)

  -- and so is all that stands behind a pair on such a cycle
  round_left : (fuel p x k y : ℕ) → k ≤ fuel → Stays (suc p) x x → Leads ps k x y → IsLeft ps h y
  round_left zero p x k y enough c b = stays_left (suc p) x x k y c (omega (arith, enough)) b
  round_left (suc fuel) p x k y enough c b =
      elim (leb_tells (suc k) (suc p)) [
        | inl w ↦ stays_left (suc p) x x k y c (omega (arith, w.1)) b
        | inr w ↦
            let more : suc p ≤ k = omega (arith, w.1) in
            let parts = leads_split ps own (suc p) (k - suc p) x y k (omega (arith, more)) b in
            let same : parts.0 ≡ x = leads_one ps own (suc p) x parts.0 x parts.1.0 (leads_of (suc p) x x c) in
            round_left fuel p x (k - suc p) y (omega (arith, enough, more)) c (subst (λ z. Leads ps (k - suc p) z y) same parts.1.1)
      ]

  module _ (j : ℕ) (left : IsLeft ps h j) where
    -- back from reader to reader
    pub before : ℕ → (i : ℕ) × IsLeft ps h i
    before zero = (j, left)
    before (suc n) = let last = before n in let next = reader last.0 last.1 in (next.0, next.1.still)

    stays : (d m n : ℕ) → n ≡ d + m → Stays d (before n).0 (before m).0
    unfolding before
    stays zero m n e = let same : n ≡ m = omega (arith, e) in ap (λ k. (before k).0) same
    stays (suc d) m zero e = absurd (omega (arith, e))
    stays (suc d) m (suc n) e =
        let next = reader (before n).0 (before n).1 in (
          next.1.still,
          ((before n).0, (next.1.read, stays d m n (omega (arith, e)))),
        )

    -- two of them are one
    pub record IsRound : Type 0 where
      pub at : ℕ
      pub steps : ℕ
      pub turn : Stays (suc steps) at at
      pub away : ℕ
      pub leads : Leads ps away at j

    round : IsRound
    unfolding before
    round =
        let both = twice (λ n. (before n).0) (length ps) (λ n. (before n).1.below) in
        let d : ℕ = both.late - suc both.early in
        let way : Stays (suc d) (before both.late).0 (before both.early).0 = stays (suc d) both.early both.late (omega (arith, both.before)) in
        record {
          at = (before both.late).0;
          steps = d;
          turn = subst (Stays (suc d) (before both.late).0) both.same way;
          away = both.late;
          leads = leads_of both.late (before both.late).0 j (stays both.late 0 both.late (omega arith));
        }

    pub stuck_cycle : IsOnCycle ps j
    stuck_cycle = let r = round in record { steps = r.steps; back = cycle_behind ps own r.away (suc r.steps) r.at j r.leads (leads_of (suc r.steps) r.at r.at r.turn) }

    pub stuck_left : (k y : ℕ) → Leads ps k j y → IsLeft ps h y
    stuck_left k y b =
        let r = round in
        round_left (r.away + k) r.steps r.at (r.away + k) y (omega arith) r.turn (leads_join ps own r.away k r.at j y r.leads b (r.away + k) refl)

  -- no spare stands for what is left
  pub stuck_unspared : (j : ℕ) → IsLeft ps h j → is_spared h (pair_at ps j) ≡ false
  stuck_unspared j left = (reader j left).1.unspared
