-- One caller after another is counted down.
use Rattle.std.proofs.Common.{◌≡◌, ◌≢◌, ◌<◌, ◌≤◌, ◌+◌, ◌-◌, ◌==◌, ◌⊎◌, ℕ, Bool, true, false, cond, List, length, take, set, get_or, refl, ap, sym, ◌∙◌, inl, inr, arith, length-set}
use Rattle.std.proofs.lemmas.List.{get_or-set_same, get_or-set_other}
use Rattle.std.proofs.lemmas.List.Sums.{count_by_more_yes, count_by_more_no, sum_by-take-le}
use Rattle.std.specs.Ordering.{nat_cmp, is_eq}
use Rattle.std.proofs.lemmas.Bool.Decides.{nat_tests, eqb_tells}
use Rattle.call_order.specs.Released.{IsReleased, times}

-- one more of the callers
pub times_more : (p : ℕ) (xs : List ℕ) (i : ℕ) → i < length xs → ((get_or xs i 0 ≡ p) × (times p (take (i + 1) xs) ≡ times p (take i xs) + 1)) ⊎ ((get_or xs i 0 ≢ p) × (times p (take (i + 1) xs) ≡ times p (take i xs)))
times_more p xs i inside =
    elim (eqb_tells (get_or xs i 0) p) [
      | inl w ↦ inl (w.1, count_by_more_yes (λ x. x == p) xs i 0 inside w.0)
      | inr w ↦ inr (w.1, count_by_more_no (λ x. x == p) xs i 0 inside w.0)
    ]

pub times_front : (p : ℕ) (xs : List ℕ) (i : ℕ) → times p (take i xs) ≤ times p xs
times_front p xs i = sum_by-take-le (λ x. cond (x == p) 1 0) xs i

-- a caller among the rest has a call that is still to be counted down
pub some_left : (callers before after : List ℕ) (was is : ℕ → Bool) (i : ℕ) → i < length callers → ((p : ℕ) → times p callers ≤ get_or before p 0) → IsReleased (take i callers) before after was is → 0 < get_or after (get_or callers i 0) 0
some_left callers before after was is i inside enough so_far =
    let c = get_or callers i 0 in
    elim (times_more c callers i inside) [
      | inl w ↦ omega (arith, w.1, times_front c callers (i + 1), enough c, so_far.left c)
      | inr w ↦ absurd (w.0 refl)
    ]

-- what stands at a place after a write at another that may be the same
at_same : (xs : List ℕ) (c v p : ℕ) → c < length xs → c ≡ p → get_or (set xs c v) p 0 ≡ v
at_same xs c v p inside e = rw (← e) (get_or-set_same xs c v 0 inside)

at_other : (xs : List ℕ) (c v p : ℕ) → c ≢ p → get_or (set xs c v) p 0 ≡ get_or xs p 0
at_other xs c v p apart = get_or-set_other xs c p v 0 (λ e. apart (sym e))

-- one more is counted down
pub released_more : (callers before after : List ℕ) (was is now : ℕ → Bool) (i : ℕ) → i < length callers → get_or callers i 0 < length after → ((p : ℕ) → times p callers ≤ get_or before p 0)
    → IsReleased (take i callers) before after was is
    → ((p : ℕ) → now p ≡ true → (is p ≡ true) ⊎ ((get_or callers i 0 ≡ p) × (get_or after p 0 ≡ 1)))
    → ((p : ℕ) → is p ≡ true → now p ≡ true)
    → ((p : ℕ) → get_or callers i 0 ≡ p → get_or after p 0 ≡ 1 → now p ≡ true)
    → IsReleased (take (i + 1) callers) before (set after (get_or callers i 0) (get_or after (get_or callers i 0) 0 - 1)) was now
released_more callers before after was is now i inside fits enough so_far sound kept freed =
    let c = get_or callers i 0 in
    let v = get_or after c 0 - 1 in
    let some : 0 < get_or after c 0 = some_left callers before after was is i inside enough so_far in
    record {
      size = length-set after c v ∙ so_far.size;
      left = λ p.
          elim (times_more p callers i inside) [
            | inl w ↦
                let now_at = at_same after c v p fits w.0 in
                let was_at : get_or after c 0 ≡ get_or after p 0 = ap (λ k. get_or after k 0) w.0 in
                omega (arith, now_at, was_at, some, w.1, so_far.left p)
            | inr w ↦
                let now_at = at_other after c v p w.0 in
                omega (arith, now_at, w.1, so_far.left p)
          ];
      sound = λ p h.
          elim (times_more p callers i inside) [
            | inl w ↦
                let now_at = at_same after c v p fits w.0 in
                let was_at : get_or after c 0 ≡ get_or after p 0 = ap (λ k. get_or after k 0) w.0 in
                elim (sound p h) [
                  | inl old ↦ elim (so_far.sound p old) [
                    | inl first ↦ inl first
                    | inr then ↦ absurd (omega (arith, then.1, was_at, some))
                  ]
                  | inr new ↦ inr (omega (arith, w.1), omega (arith, now_at, was_at, new.1))
                ]
            | inr w ↦
                let now_at = at_other after c v p w.0 in
                elim (sound p h) [
                  | inl old ↦ elim (so_far.sound p old) [
                    | inl first ↦ inl first
                    | inr then ↦ inr (omega (arith, w.1, then.0), omega (arith, now_at, then.1))
                  ]
                  | inr new ↦ absurd (w.0 new.0)
                ]
          ];
      kept = λ p h. kept p (so_far.kept p h);
      freed = λ p some_times none_left.
          elim (times_more p callers i inside) [
            | inl w ↦
                let now_at = at_same after c v p fits w.0 in
                let was_at : get_or after c 0 ≡ get_or after p 0 = ap (λ k. get_or after k 0) w.0 in
                freed p w.0 (omega (arith, now_at, was_at, some, none_left))
            | inr w ↦
                let now_at = at_other after c v p w.0 in
                kept p (so_far.freed p (omega (arith, w.1, some_times)) (omega (arith, now_at, none_left)))
          ];
    }

-- where none is counted down, nothing changes
pub released_none : (before : List ℕ) (was : ℕ → Bool) → IsReleased (take 0 before) before before was was
released_none before was = record {
  size = refl;
  left = λ p. omega arith;
  sound = λ p h. inl h;
  kept = λ p h. h;
  freed = λ p some none_left. absurd (omega arith);
}

-- what a set has with one more
pub put_cases : (c q : ℕ) (is now : Bool) → now ≡ cond (is_eq (nat_cmp c q)) true is → now ≡ true → (is ≡ true) ⊎ (c ≡ q)
put_cases c q is now e h =
    elim (eqb_tells c q) [
      | inl w ↦ inr w.1
      | inr w ↦
          let other : is_eq (nat_cmp c q) ≡ false = grind (arith, nat_tests, w.1) in
          inl (sym (rw other at e) ∙ h)
    ]

pub put_keeps : (c q : ℕ) (is now : Bool) → now ≡ cond (is_eq (nat_cmp c q)) true is → is ≡ true → now ≡ true
put_keeps c q is now e h = e ∙ (elim (is_eq (nat_cmp c q)) as (λ b. cond b true is ≡ true) [ true ↦ refl | false ↦ h ])

pub put_here : (c q : ℕ) (is now : Bool) → now ≡ cond (is_eq (nat_cmp c q)) true is → c ≡ q → now ≡ true
put_here c q is now e h =
    let own : is_eq (nat_cmp c q) ≡ true = grind (arith, nat_tests, h) in
    rw own at e

-- one more is counted down, and ready
pub released_ready : (callers before after : List ℕ) (was is now : ℕ → Bool) (i : ℕ) → i < length callers → get_or callers i 0 < length after → ((p : ℕ) → times p callers ≤ get_or before p 0)
    → IsReleased (take i callers) before after was is
    → get_or after (get_or callers i 0) 0 - 1 ≡ 0
    → ((p : ℕ) → now p ≡ cond (is_eq (nat_cmp (get_or callers i 0) p)) true (is p))
    → IsReleased (take (i + 1) callers) before (set after (get_or callers i 0) (get_or after (get_or callers i 0) 0 - 1)) was now
released_ready callers before after was is now i inside fits enough so_far last put =
    let c = get_or callers i 0 in
    let some : 0 < get_or after c 0 = some_left callers before after was is i inside enough so_far in
    released_more callers before after was is now i inside fits enough so_far
    (λ p h.
    elim (put_cases c p (is p) (now p) (put p) h) [
      | inl old ↦ inl old
      | inr e ↦ inr (e, let at : get_or after c 0 ≡ get_or after p 0 = ap (λ k. get_or after k 0) e in omega (arith, at, last, some))
    ])
    (λ p h. put_keeps c p (is p) (now p) (put p) h)
    (λ p e one. put_here c p (is p) (now p) (put p) e)

-- one more is counted down, and has calls left
pub released_waiting : (callers before after : List ℕ) (was is : ℕ → Bool) (i : ℕ) → i < length callers → get_or callers i 0 < length after → ((p : ℕ) → times p callers ≤ get_or before p 0)
    → IsReleased (take i callers) before after was is
    → (get_or after (get_or callers i 0) 0 - 1 ≡ 0 → ⊥)
    → IsReleased (take (i + 1) callers) before (set after (get_or callers i 0) (get_or after (get_or callers i 0) 0 - 1)) was is
released_waiting callers before after was is i inside fits enough so_far more =
    let c = get_or callers i 0 in
    released_more callers before after was is is i inside fits enough so_far
    (λ p h. inl h)
    (λ p h. h)
    (λ p e one.
    let at : get_or after c 0 ≡ get_or after p 0 = ap (λ k. get_or after k 0) e in
    absurd (more (omega (arith, at, one))))
