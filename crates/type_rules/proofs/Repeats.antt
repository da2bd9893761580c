-- Words that were seen once each.
use Rattle.std.proofs.Common.{◌≡◌, ◌==◌, ◌||◌, ◌<◌, ◌≤◌, ◌+◌, ℕ, Bool, true, false, List, [], ◌∷◌, length, take, get_or, nat_le, cond, refl, ap, sym, ◌∙◌, arith, inl, inr}
use Rattle.std.specs.List.{list_any, count_by}
use Rattle.std.specs.Ordering.{nat_cmp, is_eq}
use Rattle.std.proofs.lemmas.Bool.Decides.{nat_tests, eqb_tells}
use Rattle.std.proofs.lemmas.List.Folds.{list_any_more, list_any_at}
use Rattle.std.proofs.lemmas.List.Sums.{count_by_more_yes, count_by_more_no, sum_by-cons}
use Rattle.spv_decor.proofs.First.{count_by_front}
use Rattle.profile_rules.specs.FlowRules.{has_repeat}

-- these were seen, and none is there twice
pub record AreSeen (ws : List ℕ) (seen : ℕ → Bool) : Type 0 where
  pub known : (x : ℕ) → seen x ≡ list_any (λ w. w == x) ws
  pub once : (x : ℕ) → count_by (λ w. w == x) ws ≤ 1

one_more : (b rest : Bool) (n : ℕ) → (b || rest) ≡ true → (rest ≡ true → 1 ≤ n) → 1 ≤ cond b 1 0 + n
one_more true rest n h more = omega arith
one_more false rest n h more = let enough = more h in omega (arith, enough)

some_counts : (q : ℕ → Bool) (xs : List ℕ) → list_any q xs ≡ true → 1 ≤ count_by q xs
some_counts q [] h = cc
some_counts q (x ∷ xs) h =
    let parts : count_by q (x ∷ xs) ≡ cond (q x) 1 0 + count_by q xs = sum_by-cons (λ y. cond (q y) 1 0) x xs in
    let enough = one_more (q x) (list_any q xs) (count_by q xs) h (some_counts q xs) in
    omega (arith, parts, enough)

no_more : (b rest : Bool) (n : ℕ) → (b || rest) ≡ false → (rest ≡ false → n ≡ 0) → cond b 1 0 + n ≡ 0
no_more true rest n h none = cc
no_more false rest n h none = let all = none h in omega (arith, all)

none_counts : (q : ℕ → Bool) (xs : List ℕ) → list_any q xs ≡ false → count_by q xs ≡ 0
none_counts q [] h = refl
none_counts q (x ∷ xs) h =
    sum_by-cons (λ y. cond (q y) 1 0) x xs ∙ no_more (q x) (list_any q xs) (count_by q xs) h (none_counts q xs)

never : (q : ℕ → Bool) → ((x : ℕ) → q x ≡ false) → (xs : List ℕ) → list_any q xs ≡ false
never q none [] = refl
never q none (x ∷ xs) = ap (λ b. b || list_any q xs) (none x) ∙ never q none xs

or_last : (a b : Bool) → cond b true a ≡ (a || b)
or_last true true = refl
or_last true false = refl
or_last false true = refl
or_last false false = refl

-- with one more, which was not seen
pub seen_more : (ws : List ℕ) (i : ℕ) (old new : ℕ → Bool) → i < length ws → AreSeen (take i ws) old → old (get_or ws i 0) ≡ false → ((x : ℕ) → new x ≡ cond (is_eq (nat_cmp (get_or ws i 0) x)) true (old x)) → AreSeen (take (i + 1) ws) new
seen_more ws i old new inside seen absent now =
    let w = get_or ws i 0 in
    record {
      known =
          λ x.
          let same : is_eq (nat_cmp w x) ≡ (w == x) = grind (arith, nat_tests) in
          now x
          ∙ ap (λ b. cond b true (old x)) same
          ∙ or_last (old x) (w == x)
          ∙ ap (λ b. b || (w == x)) (seen.known x)
          ∙ sym (list_any_more (λ y. y == x) ws i 0 inside);
      once =
          λ x. elim (eqb_tells w x) [
            | inl h ↦
                let own : (w == x) ≡ true = h.0 in
                let none : list_any (λ y. y == x) (take i ws) ≡ false = sym (seen.known x) ∙ ap old (sym h.1) ∙ absent in
                let more = count_by_more_yes (λ y. y == x) ws i 0 inside own in
                let before = none_counts (λ y. y == x) (take i ws) none in
                omega (arith, more, before)
            | inr h ↦
                let other : (w == x) ≡ false = h.0 in
                let more = count_by_more_no (λ y. y == x) ws i 0 inside other in
                let before = seen.once x in
                omega (arith, more, before)
          ];
    }

-- one that was seen
pub repeats : (ws : List ℕ) (i : ℕ) (old : ℕ → Bool) → i < length ws → AreSeen (take i ws) old → old (get_or ws i 0) ≡ true → has_repeat ws ≡ true
repeats ws i old inside seen present =
    let w = get_or ws i 0 in
    let own : (w == w) ≡ true = grind (arith, nat_tests) in
    let found : list_any (λ y. y == w) (take i ws) ≡ true = sym (seen.known w) ∙ present in
    let before = some_counts (λ y. y == w) (take i ws) found in
    let more = count_by_more_yes (λ y. y == w) ws i 0 inside own in
    let all = count_by_front (λ y. y == w) (i + 1) ws in
    let twice : nat_le 2 (count_by (λ y. y == w) ws) ≡ true = grind (arith, nat_tests, before, more, all) in
    list_any_at (λ v. nat_le 2 (count_by (λ y. y == v) ws)) ws i 0 inside twice

-- all were seen once
pub repeats_not : (ws : List ℕ) → ((x : ℕ) → count_by (λ w. w == x) ws ≤ 1) → has_repeat ws ≡ false
repeats_not ws once = never (λ v. nat_le 2 (count_by (λ y. y == v) ws)) (λ v. let few = once v in grind (arith, nat_tests, few)) ws
