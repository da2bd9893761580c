-- One step of a list with each key once, and its end.
use Rattle.std.proofs.Common.{◌≡◌, ◌==◌, ◌<◌, ◌≤◌, ◌+◌, ℕ, Bool, true, false, not, List, [], ◌∷◌, ◌++◌, if◌then◌else◌, length, get_or, drop, refl, sym, ◌∙◌, ap, subst}
use Rattle.std.proofs.lemmas.List.{append-nil, append_assoc, drop_more, drop_all}
use Rattle.std.proofs.lemmas.Bool.{eqb-true}
use Rattle.function_plan.specs.Once.{with_id, once_by}

true_false : true ≡ false → ⊥
true_false e = cc

-- a number that is there already
with_known : (seen : ℕ → Bool) (n m : ℕ) → seen n ≡ true → with_id n seen m ≡ seen m
with_known seen n m known = step (m == n) refl
  where
    step : (b : Bool) → (m == n) ≡ b → elim b [ true ↦ true | false ↦ seen m ] ≡ seen m
    step true e = sym (ap seen (eqb-true m n e) ∙ known)
    step false e = refl

with_known_set : (seen : ℕ → Bool) (n : ℕ) → seen n ≡ true → with_id n seen ≡ seen
with_known_set seen n known = λ i m. with_known seen n m known i

one_more : {A : Type 0} (key : A → ℕ) (seen : ℕ → Bool) (x : A) (xs : List A) (new : Bool) → new ≡ not (seen (key x))
    → once_by key seen (x ∷ xs) ≡ (if new then x ∷ [] else []) ++ once_by key (with_id (key x) seen) xs
one_more {A} key seen x xs new is = subst P (sym is) (step (seen (key x)) refl)
  where
    P : Bool → Type 0
    P b = once_by key seen (x ∷ xs) ≡ (if b then x ∷ [] else []) ++ once_by key (with_id (key x) seen) xs

    step : (b : Bool) → seen (key x) ≡ b → elim b [ true ↦ once_by key seen xs | false ↦ x ∷ once_by key (with_id (key x) seen) xs ] ≡ (if not b then x ∷ [] else []) ++ once_by key (with_id (key x) seen) xs
    step true e = ap (λ s. once_by key s xs) (sym (with_known_set seen (key x) e))
    step false e = refl

pub once_step : {A : Type 0} (key : A → ℕ) (old new : ℕ → Bool) (xs : List A) (i : ℕ) (d : A) (done list whole : List A) (b : Bool) → i < length xs → b ≡ not (old (key (get_or xs i d)))
    → ((q : ℕ) → new q ≡ with_id (key (get_or xs i d)) old q) → list ≡ done ++ (if b then get_or xs i d ∷ [] else []) → done ++ once_by key old (drop i xs) ≡ whole
    → list ++ once_by key new (drop (i + 1) xs) ≡ whole
once_step {A} key old new xs i d done list whole b less is more added e =
    let rest : drop i xs ≡ get_or xs i d ∷ drop (i + 1) xs = drop_more xs i d less in
    let set : new ≡ with_id (key (get_or xs i d)) old = λ j q. more q j in
    ap (λ q. q ++ once_by key new (drop (i + 1) xs)) added
    ∙ (append_assoc done (if b then get_or xs i d ∷ [] else []) (once_by key new (drop (i + 1) xs))
    ∙ (ap (λ s. done ++ ((if b then get_or xs i d ∷ [] else []) ++ once_by key s (drop (i + 1) xs))) set
    ∙ (ap (λ q. done ++ q) (sym (ap (once_by key old) rest ∙ one_more key old (get_or xs i d) (drop (i + 1) xs) b is)) ∙ e)))

pub once_end : {A : Type 0} (key : A → ℕ) (seen : ℕ → Bool) (xs : List A) (i : ℕ) (done whole : List A) → length xs ≤ i → done ++ once_by key seen (drop i xs) ≡ whole → done ≡ whole
once_end key seen xs i done whole past e = sym (append-nil done) ∙ (ap (λ q. done ++ once_by key seen q) (sym (drop_all i xs past)) ∙ e)

pub ruleset once_rules = (once_step, once_end)
