-- Ids that come twice.
use Rattle.std.proofs.Common.{◌≡◌, ◌<◌, ◌≤◌, ◌+◌, ℕ, zero, suc, Bool, true, false, ◌==◌, ◌||◌, List, [], ◌∷◌, ◌++◌, refl, ap, sym, ◌∙◌, add-one, arith, take, drop, get_or, length}
use Rattle.std.specs.List.{list_any}
use Rattle.std.proofs.lemmas.List.Folds.{list_any_more, list_any-append}
use Rattle.std.proofs.lemmas.List.{take-append-drop, take_all}
use Rattle.std.proofs.Math.Bool.{or-true}
use Rattle.list_law.proofs.Numbers.{turned}
use Rattle.list_law.proofs.Tests.{or_steps}
use Rattle.profile_rules.specs.declared.given.Given.{Given}
use Rattle.profile_rules.specs.Overrides.{repeats}

-- one of the pairs has this id
abbrev has_id : List (ℕ × Given) → ℕ → Bool
has_id ps n = list_any (λ (q : ℕ × Given). q.0 == n) ps

has_id_more : (ps : List (ℕ × Given)) (i n : ℕ) (d : ℕ × Given) → i < length ps → has_id (take (suc i) ps) n ≡ (has_id (take i ps) n || ((get_or ps i d).0 == n))
has_id_more ps i n d inside = ap (λ k. has_id (take k ps) n) (sym (add-one i)) ∙ list_any_more (λ (q : ℕ × Given). q.0 == n) ps i d inside

-- whether an id comes twice among one more pair
repeats_more : (ps : List (ℕ × Given)) (i : ℕ) (d : ℕ × Given) → i < length ps → repeats (take (suc i) ps) ≡ (repeats (take i ps) || has_id (take i ps) (get_or ps i d).0)
repeats_more [] i d inside = absurd (omega arith)
repeats_more (q ∷ ps) zero d inside = refl
repeats_more (q ∷ ps) (suc i) d inside =
    let within : i < length ps = omega arith in
    let n : ℕ = (get_or ps i d).0 in
    ap (λ (b : Bool). b || repeats (take (suc i) ps)) (has_id_more ps i q.0 d within)
    ∙ ap (λ (b : Bool). (has_id (take i ps) q.0 || (n == q.0)) || b) (repeats_more ps i d within)
    ∙ or_steps (has_id (take i ps) q.0) (n == q.0) (repeats (take i ps)) (has_id (take i ps) n) (q.0 == n) (turned n q.0)

repeats_append : (xs ys : List (ℕ × Given)) → repeats xs ≡ true → repeats (xs ++ ys) ≡ true
repeats_append [] ys h = cc
repeats_append (x ∷ xs) ys h =
    rw (list_any-append (λ (q : ℕ × Given). q.0 == x.0) xs ys)
    ((elim (has_id xs x.0) as (λ b. (b || repeats xs) ≡ true → ((b || has_id ys x.0) || repeats (xs ++ ys)) ≡ true) [
      | true ↦ λ e. refl
      | false ↦ λ e. ap (λ (b : Bool). has_id ys x.0 || b) (repeats_append xs ys e) ∙ or-true (has_id ys x.0)
    ]) h)

-- a repeat among the first ones is one among all
repeats_front : (i : ℕ) (ps : List (ℕ × Given)) → repeats (take i ps) ≡ true → repeats ps ≡ true
repeats_front i ps h = ap repeats (sym (take-append-drop i ps)) ∙ repeats_append (take i ps) (drop i ps) h

-- the next id is none of those before
pub no_repeat : (ps : List (ℕ × Given)) (i : ℕ) (d : ℕ × Given) → i < length ps → repeats (take i ps) ≡ false → has_id (take i ps) (get_or ps i d).0 ≡ false → repeats (take (i + 1) ps) ≡ false
no_repeat ps i d inside none new = ap (λ k. repeats (take k ps)) (add-one i) ∙ repeats_more ps i d inside ∙ ap (λ (b : Bool). b || has_id (take i ps) (get_or ps i d).0) none ∙ new

-- the next id is one of those before
pub found_repeat : (ps : List (ℕ × Given)) (i : ℕ) (d : ℕ × Given) → i < length ps → has_id (take i ps) (get_or ps i d).0 ≡ true → repeats ps ≡ true
found_repeat ps i d inside old = repeats_front (suc i) ps (repeats_more ps i d inside ∙ ap (λ (b : Bool). repeats (take i ps) || b) old ∙ or-true (repeats (take i ps)))

-- where none of the first comes twice and there are no others
pub none_repeats : (ps : List (ℕ × Given)) (i : ℕ) → length ps ≤ i → repeats (take i ps) ≡ false → repeats ps ≡ false
none_repeats ps i all none = ap repeats (sym (take_all i ps all)) ∙ none

pub ruleset repeat_rules = (no_repeat, found_repeat, none_repeats)
