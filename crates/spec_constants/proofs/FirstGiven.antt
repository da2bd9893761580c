-- What specialization constants are given, as overrides are met.
use Rattle.std.proofs.Common.{◌≡◌, ◌<◌, ◌+◌, ℕ, zero, suc, true, false, ◌==◌, cond, List, [], ◌∷◌, refl, ap, sym, ◌∙◌, arith, add-one, take, get_or, length}
use Rattle.std.specs.Prelude.{Option, Some, None, is_some, option_map}
use Rattle.std.specs.Option.{option_or}
use Rattle.std.specs.List.{find}
use Rattle.std.specs.Ordering.{nat_cmp}
use Rattle.std.specs.BTreeMap.{is_at}
use Rattle.std.proofs.lemmas.Bool.Decides.{nat_tests}
use Rattle.std.proofs.lemmas.Bool.{cases_eq}
use Rattle.std.proofs.Common.{⊎_elim}
use Rattle.profile_rules.specs.declared.given.Given.{Given}
use Rattle.profile_rules.specs.Constants.{given_to}

given_first : (p : ℕ × Given) (ps : List (ℕ × Given)) (q : ℕ) → given_to (p ∷ ps) q ≡ cond (p.0 == q) (Some p.1) (given_to ps q)
given_first p ps q = elim (p.0 == q) as (λ b. option_map (λ (r : ℕ × Given). r.1) (cond b (Some p) (find (λ (r : ℕ × Given). r.0 == q) ps)) ≡ cond b (Some p.1) (given_to ps q)) [ true ↦ refl | false ↦ refl ]

-- what an id is given with one more override
given_more : (ps : List (ℕ × Given)) (i : ℕ) (d : ℕ × Given) (q : ℕ) → i < length ps → given_to (take (suc i) ps) q ≡ option_or (given_to (take i ps) q) (cond ((get_or ps i d).0 == q) (Some (get_or ps i d).1) None)
given_more [] i d q inside = absurd (omega arith)
given_more (p ∷ ps) zero d q inside = given_first p [] q
given_more (p ∷ ps) (suc i) d q inside =
    given_first p (take (suc i) ps) q
    ∙ ((elim (p.0 == q) as (λ b. cond b (Some p.1) (given_to (take (suc i) ps) q) ≡ option_or (cond b (Some p.1) (given_to (take i ps) q)) (cond ((get_or ps i d).0 == q) (Some (get_or ps i d).1) None)) [
      | true ↦ refl
      | false ↦ given_more ps i d q (omega arith)
    ]))
    ∙ ap (λ o. option_or o (cond ((get_or ps i d).0 == q) (Some (get_or ps i d).1) None)) (sym (given_first p (take i ps) q))

or_new : (o : Option Given) (a q : ℕ) (v : Given) → (a ≡ q → is_some o ≡ false) → cond (is_at (nat_cmp a) q) (Some v) o ≡ option_or o (cond (a == q) (Some v) None)
or_new None a q v new = grind (arith, nat_tests)
or_new (Some w) a q v new = ⊎_elim (λ e. let h : true ≡ false = new e in cc) (λ ne. grind (arith, nat_tests, ne)) (cases_eq a q)

or_old : (o : Option Given) (a q : ℕ) (v : Given) → (a ≡ q → is_some o ≡ true) → o ≡ option_or o (cond (a == q) (Some v) None)
or_old None a q v old = ⊎_elim (λ e. let h : false ≡ true = old e in cc) (λ ne. grind (arith, nat_tests, ne)) (cases_eq a q)
or_old (Some w) a q v old = refl

-- what was known of the overrides before, with one of an id that had none
pub given_new : (ps : List (ℕ × Given)) (i : ℕ) (d : ℕ × Given) (q : ℕ) (old new : ℕ → Option Given) → i < length ps → ((x : ℕ) → old x ≡ given_to (take i ps) x) → is_some (old (get_or ps i d).0) ≡ false → new q ≡ cond (is_at (nat_cmp (get_or ps i d).0) q) (Some (get_or ps i d).1) (old q) → new q ≡ given_to (take (i + 1) ps) q
given_new ps i d q old new inside known absent set =
    set ∙ or_new (old q) (get_or ps i d).0 q (get_or ps i d).1 (λ e. ap (λ x. is_some (old x)) (sym e) ∙ absent)
    ∙ ap (λ o. option_or o (cond ((get_or ps i d).0 == q) (Some (get_or ps i d).1) None)) (known q)
    ∙ sym (ap (λ n. given_to (take n ps) q) (add-one i) ∙ given_more ps i d q inside)

-- the same with one of an id that had one
pub given_old : (ps : List (ℕ × Given)) (i : ℕ) (d : ℕ × Given) (q : ℕ) (old : ℕ → Option Given) → i < length ps → ((x : ℕ) → old x ≡ given_to (take i ps) x) → is_some (old (get_or ps i d).0) ≡ true → old q ≡ given_to (take (i + 1) ps) q
given_old ps i d q old inside known present =
    or_old (old q) (get_or ps i d).0 q (get_or ps i d).1 (λ e. ap (λ x. is_some (old x)) (sym e) ∙ present)
    ∙ ap (λ o. option_or o (cond ((get_or ps i d).0 == q) (Some (get_or ps i d).1) None)) (known q)
    ∙ sym (ap (λ n. given_to (take n ps) q) (add-one i) ∙ given_more ps i d q inside)
