-- Overrides as a specialization.
use Rattle.std.proofs.Common.{◌≡◌, ℕ, ◌+◌, ◌<◌, ◌==◌, true, false, cond, List, [], ◌∷◌, length, drop, get_or, refl, sym, ap, ◌∙◌, arith}
use Rattle.std.proofs.lemmas.List.{drop_more}
use Rattle.std.proofs.lemmas.Bool.Decides.{nat_tests}
use Rattle.std.specs.Prelude.{Option, Some, None, option_map, option_and_then, find}
use Rattle.std.specs.Option.{option_or}
use Rattle.std.specs.BTreeMap.{is_at}
use Rattle.std.specs.Ordering.{nat_cmp}
use Rattle.spv_module.specs.State.{ModuleState}
use Rattle.profile_rules.specs.declared.given.Given.{Given}
use Rattle.profile_rules.specs.Constants.{word_given, spec_id, chosen_word, constant_value, constants}
use Rattle.run_module.specs.Runs.{given_words}

-- the first of some overrides
given_first : (p : ℕ × Given) (ps : List (ℕ × Given)) (q : ℕ) → given_words (p ∷ ps) q ≡ cond (p.0 == q) (Some (word_given p.1)) (given_words ps q)
given_first p ps q =
    elim (p.0 == q) as (λ b. option_map word_given (option_map (λ (r : ℕ × Given). r.1) (cond b (Some p) (find (λ (r : ℕ × Given). r.0 == q) ps))) ≡ cond b (Some (word_given p.1)) (given_words ps q)) [
      | true ↦ refl
      | false ↦ refl
    ]

-- what was known of the overrides behind one, with this one
pub given_before : (ps : List (ℕ × Given)) (n k : ℕ) (d : ℕ × Given) (q : ℕ) (old new : ℕ → Option ℕ) → n ≡ k + 1 → k < length ps → ((x : ℕ) → old x ≡ given_words (drop n ps) x) → new q ≡ cond (is_at (nat_cmp (get_or ps k d).0) q) (Some (word_given (get_or ps k d).1)) (old q) → new q ≡ given_words (drop k ps) q
given_before ps n k d q old new next inside known put =
    let p : ℕ × Given = get_or ps k d in
    let at_key : is_at (nat_cmp p.0) q ≡ (p.0 == q) = grind (arith, nat_tests) in
    put
    ∙ ap (λ b. cond b (Some (word_given p.1)) (old q)) at_key
    ∙ ap (λ o. cond (p.0 == q) (Some (word_given p.1)) o) (known q ∙ ap (λ i. given_words (drop i ps) q) next)
    ∙ sym (given_first p (drop (k + 1) ps) q)
    ∙ ap (λ (rest : List (ℕ × Given)). given_words rest q) (sym (drop_more ps k d inside))

-- where the specialization has what the overrides give, constants are what they are without overrides
or_same : (x y : Option ℕ) → y ≡ x → option_or x y ≡ y
or_same None y e = refl
or_same (Some w) y e = sym e

pub constants_same : (m : ModuleState) (pairs : List (ℕ × Given)) (special : ℕ → Option ℕ) → ((id : ℕ) → special id ≡ given_words pairs id) → (id : ℕ) → constants m pairs special id ≡ constants m [] special id
constants_same m pairs special same id =
    let words : chosen_word m.heads pairs special ≡ chosen_word m.heads [] special = λ i x. ap (λ (f : ℕ → Option ℕ). option_and_then f (spec_id m.heads x)) (λ j s. or_same (given_words pairs s) (special s) (same s) j) i in
    ap (λ (chosen : ℕ → Option ℕ). constant_value m chosen id) words
