-- Lists that are seen through a view, and lists that may not be empty.
use Rattle.std.proofs.Common.{◌≡◌, ◌==◌, ◌&&◌, not, ℕ, Bool, true, false, List, length, map, sym, ap, ◌∙◌}
use Rattle.std.specs.List.{list_all}
use Rattle.std.proofs.lemmas.List.{length-map}
use Rattle.std.proofs.lemmas.List.Folds.{list_all-map}
use Rattle.text_check.specs.Statements.{has_some}

pub ruleset list_rules = (length-map, list_all-map)

-- where a list is not empty, what each of it passes decides
by_length : (n : ℕ) (r : Bool) → (n == 0) ≡ false → r ≡ (not (n == 0) && r)
by_length n r e = sym (ap (λ b. not b && r) e)

pub some_and : {A : Type 0} (p : A → Bool) (xs : List A) (e r : Bool) → e ≡ (length xs == 0) → e ≡ false → r ≡ list_all p xs → r ≡ (has_some xs && list_all p xs)
some_and p xs e r is some all = all ∙ by_length (length xs) (list_all p xs) (sym is ∙ some)

pub some_seen : {A B : Type 0} (p : B → Bool) (view : A → B) (xs : List A) (e r : Bool) → e ≡ (length xs == 0) → e ≡ false → r ≡ list_all (λ x. p (view x)) xs → r ≡ (has_some (map view xs) && list_all p (map view xs))
some_seen p view xs e r is some all = some_and p (map view xs) e r (is ∙ ap (λ n. n == 0) (sym (length-map xs view))) some (all ∙ sym (list_all-map p view xs))

pub none_seen : {A B : Type 0} (p : B → Bool) (view : A → B) (xs : List A) (e : Bool) → e ≡ (length xs == 0) → e ≡ true → not e ≡ (has_some (map view xs) && list_all p (map view xs))
none_seen p view xs e is none = ap not none ∙ sym (ap (λ n. not (n == 0) && list_all p (map view xs)) (length-map xs view) ∙ ap (λ b. not b && list_all p (map view xs)) (sym is ∙ none))
