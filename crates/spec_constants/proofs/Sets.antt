-- Sets of the keys of a list, as they grow.
use Rattle.std.proofs.Common.{◌≡◌, ◌<◌, ◌+◌, ℕ, Bool, true, ◌==◌, ◌||◌, List, ap, sym, ◌∙◌, arith, cond, take, get_or, length}
use Rattle.std.specs.List.{list_any}
use Rattle.std.specs.Ordering.{nat_cmp}
use Rattle.std.specs.BTreeMap.{is_at}
use Rattle.std.proofs.lemmas.List.Folds.{list_any_more}
use Rattle.std.proofs.lemmas.Bool.Decides.{nat_tests}
use Rattle.std.proofs.Math.Bool.{or_assoc}

at_key : (a b : ℕ) (old : Bool) → cond (is_at (nat_cmp a) b) true old ≡ (old || (a == b))
at_key a b old = grind (arith, nat_tests)

-- what is in a set beside those of `front` when one more key goes in
pub set_more : {X : Type 0} (f : X → ℕ) (xs : List X) (i : ℕ) (d : X) (q : ℕ) (new old front : Bool) → i < length xs → new ≡ cond (is_at (nat_cmp (f (get_or xs i d))) q) true old → old ≡ (front || list_any (λ x. f x == q) (take i xs)) → new ≡ (front || list_any (λ x. f x == q) (take (i + 1) xs))
set_more f xs i d q new old front inside set same =
    set ∙ at_key (f (get_or xs i d)) q old
    ∙ ap (λ (b : Bool). b || (f (get_or xs i d) == q)) same
    ∙ or_assoc front (list_any (λ x. f x == q) (take i xs)) (f (get_or xs i d) == q)
    ∙ ap (λ (b : Bool). front || b) (sym (list_any_more (λ x. f x == q) xs i d inside))
