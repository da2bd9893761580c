-- Marks of numbers.
use Rattle.std.proofs.Common.{◌≡◌, ◌<◌, ◌==◌, ◌||◌, ◌++◌, ◌∷◌, [], ℕ, Bool, true, false, List, length, get_or, suc, zero, refl, sym, ◌∙◌, ap, inl, inr}
use Rattle.std.proofs.Math.ListN.{set}
use Rattle.std.proofs.lemmas.Bool.{cases_eq, eq-eqb, ne_eqb, or_right}
use Rattle.std.proofs.lemmas.List.{get_or-set_same, get_or-set_other}
use Rattle.list_law.proofs.Tests.{or_alone}

-- one more that is not marked
pub padded : (marks : List Bool) (b : ℕ) → get_or (marks ++ false ∷ []) b false ≡ get_or marks b false
padded [] zero = refl
padded [] (suc b) = refl
padded (m ∷ marks) zero = refl
padded (m ∷ marks) (suc b) = padded marks b

-- one more is marked
pub marked : (marks : List Bool) (k b : ℕ) → k < length marks → get_or (set marks k true) b false ≡ (get_or marks b false || (k == b))
marked marks k b inside = elim (cases_eq b k) [
  | inl same ↦ ap (λ q. get_or (set marks k true) q false) same ∙ (get_or-set_same marks k true false inside ∙ sym (or_right (get_or marks b false) (k == b) (eq-eqb k b (sym same))))
  | inr other ↦ get_or-set_other marks k b true false other ∙ sym (or_alone (get_or marks b false) (k == b) (ne_eqb k b (λ e. other (sym e))))
]
