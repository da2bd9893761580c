-- The operand words that are ids, where these are the first ones, or all.
use Rattle.std.proofs.Common.{◌≡◌, ◌==◌, ◌&&◌, ◌||◌, ℕ, zero, suc, ◌+◌, ◌≤◌, ◌<◌, Bool, true, false, List, [], ◌∷◌, refl, ap, ◌∙◌, take, arith}
use Rattle.std.specs.List.{list_any}
use Rattle.std.proofs.lemmas.Bool.Decides.{nat_tests}
use Rattle.spv_ops.specs.Operands.{has_id}
use Rattle.spv_ops.specs.declared.operands.IdWords.TheVariants.{Range, OneAndFrom}
use Rattle.text_rules.specs.Printed.{has_operand_from}

past_range : (m k : ℕ) → m ≤ k → has_id (Range 0 m) k ≡ false
past_range m k past = grind (arith, nat_tests)

in_range : (m k : ℕ) → k < m → has_id (Range 0 m) k ≡ true
in_range m k inside = grind (arith, nat_tests)

none_after : (id m k : ℕ) (words : List ℕ) → m ≤ k → has_operand_from (has_id (Range 0 m)) id k words ≡ false
none_after id m k [] past = refl
none_after id m k (w ∷ ws) past =
    ap (λ (b : Bool). (b && (w == id)) || has_operand_from (has_id (Range 0 m)) id (k + 1) ws) (past_range m k past) ∙ none_after id m (k + 1) ws (omega arith)

first_from : (id m k n : ℕ) (words : List ℕ) → m ≡ k + n → has_operand_from (has_id (Range 0 m)) id k words ≡ list_any (λ (w : ℕ). w == id) (take n words)
first_from id m k zero words so = none_after id m k words (omega arith)
first_from id m k (suc n) [] so = refl
first_from id m k (suc n) (w ∷ ws) so =
    ap (λ (b : Bool). (b && (w == id)) || has_operand_from (has_id (Range 0 m)) id (k + 1) ws) (in_range m k (omega arith))
    ∙ ap (λ (b : Bool). (w == id) || b) (first_from id m (k + 1) n ws (omega arith))

pub first_words : (id m : ℕ) (words : List ℕ) → has_operand_from (has_id (Range 0 m)) id 0 words ≡ list_any (λ (w : ℕ). w == id) (take m words)
first_words id m words = first_from id m 0 m words (omega arith)

from_zero : (k : ℕ) → has_id (OneAndFrom 0 0) k ≡ true
from_zero k = grind (arith, nat_tests)

all_from : (id k : ℕ) (words : List ℕ) → has_operand_from (has_id (OneAndFrom 0 0)) id k words ≡ list_any (λ (w : ℕ). w == id) words
all_from id k [] = refl
all_from id k (w ∷ ws) =
    ap (λ (b : Bool). (b && (w == id)) || has_operand_from (has_id (OneAndFrom 0 0)) id (k + 1) ws) (from_zero k)
    ∙ ap (λ (b : Bool). (w == id) || b) (all_from id (k + 1) ws)

pub all_words : (id : ℕ) (words : List ℕ) → has_operand_from (has_id (OneAndFrom 0 0)) id 0 words ≡ list_any (λ (w : ℕ). w == id) words
all_words id words = all_from id 0 words
