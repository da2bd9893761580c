-- Lists of words that can be searched.
use Rattle.std.specs.Prelude.{◌&&◌, not, ℕ, Bool, true, List, [], ◌∷◌}
use Rattle.std.specs.Borrow.{Bor}
use Rattle.std.specs.Cmp.Lexicographic.{slice_cmp}
use Rattle.std.specs.Ordering.{nat_cmp, is_lt}

abbrev pub Text : Type 0
Text = List ℕ

-- no word is below the one before it
abbrev pub is_rising : List (Bor Text) → Bool
is_rising [] = true
is_rising (v ∷ []) = true
is_rising (v ∷ w ∷ ws) = not (is_lt (slice_cmp nat_cmp w.now v.now)) && is_rising (w ∷ ws)
