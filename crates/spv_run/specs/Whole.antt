-- The shapes of the values of the built-in variables.
use Rattle.std.specs.Prelude.{Bool, true, false, ◌&&◌, List, [], ◌∷◌}
use Rattle.spv_types.specs.Tree.{ValueTree, word, many, no_values, value}

-- three words
abbrev pub is_three : ValueTree → Bool
is_three (many (value (word a) (value (word b) (value (word c) no_values)))) = true
is_three _ = false

abbrev pub is_word : ValueTree → Bool
is_word (word w) = true
is_word _ = false

-- four of three words and one of one
abbrev pub have_shape : List ValueTree → Bool
have_shape (a ∷ b ∷ c ∷ d ∷ e ∷ []) = is_three a && (is_three b && (is_three c && (is_three d && is_word e)))
have_shape _ = false
