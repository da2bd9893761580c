-- The words of values, computed.
use Rattle.std.proofs.Common.{◌≡◌, List, [], ◌∷◌, refl}
use Rattle.std.specs.Prelude.{true, false}
use Rattle.spv_module.specs.declared.tree.Elem.TheVariants as elem
use Rattle.spv_module.specs.declared.tree.Length.TheVariants.{Fixed}
use Rattle.spv_types.specs.Tree.{Tree, int, uint, vector, array, struct, trees_in, ValueTree, truth, word, many, values_in}
use Rattle.value_words.specs.Words.{words_of, value_from, scalar_paths}

abbrev whole : List ValueTree → ValueTree
whole vs = many (values_in vs)

-- a struct of an int, two vectors of two truth values and a uint
abbrev shape : Tree
shape = struct 7 (trees_in (int ∷ array (vector elem.Bool 2) (Fixed 2) ∷ uint ∷ []))

abbrev held : ValueTree
held = whole (word 5 ∷ whole (whole (truth true ∷ truth false ∷ []) ∷ whole (truth false ∷ truth true ∷ []) ∷ []) ∷ word 6 ∷ [])

in_order : words_of held ≡ 5 ∷ 1 ∷ 0 ∷ 0 ∷ 1 ∷ 6 ∷ []
in_order = refl

back : value_from shape (5 ∷ 8 ∷ 0 ∷ 0 ∷ 1 ∷ 6 ∷ []) ≡ held
back = refl

paths : scalar_paths shape ≡ (0 ∷ []) ∷ (1 ∷ 0 ∷ 0 ∷ []) ∷ (1 ∷ 0 ∷ 1 ∷ []) ∷ (1 ∷ 1 ∷ 0 ∷ []) ∷ (1 ∷ 1 ∷ 1 ∷ []) ∷ (2 ∷ []) ∷ []
paths = refl
