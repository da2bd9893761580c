-- Tests of names, and the names that structs have.
use Rattle.std.specs.Prelude.{◌&&◌, ◌||◌, not, Bool, false, [], ◌∷◌, is_some, bytes_eq, String}
use Rattle.std.specs.BTreeSet.{BTreeSet, contains_text}
use Rattle.std.specs.List.{list_all}
use Rattle.std.specs.Global.{Global}
use Rattle.glsl_ast.specs.Tree as tree
use Rattle.glsl_ast.specs.Tree.{Text, Decl}
use Rattle.glsl_grammar.specs.Lex.{is_digit, is_word, keywords, token_in}

-- one of the words that have a token of their own
abbrev pub is_keyword : Text → Bool
is_keyword w = is_some (token_in keywords w)

-- it begins, and not with a digit
abbrev pub begins_word : Text → Bool
begins_word [] = false
begins_word (c ∷ w) = not (is_digit c)

-- a letter or `_`, and digits behind it
abbrev pub is_letter_and_digits : Text → Bool
is_letter_and_digits [] = false
is_letter_and_digits (c ∷ w) = (is_word c && not (is_digit c)) && list_all is_digit w

-- a word that begins with no digit, and no keyword
unfoldable pub is_name : Text → Bool
is_name w = begins_word w && list_all is_word w && not (is_keyword w)

-- a set of names has this one
abbrev pub declares : BTreeSet (String Global) → Text → Bool
declares names w = contains_text names w

-- a name that no struct has, where this tells of each name whether one has it
abbrev pub is_free : (Text → Bool) → Text → Bool
is_free declared w = is_name w && not (declared w)

-- the names that structs have behind an item
abbrev pub declared_after : (Text → Bool) → Decl → Text → Bool
declared_after declared (tree.Decl.struct w fs) v = bytes_eq w v || declared v
declared_after declared _ v = declared v
