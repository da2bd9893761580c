-- The tokens of a text: words of letters, digits and `_`, numbers and signs, each the longest that fits. White space only separates.
use Rattle.std.specs.Prelude.{ℕ, ◌^◌, Bool, true, false, ◌&&◌, ◌||◌, List, [], ◌∷◌, ◌++◌, length, Option, Some, None, nat_lt, ◌==◌, codes}
use Rattle.std.specs.Char.{is_ascii_digit, is_ascii_hexdigit, is_ascii_alphanumeric}
use Rattle.std.specs.Int.{is_in_range}
use Rattle.std.specs.Str.{bytes_eq}
use Rattle.std.specs.Str.Parse.{digits_value}
use Rattle.glsl_ast.specs.Tree as tree
use Rattle.glsl_ast.specs.Tree.{Text}
use Rattle.glsl_ast.specs.declared.expressions.BinOp.TheVariants as op
use Rattle.glsl_ast.specs.declared.items.Qual.TheVariants as qual
use Rattle.glsl_grammar.specs.Token.{Token, word, number, unsigned, hexadecimal, truth, basic, qualifier, operator, struct_, layout_, const_, shared_, void_, in_, inout_, if_, else_, for_, switch_, case_, default_, break_, continue_, return_, length_, buffer_, uniform_, left_paren, right_paren, left_brace, right_brace, left_bracket, right_bracket, semicolon, comma, dot, equals, not_sign, flip_sign, question, colon, bad}

-- space, tab, line feed, vertical tab, form feed and carriage return
unfoldable pub is_white : ℕ → Bool
is_white c = c == 32 || is_in_range 9 13 c

unfoldable pub is_digit : ℕ → Bool
is_digit c = is_ascii_digit c

-- a letter, a digit or `_`
unfoldable pub is_word : ℕ → Bool
is_word c = is_ascii_alphanumeric c || c == 95

-- the words that have a token of their own
abbrev pub keywords : List (Text × Token)
keywords =
    (codes "struct", struct_)
    ∷ (codes "layout", layout_)
    ∷ (codes "const", const_)
    ∷ (codes "shared", shared_)
    ∷ (codes "void", void_)
    ∷ (codes "in", in_)
    ∷ (codes "inout", inout_)
    ∷ (codes "if", if_)
    ∷ (codes "else", else_)
    ∷ (codes "for", for_)
    ∷ (codes "switch", switch_)
    ∷ (codes "case", case_)
    ∷ (codes "default", default_)
    ∷ (codes "break", break_)
    ∷ (codes "continue", continue_)
    ∷ (codes "return", return_)
    ∷ (codes "true", truth true)
    ∷ (codes "false", truth false)
    ∷ (codes "length", length_)
    ∷ (codes "buffer", buffer_)
    ∷ (codes "uniform", uniform_)
    ∷ (codes "bool", basic tree.Base.boolean)
    ∷ (codes "int", basic tree.Base.int)
    ∷ (codes "uint", basic tree.Base.uint)
    ∷ (codes "bvec2", basic (tree.Base.bool_vec 2))
    ∷ (codes "bvec3", basic (tree.Base.bool_vec 3))
    ∷ (codes "bvec4", basic (tree.Base.bool_vec 4))
    ∷ (codes "ivec2", basic (tree.Base.int_vec 2))
    ∷ (codes "ivec3", basic (tree.Base.int_vec 3))
    ∷ (codes "ivec4", basic (tree.Base.int_vec 4))
    ∷ (codes "uvec2", basic (tree.Base.uint_vec 2))
    ∷ (codes "uvec3", basic (tree.Base.uint_vec 3))
    ∷ (codes "uvec4", basic (tree.Base.uint_vec 4))
    ∷ (codes "coherent", qualifier qual.Coherent)
    ∷ (codes "volatile", qualifier qual.Volatile)
    ∷ (codes "restrict", qualifier qual.Restrict)
    ∷ (codes "readonly", qualifier qual.Readonly)
    ∷ (codes "writeonly", qualifier qual.Writeonly)
    ∷ []

abbrev pub signs : List (Text × Token)
signs =
    (codes "<<", operator op.Shl)
    ∷ (codes ">>", operator op.Shr)
    ∷ (codes "<=", operator op.LessEqual)
    ∷ (codes ">=", operator op.GreaterEqual)
    ∷ (codes "==", operator op.Equal)
    ∷ (codes "!=", operator op.NotEqual)
    ∷ (codes "&&", operator op.Both)
    ∷ (codes "||", operator op.Either)
    ∷ (codes "+", operator op.Add)
    ∷ (codes "-", operator op.Sub)
    ∷ (codes "*", operator op.Mul)
    ∷ (codes "/", operator op.Div)
    ∷ (codes "%", operator op.Rem)
    ∷ (codes "&", operator op.And)
    ∷ (codes "|", operator op.Or)
    ∷ (codes "^", operator op.Xor)
    ∷ (codes "<", operator op.Less)
    ∷ (codes ">", operator op.Greater)
    ∷ (codes "(", left_paren)
    ∷ (codes ")", right_paren)
    ∷ (codes "{", left_brace)
    ∷ (codes "}", right_brace)
    ∷ (codes "[", left_bracket)
    ∷ (codes "]", right_bracket)
    ∷ (codes ";", semicolon)
    ∷ (codes ",", comma)
    ∷ (codes ".", dot)
    ∷ (codes "=", equals)
    ∷ (codes "!", not_sign)
    ∷ (codes "~", flip_sign)
    ∷ (codes "?", question)
    ∷ (codes ":", colon)
    ∷ []

-- the token of a spelling, if the table has it
abbrev pub token_in : List (Text × Token) → Text → Option Token
token_in [] w = None
token_in (row ∷ rows) w = elim (bytes_eq w row.0) [ true ↦ Some row.1 | false ↦ token_in rows w ]

-- a word that begins with no digit
unfoldable pub name_token : Text → Token
name_token w = elim (token_in keywords w) [ Some t ↦ t | None ↦ word w ]

-- a number must be below 2^32
unfoldable pub fitting : (ℕ → Token) → ℕ → Token
fitting make n = elim (nat_lt n (2 ^ 32)) [ true ↦ make n | false ↦ bad ]

abbrev pub all_hex_digits : Text → Bool
all_hex_digits [] = true
all_hex_digits (c ∷ w) = is_ascii_hexdigit c && all_hex_digits w

-- eight hexadecimal digits of either case
unfoldable pub hex_token : Text → Token
hex_token w = elim (length w == 8 && all_hex_digits w) [ true ↦ hexadecimal (digits_value 16 w) | false ↦ bad ]

-- decimal digits, and what stands behind them in the same word: nothing, or `u`, or an `x` behind a lone `0`
unfoldable pub number_parts : Text → Text → Token
number_parts digits [] = fitting number (digits_value 10 digits)
number_parts digits (c ∷ w) =
    elim (bytes_eq (c ∷ w) (codes "u")) [
      | true ↦ fitting unsigned (digits_value 10 digits)
      | false ↦ elim (bytes_eq digits (codes "0") && c == 120) [ true ↦ hex_token w | false ↦ bad ]
    ]

-- a word that begins with a digit; the first list holds the digits so far
abbrev pub number_token : Text → Text → Token
number_token digits [] = number_parts digits []
number_token digits (c ∷ w) = elim (is_digit c) [ true ↦ number_token (digits ++ c ∷ []) w | false ↦ number_parts digits (c ∷ w) ]

abbrev pub classify : Text → Token
classify [] = bad
classify (c ∷ w) = elim (is_digit c) [ true ↦ number_token [] (c ∷ w) | false ↦ name_token (c ∷ w) ]

-- a sign, or a byte that is none
unfoldable pub sign_token : Text → Token
sign_token w = elim (token_in signs w) [ Some t ↦ t | None ↦ bad ]

-- the tokens of a spelling that ends here: none where nothing was begun
unfoldable pub ended : Text → List Token → List Token
ended [] ts = ts
ended (c ∷ w) ts = elim (is_word c) [ true ↦ classify (c ∷ w) ∷ ts | false ↦ sign_token (c ∷ w) ∷ ts ]

unfoldable pub is_sign : Text → Bool
is_sign w = elim (token_in signs w) [ Some t ↦ true | None ↦ false ]

-- whether the next byte lengthens the spelling: a word by a word's byte, a sign where the longer is a sign too
unfoldable pub lengthens : Text → ℕ → Bool
lengthens [] c = false
lengthens (a ∷ w) c = elim (is_word a) [ true ↦ is_word c | false ↦ is_sign (a ∷ (w ++ c ∷ [])) ]

-- the spelling that a byte begins
unfoldable pub begun : ℕ → Text
begun c = elim (is_white c) [ true ↦ [] | false ↦ c ∷ [] ]

-- the tokens from here on, where the spelling that was begun has these bytes so far
abbrev pub lex_on : Text → List ℕ → List Token
lex_on w [] = ended w []
lex_on w (c ∷ s) = elim (lengthens w c) [ true ↦ lex_on (w ++ c ∷ []) s | false ↦ ended w (lex_on (begun c) s) ]

-- the tokens of the bytes behind the version line
unfoldable pub lex : List ℕ → List Token
lex s = lex_on [] s

-- what stands behind these bytes, where the list begins with them
abbrev pub after : Text → List ℕ → Option (List ℕ)
after [] s = Some s
after (b ∷ w) [] = None
after (b ∷ w) (c ∷ s) = elim (b == c) [ true ↦ after w s | false ↦ None ]

-- what stands behind a line feed or a carriage return
abbrev pub after_line_end : List ℕ → Option (List ℕ)
after_line_end [] = None
after_line_end (c ∷ s) = elim (c == 10 || c == 13) [ true ↦ Some s | false ↦ None ]

abbrev pub without_white : List ℕ → List ℕ
without_white [] = []
without_white (c ∷ s) = elim (is_white c) [ true ↦ without_white s | false ↦ c ∷ s ]

-- the bytes behind the line `#version 460`, where the text has nothing but white space before it
unfoldable pub after_version : List ℕ → Option (List ℕ)
after_version s = elim (after (codes "#version 460") (without_white s)) [ Some r ↦ after_line_end r | None ↦ None ]

-- the tokens behind the version line
unfoldable pub glsl_tokens : List ℕ → Option (List Token)
glsl_tokens s = elim (after_version s) [ Some r ↦ Some (lex r) | None ↦ None ]
