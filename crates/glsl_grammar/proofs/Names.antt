-- Which words are names.
use Rattle.std.proofs.Common.{◌≡◌, ℕ, ◌<◌, ◌^◌, Bool, true, false, List, [], ◌∷◌, length, refl, ap, subst, ◌∙◌, arith, append-nil}
use Rattle.std.specs.Prelude.{codes, ◌==◌, ◌&&◌, not, None, is_none}
use Rattle.std.specs.Fmt.{decimal}
use Rattle.std.specs.Str.{bytes_eq}
use Rattle.std.proofs.lemmas.Bool.Decides.{nat_tests}
use Rattle.std.proofs.lemmas.Fmt.{decimal_nonempty}
use Rattle.std.proofs.lemmas.Bool.{and_parts, not-true}
use Rattle.std.proofs.Math.Bool.{and-false}
use Rattle.list_law.proofs.Options.{none_by}
use Rattle.glsl_ast.specs.Tree.{Text}
use Rattle.glsl_grammar.specs.Token.{Token}
use Rattle.glsl_grammar.specs.Lex.{is_digit, is_word, keywords, token_in, name_token, classify}
use Rattle.glsl_grammar.specs.Spelled.{AreWordBytes, IsName}
use Rattle.glsl_grammar.proofs.Words.{AreDigits, decimal_digits, word_bytes_of_digits}

-- a word that begins with no digit and is none of the keywords
pub name_by_table : (c : ℕ) (w : Text) → is_word c ≡ true → is_digit c ≡ false → AreWordBytes w → token_in keywords (c ∷ w) ≡ None → IsName (c ∷ w)
unfolding name_token
name_by_table c w is first bytes none = record { bytes = (is, bytes); token = rw (first, classify) (rw (none, name_token) refl) }

-- a test of a name, which computes at one that is written out
abbrev all_word_bytes : Text → Bool
all_word_bytes [] = true
all_word_bytes (c ∷ w) = is_word c && all_word_bytes w

unfoldable pub is_name : Text → Bool
is_name [] = false
is_name (c ∷ w) = (not (is_digit c) && is_none (token_in keywords (c ∷ w))) && (is_word c && all_word_bytes w)

word_bytes_from : (w : Text) → all_word_bytes w ≡ true → AreWordBytes w
word_bytes_from [] h = tt
word_bytes_from (c ∷ w) h = let k = and_parts (is_word c) (all_word_bytes w) h in (k.0, word_bytes_from w k.1)

pub name_by_test : (w : Text) → is_name w ≡ true → IsName w
unfolding is_name
name_by_test [] h = absurd cc
name_by_test (c ∷ w) h =
    let k = and_parts (not (is_digit c) && is_none (token_in keywords (c ∷ w))) (is_word c && all_word_bytes w) h in
    let front = and_parts (not (is_digit c)) (is_none (token_in keywords (c ∷ w))) k.0 in
    let bytes = and_parts (is_word c) (all_word_bytes w) k.1 in
    name_by_table c w bytes.0 (not-true (is_digit c) front.0) (word_bytes_from w bytes.1) (none_by (token_in keywords (c ∷ w)) front.1)

-- words that the text's parts are named by
pub main_is_name : IsName (codes "main")
unfolding is_name is_digit is_word
main_is_name = name_by_test (codes "main") refl

pub x_is_name : IsName (codes "x")
unfolding is_name is_digit is_word
x_is_name = name_by_test (codes "x") refl

pub y_is_name : IsName (codes "y")
unfolding is_name is_digit is_word
y_is_name = name_by_test (codes "y") refl

pub z_is_name : IsName (codes "z")
unfolding is_name is_digit is_word
z_is_name = name_by_test (codes "z") refl

pub global_id_is_name : IsName (codes "gl_GlobalInvocationID")
unfolding is_name is_digit is_word
global_id_is_name = name_by_test (codes "gl_GlobalInvocationID") refl

-- no keyword has a digit as its second byte
abbrev second_is_no_digit : Text → Bool
second_is_no_digit [] = true
second_is_no_digit (a ∷ []) = true
second_is_no_digit (a ∷ b ∷ w) = not (is_digit b)

abbrev no_second_digits : List (Text × Token) → Bool
no_second_digits [] = true
no_second_digits (row ∷ rows) = second_is_no_digit row.0 && no_second_digits rows

keywords_have_none : no_second_digits keywords ≡ true
unfolding is_digit
keywords_have_none = refl

digits_differ : (d b : ℕ) → is_digit d ≡ true → not (is_digit b) ≡ true → (d == b) ≡ false
unfolding is_digit
digits_differ d b h g = grind (arith, nat_tests)

second_differs : (c d : ℕ) (w k : Text) → is_digit d ≡ true → second_is_no_digit k ≡ true → bytes_eq (c ∷ d ∷ w) k ≡ false
second_differs c d w [] h g = refl
second_differs c d w (a ∷ []) h g = and-false (c == a)
second_differs c d w (a ∷ b ∷ k) h g = ap (λ t. (c == a) && (t && bytes_eq w k)) (digits_differ d b h g) ∙ and-false (c == a)

none_in : (rows : List (Text × Token)) (c d : ℕ) (w : Text) → is_digit d ≡ true → no_second_digits rows ≡ true → token_in rows (c ∷ d ∷ w) ≡ None
none_in [] c d w h g = refl
none_in (row ∷ rows) c d w h g =
    let k = and_parts (second_is_no_digit row.0) (no_second_digits rows) g in
    rw (second_differs c d w row.0 h k.0, token_in) (none_in rows c d w h k.1)

letter_and_digits : (c : ℕ) (w : Text) → is_word c ≡ true → is_digit c ≡ false → 0 < length w → AreDigits w → IsName (c ∷ w)
unfolding AreDigits
letter_and_digits c [] is first l h = absurd (omega arith)
letter_and_digits c (d ∷ w) is first l h = name_by_table c (d ∷ w) is first (word_bytes h) (none_in keywords c d w h.0 keywords_have_none)
  where
    word_bytes : AreDigits (d ∷ w) → AreWordBytes (d ∷ w)
    word_bytes g = subst AreWordBytes (append-nil (d ∷ w)) (word_bytes_of_digits (d ∷ w) [] g tt)

-- a letter or `_`, and a number
pub numbered_is_name : (c n : ℕ) → is_word c ≡ true → is_digit c ≡ false → n < 2 ^ 64 → IsName (c ∷ decimal n)
numbered_is_name c n is first h = letter_and_digits c (decimal n) is first (decimal_nonempty n h) (decimal_digits n h)

pub variable_is_name : (n : ℕ) → n < 2 ^ 64 → IsName (118 ∷ decimal n)
unfolding is_word is_digit
variable_is_name n h = numbered_is_name 118 n refl refl h

pub member_is_name : (n : ℕ) → n < 2 ^ 64 → IsName (109 ∷ decimal n)
unfolding is_word is_digit
member_is_name n h = numbered_is_name 109 n refl refl h
