-- A letter and digits are a name.
use Rattle.std.proofs.Common.{◌≡◌, ◌==◌, ◌||◌, ◌&&◌, not, ℕ, Bool, true, false, List, [], ◌∷◌, bytes_eq, refl, sym, ap, ◌∙◌, arith}
use Rattle.std.specs.Char.{is_ascii_digit}
use Rattle.std.specs.List.{list_all, list_any}
use Rattle.std.proofs.lemmas.Bool.{and_parts, false≢true}
use Rattle.std.proofs.Math.Bool.{and-false}
use Rattle.std.proofs.lemmas.Bool.Decides.{nat_tests}
use Rattle.glsl_ast.specs.Tree.{Text}
use Rattle.glsl_grammar.specs.Lex.{is_digit, is_word}
use Rattle.text_check.specs.Words.{is_keyword, is_name, is_letter_and_digits}
use Rattle.text_check.proofs.Keywords.{table, are_keywords}

digit_is_word : (c : ℕ) → is_digit c ≡ true → is_word c ≡ true
unfolding is_digit is_word
digit_is_word c h = grind (arith, nat_tests)

digits_are_words : (w : Text) → list_all is_digit w ≡ true → list_all is_word w ≡ true
digits_are_words [] h = refl
digits_are_words (c ∷ w) h =
    let k = and_parts (is_digit c) (list_all is_digit w) h in
    rw (digit_is_word c k.0) (digits_are_words w k.1)

digits_differ : (d b : ℕ) → is_ascii_digit d ≡ true → not (is_ascii_digit b) ≡ true → (d == b) ≡ false
digits_differ d b h g = grind (arith, nat_tests)

-- there is a second byte, and it is no digit
abbrev is_lettered : Text → Bool
is_lettered [] = false
is_lettered (a ∷ []) = false
is_lettered (a ∷ b ∷ w) = not (is_ascii_digit b)

-- it is no word of two bytes or more whose second is no digit
no_word : (c : ℕ) (w k : Text) → list_all is_ascii_digit w ≡ true → is_lettered k ≡ true → bytes_eq (c ∷ w) k ≡ false
no_word c w [] h l = absurd (false≢true l)
no_word c w (a ∷ []) h l = absurd (false≢true l)
no_word c [] (a ∷ b ∷ k) h l = and-false (c == a)
no_word c (d ∷ w) (a ∷ b ∷ k) h l =
    let digits = and_parts (is_ascii_digit d) (list_all is_ascii_digit w) h in
    ap (λ t. (c == a) && (t && bytes_eq w k)) (digits_differ d b digits.0 l) ∙ and-false (c == a)

among_none : (c : ℕ) (w : Text) (ks : List Text) → list_all is_ascii_digit w ≡ true → list_all is_lettered ks ≡ true → list_any (λ k. bytes_eq (c ∷ w) k) ks ≡ false
among_none c w [] h l = refl
among_none c w (k ∷ ks) h l =
    let words = and_parts (is_lettered k) (list_all is_lettered ks) l in
    ap (λ b. b || list_any (λ v. bytes_eq (c ∷ w) v) ks) (no_word c w k h words.0) ∙ among_none c w ks h words.1

is_no_keyword : (c : ℕ) (w : Text) → list_all is_digit w ≡ true → is_keyword (c ∷ w) ≡ false
unfolding is_digit
is_no_keyword c w h = sym (are_keywords (c ∷ w)) ∙ among_none c w table h refl

pub is_named : (w : Text) → is_letter_and_digits w ≡ true → is_name w ≡ true
unfolding is_name
is_named [] h = absurd (false≢true h)
is_named (c ∷ w) h =
    let ends = and_parts (is_word c && not (is_digit c)) (list_all is_digit w) h in
    let begins = and_parts (is_word c) (not (is_digit c)) ends.0 in
    rw (begins.1, begins.0, digits_are_words w ends.1, is_no_keyword c w ends.1) refl
