-- How a word, a number or a sign is read before what follows it.
use Rattle.std.proofs.Common.{◌≡◌, ℕ, ◌+◌, ◌%◌, ◌<◌, ◌^◌, true, false, List, [], ◌∷◌, ◌++◌, length, refl, sym, ap, subst, ◌∙◌, arith, append_assoc, append-nil, length-append}
use Rattle.std.specs.Prelude.{nat_lt, codes}
use Rattle.std.specs.Fmt.{decimal}
use Rattle.std.specs.Str.Parse.{digits_value}
use Rattle.std.proofs.lemmas.Fmt.{decimal_by_steps, decimal_is_IsNumeral}
use Rattle.std.proofs.lemmas.Bool.Decides.{nat_tests}
use Rattle.glsl_ast.specs.Tree.{Text}
use Rattle.glsl_grammar.specs.Token.{Token, word, number, unsigned}
use Rattle.glsl_grammar.specs.Lex.{is_white, is_digit, is_word, number_parts, number_token, fitting, classify, ended, lengthens, begun, lex_on, lex}
use Rattle.glsl_grammar.specs.Spelled.{AreWordBytes, IsName}

-- the text ends here, or goes on with a byte that is in no word
abbrev pub IsBoundary : List ℕ → Type 0
IsBoundary [] = Unit {0}
IsBoundary (c ∷ s) = is_word c ≡ false

word_is_not_white : (c : ℕ) → is_word c ≡ true → is_white c ≡ false
unfolding is_word is_white
word_is_not_white c h = grind (arith, nat_tests)

begun_word : (c : ℕ) → is_word c ≡ true → begun c ≡ c ∷ []
unfolding begun
begun_word c h = rw (word_is_not_white c h, begun) refl

lengthens_word : (a c : ℕ) (w : Text) → is_word a ≡ true → lengthens (a ∷ w) c ≡ is_word c
unfolding lengthens
lengthens_word a c w h = rw (h, lengthens) refl

lengthens_nothing : (c : ℕ) → lengthens [] c ≡ false
unfolding lengthens
lengthens_nothing c = refl

ended_nothing : (ts : List Token) → ended [] ts ≡ ts
unfolding ended
ended_nothing ts = refl

ended_word : (a : ℕ) (w : Text) (ts : List Token) → is_word a ≡ true → ended (a ∷ w) ts ≡ classify (a ∷ w) ∷ ts
unfolding ended
ended_word a w ts h = rw (h, ended) refl

pub lex_nothing : lex [] ≡ []
unfolding lex ended
lex_nothing = refl

lex_begins : (c : ℕ) (s : List ℕ) → lex (c ∷ s) ≡ lex_on (begun c) s
unfolding lex lengthens ended
lex_begins c s = refl

-- the bytes of a word go into it
lex_bytes : (a : ℕ) (v w : Text) (s : List ℕ) → is_word a ≡ true → AreWordBytes w → lex_on (a ∷ v) (w ++ s) ≡ lex_on (a ∷ (v ++ w)) s
lex_bytes a v [] s is h = ap (λ l. lex_on (a ∷ l) s) (sym (append-nil v))
lex_bytes a v (c ∷ w) s is h = rw (lengthens_word a c v is, h.0, lex_on) (lex_bytes a (v ++ c ∷ []) w s is h.1 ∙ ap (λ l. lex_on (a ∷ l) s) (append_assoc v (c ∷ []) w))

-- a word ends at a boundary
pub word_ends : (a : ℕ) (w : Text) (s : List ℕ) → is_word a ≡ true → IsBoundary s → lex_on (a ∷ w) s ≡ classify (a ∷ w) ∷ lex s
word_ends a w [] is h = ended_word a w [] is ∙ ap (λ l. classify (a ∷ w) ∷ l) (sym lex_nothing)
word_ends a w (c ∷ s) is h = rw (lengthens_word a c w is, h, lex_on) (ended_word a w (lex_on (begun c) s) is ∙ ap (λ l. classify (a ∷ w) ∷ l) (sym (lex_begins c s)))

pub lex_word_bytes : (w : Text) (t : Token) (s : List ℕ) → 0 < length w → AreWordBytes w → classify w ≡ t → IsBoundary s → lex (w ++ s) ≡ t ∷ lex s
lex_word_bytes [] t s long h e b = absurd (omega arith)
lex_word_bytes (c ∷ w) t s long h e b =
    lex_begins c (w ++ s)
    ∙ ap (λ l. lex_on l (w ++ s)) (begun_word c h.0)
    ∙ lex_bytes c [] w s h.0 h.1
    ∙ word_ends c w s h.0 b
    ∙ ap (λ x. x ∷ lex s) e

pub name_is_long : (w : Text) → classify w ≡ word w → 0 < length w
name_is_long [] e = cc
name_is_long (c ∷ w) e = omega arith

pub lex_name : (w : Text) (s : List ℕ) → IsName w → IsBoundary s → lex (w ++ s) ≡ word w ∷ lex s
lex_name w s h b = lex_word_bytes w (word w) s (name_is_long w h.token) h.bytes h.token b

-- decimal digits
unfoldable pub AreDigits : Text → Type 0
AreDigits [] = Unit {0}
AreDigits (c ∷ w) = (is_digit c ≡ true) × AreDigits w

digits_on : (v w : Text) → AreDigits v → AreDigits w → AreDigits (v ++ w)
unfolding AreDigits
digits_on [] w g h = h
digits_on (c ∷ v) w g h = (g.0, digits_on v w g.1 h)

digit_is : (d : ℕ) → d < 10 → is_digit (48 + d) ≡ true
unfolding is_digit
digit_is d h = grind (arith, nat_tests)

pub decimal_digits : (n : ℕ) → n < 2 ^ 64 → AreDigits (decimal n)
unfolding AreDigits
decimal_digits n h = decimal_by_steps (λ m ds. AreDigits ds) (λ m l. (digit_is m l, tt)) (λ m ds l g. digits_on ds _ g (digit_is (m % 10) (omega arith), tt)) n h

word_byte_of_digit : (c : ℕ) → is_digit c ≡ true → is_word c ≡ true
unfolding is_word is_digit
word_byte_of_digit c h = grind (arith, nat_tests)

pub word_bytes_of_digits : (w v : Text) → AreDigits w → AreWordBytes v → AreWordBytes (w ++ v)
unfolding AreDigits
word_bytes_of_digits [] v h g = g
word_bytes_of_digits (c ∷ w) v h g = (word_byte_of_digit c h.0, word_bytes_of_digits w v h.1 g)

-- the digits of a word go into the first part of a number
number_digits : (v w r : Text) → AreDigits w → number_token v (w ++ r) ≡ number_token (v ++ w) r
unfolding AreDigits
number_digits v [] r h = ap (λ l. number_token l r) (sym (append-nil v))
number_digits v (c ∷ w) r h = rw (h.0, number_token) (number_digits (v ++ c ∷ []) w r h.1 ∙ ap (λ l. number_token l r) (append_assoc v (c ∷ []) w))

classify_digits : (w r : Text) → 0 < length w → AreDigits w → classify (w ++ r) ≡ number_token w r
unfolding AreDigits
classify_digits [] r l h = absurd (omega arith)
classify_digits (c ∷ w) r l h = rw (h.0, classify) (number_digits [] (c ∷ w) r h)

pub decimal_bytes : (n : ℕ) → n < 2 ^ 64 → AreWordBytes (decimal n)
decimal_bytes n h = subst AreWordBytes (append-nil (decimal n)) (word_bytes_of_digits (decimal n) [] (decimal_digits n h) tt)

pub fitting_is : (make : ℕ → Token) (n : ℕ) → n < 2 ^ 32 → fitting make n ≡ make n
unfolding fitting
fitting_is make n h = let e : nat_lt n (2 ^ 32) ≡ true = grind (arith, nat_tests) in rw (e, fitting)

no_parts : (w : Text) → number_token w [] ≡ fitting number (digits_value 10 w)
unfolding number_parts
no_parts w = refl

suffix_part : (w : Text) → number_token w (codes "u") ≡ fitting unsigned (digits_value 10 w)
unfolding number_parts is_digit
suffix_part w = refl

module _ (n : ℕ) (s : List ℕ) (fits : n < 2 ^ 32) (b : IsBoundary s) where
  wide : n < 2 ^ 64
  wide = omega (arith, fits)

  pub lex_decimal : lex (decimal n ++ s) ≡ number n ∷ lex s
  lex_decimal =
      let ds = decimal n in
      let is = decimal_is_IsNumeral n wide in
      let digits = decimal_digits n wide in
      let token : classify (ds ++ []) ≡ number n = classify_digits ds [] is.0.0 digits ∙ no_parts ds ∙ ap (fitting number) is.1 ∙ fitting_is number n fits in
      ap (λ l. lex (l ++ s)) (sym (append-nil ds))
      ∙ lex_word_bytes (ds ++ []) (number n) s (omega (arith, is.0.0, length-append ds [])) (word_bytes_of_digits ds [] digits tt) token b

  pub lex_suffixed : lex ((decimal n ++ codes "u") ++ s) ≡ unsigned n ∷ lex s
  unfolding is_word
  lex_suffixed =
      let ds = decimal n in
      let is = decimal_is_IsNumeral n wide in
      let digits = decimal_digits n wide in
      let token : classify (ds ++ codes "u") ≡ unsigned n = classify_digits ds (codes "u") is.0.0 digits ∙ suffix_part ds ∙ ap (fitting unsigned) is.1 ∙ fitting_is unsigned n fits in
      lex_word_bytes (ds ++ codes "u") (unsigned n) s (omega (arith, is.0.0, length-append ds (codes "u"))) (word_bytes_of_digits ds (codes "u") digits (refl, tt)) token b
