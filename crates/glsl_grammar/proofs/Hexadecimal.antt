-- Eight hexadecimal digits write their number.
use Rattle.std.proofs.Common.{◌≡◌, ℕ, ◌+◌, ◌*◌, ◌/◌, ◌%◌, ◌<◌, ◌^◌, true, List, ◌∷◌, ◌++◌, refl, ap, ◌∙◌, arith}
use Rattle.std.specs.Prelude.{codes}
use Rattle.std.specs.Char.{digit_value, is_ascii_hexdigit}
use Rattle.std.specs.Str.Parse.{digits_value}
use Rattle.std.proofs.lemmas.Bool.Decides.{nat_tests}
use Rattle.glsl_ast.specs.Tree.{Text}
use Rattle.glsl_grammar.specs.Token.{hexadecimal}
use Rattle.glsl_grammar.specs.Lex.{is_digit, is_word, number_parts, hex_token, all_hex_digits, classify, lex}
use Rattle.glsl_grammar.specs.Layout.{hex_digit, hex_text}
use Rattle.glsl_grammar.specs.Spelled.{AreWordBytes}
use Rattle.glsl_grammar.proofs.Words.{IsBoundary, lex_word_bytes}

record IsHexDigit (c d : ℕ) : Type 0 where
  word_byte : is_word c ≡ true
  digit : is_ascii_hexdigit c ≡ true
  value : digit_value c ≡ d

hex_digit_is : (d : ℕ) → d < 16 → IsHexDigit (hex_digit d) d
unfolding is_word
hex_digit_is d h = record { word_byte = grind (arith, nat_tests); digit = grind (arith, nat_tests); value = grind (arith, nat_tests) }

digits_join : (n : ℕ) → n < 2 ^ 32 → (((((((0 * 16 + n / 16 ^ 7 % 16) * 16 + n / 16 ^ 6 % 16) * 16 + n / 16 ^ 5 % 16) * 16 + n / 16 ^ 4 % 16) * 16 + n / 16 ^ 3 % 16) * 16 + n / 16 ^ 2 % 16) * 16 + n / 16 % 16) * 16 + n % 16 ≡ n
digits_join n h = omega arith

hex_at : (n : ℕ) → IsHexDigit (hex_digit (n % 16)) (n % 16)
hex_at n = hex_digit_is (n % 16) (omega arith)

after_prefix : (w : Text) → classify (48 ∷ 120 ∷ w) ≡ hex_token w
unfolding number_parts is_digit
after_prefix w = refl

hex_token_is : (n : ℕ) → n < 2 ^ 32 → hex_token (hex_text n) ≡ hexadecimal n
unfolding hex_token
hex_token_is n h =
    let a = hex_at (n / 16 ^ 7) in
    let b = hex_at (n / 16 ^ 6) in
    let c = hex_at (n / 16 ^ 5) in
    let d = hex_at (n / 16 ^ 4) in
    let e = hex_at (n / 16 ^ 3) in
    let f = hex_at (n / 16 ^ 2) in
    let g = hex_at (n / 16) in
    let k = hex_at n in
    let digits : all_hex_digits (hex_text n) ≡ true = rw (a.digit, b.digit, c.digit, d.digit, e.digit, f.digit, g.digit, k.digit) refl in
    let value : digits_value 16 (hex_text n) ≡ n = rw (a.value, b.value, c.value, d.value, e.value, f.value, g.value, k.value) (digits_join n h) in
    rw (digits, hex_token) (ap hexadecimal value)

pub lex_hex : (n : ℕ) (s : List ℕ) → n < 2 ^ 32 → IsBoundary s → lex ((codes "0x" ++ hex_text n) ++ s) ≡ hexadecimal n ∷ lex s
unfolding is_word
lex_hex n s h b =
    let a = hex_at (n / 16 ^ 7) in
    let l = hex_at (n / 16 ^ 6) in
    let c = hex_at (n / 16 ^ 5) in
    let d = hex_at (n / 16 ^ 4) in
    let e = hex_at (n / 16 ^ 3) in
    let f = hex_at (n / 16 ^ 2) in
    let g = hex_at (n / 16) in
    let k = hex_at n in
    let bytes : AreWordBytes (codes "0x" ++ hex_text n) = (refl, (refl, (a.word_byte, (l.word_byte, (c.word_byte, (d.word_byte, (e.word_byte, (f.word_byte, (g.word_byte, (k.word_byte, tt)))))))))) in
    lex_word_bytes (codes "0x" ++ hex_text n) (hexadecimal n) s (omega arith) bytes (after_prefix (hex_text n) ∙ hex_token_is n h) b
