-- What a parser of tokens is, and how parsers are put together.
use Rattle.std.specs.Prelude.{ℕ, zero, suc, true, false, List, [], ◌∷◌, Option, Some, None, option_and_then, bytes_eq}
use Rattle.glsl_ast.specs.Tree.{Text}
use Rattle.glsl_grammar.specs.Token.{Token, word, number, layout_, const_, in_, left_paren, right_paren, left_brace, right_brace, right_bracket, semicolon, comma, equals, colon}

-- what a part makes of the tokens, with those behind it; None where they do not begin with such a part
abbrev pub Parse : Type 0 → Type 0
Parse A = List Token → Option (A × List Token)

infixl 10 ◌>>=◌
abbrev pub ◌>>=◌ : {A B : Type 0} → Parse A → (A → Parse B) → Parse B
p >>= f = λ ts. option_and_then (λ r. f r.0 r.1) (p ts)

infixl 10 ◌>>◌
abbrev pub ◌>>◌ : {A B : Type 0} → Parse A → Parse B → Parse B
p >> q = p >>= (λ _. q)

abbrev pub pure : {A : Type 0} → A → Parse A
pure a = λ ts. Some (a, ts)

-- one token

abbrev pub open_paren : Parse (Unit {0})
open_paren (left_paren ∷ ts) = Some (tt, ts)
open_paren _ = None

abbrev pub close_paren : Parse (Unit {0})
close_paren (right_paren ∷ ts) = Some (tt, ts)
close_paren _ = None

abbrev pub open_brace : Parse (Unit {0})
open_brace (left_brace ∷ ts) = Some (tt, ts)
open_brace _ = None

abbrev pub close_brace : Parse (Unit {0})
close_brace (right_brace ∷ ts) = Some (tt, ts)
close_brace _ = None

abbrev pub close_bracket : Parse (Unit {0})
close_bracket (right_bracket ∷ ts) = Some (tt, ts)
close_bracket _ = None

abbrev pub see_semicolon : Parse (Unit {0})
see_semicolon (semicolon ∷ ts) = Some (tt, ts)
see_semicolon _ = None

abbrev pub see_comma : Parse (Unit {0})
see_comma (comma ∷ ts) = Some (tt, ts)
see_comma _ = None

abbrev pub see_colon : Parse (Unit {0})
see_colon (colon ∷ ts) = Some (tt, ts)
see_colon _ = None

abbrev pub see_equals : Parse (Unit {0})
see_equals (equals ∷ ts) = Some (tt, ts)
see_equals _ = None

abbrev pub see_layout : Parse (Unit {0})
see_layout (layout_ ∷ ts) = Some (tt, ts)
see_layout _ = None

abbrev pub see_in : Parse (Unit {0})
see_in (in_ ∷ ts) = Some (tt, ts)
see_in _ = None

abbrev pub see_const : Parse (Unit {0})
see_const (const_ ∷ ts) = Some (tt, ts)
see_const _ = None

abbrev pub read_number : Parse ℕ
read_number (number n ∷ ts) = Some (n, ts)
read_number _ = None

-- any word may be a name: only where a type or a name may stand does it matter whether a struct has it
abbrev pub read_name : Parse Text
read_name (word w ∷ ts) = Some (w, ts)
read_name _ = None

-- a word that the grammar spells out
abbrev pub see_word : Text → Parse (Unit {0})
see_word v (word w ∷ ts) = elim (bytes_eq v w) [ true ↦ Some (tt, ts) | false ↦ None ]
see_word v _ = None

-- repetitions

-- part, and the parts behind it
abbrev pub one_and : {A : Type 0} → Parse A → Parse (List A) → Parse (List A)
one_and part parts = do
  a ← part
  r ← parts
  pure (a ∷ r)

-- part* "}"
abbrev pub until_brace : {A : Type 0} → Parse A → ℕ → Parse (List A)
until_brace part zero ts = None
until_brace part (suc n) (right_brace ∷ ts) = Some ([], ts)
until_brace part (suc n) ts = one_and part (until_brace part n) ts

-- part+ "}"
abbrev pub some_until_brace : {A : Type 0} → Parse A → ℕ → Parse (List A)
some_until_brace part n = one_and part (until_brace part n)

-- ("," part)* ")"
abbrev pub until_paren : {A : Type 0} → Parse A → ℕ → Parse (List A)
until_paren part zero ts = None
until_paren part (suc n) (right_paren ∷ ts) = Some ([], ts)
until_paren part (suc n) (comma ∷ ts) = one_and part (until_paren part n) ts
until_paren part (suc n) _ = None

-- part ("," part)* ")"
abbrev pub some_until_paren : {A : Type 0} → Parse A → ℕ → Parse (List A)
some_until_paren part n = one_and part (until_paren part n)

-- [part ("," part)*] ")"
abbrev pub any_until_paren : {A : Type 0} → Parse A → ℕ → Parse (List A)
any_until_paren part n (right_paren ∷ ts) = Some ([], ts)
any_until_paren part n ts = some_until_paren part n ts
