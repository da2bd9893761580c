-- What passes the tests of names is a name.
use Rattle.std.proofs.Common.{◌≡◌, ◌&&◌, not, true, false, [], ◌∷◌, Option, Some, None, refl}
use Rattle.std.specs.List.{list_all}
use Rattle.std.specs.Prelude.{is_some}
use Rattle.std.proofs.lemmas.Bool.{and_parts, not-true, false≢true, true≢false}
use Rattle.glsl_ast.specs.Tree.{Text}
use Rattle.glsl_grammar.specs.Token.{Token}
use Rattle.glsl_grammar.specs.Lex.{is_digit, is_word, keywords, token_in}
use Rattle.glsl_grammar.specs.Spelled.{AreWordBytes, IsName}
use Rattle.glsl_grammar.proofs.Names.{name_by_table}
use Rattle.text_check.specs.Words.{is_keyword, is_name}

bytes_are : (w : Text) → list_all is_word w ≡ true → AreWordBytes w
bytes_are [] h = tt
bytes_are (c ∷ w) h = let k = and_parts (is_word c) (list_all is_word w) h in (k.0, bytes_are w k.1)

no_token : (o : Option Token) → is_some o ≡ false → o ≡ None
no_token None h = refl
no_token (Some t) h = absurd (true≢false h)

pub name_is : (w : Text) → is_name w ≡ true → IsName w
unfolding is_name
name_is [] h = absurd (false≢true h)
name_is (c ∷ w) h =
    let ends = and_parts (not (is_digit c) && (is_word c && list_all is_word w)) (not (is_keyword (c ∷ w))) h in
    let begins = and_parts (not (is_digit c)) (is_word c && list_all is_word w) ends.0 in
    let bytes = and_parts (is_word c) (list_all is_word w) begins.1 in
    name_by_table c w bytes.0 (not-true (is_digit c) begins.0) (bytes_are w bytes.1) (no_token (token_in keywords (c ∷ w)) (not-true (is_keyword (c ∷ w)) ends.1))
