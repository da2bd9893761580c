-- The name that a claim gets is a name of the grammar.
use Rattle.std.proofs.Common.{◌≡◌, ◌&&◌, ◌||◌, ℕ, Bool, true, false, List, [], ◌∷◌, codes, Option, Some, None, inl, inr, refl, sym, ◌∙◌, subst, bytes_eq, arith}
use Rattle.std.specs.Prelude.{◌⊎◌}
use Rattle.std.specs.List.{AllByRecursion, list_all}
use Rattle.std.proofs.lemmas.Slice.Eq.{bytes_eq-Decides}
use Rattle.name_alloc.specs.declared.claims.Key.{Key}
use Rattle.name_alloc.specs.declared.claims.Key.TheVariants.{Main}
use Rattle.name_alloc.specs.Reserved.{is_word as is_reserved, has_prefix}
use Rattle.name_alloc.specs.Base.{begins_digit}
use Rattle.name_alloc.specs.Law.{is_word_byte, IsWord, IsFree, IsNameFor, AreNames}
use Rattle.glsl_ast.specs.Tree.{Text}
use Rattle.glsl_grammar.specs.Token.{Token}
use Rattle.glsl_grammar.specs.Lex.{is_digit, is_word, keywords, token_in}
use Rattle.glsl_grammar.specs.Spelled.{AreWordBytes, IsName}
use Rattle.glsl_grammar.proofs.Names.{name_by_table, main_is_name}
use Rattle.list_law.proofs.Tests.{neither}

-- each word that has a token of its own is reserved, or begins with a reserved prefix
abbrev is_barred : Text × Token → Bool
is_barred row = is_reserved row.0 || has_prefix row.0

all_barred : list_all is_barred keywords ≡ true
unfolding is_reserved has_prefix
all_barred = refl

none_of : (rows : List (Text × Token)) (w : Text) → list_all is_barred rows ≡ true → IsFree w → token_in rows w ≡ None
none_of [] w barred free = refl
none_of (row ∷ rows) w barred free = by_test (bytes_eq w row.0) refl (is_barred row) refl barred (none_of rows w)
  where
    by_test : (b : Bool) → bytes_eq w row.0 ≡ b → (r : Bool) → is_barred row ≡ r → (r && list_all is_barred rows) ≡ true → (list_all is_barred rows ≡ true → IsFree w → token_in rows w ≡ None) → elim b as (λ b. Option Token) [ true ↦ Some row.1 | false ↦ token_in rows w ] ≡ None
    by_test b same false is e later = cc
    by_test false same true is e later = later e free
    by_test true same true is e later =
        let own : w ≡ row.0 = (bytes_eq-Decides w row.0).0 same in
        absurd (neither (is_reserved row.0) (has_prefix row.0) (subst (λ (t : Text). is_reserved t ≡ false) own free.word) (subst (λ (t : Text). has_prefix t ≡ false) own free.prefix) is)

same_byte : (c : ℕ) → is_word_byte c ≡ is_word c
unfolding is_word
same_byte c = refl

same_bytes : (w : Text) → AllByRecursion (λ c. is_word_byte c ≡ true) w → AreWordBytes w
same_bytes [] bytes = tt
same_bytes (c ∷ w) bytes = (sym (same_byte c) ∙ bytes.0, same_bytes w bytes.1)

first_letter : (c : ℕ) (w : Text) → begins_digit (c ∷ w) ≡ false → is_digit c ≡ false
unfolding is_digit
first_letter c w begins = begins

-- a word that GLSL leaves free is a name
pub free_is_name : (w : Text) → IsWord w → IsFree w → IsName w
free_is_name [] word free = absurd (let some = word.some in omega (arith, some))
free_is_name (c ∷ w) word free =
    let bytes = same_bytes (c ∷ w) word.bytes in
    name_by_table c w bytes.0 (first_letter c w word.begins) bytes.1 (none_of keywords (c ∷ w) all_barred free)

-- so is each name that a key may have
pub name_is_name : (key : Key) (w : Text) → IsNameFor key w → IsName w
name_is_name key w name = by_form name.free
  where
    by_form : ((key ≡ Main) × (w ≡ codes "main")) ⊎ IsFree w → IsName w
    by_form (inl main) = subst IsName (sym main.1) main_is_name
    by_form (inr free) = free_is_name w name.word free

-- and each name that is given
pub given_is_name : (found : Key → Option Text) → AreNames found → (key : Key) (w : Text) → found key ≡ Some w → IsName w
given_is_name found names key w is = name_is_name key w (names.each key w is)
