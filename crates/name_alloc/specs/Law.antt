-- What names are: words that GLSL leaves free, and of one space no two are one.
use Rattle.std.specs.Prelude.{ℕ, ◌≡◌, ◌<◌, ◌==◌, ◌||◌, ◌⊎◌, true, false, Bool, Option, Some, length, codes}
use Rattle.std.specs.List.{AllByRecursion}
use Rattle.std.specs.Char.{is_ascii_alphanumeric}
use Rattle.name_alloc.specs.Reserved.{is_word, has_prefix}
use Rattle.name_alloc.specs.Base.{Text, begins_digit}
use Rattle.name_alloc.specs.Naming.{space_of}
use Rattle.name_alloc.specs.declared.claims.Key.{Key}
use Rattle.name_alloc.specs.declared.claims.Key.TheVariants.{Main}

-- a letter, a digit or `_`
abbrev pub is_word_byte : ℕ → Bool
is_word_byte c = is_ascii_alphanumeric c || c == 95

-- the text is a word, and begins with no digit
pub record IsWord (text : Text) : Type 0 where
  pub some : 0 < length text
  pub bytes : AllByRecursion (λ c. is_word_byte c ≡ true) text
  pub begins : begins_digit text ≡ false

-- the text is no reserved word, and begins with no reserved prefix
pub record IsFree (text : Text) : Type 0 where
  pub word : is_word text ≡ false
  pub prefix : has_prefix text ≡ false

-- the key may have this name: only `Main` has `main`
pub record IsNameFor (key : Key) (name : Text) : Type 0 where
  pub word : IsWord name
  pub free : ((key ≡ Main) × (name ≡ codes "main")) ⊎ IsFree name

-- each name is one that its key may have, and keys of one space have names of their own
pub record AreNames (found : Key → Option Text) : Type 0 where
  pub each : (key : Key) (name : Text) → found key ≡ Some name → IsNameFor key name
  pub apart : (a b : Key) (name : Text) → space_of a ≡ space_of b → found a ≡ Some name → found b ≡ Some name → a ≡ b
