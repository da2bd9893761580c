-- The base of a name: the text that the module gives, cleaned, or a word of the key's own.
use Rattle.std.specs.Prelude.{ℕ, ◌-◌, ◌==◌, ◌||◌, ◌&&◌, Bool, true, false, List, [], ◌∷◌, ◌++◌, Option, length, take, map, slice_get, codes, IsTrue, if◌then◌else◌}
use Rattle.std.specs.Option.{option_map_or}
use Rattle.std.specs.Char.{is_ascii_digit, is_ascii_alphanumeric}
use Rattle.std.specs.Fmt.{decimal}
use Rattle.name_alloc.specs.Reserved.{is_word, has_prefix}
use Rattle.name_alloc.specs.declared.claims.Key.{Key}
use Rattle.name_alloc.specs.declared.claims.Key.TheVariants.{Main, Id, Block, Member, Again, Leave, Fell, Captured, Spare}

abbrev pub Text : Type 0
Text = List ℕ

-- the byte, or `_` where it is no letter, digit or `_`
abbrev pub worded : ℕ → ℕ
worded c = if is_ascii_alphanumeric c then c else 95

-- the text without each `_` that stands behind another; the flag says that one stands before the text
abbrev pub single : Bool → Text → Text
single after [] = []
single after (c ∷ cs) = if after && c == 95 then single true cs else c ∷ single (c == 95) cs

-- whether the last byte is `_`
abbrev pub ends_low : Text → Bool
ends_low text = option_map_or (λ c. c == 95) (slice_get text (length text - 1)) false

-- the text without a `_` at its end
abbrev pub trimmed : Text → Text
trimmed text = if ends_low text then take (length text - 1) text else text

-- `_` for each byte that is no letter, digit or `_`, one for each run of them, 64 bytes, and no `_` at the end
unfoldable pub cleaned : Text → Text
cleaned given = trimmed (take 64 (single false (map worded given)))

-- the text, or this word with this number where it is empty
abbrev pub or_number : Text → Text → ℕ → Text
or_number [] word n = word ++ decimal n
or_number (c ∷ cs) word n = c ∷ cs

-- whether the text begins with a digit
abbrev pub begins_digit : Text → Bool
begins_digit [] = false
begins_digit (c ∷ cs) = is_ascii_digit c

-- whether the text is no name: it begins with a digit or with a reserved prefix, or is a reserved word
abbrev pub is_barred : Text → Bool
is_barred text = begins_digit text || (has_prefix text || is_word text)

-- the text, with `n_` before it where it is no name
abbrev pub guarded : Text → Text
guarded text = if is_barred text then codes "n_" ++ text else text

-- the letters that stand before numbers
abbrev pub is_letter : Text → Bool
is_letter (c ∷ []) = c == 118 || c == 109
is_letter _ = false

abbrev pub IsLetter : Text → Type 0
IsLetter text = IsTrue (is_letter text)

-- the base of what the module gives, or of this word and number where that is empty
abbrev pub given_base : Option Text → Text → ℕ → Text
given_base given word n = guarded (or_number (option_map_or cleaned given []) word n)

-- the base of a key: the module's name for what has one
unfoldable pub base_of : Key → Option Text → Text
base_of Main given = codes "main"
base_of (Id id) given = given_base given (codes "v") id.0
base_of (Block variable struct) given = given_base given (codes "v") struct.0
base_of (Member struct member) given = given_base given (codes "m") member
base_of (Again label) given = codes "again"
base_of (Leave label) given = codes "leave"
base_of (Fell label) given = codes "fell"
base_of (Captured chain number) given = codes "at"
base_of (Spare from to number) given = codes "spare"
