-- Bases are words.
use Rattle.std.proofs.Common.{◌≡◌, ◌<◌, ◌-◌, ◌/◌, ◌%◌, ◌==◌, ◌&&◌, ◌||◌, ◌++◌, ℕ, zero, suc, Bool, true, false, [], ◌∷◌, Option, None, Some, length, take, map, codes, refl, inl, inr, arith}
use Rattle.std.proofs.Math.Nat.{mod-lt}
use Rattle.std.proofs.lemmas.Bool.{cases_Bool, or_parts}
use Rattle.std.proofs.lemmas.Bool.Decides.{nat_tests}
use Rattle.std.proofs.lemmas.List.{length-append}
use Rattle.std.proofs.lemmas.Str.Ascii.{IsAscii-nil, IsAscii-cons}
use Rattle.std.specs.Char.{is_ascii_alphanumeric}
use Rattle.std.specs.Fmt.{decimal, digits, digits_onto, digit_glyph}
use Rattle.std.specs.List.{AllByRecursion}
use Rattle.std.specs.Option.{option_map_or}
use Rattle.std.specs.Str.{IsAscii}
use Rattle.name_alloc.specs.Base.{Text, worded, single, ends_low, trimmed, cleaned, or_number, begins_digit, is_barred, guarded, given_base, base_of}
use Rattle.name_alloc.specs.Reserved.{has_prefix, is_word}
use Rattle.name_alloc.specs.Law.{is_word_byte, IsWord}
use Rattle.name_alloc.specs.Naming.{numbered}
use Rattle.name_alloc.specs.declared.claims.Key.{Key}
use Rattle.name_alloc.specs.declared.claims.Key.TheVariants.{Main, Id, Block, Member, Again, Leave, Fell, Captured, Spare}

-- each byte is a letter, a digit or `_`
abbrev pub AreWordBytes : Text → Type 0
AreWordBytes text = AllByRecursion (λ c. is_word_byte c ≡ true) text

pub bytes_append : (a b : Text) → AreWordBytes a → AreWordBytes b → AreWordBytes (a ++ b)
bytes_append [] b h k = k
bytes_append (c ∷ a) b h k = (h.0, bytes_append a b h.1 k)

pub bytes_take : (n : ℕ) (a : Text) → AreWordBytes a → AreWordBytes (take n a)
bytes_take zero a h = tt
bytes_take (suc n) [] h = tt
bytes_take (suc n) (c ∷ a) h = (h.0, bytes_take n a h.1)

-- so are those of a number
glyph_is : (d : ℕ) → d < 10 → is_word_byte (digit_glyph false d) ≡ true
glyph_is d h = grind (arith, nat_tests, h)

onto_bytes : (k n : ℕ) (acc : Text) → AreWordBytes acc → AreWordBytes (digits_onto k 10 false n acc)
onto_bytes zero n acc h = h
onto_bytes (suc k) n acc h =
    let own : AreWordBytes (digit_glyph false (n % 10) ∷ acc) = (glyph_is (n % 10) (mod-lt n (omega arith)), h) in
    elim (cases_Bool (n / 10 == 0)) [
      | inl e ↦ rw e own
      | inr e ↦ rw e (onto_bytes k (n / 10) (digit_glyph false (n % 10) ∷ acc) own)
    ]

pub decimal_bytes : (n : ℕ) → AreWordBytes (decimal n)
unfolding digits
decimal_bytes n = onto_bytes 64 n [] tt

-- and of what is cleaned
worded_is : (c : ℕ) → is_word_byte (worded c) ≡ true
worded_is c =
    elim (cases_Bool (is_ascii_alphanumeric c)) [
      | inl e ↦ rw (e, e) refl
      | inr e ↦ rw e refl
    ]

map_bytes : (text : Text) → AreWordBytes (map worded text)
map_bytes [] = tt
map_bytes (c ∷ text) = (worded_is c, map_bytes text)

single_bytes : (after : Bool) (text : Text) → AreWordBytes text → AreWordBytes (single after text)
single_bytes after [] h = tt
single_bytes after (c ∷ text) h =
    elim (cases_Bool (after && c == 95)) [
      | inl e ↦ rw e (single_bytes true text h.1)
      | inr e ↦ rw e (h.0, single_bytes (c == 95) text h.1)
    ]

trimmed_bytes : (text : Text) → AreWordBytes text → AreWordBytes (trimmed text)
trimmed_bytes text h =
    elim (cases_Bool (ends_low text)) [
      | inl e ↦ rw e (bytes_take (length text - 1) text h)
      | inr e ↦ rw e h
    ]

pub kept_bytes : (given : Text) → AreWordBytes (trimmed (take 64 (single false (map worded given))))
kept_bytes given = trimmed_bytes (take 64 (single false (map worded given))) (bytes_take 64 (single false (map worded given)) (single_bytes false (map worded given) (map_bytes given)))

cleaned_bytes : (given : Text) → AreWordBytes (cleaned given)
unfolding cleaned
cleaned_bytes given = kept_bytes given

byte_small : (c : ℕ) → is_word_byte c ≡ true → c < 128
byte_small c h = grind (arith, nat_tests, h)

pub bytes_ascii : (text : Text) → AreWordBytes text → IsAscii text
bytes_ascii [] h = IsAscii-nil
bytes_ascii (c ∷ text) h = IsAscii-cons c text (byte_small c h.0) (bytes_ascii text h.1)

-- a base is no empty text
or_number_bytes : (text word : Text) (n : ℕ) → AreWordBytes text → AreWordBytes word → AreWordBytes (or_number text word n)
or_number_bytes [] word n h k = bytes_append word (decimal n) k (decimal_bytes n)
or_number_bytes (c ∷ text) word n h k = h

or_number_some : (text : Text) (w : ℕ) (word : Text) (n : ℕ) → 0 < length (or_number text (w ∷ word) n)
or_number_some [] w word n = omega arith
or_number_some (c ∷ text) w word n = omega arith

-- a text that is no name gets `n_`
begins_of : (text : Text) → is_barred text ≡ false → begins_digit text ≡ false
begins_of text h = (or_parts (begins_digit text) (has_prefix text || is_word text) h).0

pub guarded_word : (text : Text) → 0 < length text → AreWordBytes text → IsWord (guarded text)
guarded_word text some bytes =
    elim (cases_Bool (is_barred text)) [
      | inl e ↦ rw e (record { some = omega arith; bytes = (refl, (refl, bytes)); begins = refl })
      | inr e ↦ rw e (record { some = some; bytes = bytes; begins = begins_of text e })
    ]

option_bytes : (given : Option Text) → AreWordBytes (option_map_or cleaned given [])
option_bytes None = tt
option_bytes (Some text) = cleaned_bytes text

given_word : (given : Option Text) (w : ℕ) (n : ℕ) → is_word_byte w ≡ true → IsWord (given_base given (w ∷ []) n)
given_word given w n is = guarded_word (or_number (option_map_or cleaned given []) (w ∷ []) n) (or_number_some (option_map_or cleaned given []) w [] n) (or_number_bytes (option_map_or cleaned given []) (w ∷ []) n (option_bytes given) (is, tt))

plain : (text : Text) → 0 < length text → AreWordBytes text → begins_digit text ≡ false → IsWord text
plain text some bytes begins = record { some = some; bytes = bytes; begins = begins }

pub base_word : (key : Key) (given : Option Text) → IsWord (base_of key given)
unfolding base_of
base_word Main given = plain (codes "main") (omega arith) (refl, (refl, (refl, (refl, tt)))) refl
base_word (Id id) given = given_word given 118 id.0 refl
base_word (Block variable struct) given = given_word given 118 struct.0 refl
base_word (Member struct member) given = given_word given 109 member refl
base_word (Again label) given = plain (codes "again") (omega arith) (refl, (refl, (refl, (refl, (refl, tt))))) refl
base_word (Leave label) given = plain (codes "leave") (omega arith) (refl, (refl, (refl, (refl, (refl, tt))))) refl
base_word (Fell label) given = plain (codes "fell") (omega arith) (refl, (refl, (refl, (refl, tt)))) refl
base_word (Captured chain number) given = plain (codes "at") (omega arith) (refl, (refl, tt)) refl
base_word (Spare from to number) given = plain (codes "spare") (omega arith) (refl, (refl, (refl, (refl, (refl, tt))))) refl

-- a number behind a word makes a word
begins_behind : (a b : Text) → 0 < length a → begins_digit a ≡ false → begins_digit (a ++ b) ≡ false
begins_behind [] b some h = absurd (omega (arith, some))
begins_behind (c ∷ a) b some h = h

pub numbered_word : (base : Text) (n : ℕ) → IsWord base → IsWord (numbered base n)
unfolding numbered
numbered_word base n word = record {
  some = omega (arith, word.some, length-append base (codes "_" ++ decimal n));
  bytes = bytes_append base (codes "_" ++ decimal n) word.bytes (bytes_append (codes "_") (decimal n) (refl, tt) (decimal_bytes n));
  begins = begins_behind base (codes "_" ++ decimal n) word.some word.begins;
}
