-- Bases and names with numbers are not reserved.
use Rattle.std.proofs.Common.{◌≡◌, ◌==◌, ◌&&◌, ◌||◌, ◌⊎◌, ◌++◌, ℕ, Bool, true, false, List, [], ◌∷◌, Option, codes, refl, ap, sym, ◌∙◌, inl, inr, subst, bytes_eq, nat_eq}
use Rattle.std.proofs.lemmas.Bool.{cases_Bool, false≢true, or_parts}
use Rattle.std.proofs.lemmas.Bool.Decides.{eqb_tells}
use Rattle.std.specs.Fmt.{decimal}
use Rattle.std.specs.List.{list_any, starts_with}
use Rattle.std.specs.Option.{option_map_or}
use Rattle.name_alloc.specs.Reserved.{prefixes, words, has_prefix, is_word}
use Rattle.name_alloc.specs.Base.{Text, begins_digit, is_barred, guarded, or_number, cleaned, base_of}
use Rattle.name_alloc.specs.Law.{IsFree}
use Rattle.name_alloc.specs.Naming.{numbered}
use Rattle.name_alloc.specs.declared.claims.Key.{Key}
use Rattle.name_alloc.specs.declared.claims.Key.TheVariants.{Main, Id, Block, Member, Again, Leave, Fell, Captured, Spare}

-- whether there is a `_` in a text
abbrev has_low : Text → Bool
has_low text = list_any (λ c. c == 95) text

-- a prefix without `_` of a text with a `_` lies before it
starts_before : (base rest p : Text) → has_low p ≡ false → starts_with nat_eq (base ++ 95 ∷ rest) p ≡ starts_with nat_eq base p
starts_before base rest [] h = refl
starts_before [] rest (x ∷ p) h = let e : (x == 95) ≡ false = (or_parts (x == 95) (has_low p) h).0 in rw e refl
starts_before (b ∷ base) rest (x ∷ p) h = ap (λ s. (x == b) && s) (starts_before base rest p (or_parts (x == 95) (has_low p) h).1)

any_before : (base rest : Text) (ps : List Text) → list_any has_low ps ≡ false → list_any (starts_with nat_eq (base ++ 95 ∷ rest)) ps ≡ list_any (starts_with nat_eq base) ps
any_before base rest [] h = refl
any_before base rest (p ∷ ps) h =
    let low = or_parts (has_low p) (list_any has_low ps) h in
    ap (λ s. s || list_any (starts_with nat_eq (base ++ 95 ∷ rest)) ps) (starts_before base rest p low.0) ∙ ap (λ s. starts_with nat_eq base p || s) (any_before base rest ps low.1)

-- a word without `_` is none with one
word_apart : (base rest w : Text) → has_low w ≡ false → bytes_eq (base ++ 95 ∷ rest) w ≡ false
word_apart [] rest [] h = refl
word_apart [] rest (x ∷ w) h =
    elim (eqb_tells 95 x) [
      | inl e ↦ absurd (false≢true (sym (or_parts (x == 95) (has_low w) h).0 ∙ subst (λ y. (y == 95) ≡ true) e.1 refl))
      | inr e ↦ rw e.0 refl
    ]
word_apart (b ∷ base) rest [] h = refl
word_apart (b ∷ base) rest (x ∷ w) h =
    let later = word_apart base rest w (or_parts (x == 95) (has_low w) h).1 in
    elim (cases_Bool (b == x)) [
      | inl e ↦ rw e later
      | inr e ↦ rw e refl
    ]

words_apart : (base rest : Text) (ws : List Text) → list_any has_low ws ≡ false → list_any (bytes_eq (base ++ 95 ∷ rest)) ws ≡ false
words_apart base rest [] h = refl
words_apart base rest (w ∷ ws) h =
    let low = or_parts (has_low w) (list_any has_low ws) h in
    let here : bytes_eq (base ++ 95 ∷ rest) w ≡ false = word_apart base rest w low.0 in
    rw here (words_apart base rest ws low.1)

-- only `gl` and a `_` make the prefix that has one, and `gl` is a word
gl_word : is_word (codes "gl") ≡ true
unfolding is_word
gl_word = refl

gl_apart : (base rest : Text) → is_word base ≡ false → starts_with nat_eq base (codes "gl_") ≡ false → starts_with nat_eq (base ++ 95 ∷ rest) (codes "gl_") ≡ false
gl_apart [] rest word h = refl
gl_apart (a ∷ []) rest word h =
    elim (cases_Bool (103 == a)) [
      | inl e ↦ rw e refl
      | inr e ↦ rw e refl
    ]
gl_apart (a ∷ (b ∷ [])) rest word h =
    elim (eqb_tells 103 a) [
      | inl e ↦
          elim (eqb_tells 108 b) [
            | inl f ↦ absurd (false≢true (sym word ∙ subst (λ x. is_word (x ∷ (b ∷ [])) ≡ true) e.1 (subst (λ y. is_word (103 ∷ (y ∷ [])) ≡ true) f.1 gl_word)))
            | inr f ↦ rw (e.0, f.0) refl
          ]
      | inr e ↦ rw e.0 refl
    ]
gl_apart (a ∷ (b ∷ (c ∷ base))) rest word h = h

abbrev drop_first : List Text → List Text
drop_first [] = []
drop_first (p ∷ ps) = ps

prefix_apart : (base rest : Text) → is_word base ≡ false → has_prefix base ≡ false → has_prefix (base ++ 95 ∷ rest) ≡ false
unfolding has_prefix
prefix_apart base rest word h =
    let parts = or_parts (starts_with nat_eq base (codes "gl_")) (list_any (starts_with nat_eq base) (drop_first prefixes)) h in
    let gl : starts_with nat_eq (base ++ 95 ∷ rest) (codes "gl_") ≡ false = gl_apart base rest word parts.0 in
    rw gl (any_before base rest (drop_first prefixes) refl ∙ parts.1)

free_behind : (base rest : Text) → is_word base ≡ false → has_prefix base ≡ false → IsFree (base ++ 95 ∷ rest)
unfolding is_word
free_behind base rest word prefix = record { word = words_apart base rest words refl; prefix = prefix_apart base rest word prefix }

pub numbered_free : (base : Text) (n : ℕ) → IsFree base → IsFree (numbered base n)
unfolding numbered
numbered_free base n free = free_behind base (decimal n) free.word free.prefix

-- `main` with a number is free too
main_prefix : (rest : Text) → has_prefix (codes "main" ++ 95 ∷ rest) ≡ false
unfolding has_prefix
main_prefix rest = refl

main_word : (rest : Text) → is_word (codes "main" ++ 95 ∷ rest) ≡ false
unfolding is_word
main_word rest = words_apart (codes "main") rest words refl

pub main_free : (n : ℕ) → IsFree (numbered (codes "main") n)
unfolding numbered
main_free n = record { word = main_word (decimal n); prefix = main_prefix (decimal n) }

-- so are texts that begin with `n_`
low_prefix : (text : Text) → has_prefix (110 ∷ (95 ∷ text)) ≡ false
unfolding has_prefix
low_prefix text = refl

low_word : (text : Text) → is_word (110 ∷ (95 ∷ text)) ≡ false
unfolding is_word
low_word text = refl

pub guarded_free : (text : Text) → IsFree (guarded text)
guarded_free text =
    elim (cases_Bool (is_barred text)) [
      | inl e ↦ rw e (record { word = low_word text; prefix = low_prefix text })
      | inr e ↦
          let later = or_parts (begins_digit text) (has_prefix text || is_word text) e in
          let parts = or_parts (has_prefix text) (is_word text) later.1 in
          rw e (record { word = parts.1; prefix = parts.0 })
    ]

-- and the bases of keys, but for that of the entry point
pub base_free : (key : Key) (given : Option Text) → ((key ≡ Main) × (base_of key given ≡ codes "main")) ⊎ IsFree (base_of key given)
unfolding base_of has_prefix is_word
base_free Main given = inl (refl, refl)
base_free (Id id) given = inr (guarded_free (or_number (option_map_or cleaned given []) (codes "v") id.0))
base_free (Block variable struct) given = inr (guarded_free (or_number (option_map_or cleaned given []) (codes "v") struct.0))
base_free (Member struct member) given = inr (guarded_free (or_number (option_map_or cleaned given []) (codes "m") member))
base_free (Again label) given = inr record { word = refl; prefix = refl }
base_free (Leave label) given = inr record { word = refl; prefix = refl }
base_free (Fell label) given = inr record { word = refl; prefix = refl }
base_free (Captured chain number) given = inr record { word = refl; prefix = refl }
base_free (Spare from to number) given = inr record { word = refl; prefix = refl }
