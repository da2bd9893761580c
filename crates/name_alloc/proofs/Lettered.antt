-- A letter with a number behind it is no word, and begins with no prefix.
use Rattle.std.proofs.Common.{◌≡◌, ◌<◌, ◌^◌, ◌==◌, ◌++◌, ℕ, true, false, [], ◌∷◌, length, refl, sym, ◌∙◌, inl, inr, arith, subst}
use Rattle.std.specs.Fmt.{decimal}
use Rattle.std.proofs.lemmas.Bool.{false≢true}
use Rattle.std.proofs.lemmas.Bool.Decides.{eqb_tells, nat_tests}
use Rattle.std.proofs.lemmas.Fmt.{decimal_is_IsNumeral}
use Rattle.std.proofs.lemmas.Str.Parse.{digit_from_value}
use Rattle.std.specs.Str.Parse.{AllDigits}
use Rattle.std.specs.Int.{IsInRange}
use Rattle.name_alloc.specs.Base.{Text, is_barred, guarded, or_number, is_letter}
use Rattle.name_alloc.specs.Reserved.{has_prefix, is_word}

-- a digit is none of the letters that stand second in a word or a prefix
apart : (d n : ℕ) → IsInRange 48 57 d → 57 < n → (n == d) ≡ false
apart d n h big = grind (arith, nat_tests, h, big)

apart_too : (d n : ℕ) → IsInRange 48 57 d → 57 < n → (d == n) ≡ false
apart_too d n h big = grind (arith, nat_tests, h, big)

v_prefix : (d : ℕ) (ds : Text) → IsInRange 48 57 d → has_prefix (118 ∷ (d ∷ ds)) ≡ false
unfolding has_prefix
v_prefix d ds h = rw (apart d 101 h (omega arith)) refl

v_word : (d : ℕ) (ds : Text) → IsInRange 48 57 d → is_word (118 ∷ (d ∷ ds)) ≡ false
unfolding is_word
v_word d ds h = rw (apart_too d 97 h (omega arith), apart_too d 111 h (omega arith)) refl

m_prefix : (d : ℕ) (ds : Text) → IsInRange 48 57 d → has_prefix (109 ∷ (d ∷ ds)) ≡ false
unfolding has_prefix
m_prefix d ds h = rw (apart d 97 h (omega arith), apart d 101 h (omega arith)) refl

m_word : (d : ℕ) (ds : Text) → IsInRange 48 57 d → is_word (109 ∷ (d ∷ ds)) ≡ false
unfolding is_word
m_word d ds h = rw (apart_too d 97 h (omega arith), apart_too d 101 h (omega arith), apart_too d 105 h (omega arith)) refl

v_free : (d : ℕ) (ds : Text) → IsInRange 48 57 d → is_barred (118 ∷ (d ∷ ds)) ≡ false
v_free d ds h = rw (v_prefix d ds h, v_word d ds h) refl

m_free : (d : ℕ) (ds : Text) → IsInRange 48 57 d → is_barred (109 ∷ (d ∷ ds)) ≡ false
m_free d ds h = rw (m_prefix d ds h, m_word d ds h) refl

letter_free : (c d : ℕ) (ds : Text) → is_letter (c ∷ []) ≡ true → IsInRange 48 57 d → is_barred (c ∷ (d ∷ ds)) ≡ false
letter_free c d ds l h =
    elim (eqb_tells c 118) [
      | inl e ↦ subst (λ b. is_barred (b ∷ (d ∷ ds)) ≡ false) (sym e.1) (v_free d ds h)
      | inr e ↦
          elim (eqb_tells c 109) [
            | inl f ↦ subst (λ b. is_barred (b ∷ (d ∷ ds)) ≡ false) (sym f.1) (m_free d ds h)
            | inr f ↦ absurd (let none : is_letter (c ∷ []) ≡ false = rw (e.0, f.0) refl in false≢true (sym none ∙ l))
          ]
    ]

digits_free : (c : ℕ) (ds : Text) → is_letter (c ∷ []) ≡ true → 0 < length ds → AllDigits 10 ds → is_barred (c ∷ ds) ≡ false
digits_free c [] l some h = absurd (omega (arith, some))
digits_free c (d ∷ ds) l some h = letter_free c d ds l (digit_from_value d h.0)

lettered_base : (letter : Text) (n : ℕ) → is_letter letter ≡ true → n < 2 ^ 64 → guarded (letter ++ decimal n) ≡ letter ++ decimal n
lettered_base [] n l h = absurd (false≢true l)
lettered_base (c ∷ []) n l h =
    let own = decimal_is_IsNumeral n h in
    let free : is_barred (c ∷ decimal n) ≡ false = digits_free c (decimal n) l own.0.0 own.0.1 in
    rw free refl
lettered_base (c ∷ d ∷ w) n l h = absurd (false≢true l)

-- the base where nothing is left of the name that is given
pub empty_base : (kept letter : Text) (n : ℕ) → kept ≡ [] → is_letter letter ≡ true → n < 2 ^ 64 → guarded (or_number kept letter n) ≡ letter ++ decimal n
empty_base kept letter n e l h = rw e (lettered_base letter n l h)
