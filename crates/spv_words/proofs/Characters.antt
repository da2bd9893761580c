-- The octets of words by their places, and the characters that they spell.
use Rattle.std.proofs.Common.{◌≡◌, ◌<◌, ◌≤◌, ◌+◌, ◌-◌, ◌*◌, ◌/◌, ◌%◌, ◌==◌, ℕ, zero, suc, Bool, true, false, cond, List, [], ◌∷◌, length, take, drop, get_or, min, Some, None, refl, ap, sym, ◌∙◌, subst, inl, inr, arith}
use Rattle.std.specs.List.{position, position_from}
use Rattle.std.specs.Int.{to_le_bytes, w32}
use Rattle.std.specs.Str.{IsUtf8, encode_utf8_all, all_scalars}
use Rattle.std.proofs.Math.Utf8.{encode, scalar}
use Rattle.std.proofs.lemmas.List.{length-take, length-take-le, length-drop, length-append, get_or-drop, get_or-take, get_or_past, drop_more, drop-drop, take-take}
use Rattle.std.proofs.Math.Seq.{take-add, take-append_seam}
use Rattle.std.proofs.Math.ListN.{drop_of_length-le}
use Rattle.std.proofs.lemmas.Iterator.Adapters.{position_from-zero}
use Rattle.std.proofs.lemmas.List.Concat.{get_or-flat_map}
use Rattle.std.proofs.lemmas.Bool.{and_parts, cases_lt}
use Rattle.std.proofs.lemmas.Str.{IsUtf8-append, IsUtf8-encode, IsUtf8-drop, IsCharBoundary-from_take, length-encode, len_utf8_bounds}
use Rattle.std.proofs.lemmas.Option.{same_Some}
use Rattle.spv_words.specs.Words.{octets_of}
use Rattle.spv_words.specs.Breaks.{IsText}

pub length_octets : (ws : List ℕ) → length (octets_of ws) ≡ 4 * length ws
length_octets [] = refl
length_octets (w ∷ ws) = let more = length_octets ws in omega arith

-- all octets of 0 are 0
zero_octets : (r : ℕ) → get_or (to_le_bytes w32 0) r 0 ≡ 0
zero_octets zero = refl
zero_octets (suc zero) = refl
zero_octets (suc (suc zero)) = refl
zero_octets (suc (suc (suc zero))) = refl
zero_octets (suc (suc (suc (suc r)))) = refl

in_word : (ws : List ℕ) (q r : ℕ) → q < length ws → r < 4 → get_or (octets_of ws) (4 * q + r) 0 ≡ get_or (to_le_bytes w32 (get_or ws q 0)) r 0
in_word ws q r inside small =
    let front : length (octets_of (take q ws)) ≡ 4 * q = length_octets (take q ws) ∙ ap (λ n. 4 * n) (length-take-le q ws (omega (arith, inside))) in
    subst (λ n. get_or (octets_of ws) (n + r) 0 ≡ get_or (to_le_bytes w32 (get_or ws q 0)) r 0) front (get_or-flat_map (to_le_bytes w32) ws q r 0 0 inside small)

-- an octet by its word
pub octet_is : (ws : List ℕ) (k : ℕ) → get_or (to_le_bytes w32 (get_or ws (k / 4) 0)) (k % 4) 0 ≡ get_or (octets_of ws) k 0
octet_is ws k =
    let place : 4 * (k / 4) + k % 4 ≡ k = omega arith in
    let small : k % 4 < 4 = omega arith in
    elim (cases_lt (k / 4) (length ws)) [
      | inl inside ↦ sym (ap (λ n. get_or (octets_of ws) n 0) (sym place) ∙ in_word ws (k / 4) (k % 4) inside small)
      | inr past ↦
          ap (λ w. get_or (to_le_bytes w32 w) (k % 4) 0) (get_or_past ws (k / 4) 0 past)
          ∙ zero_octets (k % 4)
          ∙ sym (get_or_past (octets_of ws) k 0 (let n = length_octets ws in omega (arith, n, past, place)))
    ]

-- the first zero octet
abbrev pub is_zero : ℕ → Bool
is_zero b = b == 0

pub zero_start : (os : List ℕ) → position_from (λ b. b == 0) 0 os ≡ position (λ b. b == 0) os
zero_start os = sym (position_from-zero (λ b. b == 0) os)

pub zero_here : (os : List ℕ) (k : ℕ) → k < length os → (get_or os k 0 == 0) ≡ true → position_from (λ b. b == 0) k (drop k os) ≡ Some k
zero_here os k inside is =
    ap (position_from (λ b. b == 0) k) (drop_more os k 0 inside)
    ∙ ap (λ b. cond b (Some k) (position_from (λ b. b == 0) (k + 1) (drop (k + 1) os))) is

pub zero_later : (os : List ℕ) (k : ℕ) → k < length os → (get_or os k 0 == 0) ≡ false → position_from (λ b. b == 0) k (drop k os) ≡ position_from (λ b. b == 0) (k + 1) (drop (k + 1) os)
zero_later os k inside is =
    ap (position_from (λ b. b == 0) k) (drop_more os k 0 inside)
    ∙ ap (λ b. cond b (Some k) (position_from (λ b. b == 0) (k + 1) (drop (k + 1) os))) is

pub zero_nowhere : (os : List ℕ) (k : ℕ) → length os ≤ k → position_from (λ b. b == 0) k (drop k os) ≡ None
zero_nowhere os k past = ap (position_from (λ b. b == 0) k) (drop_of_length-le os past)

-- four octets, as far as there are so many
fronts : (ys : List ℕ) (a b c d : ℕ) → (0 < length ys → a ≡ get_or ys 0 0) → (1 < length ys → b ≡ get_or ys 1 0) → (2 < length ys → c ≡ get_or ys 2 0) → (3 < length ys → d ≡ get_or ys 3 0)
    → take (min (length ys) 4) (a ∷ b ∷ c ∷ d ∷ []) ≡ take (min (length ys) 4) ys
fronts [] a b c d ha hb hc hd = refl
fronts (y ∷ []) a b c d ha hb hc hd = ap (λ x. x ∷ []) (ha (omega arith))
fronts (y ∷ z ∷ []) a b c d ha hb hc hd = ap (λ x. x ∷ b ∷ []) (ha (omega arith)) ∙ ap (λ x. y ∷ x ∷ []) (hb (omega arith))
fronts (y ∷ z ∷ u ∷ []) a b c d ha hb hc hd = ap (λ x. x ∷ b ∷ c ∷ []) (ha (omega arith)) ∙ ap (λ x. y ∷ x ∷ c ∷ []) (hb (omega arith)) ∙ ap (λ x. y ∷ z ∷ x ∷ []) (hc (omega arith))
fronts (y ∷ z ∷ u ∷ v ∷ ys) a b c d ha hb hc hd =
    let four : min (length (y ∷ z ∷ u ∷ v ∷ ys)) 4 ≡ 4 = omega arith in
    let same : a ∷ b ∷ c ∷ d ∷ [] ≡ y ∷ z ∷ u ∷ v ∷ [] =
    ap (λ x. x ∷ b ∷ c ∷ d ∷ []) (ha (omega arith)) ∙ ap (λ x. y ∷ x ∷ c ∷ d ∷ []) (hb (omega arith)) ∙ ap (λ x. y ∷ z ∷ x ∷ d ∷ []) (hc (omega arith)) ∙ ap (λ x. y ∷ z ∷ u ∷ x ∷ []) (hd (omega arith)) in
    subst (λ n. take n (a ∷ b ∷ c ∷ d ∷ []) ≡ take n (y ∷ z ∷ u ∷ v ∷ ys)) (sym four) same

pub length_whole : (os : List ℕ) (end : ℕ) → end ≤ length os → length (take end os) ≡ end
length_whole os end there = length-take-le end os there

pub length_part : (os : List ℕ) (at end : ℕ) → end ≤ length os → length (drop at (take end os)) ≡ end - at
length_part os at end there = length-drop at (take end os) ∙ ap (λ n. n - at) (length-take-le end os there)

octet_in : (os : List ℕ) (at end j : ℕ) → end ≤ length os → j < end - at → get_or (drop at (take end os)) j 0 ≡ get_or os (at + j) 0
octet_in os at end j there inside = get_or-drop at (take end os) j 0 ∙ get_or-take end os (at + j) 0 (omega (arith, inside))

-- the four from a place on are those of the part that begins there
pub window : (os : List ℕ) (at end : ℕ) → end ≤ length os
    → take (min (end - at) 4) (get_or os at 0 ∷ get_or os (at + 1) 0 ∷ get_or os (at + 2) 0 ∷ get_or os (at + 3) 0 ∷ []) ≡ take (min (end - at) 4) (drop at (take end os))
window os at end there =
    let ys : List ℕ = drop at (take end os) in
    let size : length ys ≡ end - at = length_part os at end there in
    let first : get_or os at 0 ≡ get_or os (at + 0) 0 = ap (λ n. get_or os n 0) (let h : at ≡ at + 0 = omega arith in h) in
    subst (λ n. take (min n 4) (get_or os at 0 ∷ get_or os (at + 1) 0 ∷ get_or os (at + 2) 0 ∷ get_or os (at + 3) 0 ∷ []) ≡ take (min n 4) ys) size
    (fronts ys (get_or os at 0) (get_or os (at + 1) 0) (get_or os (at + 2) 0) (get_or os (at + 3) 0)
    (λ h. first ∙ sym (octet_in os at end 0 there (omega (arith, h, size))))
    (λ h. sym (octet_in os at end 1 there (omega (arith, h, size))))
    (λ h. sym (octet_in os at end 2 there (omega (arith, h, size))))
    (λ h. sym (octet_in os at end 3 there (omega (arith, h, size)))))

-- where none of the first four begins a character, the octets are no text
first_character : (cs : List ℕ) (ys : List ℕ) (m : ℕ) → m ≡ min (length ys) 4 → 0 < length ys → ((n : ℕ) → 0 < n → IsUtf8 (take n (take m ys)) → ⊥) → all_scalars cs ≡ true → encode_utf8_all cs ≡ ys → ⊥
first_character [] ys m is some none fine spelt = let empty : 0 ≡ length ys = ap length spelt in absurd (omega (arith, empty, some))
first_character (c ∷ cs) ys m is some none fine spelt =
    let own = (and_parts (scalar c) (all_scalars cs) fine).0 in
    let size = length-encode c in
    let bounds = len_utf8_bounds c in
    let whole : length ys ≡ length (encode c) + length (encode_utf8_all cs) = ap length (sym spelt) ∙ length-append (encode c) (encode_utf8_all cs) in
    let front : take (length (encode c)) (take m ys) ≡ encode c =
    take-take (length (encode c)) m ys (omega (arith, is, size, bounds.0, bounds.1, whole))
    ∙ ap (take (length (encode c))) (sym spelt)
    ∙ take-append_seam (encode c) (encode_utf8_all cs) in
    none (length (encode c)) (omega (arith, size, bounds.0)) (subst IsUtf8 (sym front) (IsUtf8-encode c own))

pub no_character : (ys : List ℕ) (m : ℕ) → m ≡ min (length ys) 4 → 0 < length ys → ((n : ℕ) → 0 < n → IsUtf8 (take n (take m ys)) → ⊥) → IsUtf8 ys → ⊥
no_character ys m is some none text = first_character text.0 ys m is some none text.1.0 text.1.1

-- what is whole among the first octets of a part is whole at its front
pub front_whole : (ys some : List ℕ) (m n : ℕ) → some ≡ take m ys → n ≤ length some → IsUtf8 (take n some) → IsUtf8 (take n ys)
front_whole ys some m n are within whole =
    let size : length some ≡ min m (length ys) = ap length are ∙ length-take m ys in
    subst IsUtf8 (ap (take n) are ∙ take-take n m ys (omega (arith, size, within))) whole

-- some characters more
pub text_more : (whole : List ℕ) (at n : ℕ) → at + n ≤ length whole → IsUtf8 (take at whole) → IsUtf8 (take n (drop at whole)) → IsUtf8 (take (at + n) whole)
text_more whole at n inside front more = subst IsUtf8 (sym (take-add at n whole)) (IsUtf8-append (take at whole) (take n (drop at whole)) front more)

pub rest_more : (whole : List ℕ) (at n : ℕ) → at + n ≤ length whole → IsUtf8 (drop at whole) → IsUtf8 (take n (drop at whole)) → IsUtf8 (drop (at + n) whole)
rest_more whole at n inside rest more =
    let size : length (drop at whole) ≡ length whole - at = length-drop at whole in
    let short : n ≤ length (drop at whole) = omega (arith, size, inside) in
    subst IsUtf8 (drop-drop n at whole) (IsUtf8-drop (drop at whole) n rest (IsCharBoundary-from_take (drop at whole) n rest short more))

-- the one place where a text ends
pub text_at : (os : List ℕ) (len n : ℕ) → position (λ b. b == 0) os ≡ Some len → (IsUtf8 (take len os) → ⊥) → IsText os n → ⊥
text_at os len n is bad text =
    let same : n ≡ len = same_Some n len (sym text.0 ∙ is) in
    bad (subst (λ k. IsUtf8 (take k os)) same text.1)
