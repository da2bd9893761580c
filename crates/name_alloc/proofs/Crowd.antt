-- Among as many numbers as there are names, and one more, one is free.
use Rattle.std.proofs.Common.{◌≡◌, ◌<◌, ◌≤◌, ◌+◌, ◌^◌, ◌++◌, codes, ℕ, zero, suc, true, false, List, [], ◌∷◌, length, refl, ap, sym, ◌∙◌, inl, inr, arith, is_some, bytes_eq}
use Rattle.std.specs.List.{list_any, IsDistinct, AllByRecursion}
use Rattle.std.specs.Map.{lookup}
use Rattle.std.specs.Fmt.{decimal}
use Rattle.glsl_ast.specs.View.{name_text}
use Rattle.glsl_ast.specs.declared.names.Name.{Name}
use Rattle.std.proofs.lemmas.Bool.{cases_Bool, false_from_ne_true, false≢true}
use Rattle.std.proofs.lemmas.Fmt.{decimal_injective}
use Rattle.std.proofs.lemmas.List.{append_cancel_left, length-append}
use Rattle.std.proofs.lemmas.Cmp.{nat_list_eq_equiv}
use Rattle.std.proofs.lemmas.Slice.Eq.{bytes_eq-Decides}
use Rattle.std.proofs.lemmas.Map.Made.{length-le_from_is_member}
use Rattle.name_alloc.specs.Naming.{numbered}
use Rattle.name_alloc.specs.Taken.{Held, is_held, held_count}

-- two numbers make two names
pub numbered_same : (base : List ℕ) (m n : ℕ) → m < 2 ^ 64 → n < 2 ^ 64 → numbered base m ≡ numbered base n → m ≡ n
unfolding numbered
numbered_same base m n low high h = decimal_injective m n low high (append_cancel_left (codes "_") (decimal m) (decimal n) (append_cancel_left base (codes "_" ++ decimal m) (codes "_" ++ decimal n) h))

-- a name with a number is not its base
pub numbered_apart : (base : List ℕ) (n : ℕ) → bytes_eq (numbered base n) base ≡ false
unfolding numbered
numbered_apart base n =
    false_from_ne_true (bytes_eq (numbered base n) base) (λ h.
    let same : base ++ (codes "_" ++ decimal n) ≡ base = (bytes_eq-Decides (numbered base n) base).0 h in
    let size : length (base ++ (codes "_" ++ decimal n)) ≡ length base = ap length same in
    absurd (omega (arith, size, length-append base (codes "_" ++ decimal n), length-append (codes "_") (decimal n))))

-- the base with so many numbers from n on
abbrev pub numbers_from : List ℕ → ℕ → ℕ → List (List ℕ)
numbers_from base zero n = []
numbers_from base (suc many) n = numbered base n ∷ numbers_from base many (n + 1)

length_numbers : (base : List ℕ) (many n : ℕ) → length (numbers_from base many n) ≡ many
length_numbers base zero n = refl
length_numbers base (suc many) n = ap suc (length_numbers base many (n + 1))

apart : (base : List ℕ) (k many n : ℕ) → k < n → n + many < 2 ^ 64 → AllByRecursion (λ y. bytes_eq (numbered base k) y ≡ false) (numbers_from base many n)
apart base k zero n low high = tt
apart base k (suc many) n low high = (
  false_from_ne_true (bytes_eq (numbered base k) (numbered base n)) (λ h. absurd (let e : k ≡ n = numbered_same base k n (omega (arith, low, high)) (omega (arith, high)) ((bytes_eq-Decides (numbered base k) (numbered base n)).0 h) in omega (arith, e, low))),
  apart base k many (n + 1) (omega (arith, low)) (omega (arith, high)),
)

distinct : (base : List ℕ) (many n : ℕ) → n + many < 2 ^ 64 → IsDistinct bytes_eq (numbers_from base many n)
unfolding IsDistinct
distinct base zero n h = tt
distinct base (suc many) n h = (apart base n many (n + 1) (omega arith) (omega (arith, h)), distinct base many (n + 1) (omega (arith, h)))

-- each of them is held where each number's is
all_held : (space : Held) (base : List ℕ) (many n : ℕ) → ((k : ℕ) → n ≤ k → k < n + many → is_held space (numbered base k) ≡ true) → (q : List ℕ) → list_any (bytes_eq q) (numbers_from base many n) ≡ true → is_held space q ≡ true
all_held space base zero n all q h = absurd (false≢true h)
all_held space base (suc many) n all q h =
    elim (cases_Bool (bytes_eq q (numbered base n))) [
      | inl t ↦ rw ((bytes_eq-Decides q (numbered base n)).0 t) (all n (omega arith) (omega arith))
      | inr t ↦ all_held space base many (n + 1) (λ k low high. all k (omega (arith, low)) (omega (arith, high))) q (rw t at h)
    ]

abbrev texts : List (Name × ℕ) → List (List ℕ)
texts [] = []
texts (e ∷ es) = name_text e.0 ∷ texts es

length_texts : (es : List (Name × ℕ)) → length (texts es) ≡ length es
length_texts [] = refl
length_texts (e ∷ es) = ap suc (length_texts es)

-- a name is held where it is among the names
held_is_among : (es : List (Name × ℕ)) (q : List ℕ) → is_some (lookup (λ k. bytes_eq q (name_text k)) es) ≡ list_any (bytes_eq q) (texts es)
held_is_among [] q = refl
held_is_among (e ∷ es) q =
    elim (cases_Bool (bytes_eq q (name_text e.0))) [
      | inl t ↦ rw t refl
      | inr t ↦ rw t (held_is_among es q)
    ]

-- so not all of them are held
pub one_free : (space : Held) (base : List ℕ) → held_count space < 2 ^ 63 → ((k : ℕ) → 2 ≤ k → k ≤ 2 + held_count space → is_held space (numbered base k) ≡ true) → ⊥
one_free space base small all =
    let many : ℕ = held_count space + 1 in
    let fits : length (numbers_from base many 2) ≤ length (texts space.entries) =
    length-le_from_is_member nat_list_eq_equiv (numbers_from base many 2) (texts space.entries) (distinct base many 2 (omega (arith, small)))
    (λ q h. sym (held_is_among space.entries q) ∙ all_held space base many 2 (λ k low high. all k low (omega (arith, high))) q h) in
    omega (arith, fits, length_numbers base many 2, length_texts space.entries)
