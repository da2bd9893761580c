-- What is so of any numbers.
use Rattle.std.proofs.Common.{◌≡◌, ◌<◌, ◌≤◌, ◌+◌, ◌==◌, ◌&&◌, not, ℕ, true, false, inl, inr, refl, sym, ap, ◌∙◌, arith}
use Rattle.std.specs.Prelude.{nat_lt, nat_le, ◌%◌}
use Rattle.std.specs.Ordering.{nat_cmp, ordering_then, is_eq, is_gt}
use Rattle.std.specs.declared.cmp.Ordering.{Ordering}
use Rattle.std.specs.declared.cmp.Ordering.TheVariants.{Less, Equal, Greater}
use Rattle.std.specs.BTreeMap.{is_at}
use Rattle.std.proofs.lemmas.Bool.Decides.{eqb_tells, nat_tests}
use Rattle.list_law.proofs.Tests.{clash}

-- numbers in order
pub turned : (a b : ℕ) → (a == b) ≡ (b == a)
turned a b = grind (arith, nat_tests)

pub order_same : (a b : ℕ) → is_eq (nat_cmp a b) ≡ (a == b)
order_same a b = grind (arith, nat_tests)

pub order_at : (a b : ℕ) → is_at (nat_cmp a) b ≡ (a == b)
order_at a b = grind (arith, nat_tests)

pub order_both : (o p : Ordering) → is_eq (ordering_then o p) ≡ (is_eq o && is_eq p)
order_both Less p = refl
order_both Equal p = refl
order_both Greater p = refl

pub order_pairs : (a b : ℕ × ℕ) → is_eq (ordering_then (nat_cmp a.0 b.0) (nat_cmp a.1 b.1)) ≡ ((a.0 == b.0) && (a.1 == b.1))
order_pairs a b = order_both (nat_cmp a.0 b.0) (nat_cmp a.1 b.1) ∙ ap (λ t. t && is_eq (nat_cmp a.1 b.1)) (order_same a.0 b.0) ∙ ap (λ t. (a.0 == b.0) && t) (order_same a.1 b.1)

pub not_past : (a b : ℕ) → is_gt (nat_cmp a b) ≡ false → a ≤ b
not_past a b e = grind (arith, nat_tests, e)

pub above_zero : (n : ℕ) → (n == 0) ≡ false → 0 < n
above_zero n e = grind (arith, nat_tests, e)

-- tests of two numbers
pub same_number : (a b : ℕ) → (a == b) ≡ true → a ≡ b
same_number a b on = elim (eqb_tells a b) [ inl w ↦ w.1 | inr w ↦ clash (sym on ∙ w.0) ]

pub number_same : (a b : ℕ) → a ≡ b → (a == b) ≡ true
number_same a b same = elim (eqb_tells a b) [ inl w ↦ w.0 | inr w ↦ absurd (w.1 same) ]

pub number_other : (a b : ℕ) → (a ≡ b → ⊥) → (a == b) ≡ false
number_other a b other = elim (eqb_tells a b) [ inl w ↦ absurd (other w.1) | inr w ↦ w.0 ]

pub number_itself : (n : ℕ) → (n == n) ≡ true
number_itself n = number_same n n refl

pub same_count : (m n : ℕ) → not (m == n) ≡ false → m ≡ n
same_count m n e = elim (eqb_tells m n) [ inl w ↦ w.1 | inr w ↦ clash (sym (ap not w.0) ∙ e) ]

pub less_of : (a b : ℕ) → nat_lt a b ≡ true → a < b
less_of a b e = grind (arith, nat_tests, e)

pub less_is : (a b : ℕ) → a < b → nat_lt a b ≡ true
less_is a b less = grind (arith, nat_tests, less)

pub from_zero : (k : ℕ) → nat_le 0 k ≡ true
from_zero k = grind (arith, nat_tests)

pub even_after : (n : ℕ) → (n % 2 == 0) ≡ true → ((n + 2) % 2 == 0) ≡ true
even_after n e = grind (arith, nat_tests, e)

pub even_again : (n : ℕ) → (n % 2 == 0) ≡ true → ((n + 1 + 1) % 2 == 0) ≡ true
even_again n e = grind (arith, nat_tests, e)

pub odd_on : (n : ℕ) → (n % 2 == 0) ≡ true → ((n + 1) % 2 == 1) ≡ true
odd_on n e = grind (arith, nat_tests, e)

-- orders
pub no_less : (a b : ℕ) → a < b → b ≤ a → ⊥
no_less a b less le = omega (arith, less, le)

pub none_below : (k : ℕ) → k < 0 → ⊥
none_below k less = omega (arith, less)

pub le_on : (a b c : ℕ) → a ≤ b → b ≤ c → a ≤ c
le_on a b c first second = omega (arith, first, second)

pub zero_first : (n : ℕ) → n ≡ 0 + n
zero_first n = omega arith
