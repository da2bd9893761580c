-- Who reads a variable, as the moves go on.
use Rattle.std.proofs.Common.{◌≡◌, ◌<◌, ◌≤◌, ◌+◌, ◌==◌, ◌&&◌, ◌||◌, not, ℕ, suc, Bool, true, false, cond, Option, None, Some, List, [], ◌∷◌, length, refl, ap, sym, ◌∙◌, inl, inr, arith, Contains}
use Rattle.std.specs.Option.{is_some}
use Rattle.std.proofs.lemmas.List.{get_or_default}
use Rattle.std.proofs.lemmas.List.Sums.{sum_by-cons, get_or-le-sum_by, sum_by-le-sum_by}
use Rattle.std.proofs.lemmas.Bool.Decides.{nat_tests, leb_tells}
use Rattle.std.proofs.lemmas.Bool.{or_cases, false_from_ne_true}
use Rattle.list_law.proofs.Tests.{not_both}
use Rattle.phi_copies.specs.declared.moves.Var.{Var}
use Rattle.phi_copies.specs.declared.moves.Src.{Src}
use Rattle.phi_copies.specs.declared.moves.Src.TheVariants.{Var as Variable, Constant}
use Rattle.phi_copies.specs.declared.moves.Move.{Move}
use Rattle.phi_copies.specs.declared.moves.Move.TheVariants.{Set, Save, Restore}
use Rattle.phi_copies.specs.Sequence.{Pair, target, no_pair, pair_at, HaveOwnTargets, is_var, sets, is_set, spare_after, spare_of, is_save, saves, reads, readers, IsLeft, restored, copied, move_of, AreNext}

abbrev pub as_number : Bool → ℕ
as_number b = cond b 1 0

-- what a copy is as a move
sets_restored : (t : Var) (s : Src) (o : Option ℕ) (v : ℕ) → sets v (restored t s o) ≡ (t.0 == v)
sets_restored t s None v = refl
sets_restored t s (Some k) v = refl

sets_copied : (t : Var) (s : Src) (f : ℕ → Option ℕ) (v : ℕ) → sets v (copied t s f) ≡ (t.0 == v)
sets_copied t (Variable x) f v = sets_restored t (Variable x) (f x.0) v
sets_copied t (Constant c) f v = refl

pub sets_move : (p : Pair) (f : ℕ → Option ℕ) (v : ℕ) → sets v (move_of p f) ≡ (target p == v)
sets_move p f v = sets_copied p.0 p.1 f v

after_restored : (t : Var) (s : Src) (o : Option ℕ) (e : Option ℕ) (v : ℕ) → spare_after (restored t s o) e v ≡ e
after_restored t s None e v = refl
after_restored t s (Some k) e v = refl

after_copied : (t : Var) (s : Src) (f : ℕ → Option ℕ) (e : Option ℕ) (v : ℕ) → spare_after (copied t s f) e v ≡ e
after_copied t (Variable x) f e v = after_restored t (Variable x) (f x.0) e v
after_copied t (Constant c) f e v = refl

pub after_move : (p : Pair) (f : ℕ → Option ℕ) (e : Option ℕ) (v : ℕ) → spare_after (move_of p f) e v ≡ e
after_move p f e v = after_copied p.0 p.1 f e v

save_restored : (t : Var) (s : Src) (o : Option ℕ) → is_save (restored t s o) ≡ false
save_restored t s None = refl
save_restored t s (Some k) = refl

save_copied : (t : Var) (s : Src) (f : ℕ → Option ℕ) → is_save (copied t s f) ≡ false
save_copied t (Variable x) f = save_restored t (Variable x) (f x.0)
save_copied t (Constant c) f = refl

pub save_move : (p : Pair) (f : ℕ → Option ℕ) → is_save (move_of p f) ≡ false
save_move p f = save_copied p.0 p.1 f

pub saves_cons : (m : Move) (h : List Move) → saves (m ∷ h) ≡ as_number (is_save m) + saves h
saves_cons m h = sum_by-cons (λ x. as_number (is_save x)) m h

-- a move adds no reader
less_or : (a b c : Bool) → as_number (not (a || b) && c) ≤ as_number (not b && c)
less_or true true c = omega arith
less_or true false true = omega arith
less_or true false false = omega arith
less_or false b c = omega arith

less_none : (a b : Bool) → as_number (a && (b && false)) ≤ as_number (a && b)
less_none true true = omega arith
less_none true false = omega arith
less_none false b = omega arith

less_saved : (a b d : Bool) (k : ℕ) (o : Option ℕ) → as_number (a && (b && not (is_some (cond d (Some k) o)))) ≤ as_number (a && (b && not (is_some o)))
less_saved true true true k o = omega arith
less_saved true false true k o = omega arith
less_saved false b true k o = omega arith
less_saved a b false k o = omega arith

pub reads_less : (m : Move) (h : List Move) (v : ℕ) (p : Pair) → as_number (reads (m ∷ h) v p) ≤ as_number (reads h v p)
reads_less (Set t s) h v p = less_or (t.0 == target p) (is_set h (target p)) (is_var v p.1 && not (is_some (spare_of h v)))
reads_less (Save k t) h v p = less_saved (not (is_set h (target p))) (is_var v p.1) (t.0 == v) k (spare_of h v)
reads_less (Restore t k) h v p = less_or (t.0 == target p) (is_set h (target p)) (is_var v p.1 && not (is_some (spare_of h v)))

pub readers_less : (ps : List Pair) (m : Move) (h : List Move) (v : ℕ) → readers ps (m ∷ h) v ≤ readers ps h v
readers_less ps m h v = sum_by-le-sum_by (λ p. as_number (reads (m ∷ h) v p)) (λ p. as_number (reads h v p)) ps (reads_less m h v)

-- where a pair reads a variable, one does
pub some_reader : (ps : List Pair) (h : List Move) (v i : ℕ) → i < length ps → reads h v (pair_at ps i) ≡ true → 0 < readers ps h v
some_reader ps h v i inside e =
    let most = get_or-le-sum_by (λ (p : Pair). as_number (reads h v p)) ps i no_pair inside in
    let one : as_number (reads h v (pair_at ps i)) ≡ 1 = ap as_number e in
    omega (arith, most, one)

-- what is set is the target of a pair
pub set_target : (ps : List Pair) (h : List Move) (v : ℕ) → AreNext ps h → is_set h v ≡ true → (i : ℕ) × (i < length ps) × (target (pair_at ps i) ≡ v)
set_target ps [] v next e = absurd (not_both (is_set [] v) e refl)
set_target ps (m ∷ h) v next e =
    elim (or_cases (sets v m) (is_set h v) e) [
      | inl w ↦ elim next.0 [
        | inl c ↦
            let is : (target (pair_at ps c.at) == v) ≡ true = sym (sets_move (pair_at ps c.at) (spare_of h) v) ∙ (ap (sets v) (sym c.move) ∙ w) in
            (c.at, c.first.holds.still.below, grind (arith, nat_tests, is))
        | inr s ↦ absurd (not_both (sets v m) w (ap (sets v) s.move))
      ]
      | inr w ↦ set_target ps h v next.1 w
    ]

-- no pair that is left reads what is set
pub quiet : (ps : List Pair) (h : List Move) (v : ℕ) → AreNext ps h → is_set h v ≡ true → readers ps h v ≡ 0
quiet ps [] v next e = absurd (not_both (is_set [] v) e refl)
quiet ps (m ∷ h) v next e =
    elim (or_cases (sets v m) (is_set h v) e) [
      | inl w ↦ elim next.0 [
        | inl c ↦
            let is : (target (pair_at ps c.at) == v) ≡ true = sym (sets_move (pair_at ps c.at) (spare_of h) v) ∙ (ap (sets v) (sym c.move) ∙ w) in
            let same : target (pair_at ps c.at) ≡ v = grind (arith, nat_tests, is) in
            let none : readers ps h v ≡ 0 = ap (readers ps h) (sym same) ∙ c.first.holds.unread in
            omega (arith, readers_less ps m h v, none)
        | inr s ↦ absurd (not_both (sets v m) w (ap (sets v) s.move))
      ]
      | inr w ↦ omega (arith, readers_less ps m h v, quiet ps h v next.1 w)
    ]

pub reads_of : (a b c : Bool) → a ≡ false → b ≡ true → c ≡ false → (not a && (b && not c)) ≡ true
reads_of a b c e f g = rw (e, f, g) refl

-- the source of a pair that is left has its first value, or is saved
pub source_unset : (ps : List Pair) (h : List Move) (i v : ℕ) → AreNext ps h → IsLeft ps h i → is_var v (pair_at ps i).1 ≡ true → spare_of h v ≡ None → is_set h v ≡ false
source_unset ps h i v next left own none =
    false_from_ne_true (is_set h v) (λ e.
    let reading : reads h v (pair_at ps i) ≡ true = reads_of (is_set h (target (pair_at ps i))) (is_var v (pair_at ps i).1) (is_some (spare_of h v)) left.unset own (ap is_some none) in
    let some = some_reader ps h v i left.below reading in
    absurd (omega (arith, some, quiet ps h v next e)))

-- two pairs with one target are one
pub same_place : (ps : List Pair) (i j : ℕ) → HaveOwnTargets ps → i < length ps → j < length ps → target (pair_at ps i) ≡ target (pair_at ps j) → i ≡ j
same_place ps i j own in_i in_j e =
    elim (leb_tells (suc i) j) [
      | inl w ↦ absurd (own i j no_pair (omega (arith, w.1)) in_j e)
      | inr w ↦ elim (leb_tells (suc j) i) [
        | inl z ↦ absurd (own j i no_pair (omega (arith, z.1)) in_i (sym e))
        | inr z ↦ omega (arith, w.1, z.1)
      ]
    ]

pub same_pair : (ps : List Pair) (p q : Pair) → HaveOwnTargets ps → Contains ps p → Contains ps q → target p ≡ target q → p ≡ q
same_pair ps p q own in_p in_q e =
    let p_is : pair_at ps in_p.0 ≡ p = get_or_default ps in_p.0 no_pair p in_p.1 ∙ in_p.2 in
    let q_is : pair_at ps in_q.0 ≡ q = get_or_default ps in_q.0 no_pair q in_q.1 ∙ in_q.2 in
    let place : in_p.0 ≡ in_q.0 = same_place ps in_p.0 in_q.0 own in_p.1 in_q.1 (ap target p_is ∙ (e ∙ sym (ap target q_is))) in
    sym p_is ∙ (ap (pair_at ps) place ∙ q_is)
