-- How many read a variable after one more move.
use Rattle.std.proofs.Common.{◌≡◌, ◌≢◌, ◌<◌, ◌+◌, ◌==◌, ◌&&◌, ◌||◌, not, ℕ, zero, suc, Bool, true, false, cond, Option, Some, List, [], ◌∷◌, length, get_or, refl, ap, sym, ◌∙◌, inl, inr, arith, count_by, eq-eqb}
use Rattle.std.specs.Option.{is_some}
use Rattle.std.proofs.lemmas.List.Sums.{sum_by-cons}
use Rattle.std.proofs.lemmas.Bool.Decides.{eqb_tells}
use Rattle.phi_copies.specs.declared.moves.Var.{Var}
use Rattle.phi_copies.specs.declared.moves.Move.{Move}
use Rattle.phi_copies.specs.declared.moves.Move.TheVariants.{Save}
use Rattle.phi_copies.specs.Sequence.{Pair, target, no_pair, pair_at, HaveOwnTargets, is_var, sets, is_set, spare_after, spare_of, reads, readers, move_of}
use Rattle.phi_copies.proofs.Reading.{as_number, sets_move, after_move, same_place}

-- two tests that agree at each place count the same
pub count_same : {X : Type 0} (p q : X → Bool) (xs : List X) (d : X) → ((i : ℕ) → i < length xs → q (get_or xs i d) ≡ p (get_or xs i d)) → count_by p xs ≡ count_by q xs
count_same p q [] d same = refl
count_same p q (x ∷ xs) d same =
    let later = count_same p q xs d (λ i inside. same (suc i) (omega (arith, inside))) in
    let here : as_number (q x) ≡ as_number (p x) = ap as_number (same 0 (omega arith)) in
    omega (arith, later, here, sum_by-cons (λ y. as_number (p y)) x xs, sum_by-cons (λ y. as_number (q y)) x xs)

-- and where they agree at each place but one
pub count_except : {X : Type 0} (p q : X → Bool) (xs : List X) (k : ℕ) (d : X) → k < length xs → q (get_or xs k d) ≡ false
    → ((i : ℕ) → i < length xs → i ≢ k → q (get_or xs i d) ≡ p (get_or xs i d)) → count_by p xs ≡ count_by q xs + as_number (p (get_or xs k d))
count_except p q [] k d inside unread same = absurd (omega (arith, inside))
count_except p q (x ∷ xs) zero d inside unread same =
    let later = count_same p q xs d (λ i small. same (suc i) (omega (arith, small)) (λ e. absurd (omega (arith, e)))) in
    let here : as_number (q x) ≡ 0 = ap as_number unread in
    omega (arith, later, here, sum_by-cons (λ y. as_number (p y)) x xs, sum_by-cons (λ y. as_number (q y)) x xs)
count_except p q (x ∷ xs) (suc k) d inside unread same =
    let later = count_except p q xs k d (omega (arith, inside)) unread (λ i small apart. same (suc i) (omega (arith, small)) (λ e. apart (omega (arith, e)))) in
    let here : as_number (q x) ≡ as_number (p x) = ap as_number (same 0 (omega arith) (λ e. absurd (omega (arith, e)))) in
    omega (arith, later, here, sum_by-cons (λ y. as_number (p y)) x xs, sum_by-cons (λ y. as_number (q y)) x xs)

reads_set : (a b c : Bool) → a ≡ true → (not (a || b) && c) ≡ false
reads_set a b c e = rw e refl

reads_apart : (a b c d e : Bool) → a ≡ false → d ≡ e → (not (a || b) && (c && not d)) ≡ (not b && (c && not e))
reads_apart a b c d e f g = rw (f, g) refl

-- once a pair is copied it reads no more
pub copy_readers : (ps : List Pair) (h : List Move) (i v : ℕ) → HaveOwnTargets ps → i < length ps
    → readers ps h v ≡ readers ps (move_of (pair_at ps i) (spare_of h) ∷ h) v + as_number (reads h v (pair_at ps i))
copy_readers ps h i v own inside =
    let m = move_of (pair_at ps i) (spare_of h) in
    count_except (reads h v) (reads (m ∷ h) v) ps i no_pair inside
    (let own_target : sets (target (pair_at ps i)) m ≡ true = sets_move (pair_at ps i) (spare_of h) (target (pair_at ps i)) ∙ eq-eqb (target (pair_at ps i)) (target (pair_at ps i)) refl in
    reads_set (sets (target (pair_at ps i)) m) (is_set h (target (pair_at ps i))) (is_var v (pair_at ps i).1 && not (is_some (spare_after m (spare_of h v) v))) own_target)
    (λ j small apart.
    let other : sets (target (pair_at ps j)) m ≡ false =
    sets_move (pair_at ps i) (spare_of h) (target (pair_at ps j))
    ∙ elim (eqb_tells (target (pair_at ps i)) (target (pair_at ps j))) [
      | inl w ↦ absurd (apart (sym (same_place ps i j own inside small w.1)))
      | inr w ↦ w.0
    ] in
    reads_apart (sets (target (pair_at ps j)) m) (is_set h (target (pair_at ps j))) (is_var v (pair_at ps j).1) (is_some (spare_after m (spare_of h v) v)) (is_some (spare_of h v)) other (ap is_some (after_move (pair_at ps i) (spare_of h) (spare_of h v) v)))

reads_saved : (a b : Bool) (k : ℕ) (o : Option ℕ) (d : Bool) → d ≡ true → (a && (b && not (is_some (cond d (Some k) o)))) ≡ false
reads_saved true true k o d e = rw e refl
reads_saved true false k o d e = refl
reads_saved false b k o d e = refl

-- nobody reads what was saved just now
pub save_readers : (ps : List Pair) (h : List Move) (k : ℕ) (t : Var) → readers ps (Save k t ∷ h) t.0 ≡ 0
save_readers [] h k t = refl
save_readers (p ∷ ps) h k t =
    let none : as_number (reads (Save k t ∷ h) t.0 p) ≡ 0 = ap as_number (reads_saved (not (is_set h (target p))) (is_var t.0 p.1) k (spare_of h t.0) (t.0 == t.0) (eq-eqb t.0 t.0 refl)) in
    omega (arith, none, save_readers ps h k t, sum_by-cons (λ y. as_number (reads (Save k t ∷ h) t.0 y)) p ps)

reads_unsaved : (a b : Bool) (k : ℕ) (o : Option ℕ) (d : Bool) → d ≡ false → (a && (b && not (is_some (cond d (Some k) o)))) ≡ (a && (b && not (is_some o)))
reads_unsaved a b k o d e = rw e refl

-- and who reads another variable stays
pub save_others : (ps : List Pair) (h : List Move) (k v : ℕ) (t : Var) → (t.0 == v) ≡ false → readers ps (Save k t ∷ h) v ≡ readers ps h v
save_others ps h k v t apart =
    count_same (reads (Save k t ∷ h) v) (reads h v) ps no_pair
    (λ i inside. sym (reads_unsaved (not (is_set h (target (pair_at ps i)))) (is_var v (pair_at ps i).1) k (spare_of h v) (t.0 == v) apart))
