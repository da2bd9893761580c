-- What the variables and spares have after some of the moves.
use Rattle.std.proofs.Common.{◌≡◌, ◌<◌, ◌+◌, ◌==◌, ℕ, true, false, cond, Option, None, Some, List, [], ◌∷◌, refl, ap, sym, subst, ◌∙◌, inl, inr, arith, Contains, eq-eqb}
use Rattle.std.proofs.lemmas.List.Elements.{Contains-get_or}
use Rattle.std.proofs.lemmas.Bool.Decides.{nat_tests, eqb_tells}
use Rattle.std.proofs.lemmas.Bool.{or_parts}
use Rattle.std.proofs.lemmas.Option.{same_Some}
use Rattle.list_law.proofs.Tests.{not_both}
use Rattle.phi_copies.specs.declared.moves.Var.{Var}
use Rattle.phi_copies.specs.declared.moves.Src.{Src}
use Rattle.phi_copies.specs.declared.moves.Src.TheVariants.{Var as Variable, Constant}
use Rattle.phi_copies.specs.declared.moves.Move.{Move}
use Rattle.phi_copies.specs.declared.moves.Move.TheVariants.{Save}
use Rattle.phi_copies.specs.Sequence.{Pair, target, no_pair, pair_at, HaveOwnTargets, is_var, sets, is_set, spare_of, is_save, saves, IsLeft, restored, copied, move_of, AreNext}
use Rattle.phi_copies.specs.Meaning.{State, put, value, step}
use Rattle.phi_copies.proofs.Reading.{as_number, sets_move, after_move, save_move, saves_cons, source_unset, same_pair}

-- variables that are not set have their first values, those that are set the first values of their sources, and spares the first values of what they stand for
pub record IsMoved (V : Type 0) (constants : ℕ → V) (ps : List Pair) (before : ℕ → V) (h : List Move) (now : State V) : Type 0 where
  pub kept : (v : ℕ) → is_set h v ≡ false → now.vars v ≡ before v
  pub given : (q : Pair) → Contains ps q → is_set h (target q) ≡ true → now.vars (target q) ≡ value V constants before q.1
  pub saved : (v k : ℕ) → spare_of h v ≡ Some k → now.spares k ≡ before v
  pub fresh : (v k : ℕ) → spare_of h v ≡ Some k → k < saves h

pub put_same : (V : Type 0) (k n : ℕ) (x : V) (f : ℕ → V) → (k == n) ≡ true → put V k x f n ≡ x
put_same V k n x f e = ap (λ b. cond b x (f n)) e

pub put_other : (V : Type 0) (k n : ℕ) (x : V) (f : ℕ → V) → (k == n) ≡ false → put V k x f n ≡ f n
put_other V k n x f e = ap (λ b. cond b x (f n)) e

-- a copy gives its target the value
copied_vars : (V : Type 0) (constants : ℕ → V) (now : State V) (before : ℕ → V) (t : Var) (s : Src) (spares : ℕ → Option ℕ)
    → ((v : ℕ) → is_var v s ≡ true → spares v ≡ None → now.vars v ≡ before v)
    → ((v k : ℕ) → spares v ≡ Some k → now.spares k ≡ before v)
    → (v : ℕ) → (step V constants now (copied t s spares)).vars v ≡ put V t.0 (value V constants before s) now.vars v
copied_vars V constants now before t (Constant c) spares kept saved v = refl
copied_vars V constants now before t (Variable x) spares kept saved v =
    (elim (spares x.0) as (λ o. spares x.0 ≡ o → (step V constants now (restored t (Variable x) o)).vars v ≡ put V t.0 (before x.0) now.vars v) [
      | None ↦ λ e. ap (λ y. put V t.0 y now.vars v) (kept x.0 (eq-eqb x.0 x.0 refl) e)
      | Some k ↦ λ e. ap (λ y. put V t.0 y now.vars v) (saved x.0 k e)
    ]) refl

restored_spares : (V : Type 0) (constants : ℕ → V) (now : State V) (t : Var) (s : Src) (o : Option ℕ) (k : ℕ) → (step V constants now (restored t s o)).spares k ≡ now.spares k
restored_spares V constants now t s None k = refl
restored_spares V constants now t s (Some j) k = refl

copied_spares : (V : Type 0) (constants : ℕ → V) (now : State V) (t : Var) (s : Src) (spares : ℕ → Option ℕ) (k : ℕ) → (step V constants now (copied t s spares)).spares k ≡ now.spares k
copied_spares V constants now t (Constant c) spares k = refl
copied_spares V constants now t (Variable x) spares k = restored_spares V constants now t (Variable x) (spares x.0) k

-- one more copy
moved_copy : (V : Type 0) (constants : ℕ → V) (ps : List Pair) (before : ℕ → V) (h : List Move) (now : State V) (i : ℕ)
    → HaveOwnTargets ps → AreNext ps h → IsLeft ps h i → IsMoved V constants ps before h now
    → IsMoved V constants ps before (move_of (pair_at ps i) (spare_of h) ∷ h) (step V constants now (move_of (pair_at ps i) (spare_of h)))
moved_copy V constants ps before h now i own next left was =
    let p = pair_at ps i in
    let m = move_of p (spare_of h) in
    let x : V = value V constants before p.1 in
    let after : State V = step V constants now m in
    let vars : (v : ℕ) → after.vars v ≡ put V (target p) x now.vars v =
    copied_vars V constants now before p.0 p.1 (spare_of h)
    (λ v e none. was.kept v (source_unset ps h i v next left e none))
    was.saved in
    record {
      kept = λ v e.
          let parts = or_parts (sets v m) (is_set h v) e in
          let apart : (target p == v) ≡ false = sym (sets_move p (spare_of h) v) ∙ parts.0 in
          vars v ∙ (put_other V (target p) v x now.vars apart ∙ was.kept v parts.1);
      given = λ q here e.
          elim (eqb_tells (target p) (target q)) [
            | inl w ↦
                let same : p ≡ q = same_pair ps p q own (Contains-get_or ps i no_pair left.below) here w.1 in
                vars (target q) ∙ (put_same V (target p) (target q) x now.vars w.0 ∙ ap (λ (r : Pair). value V constants before r.1) same)
            | inr w ↦
                let apart : sets (target q) m ≡ false = sets_move p (spare_of h) (target q) ∙ w.0 in
                let old : is_set h (target q) ≡ true = rw apart at e in
                vars (target q) ∙ (put_other V (target p) (target q) x now.vars w.0 ∙ was.given q here old)
          ];
      saved = λ v k e.
          copied_spares V constants now p.0 p.1 (spare_of h) k ∙ was.saved v k (sym (after_move p (spare_of h) (spare_of h v) v) ∙ e);
      fresh = λ v k e.
          let none : as_number (is_save m) ≡ 0 = ap as_number (save_move p (spare_of h)) in
          omega (arith, saves_cons m h, none, was.fresh v k (sym (after_move p (spare_of h) (spare_of h v) v) ∙ e));
    }

-- one more save
moved_save : (V : Type 0) (constants : ℕ → V) (ps : List Pair) (before : ℕ → V) (h : List Move) (now : State V) (i : ℕ)
    → IsLeft ps h i → IsMoved V constants ps before h now
    → IsMoved V constants ps before (Save (saves h) (pair_at ps i).0 ∷ h) (step V constants now (Save (saves h) (pair_at ps i).0))
moved_save V constants ps before h now i left was =
    let p = pair_at ps i in
    let n = saves h in
    let m : Move = Save n p.0 in
    let more : saves (m ∷ h) ≡ 1 + saves h = saves_cons m h in
    record {
      kept = λ v e. was.kept v e;
      given = λ q here e. was.given q here e;
      saved = λ v k e.
          elim (eqb_tells (target p) v) [
            | inl w ↦
                let o : cond (target p == v) (Some n) (spare_of h v) ≡ Some n = ap (λ b. cond b (Some n) (spare_of h v)) w.0 in
                let num : n ≡ k = same_Some n k (sym o ∙ e) in
                put_same V n k (now.vars (target p)) now.spares (eq-eqb n k num) ∙ (was.kept (target p) left.unset ∙ ap before w.1)
            | inr w ↦
                let o : cond (target p == v) (Some n) (spare_of h v) ≡ spare_of h v = ap (λ b. cond b (Some n) (spare_of h v)) w.0 in
                let old : spare_of h v ≡ Some k = sym o ∙ e in
                let small = was.fresh v k old in
                let apart : (n == k) ≡ false = grind (arith, nat_tests, small) in
                put_other V n k (now.vars (target p)) now.spares apart ∙ was.saved v k old
          ];
      fresh = λ v k e.
          elim (eqb_tells (target p) v) [
            | inl w ↦
                let o : cond (target p == v) (Some n) (spare_of h v) ≡ Some n = ap (λ b. cond b (Some n) (spare_of h v)) w.0 in
                let num : n ≡ k = same_Some n k (sym o ∙ e) in
                omega (arith, more, num)
            | inr w ↦
                let o : cond (target p == v) (Some n) (spare_of h v) ≡ spare_of h v = ap (λ b. cond b (Some n) (spare_of h v)) w.0 in
                omega (arith, more, was.fresh v k (sym o ∙ e))
          ];
    }

-- the state after a history
abbrev pub after : (V : Type 0) → (ℕ → V) → State V → List Move → State V
after V constants s [] = s
after V constants s (m ∷ h) = step V constants (after V constants s h) m

pub moved : (V : Type 0) (constants : ℕ → V) (ps : List Pair) (s : State V) (h : List Move) → HaveOwnTargets ps → AreNext ps h → IsMoved V constants ps s.vars h (after V constants s h)
moved V constants ps s [] own next = record {
  kept = λ v e. refl;
  given = λ q here e. absurd (not_both (is_set [] (target q)) e refl);
  saved = λ v k e. cc;
  fresh = λ v k e. cc;
}
moved V constants ps s (m ∷ h) own next =
    let was = moved V constants ps s h own next.1 in
    let now = after V constants s h in
    let P : Move → Type 0 = λ n. IsMoved V constants ps s.vars (n ∷ h) (step V constants now n) in
    elim next.0 [
      | inl c ↦ subst P (sym c.move) (moved_copy V constants ps s.vars h now c.at own next.1 c.first.holds.still was)
      | inr c ↦ subst P (sym c.move) (moved_save V constants ps s.vars h now c.at c.first.holds was)
    ]
