-- The moves of a sequence do what its pairs do at once.
use Rattle.std.proofs.Common.{◌≡◌, ◌++◌, ℕ, suc, Bool, true, false, cond, List, [], ◌∷◌, filter, reverse, refl, ap, sym, subst, ◌∙◌, arith, Contains}
use Rattle.std.specs.List.{All}
use Rattle.std.proofs.lemmas.List.{get_or_default, reverse-append, reverse-reverse}
use Rattle.std.proofs.lemmas.List.Elements.{All-nil, All-cons, All-weaker, All-filter, All-contains, All-contains_itself, filter_passes, Contains-get_or}
use Rattle.std.proofs.lemmas.List.Kept.{AllPairs-filter}
use Rattle.std.proofs.lemmas.Bool.Decides.{nat_tests}
use Rattle.std.proofs.lemmas.Bool.{false_from_ne_true, not-false}
use Rattle.list_law.proofs.Tests.{not_both}
use Rattle.phi_copies.specs.declared.moves.Src.{Src}
use Rattle.phi_copies.specs.declared.moves.Src.TheVariants.{Var as Variable, Constant}
use Rattle.phi_copies.specs.declared.moves.Move.{Move}
use Rattle.phi_copies.specs.Sequence.{Pair, target, no_pair, pair_at, HaveOwnTargets, is_var, is_proper, is_set, IsLeft, AreNext, IsSequence}
use Rattle.phi_copies.specs.Meaning.{State, value, step, run, IsAtOnce, DoAtOnce}
use Rattle.phi_copies.proofs.Reading.{set_target, same_pair}
use Rattle.phi_copies.proofs.Moved.{after, moved}

-- moves from the first on, and from the last back
run_push : (V : Type 0) (constants : ℕ → V) (s : State V) (ms : List Move) (m : Move) → run V constants s (ms ++ m ∷ []) ≡ step V constants (run V constants s ms) m
run_push V constants s [] m = refl
run_push V constants s (x ∷ ms) m = run_push V constants (step V constants s x) ms m

run_reverse : (V : Type 0) (constants : ℕ → V) (s : State V) (h : List Move) → run V constants s (reverse h) ≡ after V constants s h
run_reverse V constants s [] = refl
run_reverse V constants s (m ∷ h) =
    let turned : reverse (m ∷ h) ≡ reverse h ++ m ∷ [] = reverse-append (m ∷ []) h in
    ap (run V constants s) turned ∙ (run_push V constants s (reverse h) m ∙ ap (λ (t : State V). step V constants t m) (run_reverse V constants s h))

-- all pairs are copied
pub at_once : (V : Type 0) (constants : ℕ → V) (s : State V) (ps : List Pair) (h : List Move)
    → HaveOwnTargets ps → AreNext ps h → ((i : ℕ) → IsLeft ps h i → ⊥)
    → IsAtOnce V constants ps s.vars (after V constants s h).vars
at_once V constants s ps h own next whole =
    let all = moved V constants ps s h own next in
    record {
      given = λ p here.
          let is : pair_at ps here.0 ≡ p = get_or_default ps here.0 no_pair p here.1 ∙ here.2 in
          let set : is_set h (target p) ≡ true =
          (elim (is_set h (target p)) as (λ b. is_set h (target p) ≡ b → b ≡ true) [
            | true ↦ λ e. refl
            | false ↦ λ e. absurd (whole here.0 record { below = here.1; unset = ap (λ (q : Pair). is_set h (target q)) is ∙ e })
          ]) refl in
          all.given p here set;
      other = λ v none.
          all.kept v (false_from_ne_true (is_set h v) (λ e.
          let found = set_target ps h v next e in
          none (pair_at ps found.0) (Contains-get_or ps found.0 no_pair found.1) found.2));
    }

-- a filter keeps what passes
contains_next : {X : Type 0} (b : Bool) (x y : X) (xs : List X) → Contains xs y → Contains (cond b (x ∷ xs) xs) y
contains_next true x y xs here = (suc here.0, omega (arith, here.1), here.2)
contains_next false x y xs here = here

contains_first : {X : Type 0} (b : Bool) (x : X) (xs : List X) → b ≡ true → Contains (cond b (x ∷ xs) xs) x
contains_first true x xs e = (0, omega arith, refl)
contains_first false x xs e = cc

filter_keeps : {X : Type 0} (p : X → Bool) (xs : List X) → All (λ x. p x ≡ true → Contains (filter p xs) x) xs
filter_keeps {X} p [] = All-nil (λ (x : X). p x ≡ true → Contains [] x)
filter_keeps {X} p (x ∷ xs) =
    All-cons (λ (y : X). p y ≡ true → Contains (filter p (x ∷ xs)) y) x xs
    (λ e. contains_first (p x) x (filter p xs) e)
    (All-weaker (λ (y : X). p y ≡ true → Contains (filter p xs) y) (λ (y : X). p y ≡ true → Contains (filter p (x ∷ xs)) y)
    (λ y h e. contains_next (p x) x y (filter p xs) (h e))
    xs (filter_keeps p xs))

-- a source that is the variable has its value
value_self : (V : Type 0) (constants vars : ℕ → V) (v : ℕ) (s : Src) → is_var v s ≡ true → value V constants vars s ≡ vars v
value_self V constants vars v (Variable x) e = let same : x.0 ≡ v = grind (arith, nat_tests, e) in ap vars same
value_self V constants vars v (Constant c) e = absurd (not_both (is_var v (Constant c)) e refl)

-- pairs with equal sides change nothing
pub with_equal : (V : Type 0) (constants before now : ℕ → V) (pairs : List Pair) → HaveOwnTargets pairs
    → IsAtOnce V constants (filter is_proper pairs) before now → IsAtOnce V constants pairs before now
with_equal V constants before now pairs own proper =
    let from : (q : Pair) → Contains (filter is_proper pairs) q → Contains pairs q =
    λ q here. All-contains (Contains pairs) (filter is_proper pairs) q (All-filter is_proper (Contains pairs) pairs (All-contains_itself pairs)) here in
    record {
      given = λ p here.
          (elim (is_proper p) as (λ b. is_proper p ≡ b → now (target p) ≡ value V constants before p.1) [
            | true ↦ λ e. proper.given p (All-contains (λ (x : Pair). is_proper x ≡ true → Contains (filter is_proper pairs) x) pairs p (filter_keeps is_proper pairs) here e)
            | false ↦ λ e.
                let self : is_var (target p) p.1 ≡ true = not-false (is_var (target p) p.1) e in
                proper.other (target p) (λ q there same.
                let one : q ≡ p = same_pair pairs q p own (from q there) here same in
                let passes : is_proper q ≡ true = All-contains (λ (x : Pair). is_proper x ≡ true) (filter is_proper pairs) q (filter_passes is_proper pairs) there in
                not_both (is_proper p) (ap is_proper (sym one) ∙ passes) e)
                ∙ sym (value_self V constants before (target p) p.1 self)
          ]) refl;
      other = λ v none. proper.other v (λ q there. none q (from q there));
    }

-- a sequence does what its pairs do at once
pub sequence_law : (V : Type 0) (pairs : List Pair) (moves : List Move) → HaveOwnTargets pairs → IsSequence pairs moves → DoAtOnce V pairs moves
sequence_law V pairs moves own is constants s =
    let h = reverse moves in
    let qs = filter is_proper pairs in
    let own_proper : HaveOwnTargets qs = AllPairs-filter (λ (p : Pair) (q : Pair). target p ≡ target q → ⊥) is_proper pairs own in
    let same : run V constants s moves ≡ after V constants s h = ap (run V constants s) (sym (reverse-reverse moves)) ∙ run_reverse V constants s h in
    let all = at_once V constants s qs h own_proper is.next is.whole in
    let P : State V → Type 0 = λ t. IsAtOnce V constants pairs s.vars t.vars in
    subst P (sym same) (with_equal V constants s.vars (after V constants s h).vars pairs own all)
