-- Moves that make copies at once read only what the copies' sources had at first. So where all sources have something, each move reads something: a target that is saved is the source of a copy that is left.
use Rattle.std.proofs.Common.{◌≡◌, ◌⊎◌, ◌++◌, ◌==◌, ◌&&◌, not, ℕ, suc, Bool, true, false, List, [], ◌∷◌, reverse, append-nil, append_assoc, Option, Some, None, Contains, inl, inr, refl, sym, ap, ◌∙◌, subst, arith}
use Rattle.std.specs.Prelude.{count_by}
use Rattle.std.proofs.lemmas.Bool.Decides.{eqb_tells}
use Rattle.std.proofs.lemmas.List.{reverse-append}
use Rattle.std.proofs.lemmas.List.Sums.{sum_by-cons}
use Rattle.std.proofs.lemmas.List.Elements.{Contains-get_or}
use Rattle.spv_types.specs.Tree.{ValueTree}
use Rattle.phi_copies.specs.declared.moves.Src.{Src}
use Rattle.phi_copies.specs.declared.moves.Src.TheVariants.{Var as Variable, Constant}
use Rattle.phi_copies.specs.declared.moves.Move.{Move}
use Rattle.phi_copies.specs.declared.moves.Move.TheVariants.{Save}
use Rattle.phi_copies.specs.Sequence.{Pair, target, no_pair, pair_at, HaveOwnTargets, is_var, spare_of, saves, reads, IsLeft, IsCopyNext, IsSaveNext, restored, copied, move_of, AreNext}
use Rattle.phi_copies.specs.Meaning.{State as Values, value as value_by}
use Rattle.phi_copies.proofs.Reading.{as_number, source_unset}
use Rattle.phi_copies.proofs.Moved.{IsMoved, after, moved}
use Rattle.list_law.proofs.Numbers.{same_number}
use Rattle.edge_law.specs.Copies.{V, read_by, AllRead}

-- some pair passes, or none does
find_one : (f : Pair → Bool) (ps : List Pair) → (count_by f ps ≡ 0) ⊎ ((q : Pair) × Contains ps q × (f q ≡ true))
find_one f [] = inl refl
find_one f (x ∷ xs) = by_test (f x) refl (find_one f xs)
  where
    later : ((q : Pair) × Contains xs q × (f q ≡ true)) → (q : Pair) × Contains (x ∷ xs) q × (f q ≡ true)
    later r = (r.0, (suc r.1.0, omega (arith, r.1.1), r.1.2), r.2)

    by_test : (b : Bool) → f x ≡ b → (count_by f xs ≡ 0) ⊎ ((q : Pair) × Contains xs q × (f q ≡ true)) → (count_by f (x ∷ xs) ≡ 0) ⊎ ((q : Pair) × Contains (x ∷ xs) q × (f q ≡ true))
    by_test true e rest = inr (x, (0, omega arith, refl), e)
    by_test false e (inl z) = (let none : as_number (f x) ≡ 0 = ap as_number e in inl (omega (arith, sum_by-cons (λ y. as_number (f y)) x xs, none, z)))
    by_test false e (inr r) = inr (later r)

-- one that reads a variable has it as its source
read_source : (a b c : Bool) → (not a && (b && not c)) ≡ true → b ≡ true
read_source true b c e = cc
read_source false true c e = refl
read_source false false c e = cc

-- what a source has that is this variable
source_has : (constants before : ℕ → V) (src : Src) (v : ℕ) → is_var v src ≡ true → value_by V constants before src ≡ before v
source_has constants before (Variable x) v e = ap before (same_number x.0 v e)
source_has constants before (Constant c) v e = cc

-- these moves behind a history
abbrev pushed : List Move → List Move → List Move
pushed [] h = h
pushed (m ∷ ms) h = pushed ms (m ∷ h)

pushed_is : (ms h : List Move) → pushed ms h ≡ reverse ms ++ h
pushed_is [] h = refl
pushed_is (m ∷ ms) h = pushed_is ms (m ∷ h) ∙ sym (append_assoc (reverse ms) (m ∷ []) h) ∙ ap (λ l. l ++ h) (sym (reverse-append (m ∷ []) ms))

next_under : (ps : List Pair) (ms h : List Move) → AreNext ps (pushed ms h) → AreNext ps h
next_under ps [] h next = next
next_under ps (m ∷ ms) h next = (next_under ps ms (m ∷ h) next).1

module _ (constants : ℕ → V) (ps : List Pair) (st : Values V) (own : HaveOwnTargets ps) (has : (q : Pair) → Contains ps q → (u : ValueTree) × (value_by V constants st.vars q.1 ≡ Some u)) where
  abbrev Read : List Move → Move → Type 0
  Read h m = (u : ValueTree) × (read_by constants (after V constants st h) m ≡ Some u)

  read_copy : (h : List Move) (i : ℕ) → AreNext ps h → IsLeft ps h i → Read h (move_of (pair_at ps i) (spare_of h))
  read_copy h i next left = by_source (pair_at ps i).1 refl
    where
      p : Pair
      p = pair_at ps i

      is : IsMoved V constants ps st.vars h (after V constants st h)
      is = moved V constants ps st h own next

      g : (u : ValueTree) × (value_by V constants st.vars p.1 ≡ Some u)
      g = has p (Contains-get_or ps i no_pair left.below)

      by_source : (src : Src) → p.1 ≡ src → Read h (copied p.0 src (spare_of h))
      by_source (Constant c) e = (g.0, ap (value_by V constants st.vars) (sym e) ∙ g.1)
      by_source (Variable x) e = by_spare (spare_of h x.0) refl
        where
          before : st.vars x.0 ≡ Some g.0
          before = ap (value_by V constants st.vars) (sym e) ∙ g.1

          this : (x.0 == x.0) ≡ true
          this = elim (eqb_tells x.0 x.0) [ inl w ↦ w.0 | inr w ↦ absurd (w.1 refl) ]

          by_spare : (o : Option ℕ) → spare_of h x.0 ≡ o → Read h (restored p.0 (Variable x) (spare_of h x.0))
          by_spare None n = subst (λ o. Read h (restored p.0 (Variable x) o)) (sym n) (g.0, is.kept x.0 (source_unset ps h i x.0 next left (ap (is_var x.0) e ∙ this) n) ∙ before)
          by_spare (Some k) n = subst (λ o. Read h (restored p.0 (Variable x) o)) (sym n) (g.0, is.saved x.0 k n ∙ before)

  read_save : (h : List Move) (m : Move) → AreNext ps h → (c : IsSaveNext ps h m) → Read h (Save (saves h) (pair_at ps c.at).0)
  read_save h m next c = by_reader (find_one (reads h t) ps)
    where
      t : ℕ
      t = target (pair_at ps c.at)

      is : IsMoved V constants ps st.vars h (after V constants st h)
      is = moved V constants ps st h own next

      by_reader : (count_by (reads h t) ps ≡ 0) ⊎ ((q : Pair) × Contains ps q × (reads h t q ≡ true)) → Read h (Save (saves h) (pair_at ps c.at).0)
      by_reader (inl none) = absurd (c.stuck c.at (record { still = c.first.holds; unread = none }))
      by_reader (inr q) =
          let g = has q.0 q.1 in
          (g.0, is.kept t c.first.holds.unset ∙ sym (source_has constants st.vars q.0.1 t (read_source _ _ _ q.2)) ∙ g.1)

  read_next : (h : List Move) (m : Move) → AreNext ps h → IsCopyNext ps h m ⊎ IsSaveNext ps h m → Read h m
  read_next h m next (inl c) = subst (Read h) (sym c.move) (read_copy h c.at next c.first.holds.still)
  read_next h m next (inr c) = subst (Read h) (sym c.move) (read_save h m next c)

  reads_on : (ms h : List Move) → AreNext ps (pushed ms h) → AllRead constants (after V constants st h) ms
  reads_on [] h next = tt
  reads_on (m ∷ ms) h next = let n = next_under ps ms (m ∷ h) next in (read_next h m n.1 n.0, reads_on ms (m ∷ h) next)

  -- So each move of a sequence reads something.
  pub all_read : (moves : List Move) → AreNext ps (reverse moves) → AllRead constants st moves
  all_read moves next = reads_on moves [] (subst (AreNext ps) (sym (pushed_is moves [] ∙ append-nil (reverse moves))) next)
