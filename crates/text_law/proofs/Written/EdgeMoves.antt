-- Of what the moves of an edge are: each copies a pair, by the spare of its source if that was saved, or saves the target of one. So moves are typed, and read what is there, where that is known of each pair.
use Rattle.std.proofs.Common.{◌≡◌, ◌⊎◌, ◌<◌, ◌+◌, ◌++◌, ◌==◌, ℕ, Bool, true, false, List, [], ◌∷◌, length, reverse, cond, Option, Some, None, Contains, inl, inr, refl, sym, ap, ◌∙◌, subst, if◌then◌else◌, arith}
use Rattle.std.specs.Option.{option_map_or}
use Rattle.std.proofs.lemmas.Bool.Decides.{eqb_tells}
use Rattle.std.proofs.lemmas.List.{reverse-append}
use Rattle.std.proofs.lemmas.List.Elements.{Contains-get_or}
use Rattle.std.proofs.lemmas.Option.{same_Some}
use Rattle.phi_copies.specs.declared.moves.Var.{Var}
use Rattle.phi_copies.specs.declared.moves.Src.{Src}
use Rattle.phi_copies.specs.declared.moves.Src.TheVariants.{Var as Variable, Constant}
use Rattle.phi_copies.specs.declared.moves.Move.{Move}
use Rattle.phi_copies.specs.declared.moves.Move.TheVariants.{Set, Save, Restore}
use Rattle.phi_copies.specs.Sequence.{Pair, target, no_pair, pair_at, spare_of, saves, IsCopyNext, IsSaveNext, restored, copied, AreNext}
use Rattle.phi_copies.proofs.Reading.{saves_cons}
use Rattle.glsl_semantics.specs.Shapes.{Shape, uint, same_shape}
use Rattle.list_law.proofs.Numbers.{number_itself}
use Rattle.list_law.proofs.Options.{no_some}
use Rattle.agree_law.specs.Agree.{Naming}
use Rattle.edge_law.specs.Copies.{EdgeNames, IsSource, IsTyped, AreTyped, IsRead, Reads, AllReads}
use Rattle.claim_law.specs.Claimed.{IsIn}

-- the variable that a spare stands for
abbrev pub saved_in : List Move → ℕ → Option ℕ
saved_in [] k = None
saved_in (Set v s ∷ h) k = saved_in h k
saved_in (Save j v ∷ h) k = if j == k then Some v.0 else saved_in h k
saved_in (Restore v j ∷ h) k = saved_in h k

-- what is known of a history
record IsTold (h : List Move) : Type 0 where
  pub below : (k x : ℕ) → saved_in h k ≡ Some x → k < saves h
  pub spare : (v k : ℕ) → spare_of h v ≡ Some k → saved_in h k ≡ Some v

told_set : (v : Var) (s : Src) (h : List Move) → IsTold h → IsTold (Set v s ∷ h)
told_set v s h t = record { below = λ k x is. (let less = t.below k x is in let many = saves_cons (Set v s) h in omega (arith, less, many)); spare = t.spare }

told_restore : (v : Var) (j : ℕ) (h : List Move) → IsTold h → IsTold (Restore v j ∷ h)
told_restore v j h t = record { below = λ k x is. (let less = t.below k x is in let many = saves_cons (Restore v j) h in omega (arith, less, many)); spare = t.spare }

-- a spare of an earlier save is another
later_is : (h : List Move) → IsTold h → (v : Var) (k x : ℕ) → saved_in h k ≡ Some x → saved_in (Save (saves h) v ∷ h) k ≡ Some x
later_is h t v k x is = elim (eqb_tells (saves h) k) [
  | inl w ↦ (let less = t.below k x is in let same = w.1 in absurd (omega (arith, less, same)))
  | inr w ↦ ap (λ (b : Bool). if b then Some v.0 else saved_in h k) w.0 ∙ is
]

told_save : (v : Var) (h : List Move) → IsTold h → IsTold (Save (saves h) v ∷ h)
told_save v h t = record {
  below = λ k x is. below_by k x (eqb_tells (saves h) k) is;
  spare = λ n k is. spare_by n k (eqb_tells v.0 n) is;
}
  where
    many : saves (Save (saves h) v ∷ h) ≡ 1 + saves h
    many = saves_cons (Save (saves h) v) h

    below_by : (k x : ℕ) → (((saves h == k) ≡ true) × (saves h ≡ k)) ⊎ (((saves h == k) ≡ false) × (saves h ≡ k → ⊥)) → saved_in (Save (saves h) v ∷ h) k ≡ Some x → k < saves (Save (saves h) v ∷ h)
    below_by k x (inl w) is = let same = w.1 in let more = many in omega (arith, same, more)
    below_by k x (inr w) is =
        let less = t.below k x (sym (ap (λ (b : Bool). if b then Some v.0 else saved_in h k) w.0) ∙ is) in
        let more = many in
        omega (arith, less, more)

    spare_by : (n k : ℕ) → (((v.0 == n) ≡ true) × (v.0 ≡ n)) ⊎ (((v.0 == n) ≡ false) × (v.0 ≡ n → ⊥)) → cond (v.0 == n) (Some (saves h)) (spare_of h n) ≡ Some k → saved_in (Save (saves h) v ∷ h) k ≡ Some n
    spare_by n k (inl w) is =
        let here : saves h ≡ k = same_Some (saves h) k (sym (ap (λ (b : Bool). cond b (Some (saves h)) (spare_of h n)) w.0) ∙ is) in
        subst (λ (j : ℕ). saved_in (Save (saves h) v ∷ h) j ≡ Some n) here (ap (λ (b : Bool). if b then Some v.0 else saved_in h (saves h)) (number_itself (saves h)) ∙ ap (λ (j : ℕ). Some j) w.1)
    spare_by n k (inr w) is = later_is h t v k n (t.spare n k (sym (ap (λ (b : Bool). cond b (Some (saves h)) (spare_of h n)) w.0) ∙ is))

module _ (ps : List Pair) where
  told_copy : (t : Var) (src : Src) (h : List Move) → IsTold h → IsTold (copied t src (spare_of h) ∷ h)
  told_copy t (Constant c) h is = told_set t (Constant c) h is
  told_copy t (Variable x) h is = by_spare (spare_of h x.0)
    where
      by_spare : (o : Option ℕ) → IsTold (restored t (Variable x) o ∷ h)
      by_spare None = told_set t (Variable x) h is
      by_spare (Some k) = told_restore t k h is

  told : (h : List Move) → AreNext ps h → IsTold h
  told [] next = record { below = λ k x is. no_some x is; spare = λ v k is. no_some k is }
  told (m ∷ h) next = elim next.0 [
    | inl c ↦ subst (λ (q : Move). IsTold (q ∷ h)) (sym c.move) (told_copy (pair_at ps c.at).0 (pair_at ps c.at).1 h (told h next.1))
    | inr c ↦ subst (λ (q : Move). IsTold (q ∷ h)) (sym c.move) (told_save (pair_at ps c.at).0 h (told h next.1))
  ]

  -- a move copies a pair, by a spare or not, or saves the target of one; by what spares stand for
  abbrev pub IsMoveOf : (ℕ → Option ℕ) → Move → Type 0
  IsMoveOf saved (Set v src) = Contains ps (v, src)
  IsMoveOf saved (Save k v) = (q : Pair) × Contains ps q × (q.0 ≡ v) × (saved k ≡ Some v.0)
  IsMoveOf saved (Restore v k) = (x : Var) × Contains ps (v, Variable x) × (saved k ≡ Some x.0)

  abbrev Extends : (ℕ → Option ℕ) → List Move → Type 0
  Extends saved h = (k x : ℕ) → saved_in h k ≡ Some x → saved k ≡ Some x

  copy_is : (saved : ℕ → Option ℕ) (t : Var) (src : Src) (h : List Move) → IsTold h → Extends saved h → Contains ps (t, src) → IsMoveOf saved (copied t src (spare_of h))
  copy_is saved t (Constant c) h is more there = there
  copy_is saved t (Variable x) h is more there = by_spare (spare_of h x.0) refl
    where
      by_spare : (o : Option ℕ) → spare_of h x.0 ≡ o → IsMoveOf saved (restored t (Variable x) o)
      by_spare None at = there
      by_spare (Some k) at = (x, there, more k x.0 (is.spare x.0 k at))

  copy_extends : (saved : ℕ → Option ℕ) (t : Var) (src : Src) (h : List Move) → Extends saved (copied t src (spare_of h) ∷ h) → Extends saved h
  copy_extends saved t (Constant c) h more = more
  copy_extends saved t (Variable x) h more = by_spare (spare_of h x.0) more
    where
      by_spare : (o : Option ℕ) → Extends saved (restored t (Variable x) o ∷ h) → Extends saved h
      by_spare None more = more
      by_spare (Some k) more = more

  pairs_there : (i : ℕ) → i < length ps → Contains ps (pair_at ps i)
  pairs_there i less = Contains-get_or ps i no_pair less

  each_is : (saved : ℕ → Option ℕ) (h : List Move) → AreNext ps h → Extends saved h → (q : Move) → IsIn q h → IsMoveOf saved q
  each_is saved [] next more q among = absurd among
  each_is saved (m ∷ h) next more q among = elim next.0 [
    | inl c ↦ by_copy c among (each_is saved h next.1)
    | inr c ↦ by_save c among (each_is saved h next.1)
  ]
    where
      by_copy : (c : IsCopyNext ps h m) → IsIn q (m ∷ h) → (Extends saved h → (r : Move) → IsIn r h → IsMoveOf saved r) → IsMoveOf saved q
      by_copy c among rest =
          let before = copy_extends saved (pair_at ps c.at).0 (pair_at ps c.at).1 h (subst (λ (r : Move). Extends saved (r ∷ h)) c.move more) in
          by_place among before
        where
          by_place : IsIn q (m ∷ h) → Extends saved h → IsMoveOf saved q
          by_place (inl same) before = subst (IsMoveOf saved) (sym c.move ∙ same) (copy_is saved (pair_at ps c.at).0 (pair_at ps c.at).1 h (told h next.1) before (pairs_there c.at c.first.holds.still.below))
          by_place (inr later) before = rest before q later

      by_save : (c : IsSaveNext ps h m) → IsIn q (m ∷ h) → (Extends saved h → (r : Move) → IsIn r h → IsMoveOf saved r) → IsMoveOf saved q
      by_save c among rest = by_place among
        where
          v : Var
          v = (pair_at ps c.at).0

          whole : Extends saved (Save (saves h) v ∷ h)
          whole = subst (λ (r : Move). Extends saved (r ∷ h)) c.move more

          by_place : IsIn q (m ∷ h) → IsMoveOf saved q
          by_place (inl same) = subst (IsMoveOf saved) (sym c.move ∙ same) (pair_at ps c.at, pairs_there c.at c.first.holds.below, refl, whole (saves h) v.0 (ap (λ (b : Bool). if b then Some v.0 else saved_in h (saves h)) (number_itself (saves h))))
          by_place (inr later) = rest (λ k x is. whole k x (later_is h (told h next.1) v k x is)) q later

  in_reverse : (q : Move) (ms : List Move) → IsIn q ms → IsIn q (reverse ms)
  in_reverse q [] among = absurd among
  in_reverse q (m ∷ ms) among = subst (IsIn q) (sym (reverse-append (m ∷ []) ms)) (by_place among (in_reverse q ms))
    where
      at_end : (xs : List Move) → IsIn m (xs ++ m ∷ [])
      at_end [] = inl refl
      at_end (x ∷ xs) = inr (at_end xs)

      before_end : (xs : List Move) → IsIn q xs → IsIn q (xs ++ m ∷ [])
      before_end [] there = absurd there
      before_end (x ∷ xs) (inl same) = inl same
      before_end (x ∷ xs) (inr there) = inr (before_end xs there)

      by_place : IsIn q (m ∷ ms) → (IsIn q ms → IsIn q (reverse ms)) → IsIn q (reverse ms ++ m ∷ [])
      by_place (inl same) later = subst (λ (x : Move). IsIn x (reverse ms ++ m ∷ [])) same (at_end (reverse ms))
      by_place (inr there) later = before_end (reverse ms) (later there)

  -- So is each move of a sequence.
  pub moves_are_of : (moves : List Move) → AreNext ps (reverse moves) → (q : Move) → IsIn q moves → IsMoveOf (saved_in (reverse moves)) q
  moves_are_of moves next q among = each_is (saved_in (reverse moves)) (reverse moves) next (λ k x is. is) q (in_reverse q moves among)

-- the shape of what a spare stands for
abbrev pub spare_shape_of : Naming → Option ℕ → Shape
spare_shape_of m o = option_map_or m.shape o uint

module _ (m : Naming) (e : EdgeNames) (done : ℕ → Bool) (ps : List Pair) where
  -- its target has a variable at the top of the function, its source the same type, and what it reads is there
  pub record IsRightPair (q : Pair) : Type 0 where
    pub outer : m.is_outer (target q) ≡ true
    pub same : same_shape (m.shape (target q)) (m.shape (target q)) ≡ true
    pub source : IsSource m e (m.shape (target q)) q.1
    pub read : IsRead m e done q.1

  module _ (right : (q : Pair) → Contains ps q → IsRightPair q) (saved : ℕ → Option ℕ) (shapes : (k : ℕ) → e.spare_shape k ≡ spare_shape_of m (saved k)) where
    move_typed : (q : Move) → IsMoveOf ps saved q → IsTyped m e q
    move_typed (Set v src) there = let r = right (v, src) there in (r.outer, r.same, r.source)
    move_typed (Save k v) is =
        let r = right is.0 is.1 in
        let shape : e.spare_shape k ≡ m.shape v.0 = shapes k ∙ ap (spare_shape_of m) is.3 in
        (subst (λ (t : Shape). same_shape t t ≡ true) (sym shape) (subst (λ (x : Var). same_shape (m.shape x.0) (m.shape x.0) ≡ true) is.2 r.same), sym shape)
    move_typed (Restore v k) is =
        let r = right (v, Variable is.0) is.1 in
        (r.outer, r.same, shapes k ∙ (ap (spare_shape_of m) is.2 ∙ r.source))

    move_reads : (q : Move) → IsMoveOf ps saved q → Reads m e done q
    move_reads (Set v src) there = let r = right (v, src) there in r.read
    move_reads (Save k v) is = let r = right is.0 is.1 in inl (subst (λ (x : Var). m.is_outer x.0 ≡ true) is.2 r.outer)
    move_reads (Restore v k) is = tt

    pub all_typed : (qs : List Move) → ((q : Move) → IsIn q qs → IsMoveOf ps saved q) → AreTyped m e qs
    all_typed [] are = tt
    all_typed (q ∷ qs) are = (move_typed q (are q (inl refl)), all_typed qs (λ r among. are r (inr among)))

    pub all_reads : (qs : List Move) → ((q : Move) → IsIn q qs → IsMoveOf ps saved q) → AllReads m e done qs
    all_reads [] are = tt
    all_reads (q ∷ qs) are = (move_reads q (are q (inl refl)), all_reads qs (λ r among. are r (inr among)))
