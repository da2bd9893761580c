-- Each move of an edge gives the target of a pair its source, or a spare its target or a target its spare, and the numbers of spares are below that of all spares.
use Rattle.std.proofs.Common.{◌≡◌, ◌<◌, ◌≤◌, ◌+◌, ◌^◌, ◌==◌, ℕ, zero, suc, Bool, true, false, List, [], ◌∷◌, ◌++◌, reverse, filter, length, min, cond, Option, Some, None, inl, inr, refl, sym, ap, ◌∙◌, subst, arith}
use Rattle.std.specs.Prelude.{◌⊎◌}
use Rattle.std.proofs.lemmas.List.{reverse-append}
use Rattle.std.proofs.lemmas.List.Kept.{AllPairs-filter}
use Rattle.std.proofs.lemmas.Option.{same_Some}
use Rattle.phi_copies.specs.declared.moves.Var.{Var}
use Rattle.phi_copies.specs.declared.moves.Src.{Src}
use Rattle.phi_copies.specs.declared.moves.Src.TheVariants.{Var as Variable, Constant}
use Rattle.phi_copies.specs.declared.moves.Move.{Move}
use Rattle.phi_copies.specs.declared.moves.Move.TheVariants.{Set, Save, Restore}
use Rattle.phi_copies.specs.Sequence.{Pair, target, pair_at, HaveOwnTargets, is_proper, spare_after, spare_of, is_save, saves, restored, copied, IsCopyNext, IsSaveNext, AreNext, IsSequence}
use Rattle.phi_copies.proofs.Reading.{as_number, save_move, saves_cons}
use Rattle.phi_copies.proofs.Few.{few_saves}
use Rattle.function_plan.specs.Phis.{firsts}
use Rattle.function_plan.specs.Once.{once_by, with_id}
use Rattle.function_plan.specs.Planned.{spares_in}
use Rattle.function_plan.proofs.Firsts.{own_targets}
use Rattle.list_law.proofs.Tests.{no_flip}
use Rattle.claim_law.specs.Claimed.{IsIn}
use Rattle.accepted_law.proofs.Small.{filtered}
use Rattle.grammar_law.proofs.Unit.Lists.{of_filter}

abbrev pub IsGivenFrom : List Pair → Var → Src → Type 0
IsGivenFrom ps t src = (p : Pair) × IsIn p ps × (p.0 ≡ t) × (p.1 ≡ src)

abbrev pub IsTargetOf : List Pair → Var → Type 0
IsTargetOf ps t = (p : Pair) × IsIn p ps × (p.0 ≡ t)

-- a move of these pairs, with so many spares
abbrev pub IsMoveOf : List Pair → ℕ → Move → Type 0
IsMoveOf ps n (Set t src) = IsGivenFrom ps t src
IsMoveOf ps n (Save k t) = (k < n) × IsTargetOf ps t
IsMoveOf ps n (Restore t k) = (k < n) × IsTargetOf ps t

below_more : (k n m : ℕ) → k < n → n ≤ m → k < m
below_more k n m less le = omega (arith, less, le)

more_spares : (ps : List Pair) (n m : ℕ) (x : Move) → n ≤ m → IsMoveOf ps n x → IsMoveOf ps m x
more_spares ps n m (Set t src) le w = w
more_spares ps n m (Save k t) le w = (below_more k n m w.0 le, w.1)
more_spares ps n m (Restore t k) le w = (below_more k n m w.0 le, w.1)

pair_in : (ps : List Pair) (i : ℕ) → i < length ps → IsIn (pair_at ps i) ps
pair_in [] i less = absurd (omega (arith, less))
pair_in (p ∷ ps) zero less = inl refl
pair_in (p ∷ ps) (suc i) less = inr (pair_in ps i (let low : i < length ps = omega (arith, less) in low))

one_more : (j k n : ℕ) → j ≡ k → j ≡ n → k < 1 + n
one_more j k n same is = omega (arith, same, is)

later_less : (k n b : ℕ) → k < n → k < b + n
later_less k n b less = omega (arith, less)

-- a spare is numbered by the spares before
pub save_number : (ps : List Pair) (h : List Move) (j : ℕ) (t : Var) → IsCopyNext ps h (Save j t) ⊎ IsSaveNext ps h (Save j t) → (j ≡ saves h) × IsTargetOf ps t
save_number ps h j t (inl copy) = no_flip (is_save (Save j t)) refl (ap is_save copy.move ∙ save_move (pair_at ps copy.at) (spare_of h))
save_number ps h j t (inr save) = (number save.move, (pair_at ps save.at, pair_in ps save.at save.first.holds.below, given save.move))
  where
    number : Save j t ≡ Save (saves h) (pair_at ps save.at).0 → j ≡ saves h
    number e = cc

    given : Save j t ≡ Save (saves h) (pair_at ps save.at).0 → (pair_at ps save.at).0 ≡ t
    given e = cc

-- the spare that stands for a variable is one of those before
spare_low : (ps : List Pair) (h : List Move) → AreNext ps h → (v k : ℕ) → spare_of h v ≡ Some k → k < saves h
spare_low ps [] next v k e = cc
spare_low ps (m ∷ h) next v k e = by_move m next.0 e (spare_low ps h next.1 v k)
  where
    by_move : (x : Move) → IsCopyNext ps h x ⊎ IsSaveNext ps h x → spare_after x (spare_of h v) v ≡ Some k → (spare_of h v ≡ Some k → k < saves h) → k < saves (x ∷ h)
    by_move (Set t src) way is low = subst (λ (n : ℕ). k < n) (sym (saves_cons (Set t src) h)) (later_less k (saves h) (as_number (is_save (Set t src))) (low is))
    by_move (Restore t j) way is low = subst (λ (n : ℕ). k < n) (sym (saves_cons (Restore t j) h)) (later_less k (saves h) (as_number (is_save (Restore t j))) (low is))
    by_move (Save j t) way is low = subst (λ (n : ℕ). k < n) (sym (saves_cons (Save j t) h)) (by_same (t.0 == v) is)
      where
        by_same : (b : Bool) → cond b (Some j) (spare_of h v) ≡ Some k → k < 1 + saves h
        by_same true same = one_more j k (saves h) (same_Some j k same) (save_number ps h j t way).0
        by_same false same = later_less k (saves h) 1 (low same)

-- a copy of a pair
copied_of : (ps : List Pair) (n : ℕ) (p : Pair) (src : Src) (spares : ℕ → Option ℕ) → p.1 ≡ src → IsIn p ps → ((v k : ℕ) → spares v ≡ Some k → k < n) → IsMoveOf ps n (copied p.0 src spares)
copied_of ps n p (Variable x) spares same there low = by_spare (spares x.0) (low x.0)
  where
    by_spare : (q : Option ℕ) → ((k : ℕ) → q ≡ Some k → k < n) → IsMoveOf ps n (restored p.0 (Variable x) q)
    by_spare None low = (p, there, refl, same)
    by_spare (Some k) low = (low k refl, (p, there, refl))
copied_of ps n p (Constant c) spares same there low = (p, there, refl, same)

-- each move that came next
next_moves : (ps : List Pair) (h : List Move) → AreNext ps h → (x : Move) → IsIn x h → IsMoveOf ps (saves h) x
next_moves ps [] next x there = absurd there
next_moves ps (m ∷ h) next x (inl same) = subst (IsMoveOf ps (saves (m ∷ h))) same (by_way next.0)
  where
    by_way : IsCopyNext ps h m ⊎ IsSaveNext ps h m → IsMoveOf ps (saves (m ∷ h)) m
    by_way (inl copy) =
        let p : Pair = pair_at ps copy.at in
        more_spares ps (saves h) (saves (m ∷ h)) m (fewer m)
        (subst (IsMoveOf ps (saves h)) (sym copy.move) (copied_of ps (saves h) p p.1 (spare_of h) refl (pair_in ps copy.at copy.first.holds.still.below) (λ v k e. spare_low ps h next.1 v k e)))
      where
        fewer : (y : Move) → saves h ≤ saves (y ∷ h)
        fewer y = let more = saves_cons y h in omega (arith, more)
    by_way (inr save) =
        let p : Pair = pair_at ps save.at in
        subst (λ (y : Move). IsMoveOf ps (saves (y ∷ h)) y) (sym save.move)
        (subst (λ (n : ℕ). saves h < n) (sym (saves_cons (Save (saves h) p.0) h)) (one_more (saves h) (saves h) (saves h) refl refl), (p, pair_in ps save.at save.first.holds.below, refl))
next_moves ps (m ∷ h) next x (inr there) = more_spares ps (saves h) (saves (m ∷ h)) x (let more = saves_cons m h in let le : saves h ≤ saves (m ∷ h) = omega (arith, more) in le) (next_moves ps h next.1 x there)

-- spares are no more than pairs
saves_few : (ps : List Pair) (h : List Move) → HaveOwnTargets ps → AreNext ps h → saves h ≤ length ps
saves_few ps [] own next = omega arith
saves_few ps (m ∷ h) own next = by_way next.0 (saves_few ps h own next.1)
  where
    same_saves : is_save m ≡ false → saves h ≤ length ps → saves (m ∷ h) ≤ length ps
    same_saves off few = let more = saves_cons m h in let none : as_number (is_save m) ≡ 0 = ap as_number off in omega (arith, more, none, few)

    by_way : IsCopyNext ps h m ⊎ IsSaveNext ps h m → saves h ≤ length ps → saves (m ∷ h) ≤ length ps
    by_way (inl copy) few = same_saves (ap is_save copy.move ∙ save_move (pair_at ps copy.at) (spare_of h)) few
    by_way (inr save) few =
        let more = saves_cons m h in
        let one : as_number (is_save m) ≡ 1 = ap (λ (y : Move). as_number (is_save y)) save.move in
        let less = few_saves ps h save.at own next.1 save.stuck save.first.holds in
        omega (arith, more, one, less)

-- reversed lists
in_left : (x : Move) (xs ys : List Move) → IsIn x xs → IsIn x (xs ++ ys)
in_left x [] ys there = absurd there
in_left x (y ∷ xs) ys (inl same) = inl same
in_left x (y ∷ xs) ys (inr there) = inr (in_left x xs ys there)

in_right : (x : Move) (xs ys : List Move) → IsIn x ys → IsIn x (xs ++ ys)
in_right x [] ys there = there
in_right x (y ∷ xs) ys there = inr (in_right x xs ys there)

saves_joined : (xs ys : List Move) → saves (xs ++ ys) ≡ saves xs + saves ys
saves_joined [] ys = let none : saves [] ≡ 0 = refl in let same : saves ([] ++ ys) ≡ saves ys = refl in omega (arith, none, same)
saves_joined (x ∷ xs) ys =
    let whole = saves_cons x (xs ++ ys) in
    let part = saves_cons x xs in
    let rest = saves_joined xs ys in
    omega (arith, whole, part, rest)

in_reverse : (xs : List Move) (x : Move) → IsIn x xs → IsIn x (reverse xs)
in_reverse [] x there = absurd there
in_reverse (y ∷ xs) x (inl same) = subst (IsIn x) (sym (reverse-append (y ∷ []) xs)) (in_right x (reverse xs) (y ∷ []) (inl same))
in_reverse (y ∷ xs) x (inr there) = subst (IsIn x) (sym (reverse-append (y ∷ []) xs)) (in_left x (reverse xs) (y ∷ []) (in_reverse xs x there))

saves_reverse : (xs : List Move) → saves (reverse xs) ≡ saves xs
saves_reverse [] = refl
saves_reverse (x ∷ xs) =
    let turned : saves (reverse (x ∷ xs)) ≡ saves (reverse xs ++ x ∷ []) = ap saves (reverse-append (x ∷ []) xs) in
    let joined = saves_joined (reverse xs) (x ∷ []) in
    let one = saves_cons x [] in
    let whole = saves_cons x xs in
    let rest = saves_reverse xs in
    let none : saves [] ≡ 0 = refl in
    omega (arith, turned, joined, one, whole, rest, none)

-- the first pairs are pairs
of_once : (key : Pair → ℕ) (seen : ℕ → Bool) (ps : List Pair) (p : Pair) → IsIn p (once_by key seen ps) → IsIn p ps
of_once key seen [] p there = absurd there
of_once key seen (q ∷ ps) p there = by_seen (seen (key q)) there (of_once key seen ps p) (of_once key (with_id (key q) seen) ps p)
  where
    by_seen : (b : Bool) → IsIn p (elim b [ true ↦ once_by key seen ps | false ↦ q ∷ once_by key (with_id (key q) seen) ps ]) → (IsIn p (once_by key seen ps) → IsIn p ps) → (IsIn p (once_by key (with_id (key q) seen) ps) → IsIn p ps) → IsIn p (q ∷ ps)
    by_seen true among rest later = inr (rest among)
    by_seen false (inl same) rest later = inl same
    by_seen false (inr among) rest later = inr (later among)

once_few : (key : Pair → ℕ) (seen : ℕ → Bool) (ps : List Pair) → length (once_by key seen ps) ≤ length ps
once_few key seen [] = omega arith
once_few key seen (q ∷ ps) = by_seen (seen (key q)) (once_few key seen ps) (once_few key (with_id (key q) seen) ps)
  where
    by_seen : (b : Bool) → length (once_by key seen ps) ≤ length ps → length (once_by key (with_id (key q) seen) ps) ≤ length ps → length {A = Pair} (elim b [ true ↦ once_by key seen ps | false ↦ q ∷ once_by key (with_id (key q) seen) ps ]) ≤ suc (length ps)
    by_seen true few later = omega (arith, few)
    by_seen false few later = omega (arith, later)

below_both : (k s n : ℕ) → k < s → s ≤ n → n < 2 ^ 32 → k < min s 4294967295
below_both k s n less few low = omega (arith, less, few, low)

number_moves : (ps : List Pair) (n : ℕ) (x : Move) → (n ≤ length ps) → length ps < 2 ^ 32 → IsMoveOf ps n x → IsMoveOf ps (min n 4294967295) x
number_moves ps n (Set t src) few low w = w
number_moves ps n (Save k t) few low w = (below_both k n (length ps) w.0 few low, w.1)
number_moves ps n (Restore t k) few low w = (below_both k n (length ps) w.0 few low, w.1)

-- pairs of a part are pairs of the whole
whole_move : (ps qs : List Pair) (n : ℕ) (x : Move) → ((p : Pair) → IsIn p ps → IsIn p qs) → IsMoveOf ps n x → IsMoveOf qs n x
whole_move ps qs n (Set t src) sub w = (w.0, sub w.0 w.1, w.2, w.3)
whole_move ps qs n (Save k t) sub w = (w.0, (w.1.0, sub w.1.0 w.1.1, w.1.2))
whole_move ps qs n (Restore t k) sub w = (w.0, (w.1.0, sub w.1.0 w.1.1, w.1.2))

-- an edge has at most as many spares as pairs
pub edge_saves : (ps : List Pair) (moves : List Move) → IsSequence (firsts ps) moves → saves moves ≤ length ps
edge_saves ps moves is =
    let own : HaveOwnTargets (filter is_proper (firsts ps)) = AllPairs-filter (λ (p : Pair) (q : Pair). target p ≡ target q → ⊥) is_proper (firsts ps) (own_targets ps) in
    let few : saves (reverse moves) ≤ length (filter is_proper (firsts ps)) = saves_few (filter is_proper (firsts ps)) (reverse moves) own is.next in
    let first_few : length (firsts ps) ≤ length ps = once_few target (λ n. false) ps in
    let proper_few = filtered is_proper (firsts ps) in
    let same = saves_reverse moves in
    omega (arith, few, first_few, proper_few, same)

-- the law
pub edge_moves : (ps : List Pair) (moves : List Move) → IsSequence (firsts ps) moves → length ps < 2 ^ 32 → (x : Move) → IsIn x moves → IsMoveOf ps (spares_in moves) x
edge_moves ps moves is low x there =
    let qs : List Pair = filter is_proper (firsts ps) in
    let own : HaveOwnTargets qs = AllPairs-filter (λ (p : Pair) (q : Pair). target p ≡ target q → ⊥) is_proper (firsts ps) (own_targets ps) in
    let few : saves (reverse moves) ≤ length qs = saves_few qs (reverse moves) own is.next in
    let first_few : length (firsts ps) ≤ length ps = once_few target (λ n. false) ps in
    let proper_few : length qs ≤ length (firsts ps) = filtered is_proper (firsts ps) in
    let less : length qs < 2 ^ 32 = omega (arith, low, first_few, proper_few) in
    subst (λ (n : ℕ). IsMoveOf ps (min n 4294967295) x) (saves_reverse moves)
    (whole_move qs ps (min (saves (reverse moves)) 4294967295) x (λ p p_in. of_once target (λ n. false) ps p (of_filter is_proper (firsts ps) p p_in).0)
    (number_moves qs (saves (reverse moves)) x few less (next_moves qs (reverse moves) is.next x (in_reverse moves x there))))
