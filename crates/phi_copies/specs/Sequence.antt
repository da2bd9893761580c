-- Which moves make these copies at once, and in which order. A history is the moves so far, the last one first.
use Rattle.std.specs.Prelude.{ℕ, ◌≡◌, ◌<◌, ◌≤◌, ◌==◌, ◌&&◌, ◌||◌, not, ◌⊎◌, List, [], ◌∷◌, Bool, true, false, cond, Option, None, Some, is_some, filter, length, count_by, reverse, slice_index_or}
use Rattle.std.specs.List.{AllPairs}
use Rattle.phi_copies.specs.declared.moves.Var.{Var}
use Rattle.phi_copies.specs.declared.moves.Src.{Src}
use Rattle.phi_copies.specs.declared.moves.Src.TheVariants.{Var as Variable, Constant}
use Rattle.phi_copies.specs.declared.moves.Move.{Move}
use Rattle.phi_copies.specs.declared.moves.Move.TheVariants.{Set, Save, Restore}

abbrev pub Pair : Type 0
Pair = Var × Src

-- the number of the variable that is given a value
abbrev pub target : Pair → ℕ
target p = p.0.0

abbrev pub no_pair : Pair
no_pair = (record { 0 = 0 }, Variable (record { 0 = 0 }))

abbrev pub pair_at : List Pair → ℕ → Pair
pair_at ps i = slice_index_or ps i no_pair

-- no two pairs have one target
abbrev pub HaveOwnTargets : List Pair → Type 0
HaveOwnTargets ps = AllPairs (λ (p : Pair) (q : Pair). target p ≡ target q → ⊥) ps

-- the source is this variable
abbrev pub is_var : ℕ → Src → Bool
is_var v (Variable x) = x.0 == v
is_var v (Constant c) = false

-- the two sides are not one variable
abbrev pub is_proper : Pair → Bool
is_proper p = not (is_var (target p) p.1)

-- the move gives the variable its value
abbrev pub sets : ℕ → Move → Bool
sets v (Set t s) = t.0 == v
sets v (Save k t) = false
sets v (Restore t k) = t.0 == v

abbrev pub is_set : List Move → ℕ → Bool
is_set [] v = false
is_set (m ∷ h) v = sets v m || is_set h v

-- the spare that stands for a variable
abbrev pub spare_after : Move → Option ℕ → ℕ → Option ℕ
spare_after (Set t s) o v = o
spare_after (Save k t) o v = cond (t.0 == v) (Some k) o
spare_after (Restore t k) o v = o

abbrev pub spare_of : List Move → ℕ → Option ℕ
spare_of [] v = None
spare_of (m ∷ h) v = spare_after m (spare_of h v) v

-- how many spares there are
abbrev pub is_save : Move → Bool
is_save (Set t s) = false
is_save (Save k t) = true
is_save (Restore t k) = false

abbrev pub saves : List Move → ℕ
saves h = count_by is_save h

-- the pair is left, and its source is the variable, for which no spare stands
abbrev pub reads : List Move → ℕ → Pair → Bool
reads h v p = not (is_set h (target p)) && (is_var v p.1 && not (is_some (spare_of h v)))

-- how many pairs that are left read the variable
abbrev pub readers : List Pair → List Move → ℕ → ℕ
readers ps h v = count_by (reads h v) ps

-- the pair at a place is left
pub record IsLeft (ps : List Pair) (h : List Move) (i : ℕ) : Type 0 where
  pub below : i < length ps
  pub unset : is_set h (target (pair_at ps i)) ≡ false

-- and no pair that is left reads its target
pub record IsReady (ps : List Pair) (h : List Move) (i : ℕ) : Type 0 where
  pub still : IsLeft ps h i
  pub unread : readers ps h (target (pair_at ps i)) ≡ 0

-- the first place of which it holds
pub record IsFirst (P : ℕ → Type 0) (i : ℕ) : Type 0 where
  pub holds : P i
  pub least : (j : ℕ) → P j → i ≤ j

-- the move that makes a copy, by the spares that stand for variables
abbrev pub restored : Var → Src → Option ℕ → Move
restored t s None = Set t s
restored t s (Some k) = Restore t k

abbrev pub copied : Var → Src → (ℕ → Option ℕ) → Move
copied t (Variable x) spares = restored t (Variable x) (spares x.0)
copied t (Constant c) spares = Set t (Constant c)

abbrev pub move_of : Pair → (ℕ → Option ℕ) → Move
move_of p spares = copied p.0 p.1 spares

-- the first pair that is ready is copied
pub record IsCopyNext (ps : List Pair) (h : List Move) (m : Move) : Type 0 where
  pub at : ℕ
  pub first : IsFirst (IsReady ps h) at
  pub move : m ≡ move_of (pair_at ps at) (spare_of h)

-- none is ready, and the target of the first that is left is saved
pub record IsSaveNext (ps : List Pair) (h : List Move) (m : Move) : Type 0 where
  pub at : ℕ
  pub first : IsFirst (IsLeft ps h) at
  pub stuck : (i : ℕ) → IsReady ps h i → ⊥
  pub move : m ≡ Save (saves h) (pair_at ps at).0

-- each move of the history came next
abbrev pub AreNext : List Pair → List Move → Type 0
AreNext ps [] = Unit {0}
AreNext ps (m ∷ h) = (IsCopyNext ps h m ⊎ IsSaveNext ps h m) × AreNext ps h

-- these moves make the copies whose two sides differ
pub record IsSequence (pairs : List Pair) (moves : List Move) : Type 0 where
  pub next : AreNext (filter is_proper pairs) (reverse moves)
  pub whole : (i : ℕ) → IsLeft (filter is_proper pairs) (reverse moves) i → ⊥
