-- What is kept while the moves are listed.
use Rattle.std.specs.Prelude.{ℕ, ◌≡◌, ◌<◌, ◌+◌, ◌^◌, ◌==◌, ◌&&◌, ◌||◌, List, [], Bool, true, false, cond, Option, None, Some, is_some, length, count_by, take, slice_index}
use Rattle.phi_copies.specs.declared.moves.Src.{Src}
use Rattle.phi_copies.specs.declared.moves.Src.TheVariants.{Var as Variable, Constant}
use Rattle.phi_copies.specs.declared.moves.Move.{Move}
use Rattle.phi_copies.specs.Sequence.{Pair, target, pair_at, reads, readers, spare_of, saves, IsLeft, IsReady, AreNext}

-- the places of the first n pairs, by their targets
pub record ArePlaces (ps : List Pair) (n : ℕ) (places : ℕ → Option ℕ) : Type 0 where
  pub sound : (v i : ℕ) → places v ≡ Some i → (i < n) × (target (pair_at ps i) ≡ v)
  pub complete : (i : ℕ) → i < n → is_some (places (target (pair_at ps i))) ≡ true

-- the targets of the first n pairs are numbers of 32 bits
abbrev pub AreNarrow : List Pair → ℕ → Type 0
AreNarrow ps n = (i : ℕ) → i < n → target (pair_at ps i) < 2 ^ 32

-- the place of the pair that gives the source its value, unless a spare stands for it
abbrev pub unless_saved : Option ℕ → Option ℕ → Option ℕ
unless_saved None place = place
unless_saved (Some k) place = None

abbrev pub source_place : (ℕ → Option ℕ) → (ℕ → Option ℕ) → Src → Option ℕ
source_place places spares (Variable x) = unless_saved (spares x.0) (places x.0)
source_place places spares (Constant c) = None

-- how many of the first n pairs read each target
pub record AreCounts (ps : List Pair) (n : ℕ) (counts : List ℕ) : Type 0 where
  pub size : length counts ≡ length ps
  pub counts_are : (i : ℕ) → i < length ps → slice_index counts i ≡ count_by (reads [] (target (pair_at ps i))) (take n ps)

-- these are the first n places
pub record AreBelow (n : ℕ) (left : ℕ → Bool) : Type 0 where
  pub sound : (i : ℕ) → left i ≡ true → i < n
  pub complete : (i : ℕ) → i < n → left i ≡ true

-- of the first n places those are ready that have no readers
pub record AreReady (counts : List ℕ) (n : ℕ) (ready : ℕ → Bool) : Type 0 where
  pub sound : (i : ℕ) → ready i ≡ true → (i < n) × (slice_index counts i ≡ 0)
  pub complete : (i : ℕ) → i < n → slice_index counts i ≡ 0 → ready i ≡ true

-- after a history: how many read each target, which pairs are left, which are ready, and the spares
pub record IsState (ps : List Pair) (h : List Move) (counts : List ℕ) (left ready : ℕ → Bool) (spares : ℕ → Option ℕ) (n : ℕ) : Type 0 where
  pub next : AreNext ps h
  pub size : length counts ≡ length ps
  pub counts_are : (i : ℕ) → i < length ps → slice_index counts i ≡ readers ps h (target (pair_at ps i))
  pub left_sound : (i : ℕ) → left i ≡ true → IsLeft ps h i
  pub left_complete : (i : ℕ) → IsLeft ps h i → left i ≡ true
  pub ready_sound : (i : ℕ) → ready i ≡ true → IsReady ps h i
  pub ready_complete : (i : ℕ) → IsReady ps h i → ready i ≡ true
  pub spares_are : (v : ℕ) → spares v ≡ spare_of h v
  pub number : n ≡ saves h

abbrev pub is_place : ℕ → Option ℕ → Bool
is_place i None = false
is_place i (Some k) = k == i

-- the pair at a place has one reader less, and is ready where it has none
pub record IsReleased (place : Option ℕ) (before after : List ℕ) (was is : ℕ → Bool) : Type 0 where
  pub size : length after ≡ length before
  pub less : (i : ℕ) → slice_index after i + cond (is_place i place) 1 0 ≡ slice_index before i
  pub ready_is : (i : ℕ) → is i ≡ (was i || (is_place i place && (slice_index after i == 0)))

-- the pair at a place has one reader more
pub record IsAdded (place : Option ℕ) (before after : List ℕ) : Type 0 where
  pub size : length after ≡ length before
  pub more : (i : ℕ) → slice_index after i ≡ slice_index before i + cond (is_place i place) 1 0
