-- The cycles of pairs, and the spares of each.
use Rattle.std.specs.Prelude.{ℕ, zero, suc, ◌≡◌, ◌<◌, true, List, Bool, is_some, filter, reverse, length, count_by}
use Rattle.phi_copies.specs.declared.moves.Move.{Move}
use Rattle.phi_copies.specs.Sequence.{Pair, target, pair_at, is_var, is_proper, spare_of, saves}

-- the source of the first pair is the target of the second
pub record IsRead (ps : List Pair) (i j : ℕ) : Type 0 where
  pub from : i < length ps
  pub to : j < length ps
  pub source : is_var (target (pair_at ps j)) (pair_at ps i).1 ≡ true

-- the second pair stands so many steps behind the first
abbrev pub Leads : List Pair → ℕ → ℕ → ℕ → Type 0
Leads ps zero i j = i ≡ j
Leads ps (suc n) i j = (k : ℕ) × (IsRead ps i k × Leads ps n k j)

-- the pair stands on a cycle
pub record IsOnCycle (ps : List Pair) (i : ℕ) : Type 0 where
  pub steps : ℕ
  pub back : Leads ps (suc steps) i i

-- a spare stands for the target of a pair
abbrev pub is_spared : List Move → Pair → Bool
is_spared h p = is_some (spare_of h (target p))

pub record HasSpare (ps : List Pair) (h : List Move) (i : ℕ) : Type 0 where
  pub below : i < length ps
  pub spared : is_spared h (pair_at ps i) ≡ true

-- a pair on the cycle of this one has a spare
pub record IsSpared (ps : List Pair) (h : List Move) (i : ℕ) : Type 0 where
  pub at : ℕ
  pub steps : ℕ
  pub leads : Leads ps steps i at
  pub has : HasSpare ps h at

-- one spare for each cycle: only pairs on cycles have spares, of each cycle one pair has one, and there are no further spares
pub record HasSpares (ps : List Pair) (h : List Move) : Type 0 where
  pub cycle : (i : ℕ) → HasSpare ps h i → IsOnCycle ps i
  pub each : (i : ℕ) → IsOnCycle ps i → IsSpared ps h i
  pub one : (n i j : ℕ) → HasSpare ps h i → HasSpare ps h j → Leads ps n i j → i ≡ j
  pub count : saves h ≡ count_by (is_spared h) ps

-- so it is for the pairs whose two sides differ
abbrev pub HaveSparesOfCycles : List Pair → List Move → Type 0
HaveSparesOfCycles pairs moves = HasSpares (filter is_proper pairs) (reverse moves)
