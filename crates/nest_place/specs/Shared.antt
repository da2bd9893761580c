-- Lists of constructs that lie in one list, where several may share an end.
use Rattle.std.specs.Prelude.{ℕ, ◌≡◌, ◌<◌, ◌≤◌, ◌⊎◌, ◌++◌, List, length, take, drop, slice_index_or}
use Rattle.structure_rules.specs.declared.graph.Part.{Part}
use Rattle.nest_place.specs.declared.outer.Bounds.{Bounds}
use Rattle.nest_place.specs.Spots.{list_at}

-- the constructs that lie there
abbrev pub list_in : List Part → Bounds → List Part
list_in parts s = drop s.start (take s.end parts)

-- it lies among the constructs
pub record IsInside (parts : List Part) (s : Bounds) : Type 0 where
  pub rising : s.start ≤ s.end
  pub ended : s.end ≤ length parts

abbrev pub no_bounds : Bounds
no_bounds = record { start = 0; end = 0 }

abbrev pub bounds_at : List Bounds → ℕ → Bounds
bounds_at bounds k = slice_index_or bounds k no_bounds

abbrev pub AreInside : List Part → List Bounds → Type 0
AreInside parts bounds = (k : ℕ) → k < length bounds → IsInside parts (bounds_at bounds k)

-- constructs were added at the end, or none
abbrev pub IsLonger : List Part → List Part → Type 0
IsLonger old new = (more : List Part) × (new ≡ old ++ more)

-- the list at the place lies there
pub record IsWhole (lists : List (List Part)) (parts : List Part) (place : ℕ) (s : Bounds) : Type 0 where
  pub inside : IsInside parts s
  pub list : list_in parts s ≡ list_at lists place

-- the list at the place lies there, or it is one of the first n and lies nowhere yet
pub record IsBounds (lists : List (List Part)) (n : ℕ) (parts : List Part) (place : ℕ) (s : Bounds) : Type 0 where
  pub inside : IsInside parts s
  pub list : ((place < n) × (s.start ≡ s.end)) ⊎ (list_in parts s ≡ list_at lists place)

-- where the lists lie, but for some of the first n
pub record AreBounds (lists : List (List Part)) (n : ℕ) (parts : List Part) (bounds : List Bounds) : Type 0 where
  pub sized : length bounds ≡ length lists
  pub each : (k : ℕ) → k < length lists → IsBounds lists n parts k (bounds_at bounds k)
