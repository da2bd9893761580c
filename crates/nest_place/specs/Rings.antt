-- Lists of constructs of which each but the first is an earlier one with one construct more inside.
use Rattle.std.specs.Prelude.{ℕ, ◌≡◌, ◌<◌, ◌+◌, ◌++◌, List, [], ◌∷◌}
use Rattle.structure_rules.specs.declared.graph.Part.{Part}
use Rattle.nest_place.specs.declared.rings.Ring.{Ring}
use Rattle.nest_place.specs.Spots.{list_at}

-- the list of a ring that stands behind these lists
abbrev pub ring_list : List (List Part) → Ring → List Part
ring_list lists r = r.part ∷ list_at lists r.around

-- these lists, and behind them those of the rings
abbrev pub grown : List (List Part) → List Ring → List (List Part)
grown lists [] = lists
grown lists (r ∷ rs) = grown (lists ++ ring_list lists r ∷ []) rs

-- behind n lists, each ring names one that stands before its own
abbrev pub AreInward : ℕ → List Ring → Type 0
AreInward n [] = Unit {0}
AreInward n (r ∷ rs) = (r.around < n) × AreInward (n + 1) rs

-- the list at a place is that of the ring, which names an earlier one
pub record IsRing (lists : List (List Part)) (place : ℕ) (r : Ring) : Type 0 where
  pub earlier : r.around < place
  pub list : list_at lists place ≡ ring_list lists r
