-- Where blocks stand, as places in a list of distinct lists of constructs, which blocks with the same constructs round them share.
use Rattle.std.specs.Prelude.{ℕ, ◌≡◌, ◌<◌, ◌≤◌, ◌+◌, true, List, [], ◌∷◌, length, Option, Some, None, slice_index_or}
use Rattle.std.specs.Option.{option_map_or}
use Rattle.spv_words.specs.Limit.{limit_number}
use Rattle.spv_words.specs.declared.rule.Limit.TheVariants.{Depth}
use Rattle.spv_words.specs.declared.rule.Fault.{Fault}
use Rattle.spv_words.specs.declared.rule.Fault.TheVariants.{Refused, Limit, Memory}
use Rattle.structure_rules.specs.Structure.{IsTooDeep}
use Rattle.structure_rules.specs.declared.graph.Node.{Node}
use Rattle.structure_rules.specs.declared.graph.Role.{Role}
use Rattle.structure_rules.specs.declared.graph.Role.TheVariants.{First, Merge as MergeOf, Continue, Case as CaseOf, Inside}
use Rattle.structure_rules.specs.declared.graph.Part.{Part}
use Rattle.structure_rules.specs.Graph.{nth}
use Rattle.structure_rules.specs.Nesting.{role, parent_of, place, place_step, inner, nesting, nesting_step, deeper}
use Rattle.nest_place.specs.declared.spots.Spot.{Spot}

-- the part, where there is one, as a list
abbrev pub part_list : Option Part → List Part
part_list None = []
part_list (Some part) = part ∷ []

-- the list at a place
abbrev pub list_at : List (List Part) → ℕ → List Part
list_at lists k = slice_index_or lists k []

abbrev pub no_spot : Spot
no_spot = record { place = 0; inner = 0; nesting = 0; inside = 0 }

abbrev pub spot_at : List Spot → ℕ → Spot
spot_at spots b = slice_index_or spots b no_spot

-- lists were added at the end, or none
pub record Extends (old new : List (List Part)) : Type 0 where
  pub longer : length old ≤ length new
  pub same : (k : ℕ) → k < length old → list_at new k ≡ list_at old k

-- where the block stands, how deep, and where and how deep the blocks inside it do
pub record IsSpot (g : List Node) (lists : List (List Part)) (b : ℕ) (s : Spot) : Type 0 where
  pub place_in : s.place < length lists
  pub placed : list_at lists s.place ≡ place g b
  pub inner_in : s.inner < length lists
  pub within : list_at lists s.inner ≡ inner g b
  pub deep : s.nesting ≡ nesting g b
  pub deeper_in : s.inside ≡ deeper g b + nesting g b
  pub low : s.nesting ≤ limit_number Depth

-- the spots of the blocks so far; the first list is that of no constructs
pub record AreSpots (g : List Node) (i : ℕ) (spots : List Spot) (lists : List (List Part)) : Type 0 where
  pub sized : length spots ≡ i
  pub some : 0 < length lists
  pub empty : list_at lists 0 ≡ []
  pub each : (b : ℕ) → b < i → (nth g b).reached ≡ true → IsSpot g lists b (spot_at spots b)

-- the parent of a reached block is reached, and stands before it
pub record IsGrounded (g : List Node) : Type 0 where
  pub up : (t p : ℕ) → (nth g t).reached ≡ true → parent_of (role g t) ≡ Some p → (p < t) × ((nth g p).reached ≡ true)

-- this is the spot of the parent that a block with this role has
abbrev pub IsParentSpot : List Node → Role → List (List Part) → Spot → Type 0
IsParentSpot g First lists s = Unit {0}
IsParentSpot g (MergeOf h) lists s = IsSpot g lists h s
IsParentSpot g (Continue h) lists s = IsSpot g lists h s
IsParentSpot g (CaseOf h) lists s = IsSpot g lists h s
IsParentSpot g (Inside p) lists s = IsSpot g lists p s

-- the spot of the parent
abbrev pub parent_spot : Role → List Spot → Spot
parent_spot role spots = option_map_or (spot_at spots) (parent_of role) no_spot

-- where a block with this role stands, and how deep
pub record IsPlaced (g : List Node) (b : ℕ) (role : Role) (lists : List (List Part)) (at : ℕ × ℕ) : Type 0 where
  pub place_in : at.0 < length lists
  pub placed : list_at lists at.0 ≡ place_step g b role (place g)
  pub deep : at.1 ≡ nesting_step g b role (nesting g)

-- no reached block is nested too deep
abbrev pub IsShallow : List Node → Type 0
IsShallow g = (b : ℕ) → b < length g → (nth g b).reached ≡ true → nesting g b ≤ limit_number Depth

-- a reached block is nested too deep, or there is no memory
abbrev pub IsDeepFault : List Node → Fault → Type 0
IsDeepFault g (Refused r) = ⊥
IsDeepFault g (Limit l) = (l ≡ Depth) × IsTooDeep g
IsDeepFault g Memory = Unit {0}
