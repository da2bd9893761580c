-- Relations between blocks, as lists of links and as tables.
use Rattle.std.specs.Prelude.{ℕ, ◌≡◌, ◌≢◌, ◌<◌, true, List, length, map, Option, Some, None, slice_index_or}
use Rattle.structure_rules.specs.Nesting.{Links, has_link, first_of}
use Rattle.nest_place.specs.declared.links.Clash.{Clash as TheClash}
use Rattle.nest_place.specs.declared.links.NoTable.{NoTable}
use Rattle.nest_place.specs.declared.links.NoTable.TheVariants.{Clash, Memory}

-- the blocks that are related are among the first n
abbrev pub AreWithin : ℕ → Links → Type 0
AreWithin n links = (k : ℕ) → k < length links → (slice_index_or links k (0, 0)).0 < n

-- for each block the first that the links relate it to
abbrev pub IsTable : Links → List (Option ℕ) → Type 0
IsTable links table = (a : ℕ) → slice_index_or table a None ≡ first_of links a

-- none is related to two
abbrev pub IsSingle : Links → Type 0
IsSingle links = (a b : ℕ) → has_link links a b ≡ true → first_of links a ≡ Some b

abbrev pub IsClash : Links → TheClash → Type 0
IsClash links c = (has_link links c.block c.first ≡ true) × (has_link links c.block c.second ≡ true) × (c.first ≢ c.second)

abbrev pub IsRightEnd : Links → NoTable → Type 0
IsRightEnd links (Clash c) = IsClash links c
IsRightEnd links Memory = Unit {0}

-- the links the other way round
abbrev pub turned_links : Links → Links
turned_links links = map (λ (l : ℕ × ℕ). (l.1, l.0)) links
