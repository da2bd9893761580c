-- The memory that the program keeps.
use Rattle.std.specs.Prelude.{ℕ, true, false, List, [], unwrap_or, slice_get}
use Rattle.std.specs.Option.{option_map_or}
use Rattle.std.specs.BTreeMap.{BTreeMap}
use Rattle.std.specs.Map.{lookup}
use Rattle.traces.specs.Events.{Location}
use Rattle.dispatch_semantics.specs.Store.{Store, same_location}
use Rattle.group_items.specs.declared.event.LeafPlace.{LeafPlace}
use Rattle.group_items.specs.Events.{location_of}

abbrev pub Words : Type 0
Words = BTreeMap LeafPlace ℕ

-- the word at a place, or 0 where there is none
abbrev pub word_among : List (LeafPlace × ℕ) → Location → ℕ
word_among entries at = unwrap_or (lookup (λ p. same_location (location_of p) at) entries) 0

-- a map for each workgroup
abbrev pub entries_in : List Words → ℕ → List (LeafPlace × ℕ)
entries_in maps g = option_map_or (λ (m : Words). m.entries) (slice_get maps g) []

abbrev pub stored : List Words → Store
stored maps g at = word_among (entries_in maps g) at

-- with another word at a place
abbrev pub put_among : Location → ℕ → (Location → ℕ) → Location → ℕ
put_among at w words x = elim (same_location at x) [ true ↦ w | false ↦ words x ]
