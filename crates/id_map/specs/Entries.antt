-- The entries of a map.
use Rattle.std.specs.Prelude.{ℕ, ◌-◌, ◌==◌, Bool, Option, Some, None, List, nat_lt, is_some, length, slice_index_or, if◌then◌else◌}
use Rattle.std.specs.Option.{option_map_or}
use Rattle.std.specs.BTreeMap.{get}
use Rattle.std.specs.Ordering.{nat_cmp}
use Rattle.id_map.specs.declared.map.IdMap.{IdMap}
use Rattle.id_map.specs.declared.places.PlaceMap.{PlaceMap}
use Rattle.id_map.specs.declared.set.IdSet.{IdSet}

-- the number of an id's slot, where so many stand from the least id on
unfoldable pub slot_in : ℕ → ℕ → ℕ → Option ℕ
slot_in least count id = if nat_lt id least then None else (if nat_lt (id - least) count then Some (id - least) else None)

-- the value of an id: in its slot, or among the others
abbrev pub entry_by : {V : Type 0} → ℕ → List (Option V) → (ℕ → Option V) → ℕ → Option V
entry_by least slots other id = option_map_or (λ k. slice_index_or slots k None) (slot_in least (length slots) id) (other id)

abbrev pub entry_in : {V : Type 0} → IdMap V → ℕ → Option V
entry_in m id = entry_by m.least m.slots.items (get nat_cmp m.others) id

-- the place that a slot holds, or else that among the others
abbrev pub held : ℕ → Option ℕ → Option ℕ
held word other = if word == 4294967295 then other else Some word

-- the place of an id: in its slot, or among the others
abbrev pub place_by : ℕ → List ℕ → (ℕ → Option ℕ) → ℕ → Option ℕ
place_by least slots other id = option_map_or (λ k. held (slice_index_or slots k 4294967295) (other id)) (slot_in least (length slots) id) (other id)

abbrev pub id_place : PlaceMap → ℕ → Option ℕ
id_place m id = place_by m.least m.slots.items (get nat_cmp m.others) id

-- an id is in a set
abbrev pub is_in : IdSet → ℕ → Bool
is_in s id = is_some (entry_in s.marks id)
