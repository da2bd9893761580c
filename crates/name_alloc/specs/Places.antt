-- The places of names, as maps hold them.
use Rattle.std.specs.Prelude.{ℕ, Option}
use Rattle.id_map.specs.Entries.{id_place}
use Rattle.std.specs.HashMap.{get}
use Rattle.name_alloc.specs.Keys.{same_key}
use Rattle.name_alloc.specs.declared.claims.Key.{Key}
use Rattle.name_alloc.specs.declared.claims.Key.TheVariants.{Id}
use Rattle.name_alloc.specs.declared.places.Places.{Places}

-- the place of a key's name
abbrev pub place_in : Places → Key → Option ℕ
place_in places (Id id) = id_place places.ids id.0
place_in places key = get same_key places.others key
