-- The places of scalars, gathered one after another.
use Rattle.std.specs.Prelude.{ℕ, ◌≡◌, ◌+◌, ◌++◌, List, [], ◌∷◌, map, min}
use Rattle.spv_module.specs.declared.inst.Inst.{Inst}
use Rattle.spv_types.specs.Tree.{Tree}
use Rattle.value_words.specs.Words.{scalar_paths}
use Rattle.traces.specs.Events.{Location}
use Rattle.group_items.specs.Events.{locations_of}
use Rattle.module_semantics.specs.Setting.{Setting}
use Rattle.module_semantics.specs.Memory.{bytes_along, location, part_type, part_bytes, type_along, variable_type}
use Rattle.memory_places.specs.declared.bases.Base.{Base}
use Rattle.memory_places.specs.declared.leaves.Gathered.{Gathered}
use Rattle.memory_places.specs.declared.leaves.Part.{Part}
use Rattle.memory_places.specs.Capped.{most_bytes}
use Rattle.memory_places.specs.Bases.{place_in}

-- in a part of a variable, to which a path leads, the place to which indexes lead further
abbrev pub leaf : Setting → Base → Part → List ℕ → List ℕ → Location
leaf s base part path rest = place_in base (min most_bytes (part.bytes + bytes_along s part.ty rest)) (path ++ rest)

-- those to which these ways lead
abbrev pub leaves : Setting → Base → Part → List ℕ → List (List ℕ) → List Location
leaves s base part path ways = map (leaf s base part path) ways

-- the part at an index of the whole
abbrev pub IsPartAt : Setting → Part → ℕ → Part → Type 0
IsPartAt s whole i part = (part.ty ≡ part_type s whole.ty i) × (part.bytes ≡ min most_bytes (whole.bytes + part_bytes s whole.ty i))

-- these places are gathered, and nothing else has changed
pub record HasGained (old new : Gathered) (more : List Location) : Type 0 where
  pub base : new.base ≡ old.base
  pub path : new.path.items ≡ old.path.items
  pub places : locations_of new.places.items ≡ locations_of old.places.items ++ more

-- the places of all these ways are gathered but for those that are left
pub record IsGaining (s : Setting) (part : Part) (old now : Gathered) (left whole : List (List ℕ)) : Type 0 where
  pub base : now.base ≡ old.base
  pub path : now.path.items ≡ old.path.items
  pub places : locations_of now.places.items ++ leaves s old.base part old.path.items left ≡ locations_of old.places.items ++ leaves s old.base part old.path.items whole

-- the places of these ways are gathered
abbrev pub HasLeaves : Setting → Part → Gathered → Gathered → List (List ℕ) → Type 0
HasLeaves s part old new ways = HasGained old new (leaves s old.base part old.path.items ways)

-- the part of a variable to which indexes lead
abbrev pub IsPartOf : Setting → Inst → List ℕ → Part → Type 0
IsPartOf s v path part = (part.ty ≡ type_along s (variable_type s v) path) × (part.bytes ≡ min most_bytes (bytes_along s (variable_type s v) path))

-- where the scalars of that part lie, if it has this shape
abbrev pub places_with : Setting → Inst → List ℕ → Tree → List Location
places_with s v path t = map (λ rest. location s v (path ++ rest)) (scalar_paths t)

-- one index further, and back
pub record IsInside (old new : Gathered) (i : ℕ) : Type 0 where
  pub base : new.base ≡ old.base
  pub path : new.path.items ≡ old.path.items ++ i ∷ []
  pub places : new.places ≡ old.places

pub record HasLeft (old new : Gathered) : Type 0 where
  pub base : new.base ≡ old.base
  pub path : (before : List ℕ) (i : ℕ) → old.path.items ≡ before ++ i ∷ [] → new.path.items ≡ before
  pub places : new.places ≡ old.places
