-- The places of keys after one is put.
use Rattle.std.proofs.Common.{◌≡◌, ℕ, false, cond, Some, refl}
use Rattle.std.specs.declared.hash.BuildHasherDefault.{BuildHasherDefault}
use Rattle.std.specs.declared.hash.FoldHasher.{FoldHasher}
use Rattle.std.specs.HashMap.{HashMap, get}
use Rattle.spv_module.specs.declared.inst.Id.{Id as Number}
use Rattle.name_alloc.specs.Keys.{same_key}
use Rattle.name_alloc.specs.Places.{place_in}
use Rattle.name_alloc.specs.declared.claims.Key.{Key}
use Rattle.name_alloc.specs.declared.claims.Key.TheVariants.{Main, Id, Block, Member, Again, Leave, Fell, Captured, Spare}
use Rattle.name_alloc.specs.declared.places.Places.{Places}

-- a key that is no id is no other key's id
apart : (key : Key) → ((id : Number) → key ≡ Id id → ⊥) → (id : Number) → same_key key (Id id) ≡ false
apart Main other id = refl
apart (Id own) other id = absurd (other own refl)
apart (Block a b) other id = refl
apart (Member a b) other id = refl
apart (Again a) other id = refl
apart (Leave a) other id = refl
apart (Fell a) other id = refl
apart (Captured a b) other id = refl
apart (Spare a b c) other id = refl

-- the places after one is put for a key that is no id
pub put_other : (old : Places) (more : HashMap Key ℕ (BuildHasherDefault FoldHasher)) (key : Key) (place : ℕ) → ((id : Number) → key ≡ Id id → ⊥)
    → ((k : Key) → get same_key more k ≡ cond (same_key key k) (Some place) (get same_key old.others k))
    → (k : Key) → place_in (record { ids = old.ids; others = more }) k ≡ cond (same_key key k) (Some place) (place_in old k)
put_other old more key place other put (Id id) = rw (apart key other id) refl
put_other old more key place other put Main = put Main
put_other old more key place other put (Block a b) = put (Block a b)
put_other old more key place other put (Member a b) = put (Member a b)
put_other old more key place other put (Again a) = put (Again a)
put_other old more key place other put (Leave a) = put (Leave a)
put_other old more key place other put (Fell a) = put (Fell a)
put_other old more key place other put (Captured a b) = put (Captured a b)
put_other old more key place other put (Spare a b c) = put (Spare a b c)
