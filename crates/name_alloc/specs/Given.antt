-- The names of keys, and what is taken, as maps and lists hold them.
use Rattle.std.specs.Prelude.{ℕ, ◌≡◌, List, Option, Some, None, true, false, is_some, option_and_then, option_map, slice_get, if◌then◌else◌}
use Rattle.std.specs.Option.{option_map_or}
use Rattle.std.specs.BTreeMap.{BTreeMap, get}
use Rattle.std.specs.Ordering.{is_eq, nat_cmp}
use Rattle.glsl_ast.specs.View.{name_text}
use Rattle.glsl_ast.specs.declared.names.Name.{Name}
use Rattle.name_alloc.specs.Law.{IsNameFor, AreNames}
use Rattle.name_alloc.specs.declared.claims.Claim.{Claim}
use Rattle.name_alloc.specs.declared.claims.Key.{Key}
use Rattle.name_alloc.specs.declared.space.Spaces.{Spaces}
use Rattle.name_alloc.specs.declared.places.Places.{Places}
use Rattle.name_alloc.specs.Places.{place_in}
use Rattle.name_alloc.specs.Base.{Text}
use Rattle.name_alloc.specs.Naming.{Taken as AllTaken, space_of, with_name}
use Rattle.name_alloc.specs.Taken.{Held, is_held, held_count, IsSkipping}

-- the spaces of structs
abbrev pub Members : Type 0
Members = BTreeMap ℕ Held

abbrev pub held_at : Spaces → Option ℕ → Option Held
held_at spaces None = Some spaces.text
held_at spaces (Some block) = get nat_cmp spaces.members block

-- what the spaces hold
abbrev pub taken_of : Spaces → AllTaken
taken_of spaces = record {
  has = λ space text. option_map_or (λ held. is_held held text) (held_at spaces space) false;
  count = λ space. option_map_or held_count (held_at spaces space) 0;
}

-- in each space the numbers that are skipped are taken
pub record AreSkipping (spaces : Spaces) : Type 0 where
  pub each : (space : Option ℕ) (held : Held) → held_at spaces space ≡ Some held → IsSkipping held

-- what a space holds, which is nothing where there is none
pub record IsSpaceOf (found : Option Held) (held : Held) : Type 0 where
  pub has : (text : Text) → is_held held text ≡ option_map_or (λ h. is_held h text) found false
  pub count : held_count held ≡ option_map_or held_count found 0
  pub skipping : ((h : Held) → found ≡ Some h → IsSkipping h) → IsSkipping held

-- the space of a struct is taken out: what it held, or an empty one
pub record IsHeldOut (old : Members) (block : ℕ) (held : Held) (rest : Members) : Type 0 where
  pub space : IsSpaceOf (get nat_cmp old block) held
  pub others : (other : ℕ) → get nat_cmp rest other ≡ (if is_eq (nat_cmp block other) then None else get nat_cmp old other)

-- the claim took this name
pub record IsNamed (old new : Spaces) (c : Claim) (name : Text) : Type 0 where
  pub taken : taken_of new ≡ with_name (taken_of old) (space_of c.key) name
  pub skipping : AreSkipping new
  pub fresh : (taken_of old).has (space_of c.key) name ≡ false
  pub law : IsNameFor c.key name

-- the name at a place
abbrev pub text_at : List Name → ℕ → Option Text
text_at names place = option_map name_text (slice_get names place)

-- the name of a key
abbrev pub name_at : List Name → Places → Key → Option Text
name_at names places key = option_and_then (text_at names) (place_in places key)

-- the names that were given are held, and are as the law asks; each place is that of a name
pub record AreGiven (spaces : Spaces) (names : List Name) (places : Places) : Type 0 where
  pub held : (key : Key) (name : Text) → name_at names places key ≡ Some name → (taken_of spaces).has (space_of key) name ≡ true
  pub laws : AreNames (name_at names places)
  pub stand : (key : Key) → is_some (name_at names places key) ≡ is_some (place_in places key)
