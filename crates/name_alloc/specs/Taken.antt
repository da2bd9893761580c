-- The names that a space holds.
use Rattle.std.specs.Prelude.{ℕ, ◌≡◌, ◌+◌, ◌<◌, ◌≤◌, ◌||◌, ◌⊎◌, Bool, true, false, List, Option, Some, is_some, bytes_eq, if◌then◌else◌}
use Rattle.std.specs.Map.{update}
use Rattle.std.specs.HashMap.{HashMap, get_by, hash_map_len}
use Rattle.glsl_ast.specs.View.{name_text}
use Rattle.glsl_ast.specs.declared.names.Name.{Name}
use Rattle.std.specs.declared.hash.BuildHasherDefault.{BuildHasherDefault}
use Rattle.std.specs.declared.hash.FoldHasher.{FoldHasher}
use Rattle.name_alloc.specs.Naming.{numbered, free_name}

abbrev pub Held : Type 0
Held = HashMap Name ℕ (BuildHasherDefault FoldHasher)

-- the number that is tried first behind a name that is held
abbrev pub number_at : Held → List ℕ → Option ℕ
number_at space text = get_by (λ k. bytes_eq text (name_text k)) space

abbrev pub is_held : Held → List ℕ → Bool
is_held space text = is_some (number_at space text)

abbrev pub held_count : Held → ℕ
held_count space = hash_map_len space

-- the number is put at the text
pub record IsPut (old new : Held) (text : List ℕ) (number : ℕ) : Type 0 where
  pub puts : (t : List ℕ) → number_at new t ≡ update bytes_eq (number_at old) text (Some number) t
  pub count : held_count new ≡ held_count old + (if is_held old text then 0 else 1)

-- the numbers from 2 on and below this one are taken behind the base
pub record IsNext (taken : List ℕ → Bool) (count : ℕ) (base : List ℕ) (next : ℕ) : Type 0 where
  pub least : 2 ≤ next
  pub most : next ≤ count + 2
  pub below : (n : ℕ) → 2 ≤ n → n < next → taken (numbered base n) ≡ true

-- so it is with the number of each name that is held
pub record IsSkipping (space : Held) : Type 0 where
  pub next : (base : List ℕ) (next : ℕ) → number_at space base ≡ Some next → IsNext (is_held space) (held_count space) base next

-- the name that a base takes
abbrev pub claimed_name : Held → List ℕ → List ℕ
claimed_name space base = free_name (is_held space) (held_count space) base

-- the base took this name
pub record IsClaimed (old new : Held) (base name : List ℕ) : Type 0 where
  pub name_is : name ≡ free_name (is_held old) (held_count old) base
  pub held : (t : List ℕ) → is_held new t ≡ (bytes_eq name t || is_held old t)
  pub count : held_count new ≡ held_count old + 1
  pub skipping : IsSkipping new
  pub fresh : is_held old name ≡ false
  pub form : (name ≡ base) ⊎ ((n : ℕ) × (name ≡ numbered base n))
