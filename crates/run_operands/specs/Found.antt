-- What was found of the operands in a list, one after another.
use Rattle.std.specs.Prelude.{ℕ, ◌<◌, List, [], ◌∷◌, Option, Some, None, length, slice_index}

-- this was found of each
abbrev pub AreFound : {T : Type 0} → (ℕ → Option T → Type 0) → List ℕ → List T → Type 0
AreFound P [] [] = Unit {0}
AreFound P (id ∷ ids) (x ∷ xs) = P id (Some x) × AreFound P ids xs
AreFound P _ _ = ⊥

-- and of one of them nothing, where there is no list
abbrev pub IsFound : {T : Type 0} → (ℕ → Option T → Type 0) → List ℕ → Option (List T) → Type 0
IsFound P ids None = (k : ℕ) × (k < length ids) × P (slice_index ids k) None
IsFound P ids (Some xs) = AreFound P ids xs

pub record WasFound {T : Type 0} (P : ℕ → Option T → Type 0) (ids : List ℕ) (all : Option (List T)) : Type 0 where
  pub found : IsFound P ids all
