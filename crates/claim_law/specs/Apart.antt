-- Names of a function's text that are those of keys.
use Rattle.std.specs.Prelude.{◌≡◌, ◌⊎◌, ℕ, Bool, true, false, Option, Some}
use Rattle.spv_module.specs.Lists.{id}
use Rattle.name_alloc.specs.declared.claims.Key.{Key}
use Rattle.name_alloc.specs.declared.claims.Key.TheVariants.{Id, Again, Leave, Fell, Captured, Spare}
use Rattle.name_alloc.specs.Reserved.{has_prefix}
use Rattle.glsl_ast.specs.Tree.{Text}
use Rattle.agree_law.specs.Agree.{Naming, is_named}

-- what stands outside of functions is built in, and begins with a reserved prefix, or has the name of an id that names nothing of the function
abbrev pub IsOutside : (Key → Option Text) → Naming → Text → Type 0
IsOutside found m x = (has_prefix x ≡ true) ⊎ ((n : ℕ) × (is_named m n ≡ false) × (found (Id (id n)) ≡ Some x))

-- each name is that of its key, and an id is named in one way
pub record AreOfKeys (found : Key → Option Text) (m : Naming) : Type 0 where
  pub name : (n : ℕ) → is_named m n ≡ true → found (Id (id n)) ≡ Some (m.name n)
  pub index : (q k : ℕ) → m.is_kept q k ≡ true → found (Captured (id q) k) ≡ Some (m.index_name q k)
  pub outside : (x : Text) → m.is_outside x ≡ true → IsOutside found m x
  pub once : (n : ℕ) → m.is_outer n ≡ true → m.is_local n ≡ false
  pub variables : (n : ℕ) → m.is_variable n ≡ true → (m.is_outer n ≡ false) × (m.is_local n ≡ false) × (m.is_lent n ≡ false) × (m.is_private n ≡ false)
  pub lents : (n : ℕ) → m.is_lent n ≡ true → (m.is_outer n ≡ false) × (m.is_local n ≡ false) × (m.is_private n ≡ false)
  pub privates : (n : ℕ) → m.is_private n ≡ true → (m.is_outer n ≡ false) × (m.is_local n ≡ false)

-- the key of a flag or of a spare
abbrev pub is_flow : Key → Bool
is_flow (Again label) = true
is_flow (Leave label) = true
is_flow (Fell label) = true
is_flow (Spare from to number) = true
is_flow _ = false

-- the name of a flag or of a spare
abbrev pub IsFlow : (Key → Option Text) → Text → Type 0
IsFlow found x = (key : Key) × (is_flow key ≡ true) × (found key ≡ Some x)
