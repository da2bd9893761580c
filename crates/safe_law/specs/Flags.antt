-- The names of the flags of a text: those by which loops and case targets are written.
use Rattle.std.specs.Prelude.{◌≡◌, Bool, true, false, Option, Some}
use Rattle.name_alloc.specs.declared.claims.Key.{Key}
use Rattle.name_alloc.specs.declared.claims.Key.TheVariants.{Again, Leave, Fell}
use Rattle.glsl_ast.specs.Tree.{Text}

abbrev pub is_flag : Key → Bool
is_flag (Again label) = true
is_flag (Leave label) = true
is_flag (Fell label) = true
is_flag _ = false

abbrev pub IsFlag : (Key → Option Text) → Text → Type 0
IsFlag found x = (key : Key) × (is_flag key ≡ true) × (found key ≡ Some x)

-- a name that is none of them
abbrev pub IsNoFlag : (Key → Option Text) → Text → Type 0
IsNoFlag found x = IsFlag found x → ⊥
