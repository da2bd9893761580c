-- Where constants with a SpecId are declared, by their SpecIds.
use Rattle.std.specs.Prelude.{ℕ, ◌≡◌, Bool, List, Option}
use Rattle.std.specs.List.{position_from}
use Rattle.glsl_ast.specs.declared.items.Decl.{Decl}
use Rattle.glsl_ast.specs.View.{decl_of}
use Rattle.text_report.specs.Constants.{declares}

-- the item declares the constant with a SpecId
abbrev pub is_of : ℕ → Decl → Bool
is_of id d = declares id (decl_of d)

-- the first item that declares the constant with each SpecId
abbrev pub ArePlaces : List Decl → (ℕ → Option ℕ) → Type 0
ArePlaces ds known = (id : ℕ) → known id ≡ position_from (is_of id) 0 ds
