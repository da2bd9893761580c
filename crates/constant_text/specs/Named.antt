-- The names of ids in a text.
use Rattle.std.specs.Prelude.{ℕ, [], unwrap_or}
use Rattle.spv_module.specs.Lists.{id}
use Rattle.glsl_ast.specs.Tree.{Text}
use Rattle.name_alloc.specs.declared.claims.Key.TheVariants.{Id}
use Rattle.name_alloc.specs.declared.claims.Names.{Names}
use Rattle.name_alloc.specs.Lookup.{name_in}

-- the name of an id; that of one that was not claimed is empty
abbrev pub id_names : Names → ℕ → Text
id_names names n = unwrap_or (name_in names (Id (id n))) []
