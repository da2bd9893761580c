-- The name that the names have for a key.
use Rattle.std.specs.Prelude.{Option}
use Rattle.name_alloc.specs.declared.claims.Key.{Key}
use Rattle.name_alloc.specs.declared.claims.Names.{Names}
use Rattle.name_alloc.specs.Base.{Text}
use Rattle.name_alloc.specs.Given.{name_at}

unfoldable pub name_in : Names → Key → Option Text
name_in names key = name_at names.names.items names.places key
