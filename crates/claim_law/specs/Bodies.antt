-- The functions of a text: their names and bodies.
use Rattle.std.specs.Prelude.{List, [], ◌∷◌, flat_map}
use Rattle.glsl_ast.specs.Tree.{Text, Stmts, Decl, function, TranslationUnit, translation_unit}

abbrev pub function_in : Decl → List (Text × Stmts)
function_in (function result name params body) = (name, body) ∷ []
function_in _ = []

abbrev pub functions_in : TranslationUnit → List (Text × Stmts)
functions_in (translation_unit sizes items) = flat_map function_in items
