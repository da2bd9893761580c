-- Text that reads back.
use Rattle.std.specs.Prelude.{◌≡◌, ℕ, List, Option, Some}
use Rattle.std.specs.Io.KnownBytes.{Appends}
use Rattle.glsl_ast.specs.Tree.{Text, TranslationUnit}
use Rattle.glsl_grammar.specs.Reading.{glsl_read}

-- the text that was appended reads back as this unit
pub record AppendsTextOf (old new : Option (List ℕ)) (unit : TranslationUnit) : Type 0 where
  pub text : Text
  pub appended : Appends old new text
  pub reads : glsl_read text ≡ Some unit
