-- The trees that some text has.
use Rattle.glsl_ast.specs.Tree.{TranslationUnit}
use Rattle.glsl_grammar.specs.Spelled.{IsSpelled}
use Rattle.glsl_grammar.specs.Scopes.{IsDeclared}

pub record IsInGrammar (u : TranslationUnit) : Type 0 where
  pub spelled : IsSpelled u
  pub declared : IsDeclared u
