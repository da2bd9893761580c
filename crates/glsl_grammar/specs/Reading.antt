-- The tree of a text.
use Rattle.std.specs.Prelude.{Option, option_and_then}
use Rattle.glsl_ast.specs.Tree.{Text, TranslationUnit}
use Rattle.glsl_grammar.specs.Lex.{glsl_tokens}
use Rattle.glsl_grammar.specs.Read.{tree_of_tokens}

unfoldable pub glsl_read : Text → Option TranslationUnit
glsl_read text = option_and_then tree_of_tokens (glsl_tokens text)
