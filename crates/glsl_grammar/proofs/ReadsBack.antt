-- The text that a tree is laid out as has this tree.
use Rattle.std.proofs.Common.{◌≡◌, Some, ap, ◌∙◌}
use Rattle.std.specs.Prelude.{option_and_then}
use Rattle.glsl_ast.specs.Tree.{TranslationUnit}
use Rattle.glsl_grammar.specs.Read.{tree_of_tokens}
use Rattle.glsl_grammar.specs.Reading.{glsl_read}
use Rattle.glsl_grammar.specs.Layout.{unit_text}
use Rattle.glsl_grammar.specs.InGrammar.{IsInGrammar}
use Rattle.glsl_grammar.proofs.LexBack.{lex_back}
use Rattle.glsl_grammar.proofs.ReadBack.{tokens_back}

pub reads_back : (u : TranslationUnit) → IsInGrammar u → glsl_read (unit_text u) ≡ Some u
unfolding glsl_read
reads_back u h = ap (option_and_then tree_of_tokens) (lex_back u h) ∙ tokens_back u h.declared
