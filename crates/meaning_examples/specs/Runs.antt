-- A text by its bytes, run for an invocation.
use Rattle.std.specs.Prelude.{ℕ, List, [], Option, Some, None}
use Rattle.glsl_ast.specs.Tree.{TranslationUnit}
use Rattle.glsl_grammar.specs.Reading.{glsl_read}
use Rattle.traces.specs.Invocations.{Invocation}
use Rattle.traces.specs.Preservation.{TextRun, text_made, is_stuck}
use Rattle.glsl_semantics.specs.Run.{text_run}

-- bytes that are no text are stuck
abbrev pub run_of_tree : Option TranslationUnit → Invocation → List (List ℕ) → ℕ → TextRun
run_of_tree None inv answers k = text_made [] is_stuck
run_of_tree (Some unit) inv answers k = text_run unit inv answers k

abbrev pub run_of_text : List ℕ → Invocation → List (List ℕ) → ℕ → TextRun
run_of_text text = run_of_tree (glsl_read text)
